-- A local operation, way by way.
use mathlib.Core.Path.{◌≡◌, refl, sym, ap, ◌∙◌}
use mathlib.Core.Bool.{Bool, true, false, false≢true}
use mathlib.Core.List.{List, [], ◌∷◌, ◌++◌}
use Prim.Native.Nat.{ℕ, ◌-◌}
use lib.Dec.{leb}
use lib.ListN.{length, take, drop}
use borrow.Author.Tests.{ne_eqb}
use Rattle.meaning.specs.Order.{raised}
use Rattle.meaning.specs.Table.{Table, greatest_size}
use Rattle.meaning.specs.Refusals.{Local, refusal_of_local, issued_by}
use Rattle.meaning.specs.Calls as meaning
use Rattle.meaning.specs.Calls.{outcome, after_arrival}
use Rattle.words_layout.specs.Words.{padded}
use Rattle.words_layout.specs.Layout.{table_of, rewritten, size_in, own_in}
use Rattle.table_change.specs.Changes.{EntryBelowLimit}
use Rattle.table_rules.specs.Checked.{Checked}
use Rattle.refusal_order.specs.Fields.{local_from}
use Rattle.arrival_local.proofs.Issuing.{rises_accepted, vector_is}
use Rattle.line_hex.specs.Choice.{pick}
use Rattle.line_hex.specs.Hex.{hex_line}
use Rattle.line_put.specs.Writing.{line_written, too_short}
use Rattle.line_put.specs.declared.TooShort.{TooShort}
use Rattle.line_read.specs.declared.Issue.{Issue}
use Rattle.line_read.specs.Types.{operation}
use Rattle.line_read.specs.Named.{is_issue, issue_read}
use Rattle.line_print.specs.Printed.{printed}
use Rattle.line_decode.specs.Decoding.{bytes_of}
use Rattle.call_checked.proofs.Shaped.{read_right, read_fields}
use Rattle.std.proofs.Common.{Result, Ok, Err, Some, None}
use Rattle.std.specs.Bool.{if◌then◌else◌}
use Rattle.refusal_number.specs.declared.Refusal.{Refusal}
use Rattle.refusal_number.specs.Numbers.{number_of}
use Rattle.refusal_number.proofs.Numbers.{number_above}
use Rattle.call_checked.specs.Called.{local_of, frame_bytes, framed_as, issued_as, issued_on}
use Rattle.line_hex.proofs.Picking.{picked}

-- a space that is too short stays
is_short : Result ℕ TooShort → Bool
is_short (Ok n) = false
is_short (Err short) = true

short_same : (space bytes : List ℕ) (short : TooShort) (y : List ℕ) → (Err short, y) ≡ line_written space bytes → y ≡ space
unfolding line_written is_short
short_same space bytes short y e = by (leb (length (hex_line bytes)) (length space)) e
  where
    by : (b : Bool) → ◌≡◌ {A = Result ℕ TooShort × List ℕ} (Err short, y) (pick b (Ok (length (hex_line bytes)), hex_line bytes ++ drop (length (hex_line bytes)) space) (Err too_short, space)) → y ≡ space
    by true f = absurd (false≢true (sym (ap (λ (p : Result ℕ TooShort × List ℕ). is_short p.0) f)))
    by false f = ap (λ (p : Result ℕ TooShort × List ℕ). p.1) f

pub issue_misshapen : (line words out : List ℕ) → is_issue (bytes_of line) ≡ false → (Err 1, (words, out)) ≡ issued_on line words out
unfolding issued_on
issue_misshapen line words out h = rw h refl

module _ (line words out : List ℕ) (f : Issue) (e : Some f ≡ (if is_issue (bytes_of line) then Some (issue_read (bytes_of line)) else None)) where
  pub issue_shaped : (r : Result ℕ ℕ) (x y : List ℕ) → (r, (x, y)) ≡ issued_as words out (meaning.issue (table_of words) (local_of f)) → (r, (x, y)) ≡ issued_on line words out
  unfolding issued_on
  issue_shaped r x y g = g ∙ ap (λ (q : Issue). issued_as words out (meaning.issue (table_of words) (local_of q))) (read_fields (is_issue (bytes_of line)) (issue_read (bytes_of line)) f e)
      ∙ sym (picked (is_issue (bytes_of line)) (issued_as words out (meaning.issue (table_of words) (local_of (issue_read (bytes_of line))))) (Err 1, (words, out)) (read_right (is_issue (bytes_of line)) (issue_read (bytes_of line)) f e))

-- an operation that was read
module _ (words out : List ℕ) (K : Checked words) (f : Issue) where
  abbrev table : Table
  table = table_of words

  abbrev local : Local
  local = local_from f.object f.code f.value

  pub issue_refused : (refusal : Refusal) → number_of refusal ≡ refusal_of_local table local → (Err (number_of refusal), (words, out)) ≡ issued_as words out (meaning.issue table (local_of f))
  unfolding issued_as meaning.issue outcome local_of
  issue_refused refusal e = rw (sym e, ne_eqb (number_of refusal) 0 (number_above refusal)) refl

  module _ (e : 0 ≡ refusal_of_local table local) where
    pub issue_rises : EntryBelowLimit table (own_in words)
    issue_rises = rises_accepted words K f.object f.code f.value (sym e)

    module _ (size : ℕ) (en : size ≡ size_in words) (next : List ℕ) (g : next ≡ padded greatest_size (raised table.clock (own_in words))) where
      taken : meaning.issue table (local_of f) ≡ meaning.Outcome.accepted (issued_by table local) (after_arrival table (issued_by table local) table.last)
      unfolding meaning.issue outcome local_of
      taken = rw (sym e) refl

      frame_is : (space : List ℕ) → printed space operation (length (take (size - 0) next) ∷ own_in words ∷ f.object ∷ f.code ∷ f.value ∷ []) (take (size - 0) next) ≡ line_written space (frame_bytes (issued_by table local))
      unfolding printed frame_bytes issued_by table_of
      frame_is space = rw (vector_is words K size en next g) refl

      module _ (y : List ℕ) where
        given : (r : Result ℕ TooShort) → (r, y) ≡ printed out operation (length (take (size - 0) next) ∷ own_in words ∷ f.object ∷ f.code ∷ f.value ∷ []) (take (size - 0) next) → issued_as words out (meaning.issue table (local_of f)) ≡ framed_as words (after_arrival table (issued_by table local) table.last) out (r, y)
        unfolding issued_as
        given r p = ap (issued_as words out) taken ∙ ap (framed_as words (after_arrival table (issued_by table local) table.last) out) (sym (p ∙ frame_is out))

        pub issue_framed : (n : ℕ) (x : List ℕ) → (Ok n, y) ≡ printed out operation (length (take (size - 0) next) ∷ own_in words ∷ f.object ∷ f.code ∷ f.value ∷ []) (take (size - 0) next) → x ≡ rewritten words (after_arrival table (issued_by table local) table.last) → (Ok n, (x, y)) ≡ issued_as words out (meaning.issue table (local_of f))
        unfolding framed_as
        issue_framed n x p k = ap (λ (l : List ℕ). (Ok n, (l, y))) k ∙ sym (given (Ok n) p)

        pub issue_short : (short : TooShort) → (Err short, y) ≡ printed out operation (length (take (size - 0) next) ∷ own_in words ∷ f.object ∷ f.code ∷ f.value ∷ []) (take (size - 0) next) → (Err 10, (words, y)) ≡ issued_as words out (meaning.issue table (local_of f))
        unfolding framed_as
        issue_short short p =
            ap (λ (l : List ℕ). (Err 10, (words, l))) (short_same out (frame_bytes (issued_by table local)) short y (p ∙ frame_is out))
            ∙ sym (given (Err short) p)
