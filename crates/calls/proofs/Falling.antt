-- The steps that a settling call reports are the fall in unsettled rows.
use Rattle.std.proofs.Common.{Result, Err}
use Rattle.words_tags.specs.declared.RowCount.{RowCount}
use Rattle.line_read.specs.Named.{is_settling, settling_read}
use mathlib.Core.Path.{◌≡◌, refl, sym, ap, ◌∙◌, subst}
use mathlib.Core.Bool.{Bool, true, false}
use mathlib.Core.List.{List}
use Prim.Native.Nat.{ℕ, ◌+◌, ◌≤◌}
use borrow.Author.Tests.{le-leb}
use Rattle.meaning.specs.Rows.{unsettled_count}
use Rattle.meaning.specs.Table.{Table}
use Rattle.meaning.specs.Refusals.{refusal_of_settling, settling_refusals, greatest_limit}
use Rattle.meaning.specs.Calls as meaning
use Rattle.meaning.specs.Calls.{with_rows, rows_settled, steps}
use Rattle.meaning.proofs.Settling.{steps_are_fall}
use Rattle.meaning.proofs.TableRules.{kept_by_settling}
use Rattle.words_layout.specs.Layout.{holds_table, table_of}
use Rattle.table_rules.specs.Checked.{Checked}
use Rattle.table_rules.proofs.Checking.{checked}
use Rattle.arrival.proofs.Kept.{table_back}
use Rattle.line_hex.specs.Choice.{pick}
use Rattle.line_decode.specs.Decoding.{bytes_of}
use Rattle.call_checked.specs.Called.{settled_as, settled_on}
use Rattle.line_decode.proofs.Decoding.{decoded_bytes}
use Rattle.call_checked.proofs.Settling.{limit_read}
use Rattle.calls.specs.Calls.{Fallen, settled_by}
use Rattle.calls.proofs.Tested.{settle_table, settle_no_table}

-- what an answer and the words after it say of the words before
abbrev Falls : List ℕ → Result RowCount ℕ × List ℕ → Type 0
Falls words answer = Fallen answer.0 words answer.1

module _ (words : List ℕ) where
  taken_falls : Checked words → (limit : ℕ) → limit ≤ greatest_limit → Falls words (settled_as words (meaning.settle (table_of words) limit))
  unfolding Fallen settled_as meaning.settle refusal_of_settling settling_refusals
  taken_falls K limit h = rw (le-leb limit greatest_limit h)
      (ap (λ (t : Table). steps (table_of words) limit + unsettled_count t.rows) (table_back (with_rows (table_of words) (rows_settled (table_of words) limit)) (kept_by_settling (table_of words) limit K.by_rules) words) ∙ steps_are_fall (table_of words) limit)

  on_falls : Checked words → (line : List ℕ) → Falls words (settled_on line words)
  unfolding settled_on Fallen
  on_falls K line = by (is_settling (bytes_of line))
    where
      limit : ℕ
      limit = (settling_read (bytes_of line)).limit

      by : (b : Bool) → Falls words (pick b (settled_as words (meaning.settle (table_of words) limit)) (Err 1, words))
      by true = taken_falls K limit (limit_read (bytes_of line) (decoded_bytes line))
      by false = refl

  by_falls : (line : List ℕ) → Falls words (settled_by line words)
  unfolding settled_by Fallen
  by_falls line = by (holds_table words) (λ h. on_falls (checked words h) line)
    where
      by : (b : Bool) → (b ≡ true → Falls words (settled_on line words)) → Falls words (pick b (settled_on line words) (Err 14, words))
      by true f = f refl
      by false f = refl

settle_falls : (line words : List ℕ) (r : Result RowCount ℕ) (x : List ℕ) → (r, x) ≡ settled_by line words → Fallen r words x
settle_falls line words r x e = subst (Falls words) (sym e) (by_falls words line)

-- from what the call knows
module _ (line words : List ℕ) (b : Bool) (e : b ≡ holds_table words) where
  pub table_falls : b ≡ true → (r : Result RowCount ℕ) (x : List ℕ) → (r, x) ≡ settled_on line words → Fallen r words x
  table_falls t r x f = settle_falls line words r x (settle_table line words b e t r x f)

  pub no_table_falls : b ≡ false → Fallen (Err 14) words words
  no_table_falls f = settle_falls line words (Err 14) words (settle_no_table line words b e f)
