-- The settling call, way by way.
use mathlib.Core.Path.{◌≡◌, refl, sym, ap, ap₂, ◌∙◌}
use mathlib.Core.Bool.{false}
use mathlib.Core.List.{List, [], ◌∷◌}
use Prim.Native.Nat.{ℕ, ◌≤◌, ◌<◌}
use native.Mathlib.Omega.{arith}
use lib.ListN.{drop, take}
use borrow.Author.Tests.{le-leb}
use Rattle.meaning.specs.Refusals.{refusal_of_settling, settling_refusals, greatest_limit}
use Rattle.meaning.specs.Calls as meaning
use Rattle.meaning.specs.Calls.{with_rows, rows_settled, steps}
use Rattle.meaning.proofs.Tests.{cases}
use Rattle.words_tags.specs.declared.RowCount.{RowCount}
use Rattle.words_layout.specs.Layout.{table_of, rewritten}
use Rattle.line_hex.specs.Numbers.{AllBytes, number_of, number_from}
use Rattle.line_hex.proofs.Bytes.{all_bytes_drop}
use Rattle.line_shape.specs.Reading.{fields_read, has_shape, is_shaped, padded}
use Rattle.line_shape.specs.Shapes.{read, length_of}
use Rattle.line_read.specs.declared.Settling.{Settling}
use Rattle.line_read.specs.Types.{line_read}
use Rattle.line_read.specs.Named.{is_settling, settling_read}
use Rattle.line_decode.specs.Decoding.{bytes_of}
use Rattle.line_decode.proofs.Decoding.{decoded_bytes}
use Rattle.call_checked.proofs.Shaped.{read_right, read_fields}
use Rattle.std.proofs.Common.{Ok, Err, Some, None}
use Rattle.std.specs.Bool.{if◌then◌else◌}
use Rattle.call_checked.specs.Called.{settled_as, settled_on}
use Rattle.line_put.specs.Writing.{two_byte_limit}

two_bytes : (bs : List ℕ) → AllBytes bs → number_of (take 2 bs) < two_byte_limit
unfolding AllBytes number_from
two_bytes [] h = omega arith
two_bytes (a ∷ []) h = omega (arith, h.0)
two_bytes (a ∷ b ∷ bs) h = omega (arith, h.0, h.1.0)

pub limit_read : (bytes : List ℕ) → AllBytes bytes → (settling_read bytes).limit ≤ greatest_limit
unfolding settling_read line_read fields_read is_shaped read padded has_shape length_of
limit_read bytes h = cases (has_shape 48 3 bytes)
    (λ b. rw b (let k = two_bytes (drop 1 bytes) (all_bytes_drop 1 bytes h) in omega arith))
    (λ b. rw b (omega arith))

pub settle_misshapen : (line words : List ℕ) → is_settling (bytes_of line) ≡ false → (Err 1, words) ≡ settled_on line words
unfolding settled_on
settle_misshapen line words f = rw f refl

taken_as_lem : (words : List ℕ) (limit : ℕ) → limit ≤ greatest_limit → settled_as words (meaning.settle (table_of words) limit) ≡ (Ok (record { 0 = steps (table_of words) limit }), rewritten words (with_rows (table_of words) (rows_settled (table_of words) limit)))
unfolding settled_as meaning.settle refusal_of_settling settling_refusals
taken_as_lem words limit h = rw (le-leb limit greatest_limit h) refl

module _ (line words : List ℕ) (asked : Settling) (e : Some asked ≡ (if is_settling (bytes_of line) then Some (settling_read (bytes_of line)) else None)) where
  pub settle_taken : (k : RowCount) (x : List ℕ) → k.0 ≡ steps (table_of words) asked.limit → x ≡ rewritten words (with_rows (table_of words) (rows_settled (table_of words) asked.limit)) → (Ok k, x) ≡ settled_on line words
  unfolding settled_on
  settle_taken k x g h =
      let limit = (settling_read (bytes_of line)).limit in
      let same : asked.limit ≡ limit = ap (λ (q : Settling). q.limit) (read_fields (is_settling (bytes_of line)) (settling_read (bytes_of line)) asked e) in
      rw (read_right (is_settling (bytes_of line)) (settling_read (bytes_of line)) asked e)
      (ap₂ (λ (n : ℕ) (w : List ℕ). (Ok (record { 0 = n }), w)) (g ∙ ap (steps (table_of words)) same) (h ∙ ap (λ (n : ℕ). rewritten words (with_rows (table_of words) (rows_settled (table_of words) n))) same)
      ∙ sym (taken_as_lem words limit (limit_read (bytes_of line) (decoded_bytes line))))
