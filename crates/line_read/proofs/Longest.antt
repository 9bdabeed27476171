-- No line that reads is longer than `longest`, so a buffer of that many bytes is enough.
use Prim.Native.Nat.{ℕ, ◌+◌, ◌*◌, ◌≤◌}
use mathlib.Core.Path.{◌≡◌, refl, sym, ap, ◌∙◌}
use mathlib.Core.Bool.{true}
use mathlib.Core.List.{List}
use native.Mathlib.Omega.{arith}
use borrow.Author.Tests.{eqb-true, leb-true}
use lib.Dec.{eqb, leb}
use lib.ListN.{length, get_or, drop, length-drop}
use Rattle.line_hex.specs.Numbers.{AllBytes}
use Rattle.line_hex.proofs.Bytes.{all_bytes_at}
use Rattle.line_hex.proofs.Digits.{and_left, and_right}
use Rattle.line_shape.specs.Reading.{has_shape, is_shaped, padded, size_of, starts_with}
use Rattle.line_shape.specs.Shapes.{length_of, read}
use Rattle.line_shape.proofs.Taking.{head_small}
use Rattle.line_read.specs.Types.{head_of, is_line_of, is_of, Line, longest, opening, operation, issue, settling, question}
use Rattle.line_read.specs.Named.{is_issue, is_opening, is_operation, is_question, is_settling, opening_read, printing_read}
use Rattle.line_read.proofs.Known.{Known, known}
use Rattle.line_read.proofs.Taken.{count_field}
use Rattle.meaning.specs.Table.{greatest_size}

has_size : (kind size : ℕ) (bytes : List ℕ) → has_shape kind size bytes ≡ true → length bytes ≡ size
unfolding has_shape
has_size kind size bytes e = eqb-true (length bytes) size (and_left (eqb (length bytes) size) (starts_with kind bytes) e)

-- every line with a vector, also those of a saved form
pub line_at_most_longest : (line : Line) → Known line → (stations : ℕ) (bytes : List ℕ) → is_line_of line stations bytes ≡ true → length bytes ≤ longest
unfolding is_line_of is_shaped
line_at_most_longest line K stations bytes e =
    let few : stations ≤ greatest_size = leb-true stations greatest_size (and_left (leb stations greatest_size) (has_shape line.type_byte (size_of (head_of line) stations) bytes) e) in
    let size : length bytes ≡ length_of (head_of line) + 4 * stations = has_size line.type_byte (size_of (head_of line) stations) bytes (and_right (leb stations greatest_size) (has_shape line.type_byte (size_of (head_of line) stations) bytes) e) in
    omega (arith, head_small (head_of line) K.head)

-- an opening's length, and that of its kinds
module _ (bytes : List ℕ) where
  size_at : is_opening bytes ≡ true → length bytes ≡ 6 + get_or bytes 5 0
  unfolding is_opening is_of length_of
  size_at e = has_size 16 (6 + 1 * get_or bytes 5 0) bytes e ∙ omega arith

  count_at_lem : is_opening bytes ≡ true → (opening_read bytes).count ≡ get_or bytes 5 0
  unfolding opening_read padded read
  count_at_lem e = rw e (count_field bytes)

  pub opening_size : is_opening bytes ≡ true → length bytes ≡ 6 + (opening_read bytes).count
  opening_size e = size_at e ∙ ap (λ (n : ℕ). 6 + n) (sym (count_at_lem e))

  pub opening_kinds_length : is_opening bytes ≡ true → length (drop 6 bytes) ≡ (opening_read bytes).count
  opening_kinds_length e = length-drop 6 bytes ∙ omega (arith, opening_size e)

  pub opening_at_most_longest : AllBytes bytes → is_opening bytes ≡ true → length bytes ≤ longest
  opening_at_most_longest h e = omega (arith, size_at e, all_bytes_at bytes 5 h)

  pub operation_at_most_longest : is_operation bytes ≡ true → length bytes ≤ longest
  unfolding is_operation
  operation_at_most_longest e = line_at_most_longest operation (known operation refl) (get_or bytes 1 0) bytes e

  pub issue_at_most_longest : is_issue bytes ≡ true → length bytes ≤ longest
  unfolding is_issue
  issue_at_most_longest e = line_at_most_longest issue (known issue refl) 0 bytes e

  pub settling_at_most_longest : is_settling bytes ≡ true → length bytes ≤ longest
  unfolding is_settling
  settling_at_most_longest e = line_at_most_longest settling (known settling refl) 0 bytes e

  pub question_at_most_longest : is_question bytes ≡ true → length bytes ≤ longest
  unfolding is_question
  question_at_most_longest e = line_at_most_longest question (known question refl) 0 bytes e

  pub printing_at_most_longest : printing_read bytes ≡ true → length bytes ≤ longest
  unfolding printing_read is_of length_of
  printing_at_most_longest e = omega (arith, has_size 96 1 bytes e)

-- and an opening of 255 kinds is as long as that
pub longest_is_opening : length_of (head_of opening) + opening.each * 255 ≡ longest
unfolding length_of
longest_is_opening = refl
