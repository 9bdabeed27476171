-- "every frame and saved line we write reads back as what was written, and nothing else is accepted as its spelling": two laws, for every type of line at once.
use Prim.Native.Nat.{ℕ, suc, ◌+◌, ◌*◌, ◌%◌, ◌<◌}
use mathlib.Core.Path.{◌≡◌, refl, sym, ap, ◌∙◌}
use mathlib.Core.Bool.{true}
use mathlib.Core.List.{List, [], ◌∷◌, ◌++◌}
use native.Mathlib.Omega.{arith}
use borrow.Author.Tests.{eq-eqb, eqb-true}
use lib.Dec.{eqb}
use lib.ListN.{length, drop, replicate}
use Rattle.line_hex.specs.Numbers.{AllBytes, big_endian, number_from}
use Rattle.line_hex.proofs.Bytes.{all_bytes_append}
use Rattle.line_hex.proofs.Digits.{and_left, and_right}
use Rattle.line_shape.specs.Reading.{has_shape, starts_with}
use Rattle.line_shape.specs.Shapes.{Fitting, length_of, read, written}
use Rattle.line_shape.proofs.Spelling.{all_bytes_written, fitting_length, length_of_append, length_of_each, length_written, shape_only_spelling, shape_reads_back, written_append}
use Rattle.line_put.specs.Writing.{line_bytes, written_each}
use Rattle.line_read.specs.Types.{head_of, is_of, Line, line_of, shape_of, spelt}
use Rattle.line_read.proofs.Known.{Known}

starts_spelt : (kind : ℕ) (widths fields : List ℕ) → kind < 256 → starts_with kind (written (1 ∷ widths) (kind ∷ fields)) ≡ true
unfolding starts_with written big_endian
starts_spelt kind widths fields h = eq-eqb (kind % 256) kind (omega arith)

-- the first field of bytes that start with a type is that type
first_field : (kind : ℕ) (widths bytes : List ℕ) → starts_with kind bytes ≡ true → kind ∷ drop 1 (read (1 ∷ widths) bytes) ≡ read (1 ∷ widths) bytes
unfolding starts_with read number_from
first_field kind widths [] h = absurd (let z : ◌≡◌ {A = ℕ} 0 1 = cc in omega arith)
first_field kind widths (b ∷ bytes) h = let same : kind ≡ 0 * 256 + b = omega (arith, eqb-true b kind h) in ap (λ (n : ℕ). n ∷ read widths bytes) same

module _ (line : Line) (more : ℕ) where
  length_of_shape : length_of (shape_of line more) ≡ length_of (head_of line) + line.each * more
  length_of_shape = length_of_append (head_of line) (replicate more line.each) ∙ rw (length_of_each more line.each) refl

  -- what is written is a line of its type, and reads back
  pub spelt_is_of : Known line → (fields : List ℕ) → Fitting (shape_of line more) (line.type_byte ∷ fields) → is_of line more (spelt line more fields) ≡ true
  unfolding is_of has_shape
  spelt_is_of K fields h =
      let size : length (spelt line more fields) ≡ length_of (head_of line) + line.each * more = length_written (shape_of line more) (line.type_byte ∷ fields) (fitting_length (shape_of line more) (line.type_byte ∷ fields) h) ∙ length_of_shape in
      rw (eq-eqb (length (spelt line more fields)) (length_of (head_of line) + line.each * more) size) (starts_spelt line.type_byte (line.widths ++ replicate more line.each) fields K.small)

  pub reads_back : (fields : List ℕ) → Fitting (shape_of line more) (line.type_byte ∷ fields) → read (shape_of line more) (spelt line more fields) ≡ line.type_byte ∷ fields
  reads_back fields h = shape_reads_back (shape_of line more) (line.type_byte ∷ fields) h

  -- whatever is a line of its type is what would be written for the fields that are read
  pub only_spelling : (bytes : List ℕ) → AllBytes bytes → is_of line more bytes ≡ true → spelt line more (drop 1 (read (shape_of line more) bytes)) ≡ bytes
  unfolding is_of has_shape
  only_spelling bytes h e =
      let size : length bytes ≡ length_of (shape_of line more) = eqb-true (length bytes) _ (and_left (eqb (length bytes) (length_of (head_of line) + line.each * more)) (starts_with line.type_byte bytes) e) ∙ sym length_of_shape in
      let first : line.type_byte ∷ drop 1 (read (shape_of line more) bytes) ≡ read (shape_of line more) bytes = first_field line.type_byte (line.widths ++ replicate more line.each) bytes (and_right (eqb (length bytes) (length_of (head_of line) + line.each * more)) (starts_with line.type_byte bytes) e) in
      ap (written (shape_of line more)) first ∙ shape_only_spelling (shape_of line more) bytes h size

-- the further fields apart, as they are written
pub line_of_spelt : (line : Line) (fields more : List ℕ) → length fields ≡ length line.widths → line_of line fields more ≡ spelt line (length more) (fields ++ more)
unfolding line_bytes written_each
line_of_spelt line fields more e = sym (written_append (head_of line) (replicate (length more) line.each) (line.type_byte ∷ fields) more (ap suc e))

pub all_bytes_line_of : (line : Line) (fields more : List ℕ) → AllBytes (line_of line fields more)
unfolding line_bytes written_each
all_bytes_line_of line fields more = all_bytes_append (written (head_of line) (line.type_byte ∷ fields)) (written (replicate (length more) line.each) more) (all_bytes_written (head_of line) (line.type_byte ∷ fields)) (all_bytes_written (replicate (length more) line.each) more)
