-- "every frame and saved line we write reads back as what was written, and nothing else is accepted as its spelling": fields of any widths.
use Prim.Native.Nat.{ℕ, zero, suc, ◌+◌, ◌*◌, ◌≤◌}
use mathlib.Core.Path.{◌≡◌, refl, sym, ap, ◌∙◌}
use mathlib.Core.Bool.{true}
use mathlib.Core.List.{List, [], ◌∷◌, ◌++◌, append_assoc}
use native.Mathlib.Omega.{arith}
use borrow.Author.Tests.{leb-true}
use lib.Dec.{leb}
use lib.ListN.{length, get_or, take, drop, replicate, length-append, length-drop, take-append-drop}
use lib.Seq.{drop_at, drop-drop, length-take-le, take_at}
use Rattle.line_hex.specs.Numbers.{AllBytes, big_endian}
use Rattle.line_hex.proofs.Bytes.{all_bytes_append, all_bytes_big_endian, all_bytes_drop, all_bytes_take, length_big_endian, number_only_spelling, number_reads_back}
use Rattle.line_hex.proofs.Digits.{and_left, and_right}
use Rattle.line_shape.specs.Shapes.{Fitting, length_of, narrow, read, written}

pub length_written : (widths fields : List ℕ) → length fields ≡ length widths → length (written widths fields) ≡ length_of widths
unfolding written length_of
length_written [] fields e = refl
length_written (w ∷ widths) [] e = absurd (omega arith)
length_written (w ∷ widths) (n ∷ fields) e = length-append (big_endian w n) (written widths fields) ∙ rw (length_big_endian w n, length_written widths fields (omega arith)) refl

pub all_bytes_written : (widths fields : List ℕ) → AllBytes (written widths fields)
unfolding written AllBytes
all_bytes_written [] fields = tt
all_bytes_written (w ∷ widths) [] = tt
all_bytes_written (w ∷ widths) (n ∷ fields) = all_bytes_append (big_endian w n) (written widths fields) (all_bytes_big_endian w n) (all_bytes_written widths fields)

pub fitting_length : (widths fields : List ℕ) → Fitting widths fields → length fields ≡ length widths
unfolding Fitting
fitting_length [] [] h = refl
fitting_length [] (n ∷ fields) h = absurd h
fitting_length (w ∷ widths) [] h = absurd h
fitting_length (w ∷ widths) (n ∷ fields) h = ap suc (fitting_length widths fields h.1)

-- what is written reads back
pub shape_reads_back : (widths fields : List ℕ) → Fitting widths fields → read widths (written widths fields) ≡ fields
unfolding written read Fitting
shape_reads_back [] [] h = refl
shape_reads_back [] (n ∷ fields) h = absurd h
shape_reads_back (w ∷ widths) [] h = absurd h
shape_reads_back (w ∷ widths) (n ∷ fields) h =
    rw (take_at (big_endian w n) (written widths fields) w (length_big_endian w n), drop_at (big_endian w n) (written widths fields) w (length_big_endian w n), number_reads_back w n h.0, shape_reads_back widths fields h.1) refl

-- whatever is read is what would be written
pub shape_only_spelling : (widths bytes : List ℕ) → AllBytes bytes → length bytes ≡ length_of widths → written widths (read widths bytes) ≡ bytes
unfolding written read length_of
shape_only_spelling [] [] h e = refl
shape_only_spelling [] (b ∷ bytes) h e = absurd (omega arith)
shape_only_spelling (w ∷ widths) bytes h e =
    let rest : length (drop w bytes) ≡ length_of widths = length-drop w bytes ∙ omega arith in
    rw (number_only_spelling w (take w bytes) (length-take-le w bytes (omega arith)) (all_bytes_take w bytes h), shape_only_spelling widths (drop w bytes) (all_bytes_drop w bytes h) rest) (take-append-drop w bytes)

-- one shape behind another

pub length_of_append : (a b : List ℕ) → length_of (a ++ b) ≡ length_of a + length_of b
unfolding length_of
length_of_append [] b = omega arith
length_of_append (w ∷ a) b = rw (length_of_append a b) (omega arith)

pub length_of_each : (count w : ℕ) → length_of (replicate count w) ≡ w * count
unfolding length_of
length_of_each zero w = omega arith
length_of_each (suc count) w = rw (length_of_each count w) (omega arith)

pub written_append : (a b fields more : List ℕ) → length fields ≡ length a → written (a ++ b) (fields ++ more) ≡ written a fields ++ written b more
unfolding written
written_append [] b [] more e = refl
written_append [] b (n ∷ fields) more e = absurd (omega arith)
written_append (w ∷ a) b [] more e = absurd (omega arith)
written_append (w ∷ a) b (n ∷ fields) more e = rw (written_append a b fields more (omega arith)) (sym (append_assoc (big_endian w n) (written a fields) (written b more)))

pub read_append : (a b bytes : List ℕ) → read (a ++ b) bytes ≡ read a bytes ++ read b (drop (length_of a) bytes)
unfolding read length_of
read_append [] b bytes = refl
read_append (w ∷ a) b bytes = rw (read_append a b (drop w bytes), drop-drop (length_of a) w bytes) refl

pub length_read : (widths bytes : List ℕ) → length (read widths bytes) ≡ length widths
unfolding read
length_read [] bytes = refl
length_read (w ∷ widths) bytes = ap suc (length_read widths (drop w bytes))

-- a width of a narrow shape
pub narrow_at : (widths : List ℕ) (i : ℕ) → narrow widths ≡ true → get_or widths i 0 ≤ 4
narrow_at [] i h = omega arith
narrow_at (w ∷ widths) zero h = leb-true w 4 (and_left (leb w 4) (narrow widths) h)
narrow_at (w ∷ widths) (suc i) h = narrow_at widths i (and_right (leb w 4) (narrow widths) h)

pub length_of_narrow : (widths : List ℕ) → narrow widths ≡ true → length_of widths ≤ 4 * length widths
unfolding length_of
length_of_narrow [] h = omega arith
length_of_narrow (w ∷ widths) h = omega (arith, leb-true w 4 (and_left (leb w 4) (narrow widths) h), length_of_narrow widths (and_right (leb w 4) (narrow widths) h))
