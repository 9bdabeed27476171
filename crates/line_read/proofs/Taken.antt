-- The same two laws of what the readers give: a line of vectors taken apart, and an opening.
use Prim.Native.Nat.{ℕ, zero, suc, ◌+◌, ◌-◌, ◌*◌, ◌≤◌, ◌<◌}
use mathlib.Core.Path.{◌≡◌, refl, sym, ap, ◌∙◌}
use mathlib.Core.Bool.{true, ◌&&◌}
use mathlib.Core.List.{List, [], ◌∷◌, ◌++◌}
use native.Mathlib.Omega.{arith}
use borrow.Author.Tests.{eqb-true, le-leb}
use lib.Dec.{eqb, leb}
use lib.ListN.{length, get_or, take, drop, replicate, length-drop, length-replicate}
use lib.Seq.{drop_at, drop-drop, get_or-drop, take_at}
use Rattle.line_hex.specs.Numbers.{AllBytes, number_from}
use Rattle.line_hex.proofs.Digits.{and_left, and_right}
use Rattle.line_shape.specs.Reading.{entries, fields_read, has_shape, is_shaped, padded, size_of, starts_with}
use Rattle.line_shape.specs.Shapes.{Fitting, length_of, read}
use Rattle.line_shape.proofs.Spelling.{length_read, read_append}
use Rattle.line_read.specs.Types.{head_of, is_line_of, is_of, Line, line_of, line_read, shape_of, spelt, opening}
use Rattle.line_read.specs.Named.{is_opening, opening_read}
use Rattle.line_shape.proofs.Taking.{length_head}
use Rattle.line_read.proofs.Known.{Known, known}
use Rattle.line_read.proofs.Spelling.{line_of_spelt, only_spelling, reads_back, spelt_is_of}
use Rattle.meaning.specs.Table.{greatest_size}

-- the fields of a line that was written, and its further ones, read apart
module _ (line : Line) (fields more : List ℕ) (many : length fields ≡ length line.widths) (fit : Fitting (shape_of line (length more)) (line.type_byte ∷ (fields ++ more))) where
  parts : read (head_of line) (line_of line fields more) ++ read (replicate (length more) line.each) (drop (length_of (head_of line)) (line_of line fields more)) ≡ (line.type_byte ∷ fields) ++ more
  parts = rw (line_of_spelt line fields more many) (sym (read_append (head_of line) (replicate (length more) line.each) (spelt line (length more) (fields ++ more))) ∙ reads_back line (length more) (fields ++ more) fit)

  long_head : length (read (head_of line) (line_of line fields more)) ≡ length (line.type_byte ∷ fields)
  long_head = length_read (head_of line) (line_of line fields more) ∙ ap suc (sym many)

  pub head_reads_back : read (head_of line) (line_of line fields more) ≡ line.type_byte ∷ fields
  head_reads_back = sym (take_at (read (head_of line) (line_of line fields more)) _ (length (line.type_byte ∷ fields)) long_head) ∙ ap (take (length (line.type_byte ∷ fields))) parts ∙ take_at (line.type_byte ∷ fields) more (length (line.type_byte ∷ fields)) refl

  pub more_reads_back : read (replicate (length more) line.each) (drop (length_of (head_of line)) (line_of line fields more)) ≡ more
  more_reads_back = sym (drop_at (read (head_of line) (line_of line fields more)) _ (length (line.type_byte ∷ fields)) long_head) ∙ ap (drop (length (line.type_byte ∷ fields))) parts ∙ drop_at (line.type_byte ∷ fields) more (length (line.type_byte ∷ fields)) refl

  pub written_is_of : Known line → is_of line (length more) (line_of line fields more) ≡ true
  written_is_of K = rw (line_of_spelt line fields more many) (spelt_is_of line (length more) K (fields ++ more) fit)

  -- what is written reads back: a line with a vector
  pub line_reads_back : Known line → line.each ≡ 4 → length more ≤ greatest_size → (is_line_of line (length more) (line_of line fields more) ≡ true) × (line_read line (length more) (line_of line fields more) ≡ record { head = padded 6 (line.type_byte ∷ fields); vector = padded greatest_size more })
  unfolding is_line_of is_shaped line_read fields_read entries is_of
  line_reads_back K four few =
      let shape : has_shape line.type_byte (length_of (head_of line) + 4 * length more) (line_of line fields more) ≡ true = ap (λ (w : ℕ). has_shape line.type_byte (length_of (head_of line) + w * length more) (line_of line fields more)) (sym four) ∙ written_is_of K in
      let tail : read (replicate (length more) 4) (drop (length_of (head_of line)) (line_of line fields more)) ≡ more = ap (λ (w : ℕ). read (replicate (length more) w) (drop (length_of (head_of line)) (line_of line fields more))) (sym four) ∙ more_reads_back in
      (rw (le-leb (length more) greatest_size few, shape) refl, rw (le-leb (length more) greatest_size few, shape, head_reads_back, tail) refl)

take_padded : (m n : ℕ) (l : List ℕ) → length l ≡ n → take n (padded m l) ≡ l
unfolding padded
take_padded m n l e = take_at l (replicate (m - length l) 0) n e

-- whatever is read is what would be written: a line with a vector
module _ (line : Line) (stations : ℕ) (bytes : List ℕ) (four : line.each ≡ 4) (h : AllBytes bytes) where
  head_and_entries : read (head_of line) bytes ++ entries stations (drop (length_of (head_of line)) bytes) ≡ read (shape_of line stations) bytes
  unfolding entries
  head_and_entries = sym (ap (λ (w : ℕ). read (head_of line ++ replicate stations w) bytes) four ∙ read_append (head_of line) (replicate stations 4) bytes)

  length_entries : length (entries stations (drop (length_of (head_of line)) bytes)) ≡ stations
  unfolding entries
  length_entries = length_read (replicate stations 4) (drop (length_of (head_of line)) bytes) ∙ length-replicate stations 4

  drop_one : (a b : List ℕ) → 0 < length a → drop 1 a ++ b ≡ drop 1 (a ++ b)
  drop_one [] b k = absurd (omega arith)
  drop_one (x ∷ a) b k = refl

  apart : is_of line stations bytes ≡ true → line_of line (drop 1 (read (head_of line) bytes)) (entries stations (drop (length_of (head_of line)) bytes)) ≡ bytes
  apart e =
      let some : 0 < length (read (head_of line) bytes) = omega (arith, length_read (head_of line) bytes) in
      let many : length (drop 1 (read (head_of line) bytes)) ≡ length line.widths = length-drop 1 (read (head_of line) bytes) ∙ omega (arith, length_read (head_of line) bytes) in
      line_of_spelt line (drop 1 (read (head_of line) bytes)) (entries stations (drop (length_of (head_of line)) bytes)) many ∙ rw (length_entries, drop_one (read (head_of line) bytes) (entries stations (drop (length_of (head_of line)) bytes)) some, head_and_entries) (only_spelling line stations bytes h e)

  pub line_only_spelling : is_line_of line stations bytes ≡ true → line_of line (drop 1 (take (length (head_of line)) (line_read line stations bytes).head)) (take stations (line_read line stations bytes).vector) ≡ bytes
  unfolding is_line_of is_shaped line_read fields_read is_of
  line_only_spelling e =
      let shape : is_of line stations bytes ≡ true = ap (λ (w : ℕ). has_shape line.type_byte (length_of (head_of line) + w * stations) bytes) four ∙ and_right (leb stations greatest_size) (has_shape line.type_byte (size_of (head_of line) stations) bytes) e in
      rw e (rw (take_padded 6 (length (head_of line)) (read (head_of line) bytes) (length_read (head_of line) bytes), take_padded greatest_size stations (entries stations (drop (length_of (head_of line)) bytes)) length_entries) (apart shape))

-- an opening: its kinds are the bytes behind its count

bytes_as_fields : (bytes : List ℕ) → read (replicate (length bytes) 1) bytes ≡ bytes
unfolding read number_from
bytes_as_fields [] = refl
bytes_as_fields (b ∷ bytes) = let same : 0 * 256 + b ≡ b = omega arith in rw (same, bytes_as_fields bytes) refl

first_number : (l : List ℕ) → number_from 0 (take 1 l) ≡ get_or l 0 0
unfolding number_from
first_number [] = refl
first_number (b ∷ l) = omega arith

-- the counts stand at their places
pub second_field : (widths bytes : List ℕ) → get_or (read (1 ∷ 1 ∷ widths) bytes) 1 0 ≡ get_or bytes 1 0
unfolding read
second_field widths bytes = first_number (drop 1 bytes) ∙ get_or-drop 1 bytes 0 0

pub count_field : (bytes : List ℕ) → get_or (read (head_of opening) bytes) 4 0 ≡ get_or bytes 5 0
unfolding read
count_field bytes = rw (drop-drop 1 1 bytes, drop-drop 1 2 bytes, drop-drop 2 3 bytes) (first_number (drop 5 bytes) ∙ get_or-drop 5 bytes 0 0)

pub opening_reads_back : (stations own capacity : ℕ) (kinds : List ℕ) → Fitting (shape_of opening (length kinds)) (opening.type_byte ∷ stations ∷ own ∷ capacity ∷ length kinds ∷ kinds)
    → (is_opening (line_of opening (stations ∷ own ∷ capacity ∷ length kinds ∷ []) kinds) ≡ true) × (opening_read (line_of opening (stations ∷ own ∷ capacity ∷ length kinds ∷ []) kinds) ≡ record { stations = stations; own = own; capacity = capacity; count = length kinds })
unfolding opening_read is_opening padded
opening_reads_back stations own capacity kinds fit =
    let fields : List ℕ = stations ∷ own ∷ capacity ∷ length kinds ∷ [] in
    let head : read (head_of opening) (line_of opening fields kinds) ≡ opening.type_byte ∷ fields = head_reads_back opening fields kinds refl fit in
    let many : get_or (line_of opening fields kinds) 5 0 ≡ length kinds = sym (count_field (line_of opening fields kinds)) ∙ ap (λ (l : List ℕ). get_or l 4 0) head in
    let is : is_opening (line_of opening fields kinds) ≡ true = rw many (written_is_of opening fields kinds refl fit (known opening refl)) in
    (is, rw (is, head) refl)

-- and its kinds stand behind its six bytes
pub opening_kinds_read_back : (stations own capacity : ℕ) (kinds : List ℕ) → Fitting (shape_of opening (length kinds)) (opening.type_byte ∷ stations ∷ own ∷ capacity ∷ length kinds ∷ kinds)
    → drop 6 (line_of opening (stations ∷ own ∷ capacity ∷ length kinds ∷ []) kinds) ≡ kinds
unfolding is_of has_shape length_of
opening_kinds_read_back stations own capacity kinds fit =
    let fields : List ℕ = stations ∷ own ∷ capacity ∷ length kinds ∷ [] in
    let bytes : List ℕ = line_of opening fields kinds in
    let is : eqb (length bytes) (6 + 1 * length kinds) && starts_with 16 bytes ≡ true = written_is_of opening fields kinds refl fit (known opening refl) in
    let size : length bytes ≡ 6 + 1 * length kinds = eqb-true (length bytes) (6 + 1 * length kinds) (and_left (eqb (length bytes) (6 + 1 * length kinds)) (starts_with 16 bytes) is) in
    let count : length (drop 6 bytes) ≡ length kinds = length-drop 6 bytes ∙ omega arith in
    sym (bytes_as_fields (drop 6 bytes)) ∙ ap (λ (n : ℕ). read (replicate n 1) (drop 6 bytes)) count ∙ more_reads_back opening fields kinds refl fit

opening_apart : (bytes : List ℕ) → AllBytes bytes → is_of opening (get_or bytes 5 0) bytes ≡ true → line_of opening (drop 1 (read (head_of opening) bytes)) (drop 6 bytes) ≡ bytes
unfolding is_of has_shape length_of read
opening_apart bytes h e =
    let size : length bytes ≡ 6 + 1 * get_or bytes 5 0 = eqb-true (length bytes) (6 + 1 * get_or bytes 5 0) (and_left (eqb (length bytes) (6 + 1 * get_or bytes 5 0)) (starts_with 16 bytes) e) in
    let count : length (drop 6 bytes) ≡ get_or bytes 5 0 = length-drop 6 bytes ∙ omega arith in
    let kinds : read (replicate (get_or bytes 5 0) 1) (drop 6 bytes) ≡ drop 6 bytes = rw (← count) (bytes_as_fields (drop 6 bytes)) in
    let all : read (shape_of opening (get_or bytes 5 0)) bytes ≡ read (head_of opening) bytes ++ drop 6 bytes = read_append (head_of opening) (replicate (get_or bytes 5 0) 1) bytes ∙ rw kinds refl in
    line_of_spelt opening (drop 1 (read (head_of opening) bytes)) (drop 6 bytes) (length-drop 1 (read (head_of opening) bytes) ∙ omega (arith, length_read (head_of opening) bytes))
    ∙ rw count (ap (λ (l : List ℕ). spelt opening (get_or bytes 5 0) (drop 1 l)) (sym all) ∙ only_spelling opening (get_or bytes 5 0) bytes h e)

pub opening_only_spelling : (bytes : List ℕ) → AllBytes bytes → is_opening bytes ≡ true
    → line_of opening ((opening_read bytes).stations ∷ (opening_read bytes).own ∷ (opening_read bytes).capacity ∷ (opening_read bytes).count ∷ []) (drop 6 bytes) ≡ bytes
unfolding opening_read is_opening padded read
opening_only_spelling bytes h e = rw e (opening_apart bytes h e)

-- the fields of a line by their names: numbers of a list from a place on
abbrev pub from : ℕ → ℕ → List ℕ → List ℕ
from i zero l = []
from i (suc k) l = get_or l i 0 ∷ from (suc i) k l

from_cons : (i k x : ℕ) (l : List ℕ) → from (suc i) k (x ∷ l) ≡ from i k l
from_cons i zero x l = refl
from_cons i (suc k) x l = rw (from_cons (suc i) k x l) refl

take_from : (k : ℕ) (l : List ℕ) → k ≤ length l → take k l ≡ from 0 k l
take_from zero l h = refl
take_from (suc k) [] h = absurd (omega arith)
take_from (suc k) (x ∷ l) h = rw (from_cons 0 k x l, take_from k l (omega arith)) refl

drop_take_from : (k : ℕ) (l : List ℕ) → suc k ≤ length l → drop 1 (take (suc k) l) ≡ from 1 k l
drop_take_from k [] h = absurd (omega arith)
drop_take_from k (x ∷ l) h = take_from k l (omega arith) ∙ sym (from_cons 0 k x l)

head_long : (line : Line) → Known line → (stations : ℕ) (bytes : List ℕ) → length (line_read line stations bytes).head ≡ 6
unfolding line_read
head_long line K stations bytes = length_head bytes (head_of line) line.type_byte stations K.head.few

pub line_only_spelling_named : (line : Line) → Known line → (stations : ℕ) (bytes : List ℕ) → line.each ≡ 4 → AllBytes bytes → is_line_of line stations bytes ≡ true
    → line_of line (from 1 (length line.widths) (line_read line stations bytes).head) (take stations (line_read line stations bytes).vector) ≡ bytes
line_only_spelling_named line K stations bytes four h e =
    let few : suc (length line.widths) ≤ 6 = K.head.few in
    let long : length (line_read line stations bytes).head ≡ 6 = head_long line K stations bytes in
    ap (λ (l : List ℕ). line_of line l (take stations (line_read line stations bytes).vector)) (sym (drop_take_from (length line.widths) (line_read line stations bytes).head (omega arith))) ∙ line_only_spelling line stations bytes four h e
