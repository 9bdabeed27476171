-- The parts of a table, read from its words, make the lines of its form.
use mathlib.Core.Path.{◌≡◌, refl, sym, ap, ◌∙◌}
use mathlib.Core.Bool.{cond}
use mathlib.Core.List.{List, [], ◌∷◌, map, Memᴰ}
use Prim.Native.Nat.{ℕ, zero, suc, ◌+◌, ◌-◌, ◌*◌, ◌≤◌, ◌<◌}
use native.Mathlib.Nat.{suc-mul, mul-le-mul_right}
use native.Mathlib.Omega.{arith}
use mir.Val.{Fits}
use mir.Syntax.{w64}
use lib.Dec.{eqb}
use lib.IntN.{pos}
use lib.ListN.{length, get_or, take, drop, length-map}
use lib.Seq.{drop-drop, get_or-take, get_or-drop, take-nil}
use Rattle.meaning.specs.Operations.{value_limit}
use Rattle.meaning.specs.Questions.{by_rows}
use Rattle.meaning.proofs.TableFacts.{row_small}
use Rattle.words_layout.specs.Words.{padded}
use Rattle.words_layout.specs.Layout.{table_of, total_words, row_of, row_words, rows_at, row_width, rows_in, size_in, objects_in, count_in, clock_at, most_before_rows, most_row_words}
use Rattle.words_layout.proofs.Pieces.{Each, length_pieces, piece_at}
use Rattle.words_layout.proofs.Whole.{each_spelt}
use Rattle.table_rules.specs.Checked.{Checked}
use Rattle.line_read.specs.Types.{opening, clock, last_vector, total, row, closing}
use Rattle.line_put.specs.Writing.{line_written}
use Rattle.line_put.specs.declared.TooShort.{TooShort}
use Rattle.std.proofs.Common.{Result}
use Rattle.line_print.specs.Printed.{printed}
use Rattle.form_lines.specs.FormLines.{opening_line, clock_line, last_line, total_line, row_line, row_line_at, closing_line}
use Rattle.meaning.specs.Table.{greatest_size}

-- parts of lists one by one
each_at : {A : Type 0} (P : A → Type 0) (l : List A) → Each P l → (k : ℕ) (d : A) → k < length l → P (get_or l k d)
each_at P [] h k d b = absurd (omega arith)
each_at P (x ∷ l) h zero d b = h.0
each_at P (x ∷ l) h (suc k) d b = each_at P l h.1 k d (omega arith)

map_at : {A B : Type 0} (f : A → B) (l : List A) (k : ℕ) (d : A) (e : B) → k < length l → get_or (map f l) k e ≡ f (get_or l k d)
map_at f [] k d e b = absurd (omega arith)
map_at f (x ∷ l) zero d e b = refl
map_at f (x ∷ l) (suc k) d e b = map_at f l k d e (omega arith)

member_at : {A B : Type 0} (f : A → B) (l : List A) (k : ℕ) (d : A) → k < length l → Memᴰ (f (get_or l k d)) (map f l)
member_at f [] k d b = absurd (omega arith)
member_at f (x ∷ l) zero d b = Memᴰ.head refl
member_at f (x ∷ l) (suc k) d b = Memᴰ.tail (member_at f l k d (omega arith))

drop_of_take : (k n : ℕ) (l : List ℕ) → drop k (take (k + n) l) ≡ take n (drop k l)
drop_of_take zero n l = let z : 0 + n ≡ n = omega arith in rw z refl
drop_of_take (suc k) n [] = let e : suc k + n ≡ suc (k + n) = omega arith in rw e (sym (take-nil n))
drop_of_take (suc k) n (x ∷ l) = let e : suc k + n ≡ suc (k + n) = omega arith in rw e (drop_of_take k n l)

-- the lines of a part that stands as it is
module _ (s out : List ℕ) (n : ℕ) where
  pub opening_written : n ≡ objects_in s → (r : Result ℕ TooShort) (x : List ℕ)
      → (r, x) ≡ printed out opening (get_or s 1 0 ∷ get_or s 2 0 ∷ get_or s 3 0 ∷ length (take (7 + n - 7) (drop 7 s)) ∷ []) (take (7 + n - 7) (drop 7 s))
      → (r, x) ≡ line_written out (opening_line (table_of s).header)
  unfolding printed opening_line table_of
  opening_written en r x e = let d : 7 + n - 7 ≡ objects_in s = omega arith in e ∙ rw d refl

  pub clock_written : n ≡ size_in s → (r : Result ℕ TooShort) (x : List ℕ)
      → (r, x) ≡ printed out clock [] (take (clock_at + n - clock_at) (drop clock_at s))
      → (r, x) ≡ line_written out (clock_line (table_of s).clock)
  unfolding printed clock_line table_of
  clock_written en r x e = let d : clock_at + n - clock_at ≡ size_in s = omega arith in e ∙ rw d refl

pub closing_written : (s out : List ℕ) (r : Result ℕ TooShort) (x : List ℕ) → (r, x) ≡ printed out closing (get_or s 5 0 ∷ []) [] → (r, x) ≡ line_written out (closing_line (length (table_of s).rows))
unfolding printed closing_line table_of
closing_written s out r x e = e ∙ rw (length-map (rows_in s) row_of, length_pieces (row_width (size_in s)) (count_in s) (drop (rows_at (size_in s)) s)) refl

pub total_written : (s out : List ℕ) (o h l : ℕ) → h ∷ l ∷ [] ≡ total_words ((by_rows (table_of s)).total_at o) → (r : Result ℕ TooShort) (x : List ℕ)
    → (r, x) ≡ printed out total (o ∷ h ∷ l ∷ []) []
    → (r, x) ≡ line_written out (total_line o (get_or (table_of s).totals o (pos 0)))
unfolding printed total_line by_rows
total_written s out o h l w r x e = e ∙ ap (λ (words : List ℕ). printed out total (o ∷ words) []) w

-- L of a station
module _ (s : List ℕ) (K : Checked s) (k n i : ℕ) (h : k < size_in s) (en : n ≡ size_in s) (ei : i ≡ k) where
  vectors_small : n * n ≤ greatest_size * greatest_size
  vectors_small = rw en K.square

  ahead_small : i * n + n ≤ n * n
  ahead_small = let m : suc i * n ≤ n * n = mul-le-mul_right n (omega arith) in omega (arith, suc-mul i n)

  pub last_ahead_fits : Fits w64 (i * n)
  last_ahead_fits = omega (arith, ahead_small, vectors_small)

  pub last_at_fits : Fits w64 (clock_at + n + i * n)
  last_at_fits = omega (arith, ahead_small, vectors_small, en, K.few)

  pub last_end_fits : Fits w64 (clock_at + n + i * n + n)
  last_end_fits = omega (arith, ahead_small, vectors_small, en, K.few)

  pub last_at_scaled : Fits w64 ((clock_at + n + i * n) * 4)
  last_at_scaled = omega (arith, ahead_small, vectors_small, en, K.few)

  pub last_within : clock_at + n + i * n + n ≤ length s
  last_within = omega (arith, ahead_small, rw (sym en) at K.room)

  part_is : take (clock_at + n + i * n + n - (clock_at + n + i * n)) (drop (clock_at + n + i * n) s) ≡ get_or (table_of s).last k []
  unfolding table_of
  part_is =
      let d : clock_at + n + i * n + n - (clock_at + n + i * n) ≡ n = omega arith in
      rw (d, ei, en) (sym (piece_at (size_in s) (size_in s) k (drop (clock_at + size_in s) s) h ∙ ap (take (size_in s)) (drop-drop (k * size_in s) (clock_at + size_in s) s)))

  pub last_written : (out : List ℕ) (r : Result ℕ TooShort) (x : List ℕ)
      → (r, x) ≡ printed out last_vector (k ∷ []) (take (clock_at + n + i * n + n - (clock_at + n + i * n)) (drop (clock_at + n + i * n) s))
      → (r, x) ≡ line_written out (last_line k (get_or (table_of s).last k []))
  unfolding printed last_line
  last_written out r x e = e ∙ ap (λ (vector : List ℕ). printed out last_vector (k ∷ []) vector) part_is

-- where a row starts
module _ (s : List ℕ) (K : Checked s) (k : ℕ) (h : k < count_in s) where
  module _ (n i start : ℕ) (en : n ≡ size_in s) (ei : i ≡ k) (es : start ≡ rows_at n) where
    rows_small : i * (7 + n) + (7 + n) ≤ count_in s * (7 + n)
    rows_small = let m : suc i * (7 + n) ≤ count_in s * (7 + n) = mul-le-mul_right (7 + n) (omega arith) in omega (arith, suc-mul i (7 + n))

    area : count_in s * (7 + n) ≤ most_row_words
    area = rw en K.area

    pub ahead_fits : Fits w64 (i * (7 + n))
    ahead_fits = omega (arith, rows_small, area)

    pub row_at_fits : start ≤ most_before_rows → Fits w64 (start + i * (7 + n))
    row_at_fits early = omega (arith, rows_small, area)

    pub row_at_is : start + i * (7 + n) ≡ rows_at (size_in s) + k * row_width (size_in s)
    row_at_is = rw (es, en, ei) refl

    pub row_at_room : start + i * (7 + n) + row_width (size_in s) ≤ length s
    row_at_room = omega (arith, rows_small, es, rw (sym en) at K.room, en)

  -- the words of the row
  abbrev at : ℕ
  at = rows_at (size_in s) + k * row_width (size_in s)

  abbrev words : List ℕ
  words = take (row_width (size_in s)) (drop at s)

  many : k < length (rows_in s)
  many = rw (length_pieces (row_width (size_in s)) (count_in s) (drop (rows_at (size_in s)) s)) h

  words_are : get_or (rows_in s) k [] ≡ words
  words_are = piece_at (row_width (size_in s)) (count_in s) k (drop (rows_at (size_in s)) s) h ∙ ap (take (row_width (size_in s))) (drop-drop (k * row_width (size_in s)) (rows_at (size_in s)) s)

  spelt : row_words (size_in s) (row_of words) ≡ words
  spelt = (rw words_are at (each_at (λ (ws : List ℕ). row_words (size_in s) (row_of ws) ≡ ws) (rows_in s) (each_spelt s K.laid) k [] many))

  value_limit_lem : (row_of words).operation.value < value_limit
  unfolding table_of
  value_limit_lem = (rw words_are at (row_small (table_of s) K.by_rules (row_of (get_or (rows_in s) k [])) (member_at row_of (rows_in s) k [] many)))

  line_is : row_line_at (table_of s) k ≡ row_line (size_in s) (row_of words)
  unfolding row_line_at table_of
  line_is =
      map_at (row_line (size_in s)) (map row_of (rows_in s)) k (row_of []) [] (rw (length-map (rows_in s) row_of) many)
      ∙ ap (row_line (size_in s)) (map_at row_of (rows_in s) k [] (row_of []) many ∙ ap row_of words_are)

  word_at : (i : ℕ) → i < row_width (size_in s) → get_or words i 0 ≡ get_or s (at + i) 0
  word_at i b = get_or-take (row_width (size_in s)) (drop at s) i 0 b ∙ get_or-drop at s i 0

  low_is_lem : (row_of words).operation.value ≡ get_or s (at + 2) 0
  low_is_lem = omega (arith, value_limit_lem, word_at 2 (omega arith))

  vector_is : padded (size_in s) (row_of words).operation.vector ≡ take (size_in s) (drop (at + 7) s)
  vector_is = ap (drop 7) spelt ∙ drop_of_take 7 (size_in s) (drop at s) ∙ ap (take (size_in s)) (drop-drop 7 at s)

  pub row_written : (from n f : ℕ) → from ≡ at → n ≡ size_in s → f ≡ cond (eqb (get_or s (from + 4) 0) 0) 1 0 → (out : List ℕ) (r : Result ℕ TooShort) (x : List ℕ)
      → (r, x) ≡ printed out row (get_or s from 0 ∷ get_or s (from + 3) 0 ∷ f ∷ get_or s (from + 5) 0 ∷ get_or s (from + 2) 0 ∷ []) (take (from + 7 + n - (from + 7)) (drop (from + 7) s))
      → (r, x) ≡ line_written out (row_line_at (table_of s) k)
  unfolding printed row_line
  row_written from n f ef en es out r x e =
      let d : from + 7 + n - (from + 7) ≡ n = omega arith in
      let z : get_or s at 0 ≡ get_or words 0 0 = sym (word_at 0 (omega arith) ∙ let q : at + 0 ≡ at = omega arith in rw q refl) in
      e ∙ rw (d, en, es, ef, sym vector_is, sym low_is_lem, z, sym (word_at 3 (omega arith)), sym (word_at 4 (omega arith)), sym (word_at 5 (omega arith))) (sym (ap (line_written out) line_is))
