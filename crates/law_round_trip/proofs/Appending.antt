-- A row written behind the rows of a table.
use mathlib.Core.Path.{◌≡◌, refl, sym, ap, ◌∙◌}
use mathlib.Core.List.{List, [], ◌∷◌, ◌++◌, map, append_assoc, append-nil}
use Prim.Native.Nat.{ℕ, suc, ◌+◌, ◌-◌, ◌*◌, ◌≤◌, ◌<◌}
use native.Mathlib.Nat.{mul-le-mul_right, suc-mul}
use native.Mathlib.Omega.{arith}
use lib.ListN.{length, take, drop, set, replicate, length-append, length-map}
use lib.Seq.{paste, take_at, drop_at}
use Rattle.meaning.specs.Rows.{Row}
use Rattle.meaning.specs.Table.{Table}
use Rattle.meaning.specs.Calls.{with_rows}
use Rattle.words_layout.specs.Words.{flat}
use Rattle.words_layout.specs.Layout.{words_of, front_words, row_words, row_width, rows_at}
use Rattle.words_layout.proofs.Pieces.{length_flat}
use Rattle.words_layout.proofs.Whole.{length_front, wide_rows, zeros_drop}
use Rattle.words_layout.proofs.Reading.{short}
use Rattle.law_round_trip.proofs.Setting.{pasted}
use Rattle.law_round_trip.proofs.Under.{Fresh}

flat_behind : (n : ℕ) (rows : List Row) (r : Row) → flat (map (row_words n) (rows ++ (r ∷ []))) ≡ flat (map (row_words n) rows) ++ row_words n r
flat_behind n [] r = append-nil (row_words n r)
flat_behind n (q ∷ rows) r = ap (λ (l : List ℕ). row_words n q ++ l) (flat_behind n rows r) ∙ sym (append_assoc (row_words n q) (flat (map (row_words n) rows)) (row_words n r))

count_behind : (rows : List Row) (r : Row) → length (rows ++ (r ∷ [])) ≡ suc (length rows)
count_behind [] r = refl
count_behind (q ∷ rows) r = ap suc (count_behind rows r)

module _ (t : Table) (F : Fresh t) (rest : List ℕ) (r : Row) (wide : length (row_words t.header.size r) ≡ row_width t.header.size) (more : length t.rows < t.header.capacity) where
  abbrev size : ℕ
  size = t.header.size

  abbrev w : ℕ
  w = row_width size

  abbrev rows : List ℕ
  rows = flat (map (row_words size) t.rows)

  abbrev zeros : ℕ → List ℕ
  zeros k = replicate (t.header.capacity * w - k) 0

  abbrev place : ℕ
  place = rows_at size + length t.rows * w

  rows_long : length rows ≡ length t.rows * w
  rows_long = length_flat w (map (row_words size) t.rows) (wide_rows size t.rows (short size t.rows F.well.shape)) ∙ rw (length-map t.rows (row_words size)) refl

  front_long : length (front_words t ++ rows) ≡ place
  front_long = length-append (front_words t) rows ∙ rw (length_front t F.well.fit, rows_long) refl

  apart : words_of t ++ rest ≡ (front_words t ++ rows) ++ (zeros (length rows) ++ rest)
  unfolding words_of
  apart =
      append_assoc (front_words t) (rows ++ zeros (length rows)) rest
      ∙ ap (λ (l : List ℕ). front_words t ++ l) (append_assoc rows (zeros (length rows)) rest)
      ∙ sym (append_assoc (front_words t) rows (zeros (length rows) ++ rest))

  area : length t.rows * w + w ≤ t.header.capacity * w
  area = omega (arith, mul-le-mul_right w more, suc-mul (length t.rows) w)

  written : paste (words_of t ++ rest) place (row_words size r) (length (row_words size r)) ≡ (front_words t ++ rows) ++ (row_words size r ++ (zeros (length t.rows * w + w) ++ rest))
  written =
      let left : t.header.capacity * w - length t.rows * w - w ≡ t.header.capacity * w - (length t.rows * w + w) = omega (arith, area) in
      let behind : drop w (drop place (words_of t ++ rest)) ≡ zeros (length t.rows * w + w) ++ rest = ap (λ (l : List ℕ). drop w (drop place l)) apart ∙ ap (drop w) (drop_at (front_words t ++ rows) (zeros (length rows) ++ rest) place front_long) ∙ rw rows_long (zeros_drop (t.header.capacity * w - length t.rows * w) w rest (omega (arith, area)) ∙ rw left refl) in
      let ahead : take place (words_of t ++ rest) ≡ front_words t ++ rows = ap (take place) apart ∙ take_at (front_words t ++ rows) (zeros (length rows) ++ rest) place front_long in
      pasted (words_of t ++ rest) (row_words size r) place w wide ∙ rw (ahead, behind) refl

  pub row_behind : set (paste (words_of t ++ rest) place (row_words size r) (length (row_words size r))) 5 (suc (length t.rows)) ≡ words_of (with_rows t (t.rows ++ (r ∷ []))) ++ rest
  unfolding words_of
  row_behind =
      let all : length (rows ++ row_words size r) ≡ length t.rows * w + w = length-append rows (row_words size r) ∙ rw (rows_long, wide) refl in
      rw (written, flat_behind size t.rows r, count_behind t.rows r, all)
      (ap (λ (l : List ℕ). set l 5 (suc (length t.rows))) (append_assoc (front_words t) rows _ ∙ ap (λ (l : List ℕ). front_words t ++ l) (sym (append_assoc rows (row_words size r) (zeros (length t.rows * w + w) ++ rest)) ∙ sym (append_assoc (rows ++ row_words size r) (zeros (length t.rows * w + w)) rest)) ∙ sym (append_assoc (front_words t) ((rows ++ row_words size r) ++ zeros (length t.rows * w + w)) rest)))
