-- From one value of an object to the next.
use mathlib.Core.Path.{◌≡◌, refl, sym, ap, ◌∙◌}
use mathlib.Core.List.{List, [], ◌∷◌, map, Memᴰ}
use Prim.Native.Nat.{ℕ, zero, suc, ◌+◌, ◌-◌, ◌*◌, ◌≤◌, ◌<◌}
use native.Mathlib.Nat.{suc-mul, zero-mul, add-mul}
use native.Mathlib.Omega.{arith}
use borrow.Author.Tests.{leb-true, leb-false}
use mir.Val.{Fits}
use mir.Syntax.{w32, w64}
use lib.Dec.{leb}
use lib.ListN.{length, get_or, take, drop, drop_of_length-le}
use lib.Seq.{drop-drop}
use Rattle.meaning.specs.Operations.{value_limit}
use Rattle.meaning.specs.Rows.{Row}
use Rattle.meaning.proofs.Tests.{cases}
use Rattle.meaning.proofs.TableFacts.{row_small}
use Rattle.words_layout.specs.Words.{pieces, of_two_words}
use Rattle.words_layout.specs.Layout.{table_of, row_of, rows_at, row_width, size_in, count_in, most_words, most_before_rows, most_row_words}
use Rattle.words_layout.proofs.Pieces.{word_at}
use Rattle.table_rules.specs.Checked.{Checked}
use Rattle.question_scan.specs.Showing.{shows, shown, before_shown}
use Rattle.question_scan.proofs.Listing.{rows_number}
use Rattle.question_scan.proofs.Scanning.{none_left, step_most, next_and_rest}
use Rattle.question_list.specs.Walking.{values_behind, next_value}
use Rattle.question_list.specs.declared.Found.{Found}

shown_small : (o : ℕ) (rows : List Row) → ((row : Row) → Memᴰ row rows → row.operation.value < value_limit) → (k v : ℕ) (rest : List ℕ) → shown o (drop k rows) ≡ v ∷ rest → v < value_limit
shown_small o [] f zero v rest e = absurd (let z = ap (λ (l : List ℕ). length l) e in omega (arith, z))
shown_small o [] f (suc k) v rest e = absurd (let z = ap (λ (l : List ℕ). length l) e in omega (arith, z))
shown_small o (row ∷ rows) f (suc k) v rest e = shown_small o rows (λ r m. f r (Memᴰ.tail m)) k v rest e
shown_small o (row ∷ rows) f zero v rest e = cases (shows o row rows)
    (λ q. let z : row.operation.value ≡ v = ap (λ (l : List ℕ). get_or l 0 0) (rw q at e) in rw (sym z) (f row (Memᴰ.head refl)))
    (λ q. shown_small o rows (λ r m. f r (Memᴰ.tail m)) 0 v rest (rw q at e))

-- what a step of the walk returns
abbrev found : ℕ → ℕ → Found
found value passed = record { value = record { 0 = value }; passed = record { 0 = passed } }

-- the rows behind the first so many
behind_rows : (w more k at : ℕ) (s : List ℕ) → k ≤ more → drop k (map row_of (pieces w more (drop at s))) ≡ map row_of (pieces w (more - k) (drop (at + k * w) s))
behind_rows w more zero at s h =
    let a : at + 0 * w ≡ at = omega (arith, zero-mul w) in
    let b : more - 0 ≡ more = omega arith in
    rw (a, b) refl
behind_rows w zero (suc k) at s h = absurd (omega arith)
behind_rows w (suc more) (suc k) at s h =
    let a : at + suc k * w ≡ at + w + k * w = omega (arith, suc-mul k w) in
    let b : suc more - suc k ≡ more - k = omega arith in
    rw (a, b, drop-drop w at s) (behind_rows w more k (at + w) s (omega arith))

module _ (s : List ℕ) (K : Checked s) (passed o : ℕ) (some : 0 < length (values_behind passed o (table_of s))) where
  rows_many : length (table_of s).rows ≡ count_in s
  unfolding table_of
  rows_many = rows_number (row_width (size_in s)) (count_in s) (drop (rows_at (size_in s)) s)

  behind_are : drop passed (table_of s).rows ≡ [] → ⊥
  unfolding values_behind
  behind_are e = let z = ap (λ (l : List Row). length (shown o l)) e in omega (arith, z, some)

  pub passed_most : passed ≤ count_in s
  passed_most = cases (leb passed (count_in s))
      (λ q. leb-true passed (count_in s) q)
      (λ q. absurd (behind_are (drop_of_length-le (table_of s).rows {i = passed} (omega (arith, rows_many, leb-false passed (count_in s) q)))))

  module _ (start w p : ℕ) (es : start ≡ rows_at (size_in s)) (ew : w ≡ row_width (size_in s)) (ep : p ≡ passed) where
    abbrev from : ℕ
    from = start + p * w

    abbrev more : ℕ
    more = count_in s - passed

    words_left : p * w + more * w ≡ count_in s * w
    words_left = let e : count_in s ≡ p + more = omega (arith, passed_most) in sym (ap (λ (k : ℕ). k * w) e ∙ add-mul p more w)

    area : count_in s * w ≤ most_row_words
    area = rw ew K.area

    start_small : start ≤ most_before_rows
    start_small = rw es (omega (arith, K.few, K.square))

    pub passed_fits : Fits w64 (p * w)
    passed_fits = omega (arith, words_left, area)

    pub from_fits : Fits w64 (start + p * w)
    from_fits = omega (arith, words_left, area, start_small)

    pub rest_room : start + p * w + (count_in s - passed) * w ≤ length s
    rest_room = omega (arith, words_left, rw (sym es, sym ew) at K.room)

    rest_are : drop passed (table_of s).rows ≡ map row_of (pieces w more (drop from s))
    unfolding table_of
    rest_are = rw (es, ep, ew) (behind_rows (row_width (size_in s)) (count_in s) passed (rows_at (size_in s)) s passed_most)

    module _ (b : ℕ) (eb : b ≡ before_shown o (map row_of (pieces w more (drop from s)))) where
      not_all : b ≡ more → ⊥
      unfolding values_behind
      not_all e =
          let none = ap (λ (l : List Row). shown o l) rest_are ∙ none_left s w o from more b eb e in
          let z = ap (λ (l : List ℕ). length l) none in
          omega (arith, z, some)

      before_less : b + 1 ≤ more
      before_less = step_most s w o from more b eb not_all

      pub sum_fits : Fits w32 (passed + b)
      sum_fits = omega (arith, before_less, K.within, K.small)

      pub next_fits : Fits w32 (passed + b + 1)
      next_fits = omega (arith, before_less, K.within, K.small)

      module _ (q : ℕ) (eq : q ≡ b) where
        abbrev at : ℕ
        at = from + q * w

        row_words_lem : q * w + (w + (more - (q + 1)) * w) ≡ more * w
        row_words_lem =
            let e : more ≡ (q + 1) + (more - (q + 1)) = omega (arith, before_less) in
            omega (arith, suc-mul q w, add-mul (q + 1) (more - (q + 1)) w, ap (λ (k : ℕ). k * w) e)

        wide : 7 ≤ w
        wide = rw ew (omega arith)

        row_room : at + w ≤ length s
        row_room = omega (arith, row_words_lem, rest_room)

        row_small_at : at + w ≤ most_words
        row_small_at = omega (arith, row_words_lem, words_left, area, start_small)

        pub before_fits : Fits w64 (q * w)
        before_fits = omega (arith, row_small_at)

        pub at_fits : Fits w64 (start + p * w + q * w)
        at_fits = omega (arith, row_small_at)

        pub low_fits : Fits w64 (start + p * w + q * w + 2)
        low_fits = omega (arith, row_small_at, wide)

        pub low_scaled : Fits w64 ((start + p * w + q * w + 2) * 4)
        low_scaled = omega (arith, row_small_at, wide)

        pub low_within : start + p * w + q * w + 2 < length s
        low_within = omega (arith, row_room, wide)

        left_are : values_behind passed o (table_of s) ≡ (row_of (take w (drop (from + b * w) s))).operation.value ∷ shown o (map row_of (pieces w (more - (b + 1)) (drop (from + (b + 1) * w) s)))
        unfolding values_behind
        left_are = ap (λ (l : List Row). shown o l) rest_are ∙ next_and_rest s w o from more b eb not_all

        here : (i : ℕ) → i < w → get_or (take w (drop (from + b * w) s)) i 0 ≡ get_or s (at + i) 0
        here i h = word_at s w (from + b * w) i h ∙ rw eq refl

        value_is : (row_of (take w (drop (from + b * w) s))).operation.value ≡ of_two_words (get_or s (at + 1) 0) (get_or s (at + 2) 0)
        value_is = rw (here 1 (omega (arith, wide)), here 2 (omega (arith, wide))) refl

        low_is_lem : (row_of (take w (drop (from + b * w) s))).operation.value ≡ get_or s (at + 2) 0
        unfolding values_behind
        low_is_lem =
            let small = shown_small o (table_of s).rows (row_small (table_of s) K.by_rules) passed _ _ left_are in
            omega (arith, value_is, small)

        pub walked : found (get_or s (start + p * w + q * w + 2) 0) (passed + b + 1) ≡ next_value passed o (table_of s)
        unfolding next_value values_behind
        walked =
            ap (λ (v : ℕ). found v (passed + b + 1)) (sym low_is_lem ∙ sym (ap (λ (l : List ℕ). get_or l 0 0) left_are))
            ∙ ap (λ (k : ℕ). found (get_or (values_behind passed o (table_of s)) 0 0) (passed + k + 1)) (eb ∙ ap (λ (l : List Row). before_shown o l) (sym rest_are))
