-- A row put at its place in the words is the row put in the record.
use Rattle.std.proofs.Common.{◌≡◌, ℕ, suc, ◌+◌, ◌-◌, ◌*◌, ◌<◌, ◌≤◌, List, ◌++◌, length, take, drop, set, replicate, sym, refl, ap, ◌∙◌, append_assoc, append-nil, mul-le-mul_right, suc-mul, add-one, arith, length-append, drop-drop}
use Rattle.meaning.specs.Rows.{Row, insert_row}
use Rattle.meaning.specs.Calls.{with_rows}
use Rattle.words_layout.specs.Words.{pieces, flat, padded}
use Rattle.words_layout.specs.Layout.{Laid, row_of, row_words, table_of, rewritten, beyond, size_in, capacity_in, count_in, rows_in, rows_at}
use Rattle.words_layout.proofs.Pieces.{length_pieces, length_flat}
use Rattle.words_layout.proofs.Whole.{rows_wide, each_spelt, after_rows, put_rows, zeros_drop}
use Rattle.table_insert.specs.Placing.{inserted}
use Rattle.table_insert.proofs.Ordering.{inserted_rows, inserted_spelt, inserted_long, inserted_wide}
use Rattle.table_change.specs.Changes.{Opened}
use Rattle.table_change.proofs.Changing.{all_of, nothing_behind}

-- with the head's own numbers
module _ (s key v : List ℕ) (T : Laid s) (less : count_in s < capacity_in s) (seven : length key ≡ 7) (long : length v ≡ size_in s) (spelt : row_words (size_in s) (row_of (key ++ v)) ≡ key ++ v) where
  abbrev w : ℕ
  w = 7 + size_in s

  abbrev used : ℕ
  used = count_in s * w

  abbrev all : ℕ
  all = capacity_in s * w

  abbrev rs : List (List ℕ)
  rs = inserted key v (rows_in s)

  fits : used + w ≤ all
  fits = let h : suc (count_in s) * w ≤ all = mul-le-mul_right w less in omega (arith, suc-mul (count_in s) w)

  rest_zero : drop (used + w) (drop (rows_at (size_in s)) s) ≡ replicate (all - (used + w)) 0 ++ beyond s
  rest_zero =
      let m : all - used - w ≡ all - (used + w) = omega arith in
      sym (drop-drop w used (drop (rows_at (size_in s)) s)) ∙ ap (drop w) (after_rows s T) ∙ zeros_drop (all - used) w (beyond s) (omega (arith, fits)) ∙ rw m refl

  many : length rs ≡ count_in s + 1
  many = inserted_long key v (rows_in s) ∙ ap suc (length_pieces w (count_in s) (drop (rows_at (size_in s)) s)) ∙ omega arith

  flat_long : length (flat rs) ≡ used + w
  flat_long =
      length_flat w rs (inserted_wide w key v (rows_in s) (length-append key v ∙ omega (arith, seven, long)) (rows_wide s T))
      ∙ rw (many, add-one (count_in s)) (omega (arith, suc-mul (count_in s) w))

  put_own : (x : List ℕ) → x ≡ flat rs ++ drop (used + w) (drop (rows_at (size_in s)) s) → set (take (rows_at (size_in s)) s ++ x) 5 (count_in s + 1) ≡ rewritten s (with_rows (table_of s) (insert_row (row_of (key ++ v)) (table_of s).rows))
  unfolding table_of
  put_own x f =
      let whole : x ≡ padded all (flat rs) ++ beyond s = f ∙ rw rest_zero (sym (append_assoc (flat rs) (replicate (all - (used + w)) 0) (beyond s)) ∙ rw flat_long refl) in
      rw (whole, sym many) (put_rows s T rs (inserted_spelt (size_in s) key v seven spelt (rows_in s) (each_spelt s T)) ∙ ap (λ (rows : List Row). rewritten s (with_rows (table_of s) rows)) (inserted_rows (size_in s) key v seven spelt (rows_in s) (each_spelt s T)))

-- with the numbers in hand
pub put_in : (s key v : List ℕ) (n count : ℕ) → Opened s n count → count < capacity_in s → length key ≡ 7 → length v ≡ n → row_words n (row_of (key ++ v)) ≡ key ++ v → (base : ℕ) → base ≡ rows_at n → (x : List ℕ) →
    x ≡ flat (inserted key v (pieces (7 + n) count (take (length s - base) (drop base s)))) ++ drop (count * (7 + n) + (7 + n)) (take (length s - base) (drop base s)) →
    set (take base s ++ (x ++ drop (length s - base) (drop base s))) 5 (count + 1) ≡ rewritten s (with_rows (table_of s) (insert_row (row_of (key ++ v)) (table_of s).rows))
put_in s key v n count O less seven long spelt base start x f =
    rw (nothing_behind s base, append-nil, start, O.size_is, O.count_is)
    (put_own s key v O.laid (rw O.count_is at less) seven (long ∙ O.size_is) (rw O.size_is at spelt) x (rw (all_of s base, start, O.size_is, O.count_is) at f))
