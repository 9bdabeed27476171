-- A table and its words: what words that spell a table are made of, and other rows put in their place.
use Prim.Native.Nat.{ℕ, zero, suc, ◌+◌, ◌-◌, ◌*◌, ◌≤◌}
use mathlib.Core.Path.{◌≡◌, refl, sym, ap, ◌∙◌}
use mathlib.Core.Bool.{Bool, true, false, cond}
use mathlib.Core.List.{List, [], ◌∷◌, ◌++◌, append_assoc, map}
use native.Mathlib.Omega.{arith}
use native.Mathlib.Nat.{mul-le-mul_right}
use lib.IntN.{ℤ}
use lib.ListN.{length, get_or, take, drop, set, replicate, length-drop, length-append, length-replicate, length-map, replicate-append-replicate, length-take}
use lib.Seq.{take_at, drop_at, length-take-le}
use Rattle.meaning.specs.Tests.{those}
use Rattle.meaning.specs.Rows.{Row}
use Rattle.meaning.specs.Table.{Table, most_objects}
use Rattle.meaning.specs.Calls.{with_rows}
use Rattle.words_layout.specs.Words.{pieces, flat, padded}
use Rattle.words_layout.specs.Layout.{Laid, total_words, total_of_words, totals_words, row_words, row_of, front_words, rows_words, words_of, table_of, rewritten, beyond, rows_at, rows_in, size_in, capacity_in, objects_in, count_in, clock_at, totals_at, totals_width}
use Rattle.words_layout.proofs.Pieces.{Wide, Each, each_those, map_back, those_map, length_pieces, length_flat, wide_pieces, pieces_at, wide_those}
use Rattle.words_layout.proofs.RowWords.{length_row, short_row}

-- the parts of a table record are as long as its header says
pub record Fit (t : Table) : Type 0 where
  pub few_kinds : length t.header.kinds ≤ most_objects
  pub few_totals : length t.totals ≤ most_objects
  pub clock_long : length t.clock ≡ t.header.size
  pub last_wide : Wide t.header.size t.last
  pub last_many : length t.last ≡ t.header.size

pub length_padded : (n : ℕ) (l : List ℕ) → length l ≤ n → length (padded n l) ≡ n
length_padded n l h = simp (length-append, length-replicate) (omega arith)

pub wide_totals : (l : List ℤ) → Wide 2 (map total_words l)
wide_totals [] = tt
wide_totals (z ∷ l) = (refl, wide_totals l)

pub totals_long : (l : List ℤ) → length l ≤ most_objects → length (totals_words l) ≤ totals_width
totals_long l h = rw (length_flat 2 (map total_words l) (wide_totals l), length-map l total_words) (omega arith)

pub length_front : (t : Table) → Fit t → length (front_words t) ≡ rows_at t.header.size
length_front t F =
    simp (length-append, length-replicate, F.clock_long, length_flat t.header.size t.last F.last_wide, F.last_many) (omega (arith, F.few_kinds, totals_long t.totals F.few_totals))

pub wide_rows : (n : ℕ) (rs : List Row) → Each (λ (r : Row). length r.operation.vector ≤ n) rs → Wide (7 + n) (map (row_words n) rs)
wide_rows n [] h = tt
wide_rows n (r ∷ rs) h = (length_row n r h.0, wide_rows n rs h.1)

short_rows : (n : ℕ) (l : List (List ℕ)) → Wide (7 + n) l → Each (λ (r : Row). length r.operation.vector ≤ n) (map row_of l)
short_rows n [] h = tt
short_rows n (ws ∷ l) h = (short_row n ws h.0, short_rows n l h.1)

pub back_each : {A B : Type 0} (g : A → B) (k : B → A) (l : List A) → map k (map g l) ≡ l → Each (λ (x : A). k (g x) ≡ x) l
back_each g k [] e = tt
back_each g k (x ∷ l) e = (ap (λ t. get_or t 0 x) e, back_each g k l (ap (drop 1) e))

pub those_short : {A : Type 0} (f : A → Bool) (l : List A) → length (those f l) ≤ length l
those_short f [] = omega arith
those_short f (x ∷ l) = elim (f x) as (λ b. length (cond b (x ∷ those f l) (those f l)) ≤ suc (length l)) [ true ↦ omega (arith, those_short f l) | false ↦ omega (arith, those_short f l) ]

pub zeros_drop : (m w : ℕ) (t : List ℕ) → w ≤ m → drop w (replicate m 0 ++ t) ≡ replicate (m - w) 0 ++ t
zeros_drop m zero t h = let e : m - 0 ≡ m = omega arith in rw e refl
zeros_drop zero (suc w) t h = absurd (omega arith)
zeros_drop (suc m) (suc w) t h = let e : suc m - suc w ≡ m - w = omega arith in rw e (zeros_drop m w t (omega arith))

pub zeros_join : (a b : ℕ) (t : List ℕ) → replicate a 0 ++ (replicate b 0 ++ t) ≡ replicate (a + b) 0 ++ t
zeros_join a b t = sym (append_assoc (replicate a 0) (replicate b 0) t) ∙ rw (replicate-append-replicate {A = ℕ} a b 0) refl

-- zeros up to n, and from there up to m
more_zeros : (l : List ℕ) (n m : ℕ) (t : List ℕ) → length l ≤ n → n ≤ m → padded n l ++ (replicate (m - n) 0 ++ t) ≡ padded m l ++ t
more_zeros l n m t h k = let e : n - length l + (m - n) ≡ m - length l = omega arith in simp append_assoc (ap (λ (x : List ℕ). l ++ x) (zeros_join (n - length l) (m - n) t ∙ rw e refl))

-- What a table in words is made of.
module _ (s : List ℕ) (T : Laid s) where
  pub fit : Fit (table_of s)
  unfolding table_of
  fit = record {
    few_kinds = rw length-take (omega (arith, T.objects));
    few_totals = rw (length-map (pieces 2 (objects_in s) (drop totals_at s)) total_of_words, length_pieces 2 (objects_in s) (drop totals_at s)) T.objects;
    clock_long = length-take-le (size_in s) (drop clock_at s) (simp length-drop (omega (arith, T.room)));
    last_wide = wide_pieces (size_in s) (size_in s) (drop (clock_at + size_in s) s) (simp length-drop (omega (arith, T.room)));
    last_many = length_pieces (size_in s) (size_in s) (drop (clock_at + size_in s) s);
  }

  split : s ≡ front_words (table_of s) ++ (rows_words (table_of s) ++ beyond s)
  unfolding rewritten words_of
  split = T.spelt ∙ append_assoc (front_words (table_of s)) (rows_words (table_of s)) (beyond s)

  front_long : length (front_words (table_of s)) ≡ rows_at (size_in s)
  unfolding table_of
  front_long = length_front (table_of s) fit

  pub front_is : take (rows_at (size_in s)) s ≡ front_words (table_of s)
  front_is = ap (take (rows_at (size_in s))) split ∙ take_at (front_words (table_of s)) (rows_words (table_of s) ++ beyond s) (rows_at (size_in s)) front_long

  pub rows_are_lem : drop (rows_at (size_in s)) s ≡ rows_words (table_of s) ++ beyond s
  rows_are_lem = ap (drop (rows_at (size_in s))) split ∙ drop_at (front_words (table_of s)) (rows_words (table_of s) ++ beyond s) (rows_at (size_in s)) front_long

  pub area : count_in s * (7 + size_in s) ≤ capacity_in s * (7 + size_in s)
  area = mul-le-mul_right (7 + size_in s) T.within

  pub rows_wide : Wide (7 + size_in s) (rows_in s)
  rows_wide = wide_pieces (7 + size_in s) (count_in s) (drop (rows_at (size_in s)) s) (simp length-drop (omega (arith, T.room, area)))

  -- every row is what would be written for it
  rows_spelt : map (row_words (size_in s)) (map row_of (rows_in s)) ≡ rows_in s
  unfolding table_of
  rows_spelt =
      let rs = map (row_words (size_in s)) (map row_of (rows_in s)) in
      let many : length rs ≡ count_in s = length-map (map row_of (rows_in s)) (row_words (size_in s)) ∙ length-map (rows_in s) row_of ∙ length_pieces (7 + size_in s) (count_in s) (drop (rows_at (size_in s)) s) in
      sym (ap (pieces (7 + size_in s) (count_in s)) (rows_are_lem ∙ append_assoc (flat rs) _ (beyond s))
      ∙ pieces_at (7 + size_in s) (count_in s) rs _ (wide_rows (size_in s) (map row_of (rows_in s)) (short_rows (size_in s) (rows_in s) rows_wide)) many)

  pub each_spelt : Each (λ (ws : List ℕ). row_words (size_in s) (row_of ws) ≡ ws) (rows_in s)
  each_spelt = back_each row_of (row_words (size_in s)) (rows_in s) rows_spelt

  -- zeros follow the rows
  pub after_rows : drop (count_in s * (7 + size_in s)) (drop (rows_at (size_in s)) s) ≡ replicate (capacity_in s * (7 + size_in s) - count_in s * (7 + size_in s)) 0 ++ beyond s
  unfolding table_of
  after_rows =
      let rs = map (row_words (size_in s)) (map row_of (rows_in s)) in
      let long : length (flat rs) ≡ count_in s * (7 + size_in s) = rw rows_spelt (length_flat (7 + size_in s) (rows_in s) rows_wide ∙ rw (length_pieces (7 + size_in s) (count_in s) (drop (rows_at (size_in s)) s)) refl) in
      ap (drop (count_in s * (7 + size_in s))) (rows_are_lem ∙ append_assoc (flat rs) _ (beyond s)) ∙ drop_at (flat rs) _ (count_in s * (7 + size_in s)) long ∙ rw long refl

  -- other rows put in their place: the law that every change of rows cites
  pub put_rows : (rs : List (List ℕ)) → Each (λ (ws : List ℕ). row_words (size_in s) (row_of ws) ≡ ws) rs
      → set (take (rows_at (size_in s)) s ++ (padded (capacity_in s * (7 + size_in s)) (flat rs) ++ beyond s)) 5 (length rs) ≡ rewritten s (with_rows (table_of s) (map row_of rs))
  unfolding table_of rewritten words_of
  put_rows rs h = rw (front_is, map_back row_of (row_words (size_in s)) rs h, length-map rs row_of) (sym (append_assoc (set (front_words (table_of s)) 5 (length rs)) (padded (capacity_in s * (7 + size_in s)) (flat rs)) (beyond s)))

  -- as many rows as there were or fewer, with zeros behind them
  pub put_fewer : (rs : List (List ℕ)) (x : List ℕ) (k : ℕ) → Each (λ (ws : List ℕ). row_words (size_in s) (row_of ws) ≡ ws) rs → Wide (7 + size_in s) rs → length rs ≤ count_in s
      → x ≡ padded (count_in s * (7 + size_in s)) (flat rs) ++ drop (count_in s * (7 + size_in s)) (drop (rows_at (size_in s)) s)
      → k ≡ length rs
      → set (take (rows_at (size_in s)) s ++ x) 5 k ≡ rewritten s (with_rows (table_of s) (map row_of rs))
  put_fewer rs x k each wide few e c =
      let long : length (flat rs) ≤ count_in s * (7 + size_in s) = rw (length_flat (7 + size_in s) rs wide) (mul-le-mul_right (7 + size_in s) few) in
      let whole : x ≡ padded (capacity_in s * (7 + size_in s)) (flat rs) ++ beyond s = e ∙ rw after_rows (more_zeros (flat rs) (count_in s * (7 + size_in s)) (capacity_in s * (7 + size_in s)) (beyond s) long area) in
      rw (whole, c) (put_rows rs each)

  -- a filter by what the rows mean, made on the words
  pub put_filtered : (f : Row → Bool) (x : List ℕ) (k : ℕ)
      → x ≡ padded (count_in s * (7 + size_in s)) (flat (those (λ (ws : List ℕ). f (row_of ws)) (rows_in s))) ++ drop (count_in s * (7 + size_in s)) (drop (rows_at (size_in s)) s)
      → k ≡ length (those (λ (ws : List ℕ). f (row_of ws)) (rows_in s))
      → set (take (rows_at (size_in s)) s ++ x) 5 k ≡ rewritten s (with_rows (table_of s) (those f (table_of s).rows))
  unfolding table_of
  put_filtered f x k e c =
      let rs = those (λ (ws : List ℕ). f (row_of ws)) (rows_in s) in
      let few : length rs ≤ count_in s = omega (arith, length_pieces (7 + size_in s) (count_in s) (drop (rows_at (size_in s)) s), those_short (λ (ws : List ℕ). f (row_of ws)) (rows_in s)) in
      put_fewer rs x k (each_those (λ (ws : List ℕ). row_words (size_in s) (row_of ws) ≡ ws) (λ (ws : List ℕ). f (row_of ws)) (rows_in s) each_spelt)
      (wide_those (λ (ws : List ℕ). f (row_of ws)) (7 + size_in s) (rows_in s) rows_wide) few e c ∙ rw (those_map row_of f (rows_in s)) refl
