-- Words that keep the rules of spelling are what would be written for the table that they spell.
use Prim.Native.Nat.{ℕ, zero, suc, ◌+◌, ◌-◌, ◌*◌, ◌/◌, ◌%◌, ◌≤◌, ◌<◌}
use mathlib.Core.Path.{◌≡◌, refl, sym, ap, ◌∙◌}
use mathlib.Core.List.{List, [], ◌∷◌, ◌++◌, map}
use native.Mathlib.Omega.{arith}
use native.Mathlib.Nat.{mul-le-mul_right}
use borrow.Author.Tests.{ltb-false}
use lib.Dec.{ltb}
use lib.ListN.{length, get_or, take, drop, replicate, length-drop, length-map, take-append-drop}
use lib.Seq.{drop-drop, take-add, length-take-le, get_or-drop}
use Rattle.meaning.proofs.Tests.{cases}
use Rattle.words_layout.specs.Words.{complement, of_complement, of_two_words, pieces, flat, padded, word_limit, two_word_limit}
use Rattle.words_layout.specs.Layout.{table_mark, total_words, total_of_words, totals_words, row_words, row_of, words_of, table_of, rewritten, beyond, space_for, rows_at, rows_in, size_in, capacity_in, objects_in, count_in, clock_at, totals_at, totals_width}
use Rattle.words_layout.proofs.Pieces.{Each, map_back, flat_pieces, length_pieces}
use Rattle.words_layout.proofs.RowWords.{Spelt, row_written}
use Rattle.words_layout.proofs.Reading.{in_a_row}
use Rattle.meaning.specs.Table.{most_objects}

-- two words are what would be written for the total that they spell
pub code_read : (t : ℕ) → t < two_word_limit → complement (of_complement t) ≡ t
unfolding complement of_complement
code_read t h = cases (ltb t 9223372036854775808) (λ p. rw p (omega arith)) (λ p. rw p (omega (arith, ltb-false t 9223372036854775808 p)))

two_back : (a b : ℕ) → a < word_limit → b < word_limit → total_words (total_of_words (a ∷ b ∷ [])) ≡ a ∷ b ∷ []
two_back a b h k =
    let d : (a * word_limit + b) / word_limit ≡ a = omega arith in
    let m : (a * word_limit + b) % word_limit ≡ b = omega arith in
    rw (code_read (of_two_words a b) (omega arith), d, m) refl

totals_written : (k : ℕ) (s : List ℕ) → ((i : ℕ) → get_or s i 0 < word_limit) → k * 2 ≤ length s → map total_words (map total_of_words (pieces 2 k s)) ≡ pieces 2 k s
totals_written zero s b h = refl
totals_written (suc k) (x ∷ y ∷ s) b h = rw (two_back x y (b 0) (b 1), totals_written k s (λ i. b (suc (suc i))) (let q : suc k * 2 ≤ suc (suc (length s)) = h in omega arith)) refl
totals_written (suc k) (x ∷ []) b h = absurd (omega arith)
totals_written (suc k) [] b h = absurd (omega arith)

cut : (s : List ℕ) (a k : ℕ) → drop a s ≡ take k (drop a s) ++ drop (a + k) s
cut s a k = sym (take-append-drop k (drop a s)) ∙ rw (drop-drop k a s) refl

-- a part is a shorter one with zeros after it
part_padded : (s p : List ℕ) (a i k : ℕ) → i ≤ k → a + k ≤ length s → p ≡ take i (drop a s) → take (k - i) (drop (a + i) s) ≡ replicate (k - i) 0 → take k (drop a s) ≡ padded k p
part_padded s p a i k h room e z =
    let n : k ≡ i + (k - i) = omega arith in
    let len : length (take i (drop a s)) ≡ i = length-take-le i (drop a s) (simp length-drop (omega arith)) in
    ap (λ (m : ℕ). take m (drop a s)) n ∙ take-add i (k - i) (drop a s) ∙ rw (e, len, drop-drop i a s, z) refl

pub record Spelling (s : List ℕ) : Type 0 where
  pub room : space_for (size_in s) (capacity_in s) ≤ length s
  pub words : (i : ℕ) → get_or s i 0 < word_limit
  pub mark : get_or s 0 0 ≡ table_mark
  pub idle : get_or s 6 0 ≡ 0
  pub objects : objects_in s ≤ most_objects
  pub within : count_in s ≤ capacity_in s
  pub kinds : take (most_objects - objects_in s) (drop (7 + objects_in s) s) ≡ replicate (most_objects - objects_in s) 0
  pub totals : take (totals_width - objects_in s * 2) (drop (totals_at + objects_in s * 2) s) ≡ replicate (totals_width - objects_in s * 2) 0
  pub rows : Each (Spelt (size_in s)) (rows_in s)
  pub unused : take (capacity_in s * (7 + size_in s) - count_in s * (7 + size_in s)) (drop (rows_at (size_in s) + count_in s * (7 + size_in s)) s) ≡ replicate (capacity_in s * (7 + size_in s) - count_in s * (7 + size_in s)) 0

pub rows_kept_lem : (n : ℕ) (l : List (List ℕ)) → Each (Spelt n) l → Each (λ (ws : List ℕ). row_words n (row_of ws) ≡ ws) l
rows_kept_lem n [] h = tt
rows_kept_lem n (ws ∷ l) h = (row_written n ws h.0, rows_kept_lem n l h.1)

pub seven : (s : List ℕ) → 7 ≤ length s → take 7 s ≡ get_or s 0 0 ∷ get_or s 1 0 ∷ get_or s 2 0 ∷ get_or s 3 0 ∷ get_or s 4 0 ∷ get_or s 5 0 ∷ get_or s 6 0 ∷ []
seven (a ∷ b ∷ c ∷ d ∷ e ∷ f ∷ g ∷ s) h = refl
seven [] h = absurd (omega arith)
seven (a ∷ []) h = absurd (omega arith)
seven (a ∷ b ∷ []) h = absurd (omega arith)
seven (a ∷ b ∷ c ∷ []) h = absurd (omega arith)
seven (a ∷ b ∷ c ∷ d ∷ []) h = absurd (omega arith)
seven (a ∷ b ∷ c ∷ d ∷ e ∷ []) h = absurd (omega arith)
seven (a ∷ b ∷ c ∷ d ∷ e ∷ f ∷ []) h = absurd (omega arith)

module _ (s : List ℕ) (S : Spelling s) where
  abbrev n : ℕ
  n = size_in s

  abbrev o : ℕ
  o = objects_in s

  kinds_part : take most_objects (drop 7 s) ≡ padded most_objects (take o (drop 7 s))
  kinds_part = part_padded s (take o (drop 7 s)) 7 o most_objects S.objects (omega (arith, S.room)) refl S.kinds

  totals_part : take totals_width (drop totals_at s) ≡ padded totals_width (totals_words (map total_of_words (pieces 2 o (drop totals_at s))))
  totals_part =
      part_padded s (totals_words (map total_of_words (pieces 2 o (drop totals_at s)))) totals_at (o * 2) totals_width (omega (arith, S.objects)) (omega (arith, S.room))
      (ap flat (totals_written o (drop totals_at s) (λ i. rw (get_or-drop totals_at s i 0) (S.words (totals_at + i))) (simp length-drop (omega (arith, S.room, S.objects)))) ∙ flat_pieces 2 o (drop totals_at s)) S.totals

  lasts_part : take (n * n) (drop (clock_at + n) s) ≡ flat (pieces n n (drop (clock_at + n) s))
  lasts_part = sym (flat_pieces n n (drop (clock_at + n) s))

  area : count_in s * (7 + n) ≤ capacity_in s * (7 + n)
  area = mul-le-mul_right (7 + n) S.within

  rows_part : take (capacity_in s * (7 + n)) (drop (rows_at n) s) ≡ padded (capacity_in s * (7 + n)) (flat (map (row_words n) (map row_of (rows_in s))))
  rows_part =
      part_padded s (flat (map (row_words n) (map row_of (rows_in s)))) (rows_at n) (count_in s * (7 + n)) (capacity_in s * (7 + n)) area (omega (arith, S.room))
      (ap flat (map_back row_of (row_words n) (rows_in s) (rows_kept_lem n (rows_in s) S.rows)) ∙ flat_pieces (7 + n) (count_in s) (drop (rows_at n) s)) S.unused

  parts : s ≡ take 7 s ++ (take most_objects (drop 7 s) ++ (take totals_width (drop totals_at s) ++ (take n (drop clock_at s) ++ (take (n * n) (drop (clock_at + n) s) ++ (take (capacity_in s * (7 + n)) (drop (rows_at n) s) ++ beyond s)))))
  parts =
      sym (take-append-drop 7 s)
      ∙ ap (λ (l : List ℕ). take 7 s ++ l) (cut s 7 most_objects
      ∙ ap (λ (l : List ℕ). take most_objects (drop 7 s) ++ l) (cut s totals_at totals_width
      ∙ ap (λ (l : List ℕ). take totals_width (drop totals_at s) ++ l) (cut s clock_at n
      ∙ ap (λ (l : List ℕ). take n (drop clock_at s) ++ l) (cut s (clock_at + n) (n * n)
      ∙ ap (λ (l : List ℕ). take (n * n) (drop (clock_at + n) s) ++ l) (cut s (rows_at n) (capacity_in s * (7 + n)))))))

  count_kinds : length (take o (drop 7 s)) ≡ o
  count_kinds = length-take-le o (drop 7 s) (simp length-drop (omega (arith, S.room, S.objects)))

  count_rows : length (map row_of (rows_in s)) ≡ count_in s
  count_rows = length-map (rows_in s) row_of ∙ length_pieces (7 + n) (count_in s) (drop (rows_at n) s)

  head_part : take 7 s ≡ table_mark ∷ n ∷ get_or s 2 0 ∷ capacity_in s ∷ length (take o (drop 7 s)) ∷ length (map row_of (rows_in s)) ∷ 0 ∷ []
  head_part = seven s (omega (arith, S.room)) ∙ rw (S.mark, S.idle, count_kinds, count_rows) refl

  pub spelt_back : s ≡ rewritten s (table_of s)
  unfolding rewritten words_of table_of
  spelt_back =
      parts ∙ rw (head_part, kinds_part, totals_part, lasts_part, rows_part)
      (sym (in_a_row (table_mark ∷ n ∷ get_or s 2 0 ∷ capacity_in s ∷ length (take o (drop 7 s)) ∷ length (map row_of (rows_in s)) ∷ 0 ∷ []) (padded most_objects (take o (drop 7 s))) (padded totals_width (totals_words (map total_of_words (pieces 2 o (drop totals_at s))))) (take n (drop clock_at s)) (flat (pieces n n (drop (clock_at + n) s))) (padded (capacity_in s * (7 + n)) (flat (map (row_words n) (map row_of (rows_in s))))) (beyond s)))
