-- Reading what was written gives it back.
use Prim.Native.Nat.{ℕ, ◌+◌, ◌-◌, ◌*◌, ◌%◌, ◌≤◌, ◌<◌}
use mathlib.Core.Path.{◌≡◌, refl, sym, ap, ◌∙◌}
use mathlib.Core.Bool.{true, false, cond}
use mathlib.Core.List.{List, [], ◌∷◌, ◌++◌, append_assoc, map}
use native.Mathlib.Omega.{arith}
use native.Mathlib.Nat.{div-add-mod'}
use borrow.Author.Tests.{lt-ltb, le-ltb}
use lib.IntN.{ℤ, pos, negsuc}
use lib.ListN.{length, take, drop, replicate, length-map}
use lib.Seq.{take_at, drop_at, drop-drop, take-append_seam}
use Rattle.meaning.specs.Rows.{Row}
use Rattle.meaning.specs.Table.{Table, most_objects}
use Rattle.words_layout.specs.Words.{complement, of_complement, pieces, flat, padded, word_limit, two_word_limit}
use Rattle.words_layout.specs.Layout.{table_mark, total_words, total_of_words, totals_words, row_words, row_of, rows_words, words_of, table_of, size_in, objects_in, rows_at, kinds_at, clock_at, totals_at, totals_width}
use Rattle.words_layout.proofs.Pieces.{Each, map_back, pieces_at, length_flat}
use Rattle.words_layout.proofs.RowWords.{Shaped, row_read_lem}
use Rattle.words_layout.proofs.Whole.{Fit, length_padded, wide_totals, totals_long, wide_rows}

-- the parts of a table's words that are lent
pub kinds_part : (s : List ℕ) (m : ℕ) → m ≡ objects_in s → take (kinds_at + m - kinds_at) (drop kinds_at s) ≡ (table_of s).header.kinds
unfolding table_of
kinds_part s m e = let q : kinds_at + m - kinds_at ≡ objects_in s = omega arith in rw q refl

pub clock_part : (s : List ℕ) (n : ℕ) → n ≡ size_in s → take (clock_at + n - clock_at) (drop clock_at s) ≡ (table_of s).clock
unfolding table_of
clock_part s n e = let q : clock_at + n - clock_at ≡ size_in s = omega arith in rw q refl

-- a total that 64 bits hold
abbrev pub InRange : ℤ → Type 0
InRange (pos n) = n < 9223372036854775808
InRange (negsuc n) = n < 9223372036854775808

pub total_read_lem : (z : ℤ) → InRange z → of_complement (complement z) ≡ z
unfolding of_complement complement
total_read_lem (pos n) h = let e : n % two_word_limit ≡ n = omega arith in rw (e, lt-ltb n 9223372036854775808 h) refl
total_read_lem (negsuc n) h =
    let e : n % two_word_limit ≡ n = omega arith in
    let b : (two_word_limit - 1) - ((two_word_limit - 1) - n) ≡ n = omega arith in
    rw (e, le-ltb ((two_word_limit - 1) - n) 9223372036854775808 (omega arith), b) refl

pub two_read : (z : ℤ) → InRange z → total_of_words (total_words z) ≡ z
two_read z h = rw (div-add-mod' (complement z) word_limit) (total_read_lem z h)

totals_back : (l : List ℤ) → Each InRange l → Each (λ (z : ℤ). total_of_words (total_words z) ≡ z) l
totals_back [] h = tt
totals_back (z ∷ l) h = (two_read z h.0, totals_back l h.1)

pub rows_back : (n : ℕ) (l : List Row) → Each (Shaped n) l → Each (λ (r : Row). row_of (row_words n r) ≡ r) l
rows_back n [] h = tt
rows_back n (r ∷ l) h = (row_read_lem n r h.0, rows_back n l h.1)

pub short : (n : ℕ) (l : List Row) → Each (Shaped n) l → Each (λ (r : Row). length r.operation.vector ≤ n) l
short n [] h = tt
short n (r ∷ l) h = (elim r.settled as (λ b. length r.operation.vector ≡ cond b 0 n → length r.operation.vector ≤ n) [ true ↦ (λ e. omega arith) | false ↦ (λ e. omega arith) ] h.0.long, short n l h.1)

pub in_a_row : (h k t c l r x : List ℕ) → ((h ++ (k ++ (t ++ (c ++ l)))) ++ r) ++ x ≡ h ++ (k ++ (t ++ (c ++ (l ++ (r ++ x)))))
in_a_row h k t c l r x = simp append_assoc refl

drop_two : (a b c : List ℕ) (i j : ℕ) → length a ≡ i → length b ≡ j → drop (i + j) (a ++ (b ++ c)) ≡ c
drop_two a b c i j e f = sym (drop-drop j i (a ++ (b ++ c))) ∙ rw (drop_at a (b ++ c) i e) (drop_at b c j f)

pub record Well (t : Table) : Type 0 where
  pub fit : Fit t
  pub one : length t.totals ≡ length t.header.kinds
  pub range : Each InRange t.totals
  pub shape : Each (Shaped t.header.size) t.rows

module _ (t : Table) (W : Well t) (x : List ℕ) where
  abbrev head : List ℕ
  head = table_mark ∷ t.header.size ∷ t.header.own ∷ t.header.capacity ∷ length t.header.kinds ∷ length t.rows ∷ 0 ∷ []

  abbrev words : List ℕ
  words = head ++ (padded most_objects t.header.kinds ++ (padded totals_width (totals_words t.totals) ++ (t.clock ++ (flat t.last ++ (rows_words t ++ x)))))

  clock_at_lem : drop clock_at words ≡ t.clock ++ (flat t.last ++ (rows_words t ++ x))
  clock_at_lem = drop_two (padded most_objects t.header.kinds) (padded totals_width (totals_words t.totals)) _ most_objects totals_width (length_padded most_objects t.header.kinds W.fit.few_kinds) (length_padded totals_width (totals_words t.totals) (totals_long t.totals W.fit.few_totals))

  lasts_at : drop (clock_at + t.header.size) words ≡ flat t.last ++ (rows_words t ++ x)
  lasts_at = sym (drop-drop t.header.size clock_at words) ∙ rw clock_at_lem (drop_at t.clock _ t.header.size W.fit.clock_long)

  rows_at_lem : drop (rows_at t.header.size) words ≡ rows_words t ++ x
  rows_at_lem = sym (drop-drop (t.header.size * t.header.size) (clock_at + t.header.size) words) ∙ rw lasts_at (drop_at (flat t.last) _ (t.header.size * t.header.size) (length_flat t.header.size t.last W.fit.last_wide ∙ rw W.fit.last_many refl))

  kinds_read : take (length t.header.kinds) (drop 7 words) ≡ t.header.kinds
  kinds_read = rw append_assoc (take-append_seam t.header.kinds _)

  totals_read : map total_of_words (pieces 2 (length t.header.kinds) (drop totals_at words)) ≡ t.totals
  totals_read =
      let at : drop totals_at words ≡ totals_words t.totals ++ (replicate (totals_width - length (totals_words t.totals)) 0 ++ (t.clock ++ (flat t.last ++ (rows_words t ++ x)))) =
      drop_at (padded most_objects t.header.kinds) _ most_objects (length_padded most_objects t.header.kinds W.fit.few_kinds) ∙ append_assoc (totals_words t.totals) (replicate (totals_width - length (totals_words t.totals)) 0) _ in
      ap (λ (l : List ℕ). map total_of_words (pieces 2 (length t.header.kinds) l)) at
      ∙ ap (map total_of_words) (pieces_at 2 (length t.header.kinds) (map total_words t.totals) _ (wide_totals t.totals) (length-map t.totals total_words ∙ W.one))
      ∙ map_back total_words total_of_words t.totals (totals_back t.totals W.range)

  rows_read : map row_of (pieces (7 + t.header.size) (length t.rows) (drop (rows_at t.header.size) words)) ≡ t.rows
  rows_read =
      ap (λ (l : List ℕ). map row_of (pieces (7 + t.header.size) (length t.rows) l)) (rows_at_lem ∙ append_assoc (flat (map (row_words t.header.size) t.rows)) _ x)
      ∙ ap (map row_of) (pieces_at (7 + t.header.size) (length t.rows) (map (row_words t.header.size) t.rows) _ (wide_rows t.header.size t.rows (short t.header.size t.rows W.shape)) (length-map t.rows (row_words t.header.size)))
      ∙ map_back (row_words t.header.size) row_of t.rows (rows_back t.header.size t.rows W.shape)

  clock_read_lem : take t.header.size (drop clock_at words) ≡ t.clock
  clock_read_lem = ap (take t.header.size) clock_at_lem ∙ take_at t.clock _ t.header.size W.fit.clock_long

  lasts_read : pieces t.header.size t.header.size (drop (clock_at + t.header.size) words) ≡ t.last
  lasts_read = ap (pieces t.header.size t.header.size) lasts_at ∙ pieces_at t.header.size t.header.size t.last _ W.fit.last_wide W.fit.last_many

  pub table_read : table_of (words_of t ++ x) ≡ t
  unfolding table_of words_of
  table_read = ap table_of (in_a_row head (padded most_objects t.header.kinds) (padded totals_width (totals_words t.totals)) t.clock (flat t.last) (rows_words t) x) ∙ rw (kinds_read, totals_read, clock_read_lem, lasts_read, rows_read) refl
