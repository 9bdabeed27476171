-- One change after another: what is written is laid again, and two changes are the change of the change.
use Prim.Native.Nat.{ℕ, zero, suc, ◌+◌, ◌-◌, ◌*◌, ◌≤◌, ◌<◌}
use mathlib.Core.Path.{◌≡◌, refl, sym, ap, ◌∙◌, subst}
use mathlib.Core.Bool.{true, false, cond}
use mathlib.Core.List.{List, [], ◌∷◌, ◌++◌, append_assoc, map}
use native.Mathlib.Nat.{mul-le-mul_right, suc-mul, zero-mul, div-add-mod'}
use native.Mathlib.Omega.{arith}
use borrow.Author.Tests.{ltb-true, ltb-false}
use lib.Dec.{eqb, ltb}
use lib.IntN.{ℤ, pos, negsuc}
use lib.ListN.{length, get_or, take, drop, set, replicate, length-append, length-set, length-map, length-drop, length-replicate}
use lib.Seq.{take_at, drop_at, drop-drop, take-add, length-take-le}
use Rattle.meaning.specs.Table.{Table, greatest_size, greatest_capacity, most_objects}
use Rattle.meaning.proofs.Tests.{cases}
use Rattle.words_layout.specs.Words.{complement, of_complement, pieces, flat, padded, word_limit, two_word_limit}
use Rattle.words_layout.specs.Layout.{Laid, head_words, total_words, total_of_words, totals_words, row_words, row_of, front_words, rows_words, words_of, table_of, rewritten, beyond, space_for, rows_at, rows_in, size_in, objects_in, count_in, with_clock, with_last, with_totals, clock_at, totals_at, totals_width}
use Rattle.words_layout.proofs.Pieces.{Wide, Each, length_pieces, length_flat, pieces_at}
use Rattle.words_layout.proofs.RowWords.{Shaped}
use Rattle.words_layout.proofs.Whole.{fit, length_padded, totals_long, wide_totals, rows_wide, wide_rows, length_front, back_each}
use Rattle.words_layout.proofs.Reading.{in_a_row, InRange, Well, table_read, short}

-- every 64-bit code reads as a total in range
read_in_range : (code : ℕ) → code < two_word_limit → InRange (of_complement code)
unfolding of_complement
read_in_range code h = cases (ltb code 9223372036854775808)
    (λ p. rw p (ltb-true code 9223372036854775808 p))
    (λ p. rw p (let k = ltb-false code 9223372036854775808 p in omega arith))

pub code_fits : (z : ℤ) → complement z < two_word_limit
unfolding complement
code_fits (pos n) = omega arith
code_fits (negsuc n) = omega arith

in_range_lem : (l : List ℤ) → Each (λ (z : ℤ). total_of_words (total_words z) ≡ z) l → Each InRange l
in_range_lem [] h = tt
in_range_lem (z ∷ l) h = (subst InRange h.0 (rw (div-add-mod' (complement z) word_limit) (read_in_range (complement z) (code_fits z))), in_range_lem l h.1)

shaped : (n : ℕ) (l : List (List ℕ)) → Wide (7 + n) l → Each (Shaped n) (map row_of l)
shaped n [] h = tt
shaped n (ws ∷ l) h = (record { long = elim (eqb (get_or ws 4 0) 0) as (λ b. length (cond b [] (drop 7 ws)) ≡ cond b 0 n) [ true ↦ refl | false ↦ simp length-drop (omega (arith, h.0)) ] }, shaped n l h.1)

-- the words of a table, part by part
pub spread : (t : Table) (x : List ℕ) → words_of t ++ x ≡ head_words t ++ (padded most_objects t.header.kinds ++ (padded totals_width (totals_words t.totals) ++ (t.clock ++ (flat t.last ++ (rows_words t ++ x)))))
unfolding words_of
spread t x = in_a_row (head_words t) (padded most_objects t.header.kinds) (padded totals_width (totals_words t.totals)) t.clock (flat t.last) (rows_words t) x

regroup : (h k t r : List ℕ) → h ++ (k ++ (t ++ r)) ≡ (h ++ (k ++ t)) ++ r
regroup h k t r = sym (append_assoc h (k ++ t) r ∙ ap (λ (l : List ℕ). h ++ l) (append_assoc k t r))

-- a part put in the place of another
pub put_part : (before part after new : List ℕ) (a k : ℕ) → length before ≡ a → length part ≡ k → take a (before ++ (part ++ after)) ++ (new ++ drop k (drop a (before ++ (part ++ after)))) ≡ before ++ (new ++ after)
put_part before part after new a k e f = rw (take_at before (part ++ after) a e, drop_at before (part ++ after) a e, drop_at part after k f) refl

-- a piece put in the place of another
pub put_piece : (w k : ℕ) (l : List (List ℕ)) (new x : List ℕ) → Wide w l → k < length l → take (k * w) (flat l ++ x) ++ (new ++ drop w (drop (k * w) (flat l ++ x))) ≡ flat (set l k new) ++ x
put_piece w k [] new x h b = absurd (omega arith)
put_piece w zero (p ∷ l) new x h b = rw (zero-mul w, append_assoc p (flat l) x, drop_at p (flat l ++ x) w h.0) (sym (append_assoc new (flat l) x))
put_piece w (suc k) (p ∷ l) new x h b =
    let e : suc k * w ≡ w + k * w = omega (arith, suc-mul k w) in
    let t = take-add w (k * w) (p ++ (flat l ++ x)) in
    rw (e, append_assoc p (flat l) x, t, take_at p (flat l ++ x) w h.0, ← drop-drop (k * w) w (p ++ (flat l ++ x)), drop_at p (flat l ++ x) w h.0, append_assoc p (take (k * w) (flat l ++ x)))
    (ap (λ (q : List ℕ). p ++ q) (put_piece w k l new x h.1 (omega arith)) ∙ sym (append_assoc p (flat (set l k new)) x))

-- the same behind a front
pub put_behind : (front l new : List ℕ) (a b k : ℕ) → length front ≡ a → take (a + b) (front ++ l) ++ (new ++ drop k (drop (a + b) (front ++ l))) ≡ front ++ (take b l ++ (new ++ drop k (drop b l)))
put_behind front l new a b k e =
    rw (take-add a b (front ++ l), take_at front l a e, ← drop-drop b a (front ++ l), drop_at front l a e) (append_assoc front (take b l) (new ++ drop k (drop b l)))

pub wide_set : (w : ℕ) (l : List (List ℕ)) (k : ℕ) (p : List ℕ) → length p ≡ w → Wide w l → Wide w (set l k p)
wide_set w [] k p e h = tt
wide_set w (q ∷ l) zero p e h = (e, h.1)
wide_set w (q ∷ l) (suc k) p e h = (h.0, wide_set w l k p e h.1)

pub map_set : {A B : Type 0} (f : A → B) (l : List A) (k : ℕ) (x : A) → map f (set l k x) ≡ set (map f l) k (f x)
map_set f [] k x = refl
map_set f (y ∷ l) zero x = refl
map_set f (y ∷ l) (suc k) x = ap (λ (m : List _). f y ∷ m) (map_set f l k x)

-- what laid words spell is well shaped
module _ (s : List ℕ) (T : Laid s) where
  size_is : (table_of s).header.size ≡ size_in s
  unfolding table_of
  size_is = refl

  parts : s ≡ head_words (table_of s) ++ (padded most_objects (table_of s).header.kinds ++ (padded totals_width (totals_words (table_of s).totals) ++ ((table_of s).clock ++ (flat (table_of s).last ++ (rows_words (table_of s) ++ beyond s)))))
  unfolding rewritten
  parts = T.spelt ∙ spread (table_of s) (beyond s)

  kinds_long : length (padded most_objects (table_of s).header.kinds) ≡ most_objects
  kinds_long = length_padded most_objects (table_of s).header.kinds (fit s T).few_kinds

  -- the kinds' words, zeros behind them
  pub kinds_are : take most_objects (drop 7 s) ≡ padded most_objects (table_of s).header.kinds
  kinds_are = ap (λ (l : List ℕ). take most_objects (drop 7 l)) parts ∙ take_at (padded most_objects (table_of s).header.kinds) _ most_objects kinds_long

  totals_are_long : length (padded totals_width (totals_words (table_of s).totals)) ≡ totals_width
  totals_are_long = length_padded totals_width (totals_words (table_of s).totals) (totals_long (table_of s).totals (fit s T).few_totals)

  totals_many : length (table_of s).totals ≡ objects_in s
  unfolding table_of
  totals_many = length-map (pieces 2 (objects_in s) (drop totals_at s)) total_of_words ∙ length_pieces 2 (objects_in s) (drop totals_at s)

  -- every total is what its words spell
  totals_spelt : map total_words (table_of s).totals ≡ pieces 2 (objects_in s) (drop totals_at s)
  totals_spelt =
      let rest = replicate (totals_width - length (totals_words (table_of s).totals)) 0 ++ ((table_of s).clock ++ (flat (table_of s).last ++ (rows_words (table_of s) ++ beyond s))) in
      let at : drop totals_at s ≡ totals_words (table_of s).totals ++ rest =
      ap (drop totals_at) parts ∙ drop_at (padded most_objects (table_of s).header.kinds) _ most_objects kinds_long ∙ append_assoc (totals_words (table_of s).totals) _ _ in
      sym (ap (pieces 2 (objects_in s)) at ∙ pieces_at 2 (objects_in s) (map total_words (table_of s).totals) rest (wide_totals (table_of s).totals) (length-map (table_of s).totals total_words ∙ totals_many))

  totals_back : map total_of_words (map total_words (table_of s).totals) ≡ (table_of s).totals
  unfolding table_of
  totals_back = ap (map total_of_words) totals_spelt

  pub well : Well (table_of s)
  unfolding table_of
  well = record {
    fit = fit s T;
    one = totals_many ∙ sym (length-take-le (objects_in s) (drop 7 s) (simp length-drop (omega (arith, T.room, T.objects))));
    range = in_range_lem (table_of s).totals (back_each total_words total_of_words (table_of s).totals totals_back);
    shape = shaped (size_in s) (rows_in s) (rows_wide s T);
  }

  -- D where it stands
  pub put_clock : (d : List ℕ) → take clock_at s ++ (d ++ drop (size_in s) (drop clock_at s)) ≡ rewritten s (with_clock (table_of s) d)
  unfolding rewritten
  put_clock d =
      let t = table_of s in
      let front = head_words t ++ (padded most_objects t.header.kinds ++ padded totals_width (totals_words t.totals)) in
      let after = flat t.last ++ (rows_words t ++ beyond s) in
      let long : length front ≡ clock_at = omega (arith, kinds_long, totals_are_long, length-append (padded most_objects t.header.kinds) (padded totals_width (totals_words t.totals))) in
      let all : s ≡ front ++ (t.clock ++ after) = parts ∙ regroup (head_words t) (padded most_objects t.header.kinds) (padded totals_width (totals_words t.totals)) (t.clock ++ after) in
      ap (λ (l : List ℕ). take clock_at l ++ (d ++ drop (size_in s) (drop clock_at l))) all
      ∙ put_part front t.clock after d clock_at (size_in s) long ((fit s T).clock_long ∙ size_is)
      ∙ sym (regroup (head_words t) (padded most_objects t.header.kinds) (padded totals_width (totals_words t.totals)) (d ++ after))
      ∙ sym (spread (with_clock t d) (beyond s))

  -- L[k] where it stands
  pub put_last : (k : ℕ) (v : List ℕ) → k < size_in s → take (clock_at + size_in s + k * size_in s) s ++ (v ++ drop (size_in s) (drop (clock_at + size_in s + k * size_in s) s)) ≡ rewritten s (with_last (table_of s) (set (table_of s).last k v))
  unfolding rewritten
  put_last k v h =
      let t = table_of s in
      let n = size_in s in
      let front = (head_words t ++ (padded most_objects t.header.kinds ++ padded totals_width (totals_words t.totals))) ++ t.clock in
      let after = rows_words t ++ beyond s in
      let long : length front ≡ clock_at + n = omega (arith, kinds_long, totals_are_long, (fit s T).clock_long ∙ size_is, length-append (padded most_objects t.header.kinds) (padded totals_width (totals_words t.totals)), length-append (head_words t ++ (padded most_objects t.header.kinds ++ padded totals_width (totals_words t.totals))) t.clock) in
      let to_front : (c r : List ℕ) → head_words t ++ (padded most_objects t.header.kinds ++ (padded totals_width (totals_words t.totals) ++ (c ++ r))) ≡ ((head_words t ++ (padded most_objects t.header.kinds ++ padded totals_width (totals_words t.totals))) ++ c) ++ r =
      λ c r. regroup (head_words t) (padded most_objects t.header.kinds) (padded totals_width (totals_words t.totals)) (c ++ r) ∙ sym (append_assoc (head_words t ++ (padded most_objects t.header.kinds ++ padded totals_width (totals_words t.totals))) c r) in
      let all : s ≡ front ++ (flat t.last ++ after) = parts ∙ to_front t.clock (flat t.last ++ after) in
      let wide : Wide n t.last = subst (λ (m : ℕ). Wide m t.last) size_is (fit s T).last_wide in
      let many : k < length t.last = let e = (fit s T).last_many in let f = size_is in omega arith in
      ap (λ (l : List ℕ). take (clock_at + n + k * n) l ++ (v ++ drop n (drop (clock_at + n + k * n) l))) all
      ∙ put_behind front (flat t.last ++ after) v (clock_at + n) (k * n) n long
      ∙ ap (λ (l : List ℕ). front ++ l) (put_piece n k t.last v after wide many)
      ∙ sym (to_front t.clock (flat (set t.last k v) ++ after))
      ∙ sym (spread (with_last t (set t.last k v)) (beyond s))

  -- a total where it stands
  pub put_total : (o : ℕ) (z : ℤ) → o < objects_in s → take (totals_at + o * 2) s ++ (total_words z ++ drop 2 (drop (totals_at + o * 2) s)) ≡ rewritten s (with_totals (table_of s) (set (table_of s).totals o z))
  unfolding rewritten
  put_total o z h =
      let t = table_of s in
      let front = head_words t ++ padded most_objects t.header.kinds in
      let rest = t.clock ++ (flat t.last ++ (rows_words t ++ beyond s)) in
      let zeros : List ℕ = replicate (totals_width - length (totals_words t.totals)) 0 in
      let long : length front ≡ totals_at = omega (arith, kinds_long) in
      let all : s ≡ front ++ (totals_words t.totals ++ (zeros ++ rest)) =
      parts ∙ sym (append_assoc (head_words t) (padded most_objects t.header.kinds) (padded totals_width (totals_words t.totals) ++ rest)) ∙ ap (λ (l : List ℕ). front ++ l) (append_assoc (totals_words t.totals) zeros rest) in
      let many : o < length (map total_words t.totals) = rw (length-map t.totals total_words, totals_many) h in
      let same : length (flat (set (map total_words t.totals) o (total_words z))) ≡ length (totals_words t.totals) =
      length_flat 2 (set (map total_words t.totals) o (total_words z)) (wide_set 2 (map total_words t.totals) o (total_words z) refl (wide_totals t.totals))
      ∙ rw (length-set (map total_words t.totals) o (total_words z)) (sym (length_flat 2 (map total_words t.totals) (wide_totals t.totals))) in
      ap (λ (l : List ℕ). take (totals_at + o * 2) l ++ (total_words z ++ drop 2 (drop (totals_at + o * 2) l))) all
      ∙ put_behind front (totals_words t.totals ++ (zeros ++ rest)) (total_words z) totals_at (o * 2) 2 long
      ∙ ap (λ (l : List ℕ). front ++ l) (put_piece 2 o (map total_words t.totals) (total_words z) (zeros ++ rest) (wide_totals t.totals) many)
      ∙ ap (λ (l : List ℕ). front ++ l) (sym (append_assoc (flat (set (map total_words t.totals) o (total_words z))) zeros rest)
      ∙ ap (λ (m : ℕ). (flat (set (map total_words t.totals) o (total_words z)) ++ replicate (totals_width - m) 0) ++ rest) (sym same)
      ∙ ap (λ (l : List (List ℕ)). padded totals_width (flat l) ++ rest) (sym (map_set total_words t.totals o z)))
      ∙ append_assoc (head_words t) (padded most_objects t.header.kinds) (padded totals_width (totals_words (set t.totals o z)) ++ rest)
      ∙ sym (spread (with_totals t (set t.totals o z)) (beyond s))

-- the sizes of a table record
pub record Sized (t : Table) : Type 0 where
  pub some : 1 ≤ t.header.size
  pub few : t.header.size ≤ greatest_size
  pub small : t.header.capacity ≤ greatest_capacity t.header.size
  pub within : length t.rows ≤ t.header.capacity

pub sized : (s : List ℕ) → Laid s → Sized (table_of s)
unfolding table_of
sized s T = record { some = T.some; few = T.few; small = T.small; within = rw (length-map (rows_in s) row_of, length_pieces (7 + size_in s) (count_in s) (drop (rows_at (size_in s)) s)) T.within }

pub words_long : (t : Table) → Well t → Sized t → length (words_of t) ≡ space_for t.header.size t.header.capacity
unfolding words_of
words_long t W Z =
    let wide = length_flat (7 + t.header.size) (map (row_words t.header.size) t.rows) (wide_rows t.header.size t.rows (short t.header.size t.rows W.shape)) in
    length-append (front_words t) (rows_words t) ∙ rw (length_front t W.fit, length-append (flat (map (row_words t.header.size) t.rows)), wide, length-map t.rows (row_words t.header.size), length-replicate) (omega (arith, mul-le-mul_right (7 + t.header.size) Z.within))

spelt_again : (t : Table) (x s : List ℕ) → table_of s ≡ t → beyond s ≡ x → s ≡ words_of t ++ x → s ≡ rewritten s (table_of s)
unfolding rewritten
spelt_again t x s e b w = w ∙ ap (λ (u : Table). words_of u ++ x) (sym e) ∙ ap (λ (l : List ℕ). words_of (table_of s) ++ l) (sym b)

-- what is written for a table whose parts are as long as its header says is laid again
pub laid_again : (t : Table) (x : List ℕ) → Well t → Sized t → Laid (words_of t ++ x)
unfolding words_of rewritten
laid_again t x W Z = record {
  room = omega (arith, words_long t W Z, length-append (words_of t) x);
  some = Z.some;
  few = Z.few;
  small = Z.small;
  objects = W.fit.few_kinds;
  within = Z.within;
  spelt = spelt_again t x (words_of t ++ x) (table_read t W x) (drop_at (words_of t) x (space_for t.header.size t.header.capacity) (words_long t W Z)) refl;
}

pub laid_rewritten : (s : List ℕ) (t : Table) → Well t → Sized t → Laid (rewritten s t)
unfolding rewritten
laid_rewritten s t W Z = laid_again t (beyond s) W Z

pub reread : (s : List ℕ) (t : Table) → Well t → table_of (rewritten s t) ≡ t
unfolding rewritten
reread s t W = table_read t W (beyond s)

-- a second table in the place of the first
pub twice : (s : List ℕ) (t u : Table) → Well t → Sized t → rewritten (rewritten s t) u ≡ rewritten s u
unfolding rewritten words_of
twice s t u W Z = ap (λ (l : List ℕ). words_of u ++ l) (drop_at (words_of t) (beyond s) (space_for t.header.size t.header.capacity) (words_long t W Z))

-- the law of two changes: a change of the table that a change wrote is the change of the change
pub and_then : (s s₁ s₂ : List ℕ) (t : Table) (f : Table → Table) → Well t → Sized t → s₁ ≡ rewritten s t → s₂ ≡ rewritten s₁ (f (table_of s₁)) → s₂ ≡ rewritten s (f t)
and_then s s₁ s₂ t f W Z e g =
    let read : table_of s₁ ≡ t = ap table_of e ∙ reread s t W in
    g ∙ rw (read, e) (twice s t (f t) W Z)
