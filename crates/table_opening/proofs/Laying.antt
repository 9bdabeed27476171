-- The words of a fresh table: a head, the kinds, and zeros.
use Prim.Native.Nat.{ℕ, zero, suc, ◌+◌, ◌-◌, ◌*◌, ◌≤◌}
use mathlib.Core.Path.{◌≡◌, refl, sym, ap, subst, ◌∙◌}
use mathlib.Core.Bool.{true}
use mathlib.Core.List.{List, [], ◌∷◌, ◌++◌, append_assoc}
use native.Mathlib.Nat.{suc-mul, zero-mul}
use native.Mathlib.Omega.{arith}
use mir.Val.{Fits}
use mir.Syntax.{w32}
use lib.IntN.{pos}
use lib.ListN.{length, take, drop, replicate, length-replicate, replicate-append-replicate}
use lib.Seq.{paste, take_all, take_at, drop_at, drop-drop}
use Rattle.meaning.specs.Table.{Header, in_range, zeros, opened, greatest_size, greatest_capacity, most_objects}
use Rattle.meaning.proofs.TableFacts.{HeaderFacts, header_facts}
use Rattle.words_layout.specs.Words.{complement, flat}
use Rattle.words_layout.specs.Layout.{words_of, totals_words, space_for, table_mark, clock_at, totals_width}
use Rattle.words_layout.proofs.Whole.{zeros_drop, zeros_join}
use Rattle.words_layout.proofs.Reading.{in_a_row}
use Rattle.table_ranges.specs.Headers.{header_of}
use Rattle.table_opening.specs.Opening.{headed}

-- zeros one after the other
flat_zeros : (n k : ℕ) → flat (replicate n (replicate k 0)) ≡ replicate (n * k) 0
flat_zeros zero k = rw (zero-mul k) refl
flat_zeros (suc n) k = rw (flat_zeros n k, replicate-append-replicate {A = ℕ} k (n * k) 0) (let e : k + n * k ≡ suc n * k = omega (arith, suc-mul n k) in rw e refl)

totals_zero : (n : ℕ) → totals_words (replicate n (pos 0)) ≡ replicate (n * 2) 0
unfolding complement
totals_zero zero = refl
totals_zero (suc n) = let e : suc n * 2 ≡ suc (suc (n * 2)) = omega arith in rw e (ap (λ (l : List ℕ). 0 ∷ 0 ∷ l) (totals_zero n))

-- a fresh table in words
pub fresh_words : (header : Header) (x : List ℕ) → length header.kinds ≤ most_objects →
    words_of (opened header) ++ x ≡ table_mark ∷ header.size ∷ header.own ∷ header.capacity ∷ length header.kinds ∷ 0 ∷ 0 ∷ (header.kinds ++ (replicate (space_for header.size header.capacity - 7 - length header.kinds) 0 ++ x))
unfolding words_of opened zeros
fresh_words header x few =
    let n = header.size in
    let c = length header.kinds in
    let kinds = header.kinds in
    let w = header.capacity * (7 + n) in
    let long : length (replicate {A = ℕ} (c * 2) 0) ≡ c * 2 = length-replicate (c * 2) 0 in
    let rest : replicate (most_objects - c) 0 ++ (replicate (c * 2) 0 ++ (replicate (totals_width - c * 2) 0 ++ (replicate n 0 ++ (replicate (n * n) 0 ++ (replicate (w - 0) 0 ++ x))))) ≡ replicate (clock_at + n + n * n + w - 7 - c) 0 ++ x =
    rw (zeros_join (n * n) (w - 0) x, zeros_join n (n * n + (w - 0)) x, zeros_join (totals_width - c * 2) (n + (n * n + (w - 0))) x, zeros_join (c * 2) (totals_width - c * 2 + (n + (n * n + (w - 0)))) x, zeros_join (most_objects - c) (c * 2 + (totals_width - c * 2 + (n + (n * n + (w - 0))))) x)
    (let m : most_objects - c + (c * 2 + (totals_width - c * 2 + (n + (n * n + (w - 0))))) ≡ clock_at + n + n * n + w - 7 - c = omega arith in rw m refl) in
    rw (totals_zero c, long, flat_zeros n n)
    (in_a_row (table_mark ∷ n ∷ header.own ∷ header.capacity ∷ c ∷ 0 ∷ 0 ∷ []) (kinds ++ replicate (most_objects - c) 0) (replicate (c * 2) 0 ++ replicate (totals_width - c * 2) 0) (replicate n 0) (replicate (n * n) 0) (replicate (w - 0) 0) x
    ∙ ap (λ (l : List ℕ). table_mark ∷ n ∷ header.own ∷ header.capacity ∷ c ∷ 0 ∷ 0 ∷ l) (append_assoc kinds (replicate (most_objects - c) 0) _ ∙ ap (λ (l : List ℕ). kinds ++ (replicate (most_objects - c) 0 ++ l)) (append_assoc (replicate (c * 2) 0) (replicate (totals_width - c * 2) 0) _) ∙ ap (λ (l : List ℕ). kinds ++ l) rest))

-- zeros, then a head, then the kinds
module _ (s head kinds : List ℕ) (needed : ℕ) (seven : length head ≡ 7) (fit : 7 + length kinds ≤ needed) (room : needed ≤ length s) where
  pub laid : (t u x : List ℕ) → t ≡ take 0 s ++ replicate (needed - 0) 0 ++ drop needed s → u ≡ paste t 0 head (length head) → x ≡ paste u 7 kinds (length kinds) → x ≡ headed head kinds needed s
  unfolding headed
  laid t u x e f g =
      let z : needed - 0 ≡ needed = omega arith in
      let u_is : u ≡ head ++ (replicate (needed - 7) 0 ++ drop needed s) = f ∙ rw (take_all (length head) head (omega arith), seven, e, z) (ap (λ (l : List ℕ). head ++ l) (zeros_drop needed 7 (drop needed s) (omega arith))) in
      let k_all = take_all (length kinds) kinds (omega arith) in
      g ∙ rw (k_all, u_is, take_at head (replicate (needed - 7) 0 ++ drop needed s) 7 seven, ← drop-drop (length kinds) 7 (head ++ (replicate (needed - 7) 0 ++ drop needed s)), drop_at head (replicate (needed - 7) 0 ++ drop needed s) 7 seven, zeros_drop (needed - 7) (length kinds) (drop needed s) (omega arith)) (append_assoc head kinds _)

-- what an opening needs, with the numbers of its header
module _ (s kinds : List ℕ) (size own capacity : ℕ) (range : in_range (header_of size own capacity kinds) ≡ true) (room : space_for size capacity ≤ length s) where
  H : HeaderFacts (header_of size own capacity kinds)
  H = header_facts (header_of size own capacity kinds) range

  module _ (n : ℕ) (en : n ≡ size) where
    pub small : capacity ≤ greatest_capacity n
    small = subst (λ (m : ℕ). capacity ≤ greatest_capacity m) (sym en) H.capacity_range.1

    pub few : n ≤ greatest_size
    few = let h = H.size_range.1 in omega arith

    module _ (needed : ℕ) (e : needed ≡ space_for n capacity) where
      pub kinds_fit : 7 + length kinds ≤ needed
      kinds_fit = let h = H.objects_range.1 in rw e (omega arith)

      pub needed_room : needed ≤ length s
      needed_room = rw (e, en) room

      pub table_laid : (x : List ℕ) → x ≡ headed (1919904876 ∷ size ∷ own ∷ capacity ∷ length kinds ∷ 0 ∷ 0 ∷ []) kinds needed s → x ≡ words_of (opened (header_of size own capacity kinds)) ++ drop (space_for size capacity) s
      unfolding headed
      table_laid x f = f ∙ rw (e, en) (sym (fresh_words (header_of size own capacity kinds) (drop (space_for size capacity) s) H.objects_range.1))

  pub objects_fit : Fits w32 (length kinds)
  objects_fit = let h = H.objects_range.1 in omega arith
