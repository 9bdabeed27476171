-- Rows of which each may follow the one before it are in strict order, with one row a value in kind 4, and the other way round.
use Prim.Native.Nat.{ℕ, ◌+◌, ◌*◌, ◌≤◌, ◌<◌}
use mathlib.Core.Path.{◌≡◌, refl, sym, ap, ◌∙◌}
use mathlib.Core.Bool.{Bool, true, false, not, ◌&&◌, ◌||◌, cond, and-false}
use mathlib.Core.Logic.{⊎_elim}
use mathlib.Core.List.Memᴰ
use mathlib.Core.List.{List, [], ◌∷◌, map}
use native.Mathlib.Omega.{arith}
use borrow.Author.Tests.{eqb-true, eqb-false, eq-eqb}
use lib.Dec.{eqb, ltb}
use lib.ListN.{length, get_or, take}
use lib.Seq.{take-take}
use Rattle.meaning.specs.Tests.{any}
use Rattle.meaning.specs.Order.{same}
use Rattle.meaning.specs.Operations.{number_of}
use Rattle.meaning.specs.Meaning.{on}
use Rattle.meaning.specs.Rows.{Row, key_of, lower_key, lower_row}
use Rattle.meaning.specs.Arrival.{same_value}
use Rattle.meaning.specs.Table.{one_row_a_value}
use Rattle.meaning.proofs.Tests.{cases, clash, iff, and_left, and_right, and_both, fails, fails_not, not_holds, any_out, or_left}
use Rattle.meaning.proofs.Ascending.{Sorted, lower_cases, lower_by_first, lower_by_rest, row_trans}
use Rattle.words_layout.specs.Layout.{row_of, row_words}
use Rattle.words_layout.proofs.Pieces.{Each}
use Rattle.words_layout.proofs.Spelling.{seven}
use Rattle.table_rules_rows.specs.RowTests.{follows, chained}
use Rattle.words_layout.specs.Words.{word_limit}

-- words from which a row can be read and written back
pub record Readable (n : ℕ) (ws : List ℕ) : Type 0 where
  pub long : 7 ≤ length ws
  pub low : get_or ws 2 0 < word_limit
  pub written : row_words n (row_of ws) ≡ ws

-- a number in two words is compared by its words
module _ (h l h' l' : ℕ) (p q : List ℕ) (f : l < word_limit) (g : l' < word_limit) where
  abbrev value : ℕ
  value = h * word_limit + l

  abbrev value' : ℕ
  value' = h' * word_limit + l'

  two_words : lower_key (h ∷ l ∷ p) (h' ∷ l' ∷ q) ≡ lower_key (value ∷ p) (value' ∷ q)
  two_words = iff (lower_key (h ∷ l ∷ p) (h' ∷ l' ∷ q)) (lower_key (value ∷ p) (value' ∷ q))
      (λ e. ⊎_elim
      (λ a. lower_by_first value value' p q (omega arith))
      (λ a. ⊎_elim (λ b. lower_by_first value value' p q (omega arith)) (λ b. lower_by_rest value value' p q (omega arith) b.1) (lower_cases l l' p q a.1))
      (lower_cases h h' (l ∷ p) (l' ∷ q) e))
      (λ e. ⊎_elim
      (λ a. cases (eqb h h')
      (λ t. lower_by_rest h h' (l ∷ p) (l' ∷ q) (eqb-true h h' t) (lower_by_first l l' p q (omega (arith, eqb-true h h' t))))
      (λ t. lower_by_first h h' (l ∷ p) (l' ∷ q) (let d = eqb-false h h' t in omega arith)))
      (λ a. lower_by_rest h h' (l ∷ p) (l' ∷ q) (omega arith) (lower_by_rest l l' p q (omega arith) a.1))
      (lower_cases value value' p q e))

-- what follows the value in a key
abbrev tail_in : List ℕ → List ℕ
tail_in a = get_or a 3 0 ∷ get_or a 4 0 ∷ get_or a 5 0 ∷ get_or a 6 0 ∷ []

abbrev tail_of : Row → List ℕ
tail_of row = row.operation.code ∷ cond row.settled 0 1 ∷ row.operation.sender ∷ number_of row.operation ∷ []

-- the key of a row, from its words
key_read : (n : ℕ) (a : List ℕ) → Readable n a → key_of (row_of a) ≡ get_or a 0 0 ∷ (get_or a 1 0 * word_limit + get_or a 2 0) ∷ get_or a 3 0 ∷ get_or a 4 0 ∷ get_or a 5 0 ∷ get_or a 6 0 ∷ []
unfolding key_of
key_read n a R =
    let word : cond (eqb (get_or a 4 0) 0) 0 1 ≡ get_or a 4 0 = ap (λ (l : List ℕ). get_or l 4 0) R.written in
    let number : number_of (row_of a).operation ≡ get_or a 6 0 = ap (λ (l : List ℕ). get_or l 6 0) R.written in
    rw (number, word) refl

three : (c : List ℕ) → 7 ≤ length c → take 3 c ≡ get_or c 0 0 ∷ get_or c 1 0 ∷ get_or c 2 0 ∷ []
three c h = sym (take-take 3 7 c (omega arith)) ∙ ap (take 3) (seven c h)

-- the first three words of two rows tell whether they are of one object and value
pub same_words : (a b : List ℕ) → 7 ≤ length a → 7 ≤ length b → get_or a 2 0 < word_limit → get_or b 2 0 < word_limit → same (take 3 a) (take 3 b) ≡ same_value (row_of a).operation (row_of b)
unfolding same_value on
same_words a b la lb fa fb =
    let o = eqb (get_or a 0 0) (get_or b 0 0) in
    let h = eqb (get_or a 1 0) (get_or b 1 0) in
    let l = eqb (get_or a 2 0) (get_or b 2 0) in
    let u = get_or a 1 0 * word_limit + get_or a 2 0 in
    let v = get_or b 1 0 * word_limit + get_or b 2 0 in
    rw (three a la, three b lb) (iff (o && (h && (l && true))) (eqb (get_or b 0 0) (get_or a 0 0) && eqb v u)
    (λ e.
    let r = and_right o (h && (l && true)) e in
    let r1 = and_right h (l && true) r in
    and_both (eqb (get_or b 0 0) (get_or a 0 0)) (eqb v u)
    (eq-eqb (get_or b 0 0) (get_or a 0 0) (sym (eqb-true (get_or a 0 0) (get_or b 0 0) (and_left o (h && (l && true)) e))))
    (eq-eqb v u (omega (arith, eqb-true (get_or a 1 0) (get_or b 1 0) (and_left h (l && true) r), eqb-true (get_or a 2 0) (get_or b 2 0) (and_left l true r1)))))
    (λ e.
    let x = eqb-true (get_or b 0 0) (get_or a 0 0) (and_left (eqb (get_or b 0 0) (get_or a 0 0)) (eqb v u) e) in
    let y = eqb-true v u (and_right (eqb (get_or b 0 0) (get_or a 0 0)) (eqb v u) e) in
    and_both o (h && (l && true)) (eq-eqb (get_or a 0 0) (get_or b 0 0) (sym x)) (and_both h (l && true) (eq-eqb (get_or a 1 0) (get_or b 1 0) (omega arith)) (and_both l true (eq-eqb (get_or a 2 0) (get_or b 2 0) (omega arith)) refl))))

module _ (n : ℕ) (a b : List ℕ) (A : Readable n a) (B : Readable n b) where
  pub lower_row_lem : lower_key (take 7 a) (take 7 b) ≡ lower_row (row_of a) (row_of b)
  unfolding lower_row
  lower_row_lem =
      rw (seven a A.long, seven b B.long, key_read n a A, key_read n b B)
      (ap (λ (t : Bool). ltb (get_or a 0 0) (get_or b 0 0) || (eqb (get_or a 0 0) (get_or b 0 0) && t)) (two_words (get_or a 1 0) (get_or a 2 0) (get_or b 1 0) (get_or b 2 0) (tail_in a) (tail_in b) A.low B.low))

  pub same_value_lem : same (take 3 a) (take 3 b) ≡ same_value (row_of a).operation (row_of b)
  same_value_lem = same_words a b A.long B.long A.low B.low

-- a row between two of one object and value is of that object and value
lower_le : (x y : ℕ) (p q : List ℕ) → lower_key (x ∷ p) (y ∷ q) ≡ true → x ≤ y
lower_le x y p q e = ⊎_elim (λ h. omega arith) (λ h. omega arith) (lower_cases x y p q e)

lower_rest : (x y : ℕ) (p q : List ℕ) → lower_key (x ∷ p) (y ∷ q) ≡ true → x ≡ y → lower_key p q ≡ true
lower_rest x y p q e s = ⊎_elim (λ h. absurd (omega arith)) (λ h. h.1) (lower_cases x y p q e)

between_same : (a b x : Row) → lower_row a b ≡ true → lower_row b x ≡ true → same_value a.operation x ≡ true → same_value a.operation b ≡ true
unfolding lower_row key_of same_value on
between_same a b x p q e =
    let ao = a.operation.object in
    let bo = b.operation.object in
    let xo = x.operation.object in
    let av = a.operation.value in
    let bv = b.operation.value in
    let xv = x.operation.value in
    let so = eqb-true xo ao (and_left (eqb xo ao) (eqb xv av) e) in
    let sv = eqb-true xv av (and_right (eqb xo ao) (eqb xv av) e) in
    let o1 = lower_le ao bo (av ∷ tail_of a) (bv ∷ tail_of b) p in
    let o2 = lower_le bo xo (bv ∷ tail_of b) (xv ∷ tail_of x) q in
    let eo : bo ≡ ao = omega arith in
    let v1 = lower_le av bv (tail_of a) (tail_of b) (lower_rest ao bo (av ∷ tail_of a) (bv ∷ tail_of b) p (sym eo)) in
    let v2 = lower_le bv xv (tail_of b) (tail_of x) (lower_rest bo xo (bv ∷ tail_of b) (xv ∷ tail_of x) q (omega arith)) in
    and_both (eqb bo ao) (eqb bv av) (eq-eqb bo ao eo) (eq-eqb bv av (omega arith))

module _ (n : ℕ) (kinds : List ℕ) where
  abbrev kind_at : ℕ → ℕ
  kind_at o = get_or kinds o 0

  -- one row and the next: what the test says, in the words of the meaning
  follows_out : (a b : List ℕ) → Readable n a → Readable n b → follows kinds a b ≡ true → (lower_row (row_of a) (row_of b) ≡ true) × (eqb (kind_at (get_or a 0 0)) 4 ≡ true → same_value (row_of a).operation (row_of b) ≡ false)
  unfolding follows same_value on
  follows_out a b A B e =
      let k = eqb (kind_at (get_or b 0 0)) 4 in
      let s = same (take 3 a) (take 3 b) in
      let l = lower_key (take 7 a) (take 7 b) in
      let none = not_holds (k && s) (and_left (not (k && s)) l e) in (
        sym (lower_row_lem n a b A B) ∙ and_right (not (k && s)) l e,
        λ four. fails (same_value (row_of a).operation (row_of b)) (λ q.
            let o = eqb-true (get_or b 0 0) (get_or a 0 0) (and_left (eqb (get_or b 0 0) (get_or a 0 0)) (eqb (row_of b).operation.value (row_of a).operation.value) q) in
            clash (k && s) (and_both k s (rw o four) (same_value_lem n a b A B ∙ q)) none),
      )

  follows_in : (a b : List ℕ) → Readable n a → Readable n b → lower_row (row_of a) (row_of b) ≡ true → (eqb (kind_at (get_or a 0 0)) 4 ≡ true → same_value (row_of a).operation (row_of b) ≡ false) → follows kinds a b ≡ true
  unfolding follows same_value on
  follows_in a b A B l f =
      let k = eqb (kind_at (get_or b 0 0)) 4 in
      let s = same (take 3 a) (take 3 b) in
      and_both (not (k && s)) (lower_key (take 7 a) (take 7 b))
      (fails_not (k && s) (fails (k && s) (λ e.
      let q = sym (same_value_lem n a b A B) ∙ and_right k s e in
      let o = eqb-true (get_or b 0 0) (get_or a 0 0) (and_left (eqb (get_or b 0 0) (get_or a 0 0)) (eqb (row_of b).operation.value (row_of a).operation.value) q) in
      clash (same_value (row_of a).operation (row_of b)) q (f (rw o at (and_left k s e))))))
      (lower_row_lem n a b A B ∙ l)

  pub chain_sorted : (l : List (List ℕ)) → Each (Readable n) l → chained (follows kinds) l ≡ true → Sorted (map row_of l)
  chain_sorted [] R e = tt
  chain_sorted (a ∷ []) R e = (λ y m. elim m [ ], tt)
  chain_sorted (a ∷ b ∷ l) R e =
      let first = follows_out a b R.0 R.1.0 (and_left (follows kinds a b) (chained (follows kinds) (b ∷ l)) e) in
      let rest = chain_sorted (b ∷ l) R.1 (and_right (follows kinds a b) (chained (follows kinds) (b ∷ l)) e) in
      (λ y m. ⊎_elim (λ q. rw q first.0) (λ k. row_trans (row_of a) (row_of b) y first.0 (rest.0 y k)) (Memᴰ.cases_cons m), rest)

  pub chain_one_row : (l : List (List ℕ)) → Each (Readable n) l → chained (follows kinds) l ≡ true → one_row_a_value kind_at (map row_of l) ≡ true
  chain_one_row [] R e = refl
  chain_one_row (a ∷ []) R e = rw (and-false (eqb (kind_at (get_or a 0 0)) 4)) refl
  chain_one_row (a ∷ b ∷ l) R e =
      let four = eqb (kind_at (get_or a 0 0)) 4 in
      let some = any (same_value (row_of a).operation) (map row_of (b ∷ l)) in
      let first = follows_out a b R.0 R.1.0 (and_left (follows kinds a b) (chained (follows kinds) (b ∷ l)) e) in
      let sorted = chain_sorted (b ∷ l) R.1 (and_right (follows kinds a b) (chained (follows kinds) (b ∷ l)) e) in
      and_both (not (four && some)) (one_row_a_value kind_at (map row_of (b ∷ l)))
      (fails_not (four && some) (fails (four && some) (λ q.
      let x = any_out (same_value (row_of a).operation) (map row_of (b ∷ l)) (and_right four some q) in
      clash (same_value (row_of a).operation (row_of b))
      (⊎_elim (λ s. rw s at x.2) (λ k. between_same (row_of a) (row_of b) x.0 first.0 (sorted.0 x.0 k) x.2) (Memᴰ.cases_cons x.1))
      (first.1 (and_left four some q)))))
      (chain_one_row (b ∷ l) R.1 (and_right (follows kinds a b) (chained (follows kinds) (b ∷ l)) e))

  pub sorted_chain : (l : List (List ℕ)) → Each (Readable n) l → Sorted (map row_of l) → one_row_a_value kind_at (map row_of l) ≡ true → chained (follows kinds) l ≡ true
  sorted_chain [] R S e = refl
  sorted_chain (a ∷ []) R S e = refl
  sorted_chain (a ∷ b ∷ l) R S e =
      let four = eqb (kind_at (get_or a 0 0)) 4 in
      let here = same_value (row_of a).operation (row_of b) in
      let later = any (same_value (row_of a).operation) (map row_of l) in
      let one = and_left (not (four && (here || later))) (one_row_a_value kind_at (map row_of (b ∷ l))) e in
      and_both (follows kinds a b) (chained (follows kinds) (b ∷ l))
      (follows_in a b R.0 R.1.0 (S.0 (row_of b) (Memᴰ.head refl)) (λ f. fails here (λ h. clash (four && (here || later)) (and_both four (here || later) f (or_left later h)) (not_holds (four && (here || later)) one))))
      (sorted_chain (b ∷ l) R.1 S.1 (and_right (not (four && (here || later))) (one_row_a_value kind_at (map row_of (b ∷ l))) e))
