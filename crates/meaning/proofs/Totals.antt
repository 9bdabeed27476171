-- Totals: what an arrival adds, and that a sum over operations of which none comes twice goes by the set of them.
use mathlib.Core.Path.{◌≡◌, refl, sym, ◌∙◌, ap, ap₂, subst}
use mathlib.Core.Bool.{true, ◌&&◌, cond}
use mathlib.Core.Logic.{◌⊎◌, inl, inr, ⊎_elim}
use mathlib.Core.List.Memᴰ
use mathlib.Core.List.{List, [], ◌∷◌, Memᴰ}
use Prim.Native.Nat.{ℕ, ◌+◌, ◌<◌}
use native.Mathlib.Omega.{arith}
use lib.IntN.{ℤ, pos, neg_ℤ, ◌+ℤ◌, ◌-ℤ◌, +ℤ_assoc, +ℤ_comm, neg_ℤ-+ℤ, pos-+ℤ-pos}
use lib.Dec.{eqb}
use lib.ListN.{get_or, set, length}
use lib.Seq.{get_or-set_same, get_or-set_other}
use borrow.Author.Tests.{eqb-true, eqb-false, eq-eqb, ne_eqb}
use Rattle.meaning.specs.Operations.{Operation, is_counter, codes_of, code_allowed}
use Rattle.meaning.specs.Meaning.{of, sum_of, total_of}
use Rattle.meaning.specs.Arrival.{amount_of, totals_after}
use Rattle.meaning.proofs.Tests.{cases, or_cases}
use Rattle.meaning.proofs.KindGroups.{allowed_code}

module _ {A : Type 0} where
  abbrev pub Once : List A → Type 0
  Once [] = Unit {0}
  Once (x ∷ l) = (Memᴰ x l → ⊥) × Once l

  -- the list without one of its members
  without : {x : A} {l : List A} → Memᴰ x l → List A
  without (Memᴰ.head {xs = xs} e) = xs
  without (Memᴰ.tail {x = y} m) = y ∷ without m

  without_in : {x : A} {l : List A} (m : Memᴰ x l) {y : A} → Memᴰ y (without m) → Memᴰ y l
  unfolding without
  without_in (Memᴰ.head e) n = Memᴰ.tail n
  without_in (Memᴰ.tail m) n = ⊎_elim Memᴰ.head (λ k. Memᴰ.tail (without_in m k)) (Memᴰ.cases_cons n)

  without_or : {x : A} {l : List A} (m : Memᴰ x l) {y : A} → Memᴰ y l → (y ≡ x) ⊎ Memᴰ y (without m)
  unfolding without
  without_or (Memᴰ.head e) n = ⊎_elim (λ f. inl (f ∙ sym e)) inr (Memᴰ.cases_cons n)
  without_or (Memᴰ.tail m) n = ⊎_elim (λ f. inr (Memᴰ.head f)) (λ k. ⊎_elim inl (λ j. inr (Memᴰ.tail j)) (without_or m k)) (Memᴰ.cases_cons n)

  without_not : {x : A} {l : List A} (m : Memᴰ x l) → Once l → Memᴰ x (without m) → ⊥
  unfolding without
  without_not (Memᴰ.head e) o n = o.0 (Memᴰ.cast (sym e) n)
  without_not (Memᴰ.tail m) o n = ⊎_elim (λ f. o.0 (Memᴰ.cast (sym f) m)) (λ k. without_not m o.1 k) (Memᴰ.cases_cons n)

  without_once : {x : A} {l : List A} (m : Memᴰ x l) → Once l → Once (without m)
  unfolding without
  without_once (Memᴰ.head e) o = o.1
  without_once (Memᴰ.tail m) o = (λ n. o.0 (without_in m n), without_once m o.1)

  abbrev pub sum : (A → ℕ) → List A → ℕ
  sum f [] = 0
  sum f (x ∷ l) = f x + sum f l

  sum_without : (f : A → ℕ) {x : A} {l : List A} (m : Memᴰ x l) → sum f l ≡ f x + sum f (without m)
  unfolding without
  sum_without f (Memᴰ.head {xs = xs} e) = ap (λ (z : A). f z + sum f xs) (sym e)
  sum_without f {x} (Memᴰ.tail {x = y} m) = ap (λ (z : ℕ). f y + z) (sum_without f m) ∙ swap (f y) (f x) (sum f (without m))
    where
      swap : (a b c : ℕ) → a + (b + c) ≡ b + (a + c)
      swap a b c = omega arith

  -- a sum over a list without repetition goes by its members
  pub sum_same : (f : A → ℕ) (l k : List A) → Once l → Once k → ((x : A) → Memᴰ x l → Memᴰ x k) → ((x : A) → Memᴰ x k → Memᴰ x l) → sum f l ≡ sum f k
  sum_same f [] [] p q to from = refl
  sum_same f [] (y ∷ k) p q to from = elim (from y (Memᴰ.head refl)) [ ]
  sum_same f (x ∷ l) k p q to from =
      let m = to x (Memᴰ.head refl) in
      ap (λ (z : ℕ). f x + z) (sum_same f l (without m) p.1 (without_once m q)
      (λ y n. ⊎_elim (λ e. absurd (p.0 (Memᴰ.cast (sym e) n))) (λ k. k) (without_or m (to y (Memᴰ.tail n))))
      (λ y n. ⊎_elim (λ e. absurd (without_not m q (Memᴰ.cast (sym e) n))) (λ k. k) (Memᴰ.cases_cons (from y (without_in m n)))))
      ∙ sym (sum_without f m)

-- the sums of the definitions are such sums
abbrev amount_with : ℕ → ℕ → Operation → ℕ
amount_with o code u = cond (of o u && eqb u.code code) u.value 0

sum_of_lem : (o code : ℕ) (accepted : List Operation) → sum_of o code accepted ≡ sum (amount_with o code) accepted
sum_of_lem o code [] = refl
sum_of_lem o code (u ∷ accepted) = ap (λ (z : ℕ). amount_with o code u + z) (sum_of_lem o code accepted)

-- a total goes by the set of accepted operations
pub total_same : (o : ℕ) (l k : List Operation) → Once l → Once k → ((x : Operation) → Memᴰ x l → Memᴰ x k) → ((x : Operation) → Memᴰ x k → Memᴰ x l) → total_of o l ≡ total_of o k
unfolding total_of
total_same o l k p q to from = ap₂ (λ (a b : ℕ). pos a -ℤ pos b) (same 1) (same 2)
  where
    same : (code : ℕ) → sum_of o code l ≡ sum_of o code k
    same code = sum_of_lem o code l ∙ sum_same (amount_with o code) l k p q to from ∙ sym (sum_of_lem o code k)

-- one more increase, one more decrease
increase : (v a b : ℕ) → pos (v + a) -ℤ pos b ≡ (pos a -ℤ pos b) +ℤ pos v
increase v a b = ap (λ (z : ℤ). z +ℤ neg_ℤ (pos b)) (sym (pos-+ℤ-pos v a)) ∙ +ℤ_assoc (pos v) (pos a) (neg_ℤ (pos b)) ∙ +ℤ_comm (pos v) (pos a +ℤ neg_ℤ (pos b))

decrease : (v a b : ℕ) → pos a -ℤ pos (v + b) ≡ (pos a -ℤ pos b) +ℤ neg_ℤ (pos v)
decrease v a b =
    ap (λ (z : ℤ). pos a +ℤ neg_ℤ z) (sym (pos-+ℤ-pos v b)) ∙ ap (λ (z : ℤ). pos a +ℤ z) (neg_ℤ-+ℤ (pos v) (pos b))
    ∙ ap (λ (z : ℤ). pos a +ℤ z) (+ℤ_comm (neg_ℤ (pos v)) (neg_ℤ (pos b))) ∙ sym (+ℤ_assoc (pos a) (neg_ℤ (pos b)) (neg_ℤ (pos v)))

-- the code of an operation on a counter
counter_code : (P : ℕ → Type 0) (k c : ℕ) → is_counter k ≡ true → code_allowed k c ≡ true → P 1 → P 2 → P c
unfolding is_counter codes_of
counter_code P k c h l p q = ⊎_elim
    (λ e. allowed_code P 1 c (subst (λ (j : ℕ). code_allowed j c ≡ true) (eqb-true k 1 e) l) (p, tt))
    (λ e. allowed_code P 2 c (subst (λ (j : ℕ). code_allowed j c ≡ true) (eqb-true k 2 e) l) (p, (q, tt)))
    (or_cases (eqb k 1) (eqb k 2) h)

nothing : (n : ℕ) → 0 + n ≡ n
nothing n = omega arith

-- what an operation on the counter itself adds to the definition's total is its amount
pub total_on : (k : ℕ) (u : Operation) (accepted : List Operation) → is_counter k ≡ true → code_allowed k u.code ≡ true → total_of u.object (u ∷ accepted) ≡ total_of u.object accepted +ℤ amount_of u
unfolding total_of amount_of of
total_on k u accepted h l = rw (eq-eqb u.object u.object refl) (counter_code
    (λ (c : ℕ). pos (cond (eqb c 1) u.value 0 + sum_of u.object 1 accepted) -ℤ pos (cond (eqb c 2) u.value 0 + sum_of u.object 2 accepted) ≡ (pos (sum_of u.object 1 accepted) -ℤ pos (sum_of u.object 2 accepted)) +ℤ cond (eqb c 1) (pos u.value) (neg_ℤ (pos u.value)))
    k u.code h l
    (ap (λ (z : ℕ). pos (u.value + sum_of u.object 1 accepted) -ℤ pos z) (nothing (sum_of u.object 2 accepted)) ∙ increase u.value (sum_of u.object 1 accepted) (sum_of u.object 2 accepted))
    (ap (λ (z : ℕ). pos z -ℤ pos (u.value + sum_of u.object 2 accepted)) (nothing (sum_of u.object 1 accepted)) ∙ decrease u.value (sum_of u.object 1 accepted) (sum_of u.object 2 accepted)))

-- an operation on another object adds nothing
pub total_off : (o : ℕ) (u : Operation) (accepted : List Operation) → (u.object ≡ o → ⊥) → total_of o (u ∷ accepted) ≡ total_of o accepted
unfolding total_of of
total_off o u accepted d = rw (ne_eqb u.object o d) (ap₂ (λ (a b : ℕ). pos a -ℤ pos b) (nothing (sum_of o 1 accepted)) (nothing (sum_of o 2 accepted)))

-- the totals of a table after an arrival, at one counter
pub totals_after_lem : (kind_of : ℕ → ℕ) (u : Operation) (totals : List ℤ) (accepted : List Operation) (o : ℕ) → u.object < length totals → code_allowed (kind_of u.object) u.code ≡ true → is_counter (kind_of o) ≡ true →
    get_or totals o (pos 0) ≡ total_of o accepted → get_or (totals_after (kind_of u.object) u totals) o (pos 0) ≡ total_of o (u ∷ accepted)
unfolding totals_after
totals_after_lem kind_of u totals accepted o there l h right = cases (eqb u.object o)
    (λ q. let e = eqb-true u.object o q in
    subst (λ (j : ℕ). is_counter (kind_of j) ≡ true → get_or totals j (pos 0) ≡ total_of j accepted → get_or (cond (is_counter (kind_of u.object)) (set totals u.object (get_or totals u.object (pos 0) +ℤ amount_of u)) totals) j (pos 0) ≡ total_of j (u ∷ accepted)) e
    (λ c r. rw c (get_or-set_same totals u.object (get_or totals u.object (pos 0) +ℤ amount_of u) (pos 0) there ∙ ap (λ (z : ℤ). z +ℤ amount_of u) r ∙ sym (total_on (kind_of u.object) u accepted c l)))
    h right)
    (λ q. let d = eqb-false u.object o q in
    cases (is_counter (kind_of u.object))
    (λ c. rw c (get_or-set_other totals u.object o (get_or totals u.object (pos 0) +ℤ amount_of u) (pos 0) (λ e. d (sym e))))
    (λ c. rw c)
    ∙ right ∙ sym (total_off o u accepted d))
