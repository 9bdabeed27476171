-- Rows in order: those of one value stand side by side, its adds before its removes.
use mathlib.Core.Path.{◌≡◌, refl, sym, ◌∙◌, subst}
use mathlib.Core.Bool.{Bool, true, false, cond}
use mathlib.Core.Logic.{◌⊎◌, inl, inr, ⊎_elim}
use mathlib.Core.List.Memᴰ
use mathlib.Core.List.{List, [], ◌∷◌, ◌++◌, Memᴰ}
use Prim.Native.Nat.{ℕ, ◌<◌, ◌≤◌}
use native.Mathlib.Omega.{arith}
use lib.Dec.{eqb}
use borrow.Author.Tests.{eq-eqb}
use Rattle.meaning.specs.Tests.{any}
use Rattle.meaning.specs.Operations.{Operation, number_of}
use Rattle.meaning.specs.Meaning.{on}
use Rattle.meaning.specs.Rows.{Row, settled_row, key_of, lower_key, lower_row}
use Rattle.meaning.specs.Arrival.{same_value}
use Rattle.meaning.proofs.Tests.{iff, clash, and_both, any_in, any_out}
use Rattle.meaning.proofs.Ascending.{Sorted, lower_cases, row_irreflexive, asc_left, asc_cross}
use Rattle.meaning.proofs.RowLaws.{on_eq, on_self}

-- of two rows in order, the lower has the lower object, or the same object and no higher value, or both the same and no higher code
abbrev pub InOrder : (object value code object' value' code' : ℕ) → Type 0
InOrder o v c o' v' c' = (o < o') ⊎ ((o ≡ o') × ((v < v') ⊎ ((v ≡ v') × (c ≤ c'))))

ordered_keys : (o v c o' v' c' : ℕ) (t t' : List ℕ) → lower_key (o ∷ v ∷ c ∷ t) (o' ∷ v' ∷ c' ∷ t') ≡ true → InOrder o v c o' v' c'
ordered_keys o v c o' v' c' t t' h = ⊎_elim inl
    (λ p. inr (
      p.0,
      ⊎_elim inl
          (λ q. inr (q.0, ⊎_elim (λ r. omega arith) (λ r. let k = r.0 in omega arith) (lower_cases c c' t t' q.1)))
          (lower_cases v v' (c ∷ t) (c' ∷ t') p.1),
    ))
    (lower_cases o o' (v ∷ c ∷ t) (v' ∷ c' ∷ t') h)

pub ordered : (a b : Row) → lower_row a b ≡ true → InOrder a.operation.object a.operation.value a.operation.code b.operation.object b.operation.value b.operation.code
unfolding lower_row key_of
ordered a b h = ordered_keys a.operation.object a.operation.value a.operation.code b.operation.object b.operation.value b.operation.code
    (cond a.settled 0 1 ∷ a.operation.sender ∷ number_of a.operation ∷ []) (cond b.settled 0 1 ∷ b.operation.sender ∷ number_of b.operation ∷ []) h

-- a row between two of one object and value is of that object and value too
pub between : (o v : ℕ) (a b c : Row) → on o v a.operation ≡ true → on o v c.operation ≡ true → lower_row a b ≡ true → (b ≡ c) ⊎ (lower_row b c ≡ true) → on o v b.operation ≡ true
unfolding on
between o v a b c p q h k =
    let ea = on_eq o v a.operation p in
    let ec = on_eq o v c.operation q in
    ⊎_elim (λ e. subst (λ (r : Row). on o v r.operation ≡ true) (sym e) q)
    (λ l. ⊎_elim (λ x. ⊎_elim (λ y. absurd (omega arith)) (λ y. absurd (let z = y.0 in omega arith)) (ordered b c l))
    (λ x. ⊎_elim (λ y. absurd (let z = x.0 in omega arith))
    (λ y. let same_object : b.operation.object ≡ o = (let z = x.0 in omega arith) in
    let same_value_lem : b.operation.value ≡ v = ⊎_elim
    (λ f. ⊎_elim (λ g. absurd (omega arith)) (λ g. absurd (let z = g.0 in omega arith)) y.1)
    (λ f. let z = f.0 in omega arith) x.1 in
    and_both (eqb b.operation.object o) (eqb b.operation.value v) (eq-eqb b.operation.object o same_object) (eq-eqb b.operation.value v same_value_lem))
    (ordered b c l)) (ordered a b h)) k

-- of two rows in order and of one value, the lower has no higher code
pub code_rises : (o v : ℕ) (a b : Row) → lower_row a b ≡ true → on o v a.operation ≡ true → on o v b.operation ≡ true → a.operation.code ≤ b.operation.code
code_rises o v a b h p q =
    let ea = on_eq o v a.operation p in
    let eb = on_eq o v b.operation q in
    ⊎_elim (λ x. absurd (omega arith)) (λ x. ⊎_elim (λ y. absurd (omega arith)) (λ y. y.1) x.1) (ordered a b h)

-- two settled rows in order are not of one value and code
pub settled_once : (a b : Operation) → lower_row (settled_row a) (settled_row b) ≡ true → a.object ≡ b.object → a.value ≡ b.value → a.code ≡ b.code → ⊥
unfolding lower_row key_of
settled_once a b h e f g = clash (lower_row (settled_row b) (settled_row b)) (rw (e, f, g) at h) (row_irreflexive (settled_row b))

module _ (row : Row) where
  same_at : (other : Row) → same_value row.operation other ≡ on row.operation.object row.operation.value other.operation
  unfolding same_value
  same_at other = refl

  own : on row.operation.object row.operation.value row.operation ≡ true
  own = on_self row.operation

  -- a row behind is of the value where the next one is
  pub behind_same : (next : Row) (rest : List Row) → Sorted (row ∷ next ∷ rest) → any (same_value row.operation) (next ∷ rest) ≡ same_value row.operation next
  behind_same next rest h = iff (any (same_value row.operation) (next ∷ rest)) (same_value row.operation next)
      (λ e. let s = any_out (same_value row.operation) (next ∷ rest) e in
      same_at next ∙ between row.operation.object row.operation.value row next s.0 own (sym (same_at s.0) ∙ s.2)
      (h.0 next (Memᴰ.head refl)) (⊎_elim (λ f. inl (sym f)) (λ m. inr (h.1.0 s.0 m)) (Memᴰ.cases_cons s.1)))
      (λ e. any_in (same_value row.operation) {l = next ∷ rest} (Memᴰ.head refl) e)

  -- a row above is of the value where the last one is
  pub above_same : (above below : List Row) (last : Row) → Sorted ((above ++ (last ∷ [])) ++ (row ∷ below)) → any (same_value row.operation) (above ++ (last ∷ [])) ≡ same_value row.operation last
  above_same above below last h =
      let cross = asc_cross lower_row (above ++ (last ∷ [])) (row ∷ below) h in
      let inner = asc_cross lower_row above (last ∷ []) in
      iff (any (same_value row.operation) (above ++ (last ∷ []))) (same_value row.operation last)
      (λ e. let s = any_out (same_value row.operation) (above ++ (last ∷ [])) e in
      ⊎_elim
      (λ m. same_at last ∙ between row.operation.object row.operation.value s.0 last row (sym (same_at s.0) ∙ s.2) own
      (inner (left h) s.0 last m (Memᴰ.head refl)) (inr (cross last row (Memᴰ.append_right above (Memᴰ.head refl)) (Memᴰ.head refl))))
      (λ m. ⊎_elim (λ f. subst (λ (r : Row). same_value row.operation r ≡ true) f s.2) (λ n. elim n [ ]) (Memᴰ.cases_cons m))
      (Memᴰ.append_cases above s.1))
      (λ e. any_in (same_value row.operation) {l = above ++ (last ∷ [])} (Memᴰ.append_right above (Memᴰ.head refl)) e)
    where
      left : Sorted ((above ++ (last ∷ [])) ++ (row ∷ below)) → Sorted (above ++ (last ∷ []))
      left h = asc_left lower_row (above ++ (last ∷ [])) (row ∷ below) h

-- of two rows in order and of one value and code, the lower is settled where the other is
pub settled_first : (a b : Row) → lower_row a b ≡ true → a.operation.object ≡ b.operation.object → a.operation.value ≡ b.operation.value → a.operation.code ≡ b.operation.code → b.settled ≡ true → a.settled ≡ true
unfolding lower_row key_of
settled_first a b h e f g s = by a.settled
    (⊎_elim (λ x. absurd (omega arith)) (λ x. ⊎_elim (λ y. absurd (omega arith)) (λ y. ⊎_elim (λ z. absurd (omega arith)) (λ z. rw s at z.1) (lower_cases a.operation.code b.operation.code ((cond a.settled 0 1) ∷ tail a) ((cond b.settled 0 1) ∷ tail b) y.1)) (lower_cases a.operation.value b.operation.value (a.operation.code ∷ (cond a.settled 0 1) ∷ tail a) (b.operation.code ∷ (cond b.settled 0 1) ∷ tail b) x.1)) (lower_cases a.operation.object b.operation.object (a.operation.value ∷ a.operation.code ∷ (cond a.settled 0 1) ∷ tail a) (b.operation.value ∷ b.operation.code ∷ (cond b.settled 0 1) ∷ tail b) h))
  where
    tail : Row → List ℕ
    tail r = r.operation.sender ∷ number_of r.operation ∷ []

    by : (x : Bool) → lower_key (cond x 0 1 ∷ tail a) (0 ∷ tail b) ≡ true → x ≡ true
    by true k = refl
    by false k = ⊎_elim (λ z. absurd (omega arith)) (λ z. absurd (let e = z.0 in omega arith)) (lower_cases 1 0 (tail a) (tail b) k)
