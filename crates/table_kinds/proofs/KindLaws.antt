-- What a number that is no kind's says, and facts of each kind.
use Rattle.std.specs.Prelude.{◌⊎◌}
use Rattle.std.proofs.Common.{inl, inr, lit≤}
use Prim.Native.Nat.{ℕ, ◌≤◌, ◌<◌}
use mathlib.Core.Path.{◌≡◌, refl, sym, subst}
use mathlib.Core.Bool.{false}
use mathlib.Core.List.{List, [], ◌∷◌}
use native.Mathlib.Omega.{arith}
use borrow.Author.Tests.{eqb-true, eqb-false, ne_eqb}
use lib.Dec.{eqb}
use lib.ListN.{length, get_or, get_or-eq_default}
use Rattle.meaning.specs.Operations.{codes_of, is_counter, removes_stand}
use Rattle.meaning.proofs.Tests.{cases}

-- no number but a kind's is a counter's, or that of a kind in which removes stand
module _ (number : ℕ) (none : number < 1 ⊎ 9 < number) where
  other : (kind : ℕ) → 1 ≤ kind → kind ≤ 9 → eqb number kind ≡ false
  other kind low high = ne_eqb number kind (λ e. elim none [ inl below ↦ omega (arith, e, below, low) | inr above ↦ omega (arith, e, above, high) ])

  pub none_counts : false ≡ is_counter number
  unfolding is_counter
  none_counts = rw (other 1 (lit≤ tt) (lit≤ tt), other 2 (lit≤ tt) (lit≤ tt)) refl

  pub none_stands : false ≡ removes_stand number
  unfolding removes_stand
  none_stands = rw (other 6 (lit≤ tt) (lit≤ tt), other 9 (lit≤ tt) (lit≤ tt)) refl

-- a fact of each kind that keeps rows
at_kind : (P : ℕ → Type 0) (k m : ℕ) → P m → ((k ≡ m → ⊥) → P k) → P k
at_kind P k m p f = cases (eqb k m) (λ e. subst P (sym (eqb-true k m e)) p) (λ e. f (eqb-false k m e))

pub by_row_kind : (P : ℕ → Type 0) → P 3 → P 4 → P 5 → P 6 → P 7 → P 8 → P 9 → (k : ℕ) → 3 ≤ k → k ≤ 9 → P k
by_row_kind P p3 p4 p5 p6 p7 p8 p9 k low high =
    at_kind P k 3 p3 (λ n3. at_kind P k 4 p4 (λ n4. at_kind P k 5 p5 (λ n5. at_kind P k 6 p6 (λ n6. at_kind P k 7 p7 (λ n7. at_kind P k 8 p8 (λ n8. subst P (omega arith) p9))))))

-- and of the counters too
pub by_kind : (P : ℕ → Type 0) → P 1 → P 2 → P 3 → P 4 → P 5 → P 6 → P 7 → P 8 → P 9 → (k : ℕ) → 1 ≤ k → k ≤ 9 → P k
by_kind P p1 p2 p3 p4 p5 p6 p7 p8 p9 k low high =
    at_kind P k 1 p1 (λ n1. at_kind P k 2 p2 (λ n2. by_row_kind P p3 p4 p5 p6 p7 p8 p9 k (omega (arith, n1, n2)) high))

-- no kind past the ninth has a code
past_ten : (l : List (List ℕ)) (k : ℕ) → length l ≡ 10 → 9 < k → get_or l k [] ≡ []
past_ten l k e h = get_or-eq_default l [] (omega arith)

pub no_codes : (kind : ℕ) → 9 < kind → codes_of kind ≡ []
unfolding codes_of
no_codes kind h = past_ten ([] ∷ (1 ∷ []) ∷ (1 ∷ 2 ∷ []) ∷ (1 ∷ []) ∷ (1 ∷ 2 ∷ []) ∷ (1 ∷ 2 ∷ []) ∷ (1 ∷ 2 ∷ []) ∷ (1 ∷ 3 ∷ []) ∷ (1 ∷ 2 ∷ 3 ∷ []) ∷ (1 ∷ 2 ∷ 3 ∷ []) ∷ []) kind refl h
