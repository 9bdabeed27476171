-- A test of two vectors pair by pair.
use mathlib.Core.Path.{◌≡◌, refl, sym, ap, subst, ◌∙◌}
use mathlib.Core.Bool.{Bool, true, false, ◌&&◌, and-true, and-false}
use mathlib.Core.List.{[], ◌∷◌}
use Prim.Native.Nat.{ℕ, suc, ◌+◌, ◌≤◌, ◌<◌}
use native.Mathlib.Numerals.{add-one}
use native.Mathlib.Omega.{arith}
use lib.Dec.{eqb, leb}
use lib.ListN.{length, get_or, drop, drop_of_length-le}
use lib.Seq.{drop-cons}
use Rattle.meaning.specs.Order.{Vector, at_most, same}

-- a test of two vectors of one length that holds when a test of two entries holds at every place
pub record ByPairs (test : Vector → Vector → Bool) (pair : ℕ → ℕ → Bool) : Type 0 where
  pub at_end_lem : test [] [] ≡ true
  pub at_pair : (x y : ℕ) (u t : Vector) → test (x ∷ u) (y ∷ t) ≡ (pair x y && test u t)

pub at_most_by_pairs : ByPairs at_most leb
at_most_by_pairs = record { at_end_lem = refl; at_pair = λ x y u t. refl }

-- at most, asked the other way round
pub at_least_by_pairs : ByPairs (λ u t. at_most t u) (λ x y. leb y x)
at_least_by_pairs = record { at_end_lem = refl; at_pair = λ x y u t. refl }

pub same_by_pairs : ByPairs same eqb
same_by_pairs = record { at_end_lem = refl; at_pair = λ x y u t. refl }

-- i pairs are passed: what was noted and the test of the rest make the test of the whole
pub record Passed (test : Vector → Vector → Bool) (u t : Vector) (good : Bool) (i : ℕ) : Type 0 where
  pub sized : length u ≡ length t
  pub within : i ≤ length u
  pub whole : (good && test (drop i u) (drop i t)) ≡ test u t

pub start : (test : Vector → Vector → Bool) (u t : Vector) → length u ≡ length t → Passed test u t true 0
start test u t e = record { sized = e; within = omega arith; whole = refl }

module _ (test : Vector → Vector → Bool) (pair : ℕ → ℕ → Bool) (by : ByPairs test pair) (u t : Vector) (good : Bool) (i : ℕ) where
  unpaired : Passed test u t good i → i < length u → (good && (pair (get_or u i 0) (get_or t i 0) && test (drop (suc i) u) (drop (suc i) t))) ≡ test u t
  unpaired P h = ap (λ (b : Bool). good && b) (sym (rw (drop-cons u i 0 h, drop-cons t i 0 (subst (λ (n : ℕ). i < n) P.sized h)) (by.at_pair _ _ _ _))) ∙ P.whole

  pub pair_fails : Passed test u t good i → i < length u → (noted : Bool) → noted ≡ false → pair (get_or u i 0) (get_or t i 0) ≡ false → Passed test u t noted (i + 1)
  pair_fails P h noted e f = rw e (record { sized = P.sized; within = omega arith; whole = sym (and-false good) ∙ (rw f at (unpaired P h)) })

  pub pair_holds : Passed test u t good i → i < length u → (noted : Bool) → noted ≡ good → pair (get_or u i 0) (get_or t i 0) ≡ true → Passed test u t noted (i + 1)
  pair_holds P h noted e f = rw e (record { sized = P.sized; within = omega arith; whole = rw (add-one i) (rw f at (unpaired P h)) })

  pub done : Passed test u t good i → length u ≤ i → good ≡ test u t
  done P h = sym (and-true good) ∙ ap (λ (b : Bool). good && b) (sym (rw (drop_of_length-le u {i = i} h, drop_of_length-le t {i = i} (subst (λ (n : ℕ). n ≤ i) P.sized h)) by.at_end_lem)) ∙ P.whole
