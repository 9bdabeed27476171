-- A test of two vectors pair by pair, as a test of every pair that `zip` gives: at most, each way round, and the same.
use Rattle.std.proofs.Common.{◌≡◌, Bool, ℕ, [], ◌∷◌, length, leb, eqb, refl, arith}
use Rattle.std.specs.List.{zip}
use Rattle.meaning.specs.Order.{Vector, at_most, same}
use Rattle.meaning.specs.Tests.{every}
use Rattle.words_tags.proofs.Pairs.{ByPairs, at_most_by_pairs, at_least_by_pairs, same_by_pairs}

module _ (test : Vector → Vector → Bool) (pair : ℕ → ℕ → Bool) (by : ByPairs test pair) where
  by_pairs_zip : (u t : Vector) → length u ≡ length t → test u t ≡ every (λ p. pair p.0 p.1) (zip u t)
  by_pairs_zip [] [] e = by.at_end_lem
  by_pairs_zip [] (y ∷ t) e = absurd (omega arith)
  by_pairs_zip (x ∷ u) [] e = absurd (omega arith)
  by_pairs_zip (x ∷ u) (y ∷ t) e = rw (by.at_pair x y u t, by_pairs_zip u t (omega arith)) refl

pub at_most_zip : (u t : Vector) → length u ≡ length t → at_most u t ≡ every (λ p. leb p.0 p.1) (zip u t)
at_most_zip = by_pairs_zip at_most leb at_most_by_pairs

pub at_least_zip : (u t : Vector) → length u ≡ length t → at_most t u ≡ every (λ p. leb p.1 p.0) (zip u t)
at_least_zip = by_pairs_zip (λ u t. at_most t u) (λ x y. leb y x) at_least_by_pairs

pub same_zip : (u t : Vector) → length u ≡ length t → same u t ≡ every (λ p. eqb p.0 p.1) (zip u t)
same_zip = by_pairs_zip same eqb same_by_pairs
