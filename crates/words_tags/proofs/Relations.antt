-- Exactly one of the four relations holds, and tests at most, one each way, tell which.
use mathlib.Core.Path.{◌≡◌, refl, sym}
use mathlib.Core.Bool.{true, false, not, ◌&&◌}
use Rattle.meaning.specs.Order.{Vector, at_most, same, before_by_vector, concurrent_by_vector}
use Rattle.meaning.proofs.Tests.{cases, clash, fails, and_left, and_right, not_holds}
use Rattle.meaning.proofs.Vectors.{before_by, before_not, before_irreflexive, at_most_antisym, at_most_refl, not_before, same_eq, eq_same}
use Rattle.words_tags.specs.declared.Relation.{Relation}
use Rattle.words_tags.specs.declared.Relation.TheVariants.{Before, After, Same, Concurrent}
use Rattle.words_tags.specs.Relations.{says_of, relation_of}

module _ (u t : Vector) where
  not_after : before_by_vector t u ≡ true → before_by_vector u t ≡ false
  not_after h = not_before u t (before_not t u h)

  same_not_before : same u t ≡ true → before_by_vector u t ≡ false
  same_not_before h = rw (same_eq u t h) (before_irreflexive t)

  same_not_after : same u t ≡ true → before_by_vector t u ≡ false
  same_not_after h = rw (same_eq u t h) (before_irreflexive t)

  holds : says_of (relation_of u t) u t ≡ true
  unfolding says_of relation_of concurrent_by_vector
  holds =
      cases (before_by_vector u t) (λ p. rw p p)
      (λ p. rw p (cases (before_by_vector t u) (λ q. rw q q)
      (λ q. rw q (cases (same u t) (λ s. rw s s)
      (λ s. rw s (rw (p, q, s) refl))))))

  -- A relation is the one of two vectors exactly when what it says of them is true: what the one says is true,
  pub relation_says : (r : Relation) → r ≡ relation_of u t → says_of r u t ≡ true
  relation_says r e = rw e holds

  -- and what any second says is not.
  pub no_second_relation : (r : Relation) → says_of r u t ≡ true → r ≡ relation_of u t
  unfolding says_of relation_of concurrent_by_vector
  no_second_relation Before h = rw h refl
  no_second_relation After h = rw (not_after h, h) refl
  no_second_relation Same h = rw (same_not_before h, same_not_after h, h) refl
  no_second_relation Concurrent h =
      let neither = and_left (not (before_by_vector u t) && not (before_by_vector t u)) (not (same u t)) h in
      rw (
        not_holds (before_by_vector u t) (and_left (not (before_by_vector u t)) (not (before_by_vector t u)) neither),
        not_holds (before_by_vector t u) (and_right (not (before_by_vector u t)) (not (before_by_vector t u)) neither),
        not_holds (same u t) (and_right (not (before_by_vector u t) && not (before_by_vector t u)) (not (same u t)) h),
      ) refl

  -- which it is, by tests at most
  pub is_same : true ≡ at_most u t → true ≡ at_most t u → Same ≡ relation_of u t
  unfolding says_of
  is_same p q = no_second_relation Same (eq_same u t (at_most_antisym u t (sym p) (sym q)))

  pub is_before : true ≡ at_most u t → false ≡ at_most t u → Before ≡ relation_of u t
  unfolding says_of
  is_before p q = no_second_relation Before (before_by u t (sym p) (sym q))

  pub is_after : false ≡ at_most u t → true ≡ at_most t u → After ≡ relation_of u t
  unfolding says_of
  is_after p q = no_second_relation After (before_by t u (sym q) (sym p))

  pub is_concurrent : false ≡ at_most u t → false ≡ at_most t u → Concurrent ≡ relation_of u t
  unfolding says_of concurrent_by_vector
  is_concurrent p q =
      no_second_relation Concurrent
      (rw (not_before u t (sym p), not_before t u (sym q), fails (same u t) (λ s. clash (at_most u t) (rw (same_eq u t s) (at_most_refl t)) (sym p))) refl)

  -- whether it is the first
  pub told_before : relation_of u t ≡ Before → before_by_vector u t ≡ true
  unfolding says_of
  told_before e = relation_says Before (sym e)

  pub before_told : before_by_vector u t ≡ true → relation_of u t ≡ Before
  unfolding says_of
  before_told h = sym (no_second_relation Before h)
