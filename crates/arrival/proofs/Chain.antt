-- 8 is tried behind the refusals that ask no rows.
use mathlib.Core.Path.{◌≡◌, refl}
use mathlib.Core.Bool.{Bool, true, cond}
use mathlib.Core.List.{List, [], ◌∷◌, ◌++◌}
use native.Mathlib.Omega.{arith}
use borrow.Author.Tests.{ne_eqb, ltb-true}
use lib.Dec.{eqb, ltb}
use Rattle.meaning.specs.Tests.{every}
use Rattle.meaning.specs.Refusals.{Refusal, ◌when◌, first_of}
use Rattle.meaning.proofs.Tests.{cases, and_left, and_right}

-- 0 is no refusal's number
unfoldable pub numbered : Refusal → Bool
numbered refusal = ltb 0 refusal.number

-- a chain goes on with 8 where nothing was given so far
pub chain_then : (chain : List Refusal) (full : Bool) → every numbered chain ≡ true → first_of (chain ++ ((8 when full) ∷ [])) ≡ cond (eqb (first_of chain) 0) (cond full 8 0) (first_of chain)
unfolding numbered
chain_then [] full h = refl
chain_then (refusal ∷ chain) full h = cases refusal.given
    (λ g. rw (g, ne_eqb refusal.number 0 (λ z. let some = ltb-true 0 refusal.number (and_left (ltb 0 refusal.number) (every numbered chain) h) in omega arith)) refl)
    (λ g. rw g (chain_then chain full (and_right (ltb 0 refusal.number) (every numbered chain) h)))
