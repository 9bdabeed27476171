-- A test of every piece of one width, each at its place.
use Prim.Native.Nat.{ℕ, suc, ◌+◌, ◌-◌, ◌*◌, ◌≤◌, ◌<◌}
use mathlib.Core.Path.{◌≡◌, refl, sym, ap, ◌∙◌}
use mathlib.Core.Bool.{Bool, true, false, ◌&&◌, and-true}
use mathlib.Core.List.{List, [], ◌∷◌}
use native.Mathlib.Nat.{suc-mul, mul-le-mul_right}
use native.Mathlib.Numerals.{add-one}
use native.Mathlib.Omega.{arith}
use lib.ListN.{length, take, drop}
use lib.Seq.{drop-drop}
use Rattle.meaning.specs.Tests.{every, every_at}
use Rattle.words_layout.specs.Words.{pieces}

pub and_assoc : (a b d : Bool) → ((a && b) && d) ≡ (a && (b && d))
and_assoc true b d = refl
and_assoc false b d = refl

-- k pieces of `count` are passed, up to place `at`: what was noted and the test of the rest make the test of all, each at its place
pub record Passed (one : ℕ → List ℕ → Bool) (w count : ℕ) (s : List ℕ) (good : Bool) (k at : ℕ) : Type 0 where
  pub here : at ≡ k * w
  pub within : k ≤ count
  pub room : count * w ≤ length s
  pub whole : (good && every_at one k (pieces w (count - k) (drop at s))) ≡ every_at one 0 (pieces w count s)

module _ (one : ℕ → List ℕ → Bool) (w count : ℕ) (s : List ℕ) (good : Bool) (k at : ℕ) (P : Passed one w count s good k at) (h : k < count) where
  piece_room : at + w ≤ length s
  piece_room = omega (arith, P.here, P.room, suc-mul k w, mul-le-mul_right w h)

  next_here : at + w ≡ (k + 1) * w
  next_here = omega (arith, P.here, suc-mul k w)

  module _ (r : Bool) (e : r ≡ one k (take (at + w - at) (drop at s))) where
    next_piece : (good && (r && every_at one (suc k) (pieces w (count - suc k) (drop (at + w) s)))) ≡ every_at one 0 (pieces w count s)
    next_piece =
        let more : count - k ≡ suc (count - suc k) = omega arith in
        let q : at + w - at ≡ w = omega arith in
        rw (e, q, ← drop-drop w at s) (rw more at P.whole)

    piece_noted : Passed one w count s (good && r) (k + 1) (at + w)
    piece_noted = record { here = next_here; within = omega arith; room = P.room; whole = rw (add-one k) (and_assoc good r (every_at one (suc k) (pieces w (count - suc k) (drop (at + w) s))) ∙ next_piece) }

-- the next piece, in a loop that notes a fault and goes on
pub next_noted : (one : ℕ → List ℕ → Bool) (w count : ℕ) (s : List ℕ) (good : Bool) (k : ℕ) → Passed one w count s good k (k * w) → k < count → (r : Bool) → r ≡ one k (take (k * w + w - k * w) (drop (k * w) s)) → Passed one w count s (good && r) (k + 1) ((k + 1) * w)
next_noted one w count s good k P h r e = rw (sym (next_here one w count s good k (k * w) P h)) (piece_noted one w count s good k (k * w) P h r e)

pub pass_done : (one : ℕ → List ℕ → Bool) (w count : ℕ) (s : List ℕ) (good : Bool) (k at : ℕ) → Passed one w count s good k at → count ≤ k → good ≡ every_at one 0 (pieces w count s)
pass_done one w count s good k at P h =
    let none : count - k ≡ 0 = omega arith in
    sym (and-true good) ∙ (rw none at P.whole)

-- a test that does not ask for the place
abbrev pub anywhere : (List ℕ → Bool) → ℕ → List ℕ → Bool
anywhere one k = one

pub every_anywhere : (one : List ℕ → Bool) (k : ℕ) (l : List (List ℕ)) → every_at (anywhere one) k l ≡ every one l
every_anywhere one k [] = refl
every_anywhere one k (x ∷ l) = ap (λ (b : Bool). one x && b) (every_anywhere one (suc k) l)
