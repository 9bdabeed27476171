-- A word set ahead of a place, and words written from that place on.
use mathlib.Core.Path.{◌≡◌, refl, sym, ap, ◌∙◌}
use mathlib.Core.List.{List, [], ◌∷◌, ◌++◌, append_assoc}
use Prim.Native.Nat.{ℕ, zero, suc, ◌+◌, ◌≤◌, ◌<◌}
use native.Mathlib.Omega.{arith}
use lib.ListN.{length, take, drop, set, length-append}
use lib.Seq.{paste, drop-set-lt, drop-drop, take_all, length-take-le}

take_set : (s : List ℕ) (i at a : ℕ) → i < at → take at (set s i a) ≡ set (take at s) i a
take_set s i zero a h = absurd (omega arith)
take_set [] i (suc at) a h = refl
take_set (x ∷ s) zero (suc at) a h = refl
take_set (x ∷ s) (suc i) (suc at) a h = ap (λ (l : List ℕ). x ∷ l) (take_set s i at a (omega arith))

set_append : (x y : List ℕ) (i a : ℕ) → i < length x → set (x ++ y) i a ≡ set x i a ++ y
set_append [] y i a h = absurd (omega arith)
set_append (b ∷ x) y zero a h = refl
set_append (b ∷ x) y (suc i) a h = ap (λ (l : List ℕ). b ∷ l) (set_append x y i a (omega arith))

pub set_set : (s : List ℕ) (i a b : ℕ) → set (set s i a) i b ≡ set s i b
set_set [] i a b = refl
set_set (x ∷ s) zero a b = refl
set_set (x ∷ s) (suc i) a b = ap (λ (l : List ℕ). x ∷ l) (set_set s i a b)

-- so the two can change places
pub paste_set : (s new : List ℕ) (i at n a : ℕ) → i < at → at ≤ length s → paste (set s i a) at new n ≡ set (paste s at new n) i a
paste_set s new i at n a h room =
    let front : List ℕ = take at s ++ take n new in
    let long : i < length front = omega (arith, length-append (take at s) (take n new), length-take-le at s room) in
    let ahead : i < length (take at s) = omega (arith, length-take-le at s room) in
    rw (take_set s i at a h, drop-set-lt (at + n) s i a (omega arith))
    (ap (λ (l : List ℕ). l ++ drop (at + n) s) (sym (set_append (take at s) (take n new) i a ahead)) ∙ sym (set_append front (drop (at + n) s) i a long))

-- written words as a part in place of another
pub pasted : (s new : List ℕ) (at k : ℕ) → length new ≡ k → paste s at new (length new) ≡ take at s ++ (new ++ drop k (drop at s))
pasted s new at k e =
    append_assoc (take at s) (take (length new) new) (drop (at + length new) s)
    ∙ rw (take_all (length new) new (omega arith), e, drop-drop k at s) refl

-- two different places
pub set_swap : (s : List ℕ) (i j a b : ℕ) → i < j → set (set s j b) i a ≡ set (set s i a) j b
set_swap [] i j a b h = refl
set_swap (x ∷ s) i zero a b h = absurd (omega arith)
set_swap (x ∷ s) zero (suc j) a b h = refl
set_swap (x ∷ s) (suc i) (suc j) a b h = ap (λ (l : List ℕ). x ∷ l) (set_swap s i j a b (omega arith))
