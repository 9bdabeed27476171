-- What a loop knows of words that it copies, moves or writes one at a time.
use Prim.Native.Nat.{ℕ, suc, ◌+◌, ◌-◌, ◌≤◌, ◌<◌}
use mathlib.Core.Path.{◌≡◌, refl, sym, ap, ◌∙◌}
use mathlib.Core.List.{List, ◌∷◌, ◌++◌, append_assoc, append-nil}
use native.Mathlib.Numerals.{add-one}
use native.Mathlib.Omega.{arith}
use lib.ListN.{length, get_or, take, drop, set, take-append-drop, length-drop, get_or-append}
use lib.Seq.{paste, paste-suc, drop-paste, get_or-drop, drop-drop, set_at, length-take-le, slice, slice-cons, slice_empty, take-suc, get_or-take}

-- what agrees from m on agrees from n on
pub drop_more : (a b : List ℕ) (m n : ℕ) → m ≤ n → drop m a ≡ drop m b → drop n a ≡ drop n b
drop_more a b m n h e =
    let q : n ≡ m + (n - m) = omega arith in
    rw (q, ← drop-drop (n - m) m a, ← drop-drop (n - m) m b, e) refl

-- and at n
get_d_more : (a b : List ℕ) (m n : ℕ) → m ≤ n → drop m a ≡ drop m b → get_or a n 0 ≡ get_or b n 0
get_d_more a b m n h e =
    let q : n ≡ m + (n - m) = omega arith in
    rw (q, ← get_or-drop m a (n - m) 0, ← get_or-drop m b (n - m) 0, e) refl

-- a turn of a copy to a lower place
pub copy_turn : (s t : List ℕ) (w from to j : ℕ) → to ≤ from → from + w ≤ length s → j < w → t ≡ paste s to (drop from s) j → set t (to + j) (get_or t (from + j) 0) ≡ paste s to (drop from s) (j + 1)
copy_turn s t w from to j below room more inv =
    let long : j < length (drop from s) = simp length-drop (omega arith) in
    let read : get_or t (from + j) 0 ≡ get_or (drop from s) j 0 =
    ap (λ (l : List ℕ). get_or l (from + j) 0) inv ∙ get_d_more (paste s to (drop from s) j) s (to + j) (from + j) (omega arith) (drop-paste s to (drop from s) j (omega arith) (omega arith)) ∙ sym (get_or-drop from s j 0) in
    rw (read, inv, add-one) (paste-suc s to (drop from s) j 0 (omega arith) long)

-- words copied to where they stand
pub copy_nothing : (s : List ℕ) (at w : ℕ) → s ≡ paste s at (drop at s) w
copy_nothing s at w =
    sym (take-append-drop at s) ∙ ap (λ (l : List ℕ). take at s ++ l) (sym (take-append-drop w (drop at s)) ∙ ap (λ (l : List ℕ). take w (drop at s) ++ l) (drop-drop w at s)) ∙ sym (append_assoc (take at s) (take w (drop at s)) (drop (at + w) s))

-- a turn of a write
pub put_turn : (s t new : List ℕ) (at j r : ℕ) → at + length new ≤ length s → j < length new → r ≡ get_or new j 0 → t ≡ paste s at new j → set t (at + j) r ≡ paste s at new (j + 1)
put_turn s t new at j r h k e inv = rw (e, inv, add-one) (paste-suc s at new j 0 (omega arith) k)

-- words moved up: the last first
module _ (s t : List ℕ) (at end w : ℕ) where
  pub up_start : s ≡ take (end + w) s ++ slice end end s ++ drop (end + w) s
  up_start = rw (slice_empty end s, append-nil) (sym (take-append-drop (end + w) s))

  up_step : (k : ℕ) → end + w ≤ length s → k < end → t ≡ take (suc k + w) s ++ slice (suc k) end s ++ drop (end + w) s
      → set t (k + w) (get_or t k 0) ≡ take (k + w) s ++ slice k end s ++ drop (end + w) s
  up_step k room h inv =
      let n : suc k + w ≡ suc (k + w) = omega arith in
      let rest : List ℕ = slice (suc k) end s ++ drop (end + w) s in
      let shape : t ≡ take (k + w) s ++ (get_or s (k + w) 0 ∷ rest) = inv ∙ rw (n, take-suc s (k + w) 0 (omega arith)) (simp append_assoc) in
      let front : length (take (k + w) s) ≡ k + w = length-take-le (k + w) s (omega arith) in
      let read : get_or t k 0 ≡ get_or s k 0 =
      ap (λ (l : List ℕ). get_or l k 0) (inv ∙ append_assoc (take (suc k + w) s) (slice (suc k) end s) (drop (end + w) s)) ∙ get_or-append (take (suc k + w) s) rest 0 k (rw (length-take-le (suc k + w) s (omega arith)) (omega arith)) ∙ get_or-take (suc k + w) s k 0 (omega arith) in
      rw (read, shape) (set_at (take (k + w) s) (get_or s (k + w) 0) rest (get_or s k 0) (k + w) front ∙ rw (slice-cons k end s 0 h (omega arith)) (sym (append_assoc (take (k + w) s) (get_or s k 0 ∷ slice (suc k) end s) (drop (end + w) s))))

  pub up_turn : (e : ℕ) → end + w ≤ length s → e ≤ end → at < e → t ≡ take (e + w) s ++ slice e end s ++ drop (end + w) s
      → set t (e - 1 + w) (get_or t (e - 1) 0) ≡ take (e - 1 + w) s ++ slice (e - 1) end s ++ drop (end + w) s
  up_turn e room h k inv = let q : e ≡ suc (e - 1) = omega arith in up_step (e - 1) room (omega arith) (rw q at inv)

  pub up_done : (e : ℕ) → at ≤ e → e ≤ at → t ≡ take (e + w) s ++ slice e end s ++ drop (end + w) s → t ≡ take (at + w) s ++ slice at end s ++ drop (end + w) s
  up_done e h k inv = let q : at ≡ e = omega arith in rw q inv
