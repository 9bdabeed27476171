-- The tests of a row and of what stands beside it, in the words of the meaning.
use Prim.Native.Nat.{ℕ, zero, suc, ◌+◌, ◌-◌, ◌*◌, ◌≤◌, ◌<◌}
use mathlib.Core.Path.{◌≡◌, refl, sym, ap, ◌∙◌}
use mathlib.Core.Bool.{Bool, true, false, not}
use mathlib.Core.List.{List, [], ◌∷◌, ◌++◌, map}
use native.Mathlib.Omega.{arith}
use native.Mathlib.Nat.{suc-mul, zero-mul}
use borrow.Author.Tests.{eq-eqb, ne_eqb}
use lib.Dec.{eqb}
use lib.ListN.{length, get_or, take, drop, length-drop}
use lib.Seq.{take_all, length-take-le, drop-drop}
use mir.Val.{Fits}
use mir.Syntax.{w32, w64}
use Rattle.meaning.specs.Order.{at_most, same}
use Rattle.meaning.specs.Operations.{Operation}
use Rattle.meaning.specs.Rows.{Row}
use Rattle.meaning.specs.Settling.{stable_by, due}
use Rattle.words_layout.specs.Words.{pieces}
use Rattle.words_layout.specs.Layout.{row_of}
use Rattle.table_rules_rows.proofs.Ordering.{same_words}
use Rattle.std.proofs.Common.{Option, None, Some}
use Rattle.settling_step.specs.declared.Neighbour.{Neighbour}
use Rattle.settling_step.specs.Standing.{seen}
use Rattle.settling_step.specs.Stepping.{beside, beside_next, beside_last}

-- a row is due
module _ (row low : List ℕ) where
  pub due_not : get_or row 4 0 ≡ 0 → not (eqb (get_or row 4 0) 0) ≡ due low (row_of row)
  unfolding due
  due_not e = rw (eq-eqb (get_or row 4 0) 0 e) refl

  pub due_by_low : (get_or row 4 0 ≡ 0 → ⊥) → length row ≡ 7 + length low → (r : Bool) → r ≡ at_most (take (length row - 7) (drop 7 row)) low → r ≡ due low (row_of row)
  unfolding due stable_by
  due_by_low n l r e =
      let q : take (length row - 7) (drop 7 row) ≡ drop 7 row = take_all (length row - 7) (drop 7 row) (simp length-drop (omega arith)) in
      rw (ne_eqb (get_or row 4 0) 0 n) (e ∙ rw q refl)

-- one row beside another
module _ (row other : List ℕ) (r : Bool) (a : 7 ≤ length row) (b : 7 ≤ length other) (f : (i : ℕ) → Fits w32 (get_or row i 0)) (g : (i : ℕ) → Fits w32 (get_or other i 0)) (e : r ≡ same (take 3 row) (take 3 other)) where
  beside_is : (beside (row_of row).operation (row_of other)).same ≡ r
  unfolding beside
  beside_is = sym (e ∙ same_words row other a b (omega (arith, f 2)) (omega (arith, g 2)))

  pub is_beside : r ≡ true → Some (record { adds = eqb (get_or other 3 0) 1; settled = eqb (get_or other 4 0) 0 }) ≡ seen (beside (row_of row).operation (row_of other))
  unfolding beside
  is_beside t = rw (beside_is ∙ t) refl

  pub not_beside : r ≡ false → None ≡ seen (beside (row_of row).operation (row_of other))
  unfolding beside
  not_beside t = rw (beside_is ∙ t) refl

-- what stands before and behind a row, in words
pub pieces_last : (w k : ℕ) (s : List ℕ) → pieces w (suc k) s ≡ pieces w k s ++ (take w (drop (k * w) s) ∷ [])
pieces_last w zero s = rw (zero-mul w) refl
pieces_last w (suc k) s =
    let e : suc k * w ≡ w + k * w = omega (arith, suc-mul k w) in
    ap (λ (l : List (List ℕ)). take w s ∷ l) (pieces_last w k (drop w s) ∙ ap (λ (l : List ℕ). pieces w k (drop w s) ++ (take w l ∷ [])) (drop-drop (k * w) w s ∙ rw e refl))

last_beside : (u : Operation) (rows : List Row) (row : Row) → beside_last u (rows ++ (row ∷ [])) ≡ beside u row
unfolding beside_last
last_beside u [] row = refl
last_beside u (x ∷ []) row = refl
last_beside u (x ∷ y ∷ rows) row = last_beside u (y ∷ rows) row

pub map_last : (l : List (List ℕ)) (x : List ℕ) → map row_of (l ++ (x ∷ [])) ≡ map row_of l ++ (row_of x ∷ [])
map_last [] x = refl
map_last (y ∷ l) x = ap (λ (m : List Row). row_of y ∷ m) (map_last l x)

module _ (s : List ℕ) (w at : ℕ) (n : Option Neighbour) where
  abbrev u : Operation
  u = (row_of (take w (drop at s))).operation

  q : at + w - at ≡ w
  q = omega arith

  pub before_nothing : (left : ℕ) → left ≡ 0 → n ≡ None → n ≡ seen (beside_last u (map row_of (pieces w left s)))
  unfolding beside_last
  before_nothing left e f = rw e f

  pub before_last : (left m : ℕ) → (left ≡ 0 → ⊥) → m ≡ left → n ≡ seen (beside (row_of (take (at + w - at) (drop at s))).operation (row_of (take (m * w - (m * w - w)) (drop (m * w - w) s)))) → n ≡ seen (beside_last u (map row_of (pieces w left s)))
  before_last zero m e g f = absurd (e refl)
  before_last (suc left) m e g f =
      let many : m * w ≡ left * w + w = ap (λ (k : ℕ). k * w) g ∙ omega (arith, suc-mul left w) in
      let p : m * w - (m * w - w) ≡ w = omega (arith, many) in
      let r : m * w - w ≡ left * w = omega (arith, many) in
      f ∙ rw (q, p, r) (ap seen (sym (ap (beside_last u) (ap (map row_of) (pieces_last w left s) ∙ map_last (pieces w left s) (take w (drop (left * w) s))) ∙ last_beside u (map row_of (pieces w left s)) (row_of (take w (drop (left * w) s))))))

  pub behind_nothing : (more : ℕ) → more ≡ 0 → n ≡ None → n ≡ seen (beside_next u (map row_of (pieces w more (drop (at + w) s))))
  unfolding beside_next
  behind_nothing more e f = rw e f

  pub behind_next : (more : ℕ) → (more ≡ 0 → ⊥) → n ≡ seen (beside (row_of (take (at + w - at) (drop at s))).operation (row_of (take (at + w + w - (at + w)) (drop (at + w) s)))) → n ≡ seen (beside_next u (map row_of (pieces w more (drop (at + w) s))))
  unfolding beside_next
  behind_next zero e f = absurd (e refl)
  behind_next (suc more) e f = let p : at + w + w - (at + w) ≡ w = omega arith in f ∙ rw (q, p) refl

-- the last of the rows kept, which end at a place
module _ (s : List ℕ) (w at left m : ℕ) (e : m ≡ left) (low : left * w ≤ at) (room : at + w ≤ length s) where
  pub last_end : m * w ≤ length s
  last_end = rw e (omega arith)

  pub last_fits : length s * 4 < 9223372036854775808 → Fits w64 (m * w)
  last_fits h = rw e (omega arith)

  pub last_start_fits : length s * 4 < 9223372036854775808 → Fits w64 ((m * w - w) * 4)
  last_start_fits h = rw e (omega arith)

  module _ (some : left ≡ 0 → ⊥) where
    pub last_start : w ≤ m * w
    last_start = rw e (go left some)
      where
        go : (k : ℕ) → (k ≡ 0 → ⊥) → w ≤ k * w
        go zero h = absurd (h refl)
        go (suc k) h = omega (arith, suc-mul k w)

    pub last_long : 7 ≤ w → 7 ≤ length (take (m * w - (m * w - w)) (drop (m * w - w) s))
    last_long wide =
        let p : m * w - (m * w - w) ≡ w = omega (arith, last_start) in
        rw (p, length-take-le w (drop (m * w - w) s) (simp length-drop (omega (arith, last_start, last_end)))) wide

pub next_room : (w at more length : ℕ) → at + w + more * w ≤ length → (more ≡ 0 → ⊥) → at + w + w ≤ length
next_room w at zero length h e = absurd (e refl)
next_room w at (suc more) length h e = omega (arith, suc-mul more w)

-- a row at a place: kept where it is not due, else what its neighbours decide
pub row_at : (s : List ℕ) (w at : ℕ) → take (at + w - at) (drop at s) ≡ take w (drop at s)
row_at s w at = let e : at + w - at ≡ w = omega arith in rw e refl
