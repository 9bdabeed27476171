-- One turn of a pass: what is left to do is the definition of the rest.
use mathlib.Core.Path.{◌≡◌, refl, sym, ◌∙◌, ap}
use mathlib.Core.Bool.{true, false}
use mathlib.Core.Logic.{◌⊎◌, inl, inr}
use mathlib.Core.List.{List, [], ◌∷◌, ◌++◌, append_assoc, append-nil}
use Prim.Native.Nat.{ℕ, zero, suc, ◌+◌, ◌-◌, ◌≤◌, ◌<◌}
use native.Mathlib.Omega.{arith}
use Rattle.meaning.specs.Tests.{any}
use Rattle.meaning.specs.Order.{Vector}
use Rattle.meaning.specs.Rows.{Row}
use Rattle.meaning.specs.Settling.{due, step_at, step_of, settled_rows, steps_taken}
use Rattle.meaning.proofs.Tests.{any_append, any_mid}
use Rattle.meaning.proofs.Settling.{step_at_first}

-- The rows above were passed and none of them is due; a settling call with so many steps less, on all the rows, does the rest.
pub record Left (limit : ℕ) (kind_of : ℕ → ℕ) (low : Vector) (rows above below : List Row) (taken : ℕ) : Type 0 where
  pub fewer : taken ≤ limit
  pub rows_are_lem : settled_rows limit kind_of low rows ≡ settled_rows (limit - taken) kind_of low (above ++ below)
  pub steps_are : steps_taken limit kind_of low rows ≡ taken + steps_taken (limit - taken) kind_of low (above ++ below)
  pub passed : any (due low) above ≡ false

pub left_start : (limit : ℕ) (kind_of : ℕ → ℕ) (low : Vector) (rows : List Row) → Left limit kind_of low rows [] rows 0
left_start limit kind_of low rows = let e : limit - 0 ≡ limit = omega arith in record { fewer = omega arith; rows_are_lem = rw e refl; steps_are = rw e (omega arith); passed = refl }

-- a step taken where the first row due stands
one_more : (n : ℕ) (kind_of : ℕ → ℕ) (low : Vector) (rows : List Row) → any (due low) rows ≡ true → settled_rows (suc n) kind_of low rows ≡ settled_rows n kind_of low (step_of kind_of low rows)
one_more n kind_of low rows h = rw (h, settled_rows) refl

one_counted : (n : ℕ) (kind_of : ℕ → ℕ) (low : Vector) (rows : List Row) → any (due low) rows ≡ true → steps_taken (suc n) kind_of low rows ≡ suc (steps_taken n kind_of low (step_of kind_of low rows))
one_counted n kind_of low rows h = rw (h, steps_taken) refl

none_more : (n : ℕ) (kind_of : ℕ → ℕ) (low : Vector) (rows : List Row) → any (due low) rows ≡ false → settled_rows n kind_of low rows ≡ rows
none_more zero kind_of low rows h = refl
none_more (suc n) kind_of low rows h = rw (h, settled_rows) refl

none_counted : (n : ℕ) (kind_of : ℕ → ℕ) (low : Vector) (rows : List Row) → any (due low) rows ≡ false → steps_taken n kind_of low rows ≡ 0
none_counted zero kind_of low rows h = refl
none_counted (suc n) kind_of low rows h = rw (h, steps_taken) refl

module _ (limit : ℕ) (kind_of : ℕ → ℕ) (low : Vector) (rows above below : List Row) (taken : ℕ) where
  pub left_keep : (row : Row) → Left limit kind_of low rows above (row ∷ below) taken → due low row ≡ false → Left limit kind_of low rows (above ++ (row ∷ [])) below taken
  left_keep row L h =
      let e : above ++ (row ∷ below) ≡ (above ++ (row ∷ [])) ++ below = sym (append_assoc above (row ∷ []) below) in
      record {
        fewer = L.fewer;
        rows_are_lem = L.rows_are_lem ∙ ap (settled_rows (limit - taken) kind_of low) e;
        steps_are = L.steps_are ∙ ap (λ (l : List Row). taken + steps_taken (limit - taken) kind_of low l) e;
        passed = any_append (due low) above (row ∷ []) ∙ rw (L.passed, h) refl;
      }

  pub left_step : (row : Row) (above' below' : List Row) → Left limit kind_of low rows above (row ∷ below) taken → taken < limit → due low row ≡ true →
      step_at (kind_of row.operation.object) above row.operation below ≡ above' ++ below' → any (due low) above' ≡ false → Left limit kind_of low rows above' below' (taken + 1)
  left_step row above' below' L less h e p =
      let n : limit - taken ≡ suc (limit - (taken + 1)) = omega arith in
      let some : any (due low) (above ++ (row ∷ below)) ≡ true = any_mid (due low) above below row ∙ rw h refl in
      let step : step_of kind_of low (above ++ (row ∷ below)) ≡ above' ++ below' = step_at_first kind_of low [] above below row L.passed h ∙ e in
      record {
        fewer = omega arith;
        rows_are_lem = L.rows_are_lem ∙ ap (λ (k : ℕ). settled_rows k kind_of low (above ++ (row ∷ below))) n ∙ one_more (limit - (taken + 1)) kind_of low (above ++ (row ∷ below)) some ∙ ap (settled_rows (limit - (taken + 1)) kind_of low) step;
        steps_are = L.steps_are ∙ ap (λ (k : ℕ). taken + steps_taken k kind_of low (above ++ (row ∷ below))) n ∙ ap (λ (k : ℕ). taken + k) (one_counted (limit - (taken + 1)) kind_of low (above ++ (row ∷ below)) some ∙ ap (λ (l : List Row). suc (steps_taken (limit - (taken + 1)) kind_of low l)) step) ∙ omega arith;
        passed = p;
      }

  -- the end: all rows are passed, or no step may be taken any more
  pub left_done : Left limit kind_of low rows above below taken → (limit - taken ≡ 0) ⊎ (below ≡ []) → (settled_rows limit kind_of low rows ≡ above ++ below) × (steps_taken limit kind_of low rows ≡ taken)
  left_done L (inl e) = (L.rows_are_lem ∙ rw e refl, L.steps_are ∙ rw e (omega arith))
  left_done L (inr e) =
      let none : any (due low) (above ++ below) ≡ false = ap (λ (l : List Row). any (due low) (above ++ l)) e ∙ ap (any (due low)) (append-nil above) ∙ L.passed in
      (L.rows_are_lem ∙ none_more (limit - taken) kind_of low (above ++ below) none, L.steps_are ∙ ap (λ (k : ℕ). taken + k) (none_counted (limit - taken) kind_of low (above ++ below) none) ∙ omega arith)
