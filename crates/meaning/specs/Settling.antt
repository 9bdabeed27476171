-- Settling: one step, and the settling call with its count.
use Rattle.std.specs.Prelude.{Bool, true, false, not, ◌&&◌, cond, List, [], ◌∷◌, ◌++◌, ℕ, zero, suc, eqb}
use Rattle.meaning.specs.Tests.{any, those}
use Rattle.meaning.specs.Order.{Vector, at_most}
use Rattle.meaning.specs.Operations.{Operation, adds, removes_stand}
use Rattle.meaning.specs.Meaning.{add_of, remove_of}
use Rattle.meaning.specs.Rows.{Row, settled_row}
use Rattle.meaning.specs.Arrival.{same_value}

-- "An operation is *stable* when its whole vector is at or below Low, entry by entry."
unfoldable pub stable_by : Vector → Operation → Bool
stable_by low u = at_most u.vector low

-- A row that a step may take: unsettled, and stable.
unfoldable pub due : Vector → Row → Bool
due low row = not row.settled && stable_by low row.operation

-- Whether an add row, or a remove row, of the same value as u is among the rows.
unfoldable pub add_beside : Operation → List Row → Bool
add_beside u others = any (λ (row : Row). add_of u.object u.value row.operation) others

unfoldable pub remove_beside : Operation → List Row → Bool
remove_beside u others = any (λ (row : Row). remove_of u.object u.value row.operation) others

-- A remove in 6 and 9 "becomes settled if the other rows of that value are one or more adds and nothing else"; rows of these kinds
-- are adds and removes. Any other row is dropped "if another row of the same object and value exists, else it becomes settled".
unfoldable pub becomes_settled : ℕ → Operation → List Row → Bool
becomes_settled kind u others =
    cond (removes_stand kind && not (eqb u.code adds))
    (add_beside u others && not (remove_beside u others))
    (not (any (same_value u) others))

-- In 6 and 9, of an add: "if it was the only add of that value, a settled remove of that value is dropped as well".
unfoldable pub dropped_with : ℕ → Operation → List Row → Row → Bool
dropped_with kind u others row =
    (removes_stand kind && (eqb u.code adds && not (add_beside u others)))
    && (row.settled && remove_of u.object u.value row.operation)

-- "is dropped as well": the rows without those that go with the row of u.
unfoldable pub left_by : ℕ → Operation → List Row → List Row → List Row
left_by kind u others rows = those (λ (row : Row). not (dropped_with kind u others row)) rows

-- The step on the unsettled row of u, with the rows above it and below it.
unfoldable pub step_at : ℕ → List Row → Operation → List Row → List Row
step_at kind above u below =
    let others = above ++ below in
    left_by kind u others above
    ++ (cond (becomes_settled kind u others) (settled_row u ∷ []) [] ++ left_by kind u others below)

-- "One settling step takes the first unsettled row, in row order, that is stable." The rows passed over stand above.
abbrev pub step_from : (ℕ → ℕ) → Vector → List Row → List Row → List Row
step_from kind_of low above [] = above
step_from kind_of low above (row ∷ below) =
    cond (due low row)
    (step_at (kind_of row.operation.object) above row.operation below)
    (step_from kind_of low (above ++ (row ∷ [])) below)

-- "One settling step", over all the rows.
abbrev pub step_of : (ℕ → ℕ) → Vector → List Row → List Row
step_of kind_of low rows = step_from kind_of low [] rows

-- "takes steps until the limit or until no stable unsettled row is left"
abbrev pub settled_rows : ℕ → (ℕ → ℕ) → Vector → List Row → List Row
settled_rows zero kind_of low rows = rows
settled_rows (suc limit) kind_of low rows =
    elim (any (due low) rows) [ true ↦ settled_rows limit kind_of low (step_of kind_of low rows) | false ↦ rows ]

-- "and reports how many steps it took"
abbrev pub steps_taken : ℕ → (ℕ → ℕ) → Vector → List Row → ℕ
steps_taken zero kind_of low rows = 0
steps_taken (suc limit) kind_of low rows =
    elim (any (due low) rows) [ true ↦ suc (steps_taken limit kind_of low (step_of kind_of low rows)) | false ↦ 0 ]
