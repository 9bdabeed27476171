-- What becomes of a row that is due, and how the rows beside it decide that.
use Rattle.std.specs.Prelude.{Bool, true, false, not, ◌&&◌, ◌||◌, List, [], ◌∷◌, ◌++◌, ℕ, eqb}
use Rattle.meaning.specs.Tests.{any}
use Rattle.meaning.specs.Order.{Vector}
use Rattle.meaning.specs.Operations.{Operation, adds, removes_stand}
use Rattle.meaning.specs.Rows.{Row}
use Rattle.meaning.specs.Arrival.{same_value}
use Rattle.meaning.specs.Settling.{due, becomes_settled, dropped_with}
use Rattle.settling_step.specs.Standing.{Standing, nobody}
use Rattle.settling_step.specs.declared.Step.{Step}
use Rattle.settling_step.specs.declared.Step.TheVariants.{Keeps, Settles, Drops, DropsBoth}

abbrev pub pick : Bool → Step → Step → Step
pick true step others = step
pick false step others = others

-- By the document: it becomes settled, or it is dropped, and a settled remove with it or not.
unfoldable pub step_among : ℕ → Operation → List Row → List Row → Step
step_among kind u above below =
    pick (becomes_settled kind u (above ++ below)) Settles
    (pick (any (dropped_with kind u (above ++ below)) below) DropsBoth Drops)

-- A row is kept where it is not due.
unfoldable pub step_for : (ℕ → ℕ) → Vector → List Row → Row → List Row → Step
step_for kind_of low above row below =
    pick (due low row) (step_among (kind_of row.operation.object) row.operation above below) Keeps

-- A row as the neighbour of one of u.
unfoldable pub beside : Operation → Row → Standing
beside u row = record { same = same_value u row; adds = eqb row.operation.code adds; settled = row.settled }

unfoldable pub beside_next : Operation → List Row → Standing
beside_next u [] = nobody
beside_next u (next ∷ rest) = beside u next

unfoldable pub beside_last : Operation → List Row → Standing
beside_last u [] = nobody
beside_last u (row ∷ []) = beside u row
beside_last u (row ∷ next ∷ rest) = beside_last u (next ∷ rest)

-- A remove where removes stand.
unfoldable pub remove_decided : Standing → Standing → Step
remove_decided before behind = pick (not behind.same && (before.same && before.adds)) Settles Drops

-- Any other row.
unfoldable pub add_decided : Bool → Standing → Standing → Step
add_decided stands before behind =
    pick (not (before.same || behind.same)) Settles
    (pick (stands && (not before.same && (not behind.adds && behind.settled))) DropsBoth Drops)

-- The same, by the last row kept above and the next row below.
unfoldable pub decided : ℕ → ℕ → Standing → Standing → Step
decided kind code before behind =
    pick (removes_stand kind && not (eqb code adds)) (remove_decided before behind) (add_decided (removes_stand kind) before behind)
