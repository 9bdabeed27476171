-- What stands beside a row, and what is told of it.
use Rattle.std.specs.Prelude.{Bool, true, false, cond, Option, None, Some}
use Rattle.settling_step.specs.declared.Neighbour.{Neighbour}

-- A row beside another: whether it is of the same value, whether it adds, and whether it is settled; all false where nothing stands.
pub record Standing : Type 0 where
  pub same : Bool
  pub adds : Bool
  pub settled : Bool

abbrev pub nobody : Standing
nobody = record { same = false; adds = false; settled = false }

-- Only a row of the same value is told of.
abbrev pub seen : Standing → Option Neighbour
seen s = cond s.same (Some (record { adds = s.adds; settled = s.settled })) None

abbrev pub stands_as : Option Neighbour → Standing
stands_as None = nobody
stands_as (Some n) = record { same = true; adds = n.adds; settled = n.settled }
