use Rattle.std.proofs.Common.{arith}
use Rattle.std.proofs.lemmas.Bool.Decides.{nat_tests}
use Rattle.meaning.specs.Arrival.{same_value}
use Rattle.meaning.specs.Meaning.{on}
use Rattle.table_drop.proofs.same_value.Goals as goal

pub returns-then-row-eq-NO_HIGH : goal.returns-then-row-eq-NO_HIGH
unfolding same_value on
returns-then-row-eq-NO_HIGH c = grind (arith, nat_tests)

pub returns-else-row-eq-NO_HIGH : goal.returns-else-row-eq-NO_HIGH
unfolding same_value on
returns-else-row-eq-NO_HIGH c = grind (arith, nat_tests)
