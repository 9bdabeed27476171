use Rattle.std.proofs.Common.{arith}
use Rattle.std.proofs.lemmas.Bool.Decides.{nat_tests}
use Rattle.table_rules_clock.specs.ClockTests.{last_kept}
use Rattle.table_rules_clock.proofs.last_ok.Goals as goal

pub returns-then-eq : goal.returns-then-eq
unfolding last_kept
returns-then-eq c = grind (arith, nat_tests)

pub returns-then-eq-2 : goal.returns-then-eq-2
unfolding last_kept
returns-then-eq-2 c = grind (arith, nat_tests)

pub returns-else-eq-2 : goal.returns-else-eq-2
unfolding last_kept
returns-else-eq-2 c = grind (arith, nat_tests)
