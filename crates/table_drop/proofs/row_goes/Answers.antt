use Rattle.std.proofs.Common.{arith}
use Rattle.std.proofs.lemmas.Bool.Decides.{nat_tests}
use Rattle.table_drop.specs.Arriving.{goes}
use Rattle.table_drop.proofs.row_goes.Goals as goal

pub returns-then-is_counter : goal.returns-then-is_counter
unfolding goes
returns-then-is_counter c = grind (arith, nat_tests)

pub returns-then-a-ne-ADDS : goal.returns-then-a-ne-ADDS
unfolding goes
returns-then-a-ne-ADDS c = grind (arith, nat_tests)

pub returns-else-a-ne-ADDS : goal.returns-else-a-ne-ADDS
unfolding goes
returns-else-a-ne-ADDS c = grind (arith, nat_tests)

pub returns-else-is_kept : goal.returns-else-is_kept
unfolding goes
returns-else-is_kept c = grind (arith, nat_tests)
