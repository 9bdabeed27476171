use Rattle.std.proofs.Common.{arith}
use Rattle.std.proofs.lemmas.Bool.Decides.{nat_tests}
use Rattle.table_rules.specs.TableTests.{sizes_kept}
use Rattle.table_rules.proofs.sizes_ok.Goals as goal

pub returns-then-in_range-2 : goal.returns-then-in_range-2
unfolding sizes_kept
returns-then-in_range-2 c = grind (arith, nat_tests)

pub returns-else-in_range-2 : goal.returns-else-in_range-2
unfolding sizes_kept
returns-else-in_range-2 c = grind (arith, nat_tests)
