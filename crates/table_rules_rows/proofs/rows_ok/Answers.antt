use Rattle.std.proofs.Common.{arith}
use Rattle.std.proofs.lemmas.Bool.Decides.{nat_tests}
use Rattle.table_rules_rows.specs.RowTests.{rows_kept}
use Rattle.table_rules_rows.proofs.rows_ok.Goals as goal

pub returns-then-each_ok : goal.returns-then-each_ok
unfolding rows_kept
returns-then-each_ok c = grind (arith, nat_tests)

pub returns-else-each_ok : goal.returns-else-each_ok
unfolding rows_kept
returns-else-each_ok c = grind (arith, nat_tests)
