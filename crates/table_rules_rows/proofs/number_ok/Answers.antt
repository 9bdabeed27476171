use Rattle.std.proofs.Common.{arith}
use Rattle.std.proofs.lemmas.Bool.Decides.{nat_tests}
use Rattle.table_rules_rows.specs.RowTests.{number_kept}
use Rattle.table_rules_rows.proofs.number_ok.Goals as goal

pub returns : goal.returns
unfolding number_kept
returns c = grind (arith, nat_tests)
