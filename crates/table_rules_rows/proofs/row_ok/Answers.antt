use Rattle.std.proofs.Common.{arith}
use Rattle.std.proofs.lemmas.Bool.Decides.{nat_tests}
use Rattle.table_rules_rows.specs.RowTests.{row_kept}
use Rattle.table_rules_rows.proofs.Contents.{kept_unknown}
use Rattle.table_rules_rows.proofs.row_ok.Goals as goal

pub returns-then-content_ok : goal.returns-then-content_ok
unfolding row_kept
returns-then-content_ok c = grind (arith, nat_tests)

pub returns-else-content_ok : goal.returns-else-content_ok
unfolding row_kept
returns-else-content_ok c = grind (arith, nat_tests)

pub returns-in_default : goal.returns-in_default
returns-in_default c = kept_unknown _ _ _ _ c.kind_of.ensures c.in_default.ensures.1
