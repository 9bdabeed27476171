use Rattle.std.proofs.Common.{arith}
use Rattle.std.proofs.lemmas.Bool.Decides.{nat_tests}
use Rattle.meaning.specs.Table.{settled_only}
use Rattle.table_rules_rows.proofs.is_settled_only.Goals as goal

pub returns-in_default : goal.returns-in_default
unfolding settled_only
returns-in_default c = grind (arith, nat_tests)
