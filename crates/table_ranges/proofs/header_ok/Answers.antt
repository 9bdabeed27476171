use Rattle.std.proofs.Common.{arith}
use Rattle.std.proofs.lemmas.Grind.{common_steps}
use Rattle.meaning.specs.Table.{in_range, header_rules}
use Rattle.table_ranges.proofs.header_ok.Goals as goal

pub returns-then-kinds_known : goal.returns-then-kinds_known
unfolding in_range header_rules
returns-then-kinds_known c = grind (arith, common_steps)

pub returns-else-kinds_known : goal.returns-else-kinds_known
unfolding in_range header_rules
returns-else-kinds_known c = grind (arith, common_steps)
