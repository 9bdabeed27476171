use Rattle.std.proofs.Common.{arith}
use Rattle.std.proofs.lemmas.Bool.Decides.{nat_tests}
use Rattle.table_change.proofs.Wrapping.{increased_is, decreased_is}
use Rattle.table_change.proofs.changed.Goals as goal

pub returns-then-increase : goal.returns-then-increase
returns-then-increase c =
    increased_is _ _ _ _ _ (omega arith) (omega arith) (omega arith) (omega arith) (omega arith) _ c.if-increase.true (omega arith)

pub returns-else-increase : goal.returns-else-increase
returns-else-increase c =
    decreased_is _ _ _ _ _ (omega arith) (omega arith) (omega arith) (omega arith) (omega arith) _ c.if-increase.false (grind (arith, nat_tests))
