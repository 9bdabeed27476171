use Rattle.std.proofs.Common.{arith}
use Rattle.std.proofs.lemmas.Bool.Decides.{nat_tests}
use Rattle.table_drop.proofs.concerns.Goals as goal
use Rattle.table_drop.proofs.concerns.Goals.{then-in_register, else-in_register}

pub returns-then-clears : goal.returns-then-clears
returns-then-clears c = elim c.if-in_register.branch [ then-in_register w ↦ grind (arith, nat_tests) | else-in_register w ↦ grind (arith, nat_tests) ]
