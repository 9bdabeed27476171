use Rattle.settling_step.proofs.Testing.{due_not, due_by_low}
use Rattle.settling_step.proofs.is_due.Goals as goal

pub returns-then-row-ne0 : goal.returns-then-row-ne0
returns-then-row-ne0 c = search due_by_low

pub returns-else-row-ne0 : goal.returns-else-row-ne0
returns-else-row-ne0 c = search due_not
