use Rattle.settling_step.proofs.Testing.{is_beside, not_beside}
use Rattle.settling_step.proofs.compared.Goals as goal

pub returns-then-same : goal.returns-then-same
returns-then-same c = search is_beside

pub returns-else-same : goal.returns-else-same
returns-else-same c = search not_beside
