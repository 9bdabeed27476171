use Rattle.settling_pass.proofs.Passing.{settled_here_lem}
use Rattle.settling_pass.proofs.settle_row.Goals as goal

pub returns : goal.returns
returns c = search settled_here_lem
