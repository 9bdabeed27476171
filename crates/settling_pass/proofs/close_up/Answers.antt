use Rattle.settling_pass.proofs.Passing.{closed}
use Rattle.settling_pass.proofs.close_up.Goals as goal

pub returns : goal.returns
returns c = search closed
