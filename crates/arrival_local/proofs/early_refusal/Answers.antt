use Rattle.arrival_local.proofs.Issuing.{early_is}
use Rattle.arrival_local.proofs.early_refusal.Goals as goal

pub returns : goal.returns
returns c = search early_is
