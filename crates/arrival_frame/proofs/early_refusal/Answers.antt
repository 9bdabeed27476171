use Rattle.arrival_frame.proofs.Receiving.{early_is}
use Rattle.arrival_frame.proofs.early_refusal.Goals as goal

pub returns : goal.returns
returns c = search early_is
