use Rattle.settling.proofs.Settled.{kinds_laid}
use Rattle.settling.proofs.kinds_of.Goals as goal

pub returns : goal.returns
returns c = search kinds_laid
