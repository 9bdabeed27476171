use Rattle.settling.proofs.Least.{low_asks, low_is_lem}
use Rattle.settling.proofs.low_of.Goals as goal

pub lessen_by_others-requires : goal.lessen_by_others-requires
lessen_by_others-requires c = search low_asks

pub returns : goal.returns
returns c = search low_is_lem
