use Rattle.table_opening.proofs.Laying.{laid}
use Rattle.table_opening.proofs.lay.Goals as goal

pub returns : goal.returns
returns c = search laid
