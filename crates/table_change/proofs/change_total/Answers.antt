use Rattle.table_change.proofs.Totals.{total_put}
use Rattle.table_change.proofs.change_total.Goals as goal

pub returns : goal.returns
returns c = search total_put
