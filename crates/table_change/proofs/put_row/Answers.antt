use Rattle.table_change.proofs.Inserting.{put_in}
use Rattle.table_change.proofs.put_row.Goals as goal

pub returns : goal.returns
returns c = search put_in
