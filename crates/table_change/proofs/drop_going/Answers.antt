use Rattle.table_change.proofs.Changing.{left_count, dropped}
use Rattle.table_change.proofs.drop_going.Goals as goal

pub returns : goal.returns
returns c = (search left_count, search dropped)
