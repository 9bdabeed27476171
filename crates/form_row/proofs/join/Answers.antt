use Rattle.form_row.proofs.Joining.{join_room, row_joined}
use Rattle.form_row.proofs.join.Goals as goal

pub put-requires : goal.put-requires
put-requires c = search join_room

pub returns : goal.returns
returns c = search row_joined
