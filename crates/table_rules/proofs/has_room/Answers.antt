use Rattle.table_rules.proofs.Heading.{room_there}
use Rattle.table_rules.proofs.has_room.Goals as goal

pub returns : goal.returns
returns c = search room_there
