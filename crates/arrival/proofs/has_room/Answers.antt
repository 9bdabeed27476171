use Rattle.arrival.proofs.Putting.{room_put, room_none}
use Rattle.arrival.proofs.has_room.Goals as goal

pub returns-then-puts_row : goal.returns-then-puts_row
returns-then-puts_row c = search room_put

pub returns-else-puts_row : goal.returns-else-puts_row
returns-else-puts_row c = search room_none
