use Rattle.table_insert.proofs.Placing.{row_room, place_below, key_room, vector_room, insertion}
use native.Mathlib.Omega.{arith}
use Rattle.table_insert.proofs.insert_row.Goals as goal

pub move_up-requires : goal.move_up-requires
move_up-requires c = (search (place_below, arith), search row_room)

pub put-requires : goal.put-requires
put-requires c = search key_room

pub put-requires-2 : goal.put-requires-2
put-requires-2 c = search vector_room

pub returns : goal.returns
returns c = search insertion
