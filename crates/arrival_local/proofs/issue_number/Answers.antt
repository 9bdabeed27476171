use Rattle.arrival_local.proofs.Issuing.{rises_early, vector_long, number_early, number_none, number_full}
use Rattle.table_change.proofs.Changing.{opened}
use borrow.Author.Rules.{rules}
use Rattle.arrival_local.proofs.issue_number.Goals as goal

pub next_vector-next-requires : goal.next_vector-next-requires
next_vector-next-requires c = (search rules, search (rises_early, c.in-Ok.ensures))

pub has_room-requires : goal.has_room-requires
has_room-requires c = (search opened, search vector_long)

pub returns-then-has_room : goal.returns-then-has_room
returns-then-has_room c = search (number_none, c.in-Ok.ensures)

pub returns-else-has_room : goal.returns-else-has_room
returns-else-has_room c = search (number_full, c.in-Ok.ensures)

pub returns-in-Err : goal.returns-in-Err
returns-in-Err c = number_early _ _ _ c.in-Err.ensures
