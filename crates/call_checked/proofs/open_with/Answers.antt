use Rattle.call_checked.proofs.Opening.{open_refused, open_ranges, open_room, open_fresh}
use Rattle.call_checked.proofs.open_with.Goals as goal

pub lay_table-requires : goal.lay_table-requires
lay_table-requires c = (open_ranges c.args.space.now _ _ c.in-Ok.ensures, open_room c.args.space.now _ _ c.in-Ok.ensures)

pub returns-in-Ok : goal.returns-in-Ok
returns-in-Ok c = search (open_fresh, c.in-Ok.ensures)

pub returns-in-Err : goal.returns-in-Err
returns-in-Err c = open_refused _ _ _ _ c.in-Err.ensures
