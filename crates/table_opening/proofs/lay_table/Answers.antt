use Rattle.table_opening.proofs.Laying.{few, small, kinds_fit, needed_room, objects_fit, table_laid}
use borrow.Author.Rules.{rules}
use Rattle.table_opening.proofs.lay_table.Goals as goal

pub space_for-needed-requires : goal.space_for-needed-requires
space_for-needed-requires c = (search few, search small)

pub overflow_cast-objects : goal.overflow_cast-objects
overflow_cast-objects c = search objects_fit

pub lay-requires : goal.lay-requires
lay-requires c = (search rules, search kinds_fit, search needed_room)

pub returns : goal.returns
returns c = search table_laid
