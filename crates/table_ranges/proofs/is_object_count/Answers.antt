use Rattle.table_ranges.proofs.Heading.{range_below, range_from}
use Rattle.table_ranges.proofs.is_object_count.Goals as goal

pub returns-then-objects-ge1 : goal.returns-then-objects-ge1
returns-then-objects-ge1 c = range_from _ _ _ c.if-objects-ge1.true

pub returns-else-objects-ge1 : goal.returns-else-objects-ge1
returns-else-objects-ge1 c = range_below _ _ _ c.if-objects-ge1.false
