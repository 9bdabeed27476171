use Rattle.table_ranges.proofs.Heading.{range_below, range_from}
use Rattle.table_ranges.proofs.in_range.Goals as goal

pub returns-then-least-number : goal.returns-then-least-number
returns-then-least-number c = range_from _ _ _ c.if-least-number.true

pub returns-else-least-number : goal.returns-else-least-number
returns-else-least-number c = range_below _ _ _ c.if-least-number.false
