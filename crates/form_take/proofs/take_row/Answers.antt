use Rattle.std.proofs.Common.{rules}
use Rattle.form_row.proofs.Joining.{join_counts}
use Rattle.form_take.proofs.Closing.{row_misshapen, row_right, row_unruly}
use Rattle.form_take.proofs.take_row.Goals as goal

pub returns-then-f-gt-SETTLED_BYTE : goal.returns-then-f-gt-SETTLED_BYTE
returns-then-f-gt-SETTLED_BYTE c = search row_misshapen

pub join-requires : goal.join-requires
join-requires c = (search rules, search rules, join_counts _ _ _ c.may_join.ensures (search rules))

pub returns-then-may_join : goal.returns-then-may_join
returns-then-may_join c = search row_right

pub returns-else-may_join : goal.returns-else-may_join
returns-else-may_join c = search row_unruly
