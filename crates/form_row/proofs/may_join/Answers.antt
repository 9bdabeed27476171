use Rattle.form_row.proofs.Joining.{join_after, join_first, join_full, join_unruly, last_row_room}
use Rattle.form_row.proofs.may_join.Goals as goal

pub returns-then-space-count : goal.returns-then-space-count
returns-then-space-count c = search join_full

pub returns-then-not-row_ok : goal.returns-then-not-row_ok
returns-then-not-row_ok c = search join_unruly

pub returns-then-count-eq0 : goal.returns-then-count-eq0
returns-then-count-eq0 c = search join_first

pub slice_bounds-may_follow-end : goal.slice_bounds-may_follow-end
slice_bounds-may_follow-end c = last_row_room _ c.requires.0 _ c.wide-size.ensures.0 c.if-count-eq0.false _ c.space_for-last.ensures.0

pub returns : goal.returns
returns c = search join_after
