use Rattle.settling_step.proofs.Testing.{behind_nothing, behind_next, next_room}
use Rattle.settling_step.proofs.behind.Goals as goal

pub returns-then-more-eq0 : goal.returns-then-more-eq0
returns-then-more-eq0 c = search behind_nothing

pub slice_bounds-compared-end-2 : goal.slice_bounds-compared-end-2
slice_bounds-compared-end-2 c = search next_room

pub returns : goal.returns
returns c = search behind_next
