use Rattle.settling_step.proofs.Testing.{before_nothing, before_last, last_end, last_fits, last_start_fits, last_start, last_long}
use borrow.Author.Rules.{rules}
use Rattle.settling_step.proofs.before.Goals as goal

pub returns-then-left-eq0 : goal.returns-then-left-eq0
returns-then-left-eq0 c = search before_nothing

pub overflow_mul-to : goal.overflow_mul-to
overflow_mul-to c = search last_fits

pub overflow_sub-to : goal.overflow_sub-to
overflow_sub-to c = search last_start

pub offset_bounds-rows-to : goal.offset_bounds-rows-to
offset_bounds-rows-to c = search last_start_fits

pub slice_bounds-compared-end-2 : goal.slice_bounds-compared-end-2
slice_bounds-compared-end-2 c = search last_end

pub compared-requires : goal.compared-requires
compared-requires c = (search rules, search last_long)

pub returns : goal.returns
returns c = search before_last
