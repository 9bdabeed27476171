use Rattle.line_put.proofs.Whole.{each_fits, size_fits, double_fits, write_short, write_room, write_end, write_done}
use native.Mathlib.Nat.{le_of_lt}
use Rattle.line_put.proofs.write_fields.Goals as goal

pub overflow_mul-size : goal.overflow_mul-size
overflow_mul-size c = search each_fits

pub overflow_add-size : goal.overflow_add-size
overflow_add-size c = search size_fits

pub overflow_mul-size-2 : goal.overflow_mul-size-2
overflow_mul-size-2 c = search double_fits

pub returns-then-out-size : goal.returns-then-out-size
returns-then-out-size c = search write_short

pub put_each-end-requires : goal.put_each-end-requires
put_each-end-requires c = search (write_room, le_of_lt)

pub put_lf-requires : goal.put_lf-requires
put_lf-requires c = search (write_end, le_of_lt)

pub returns : goal.returns
returns c = search (write_done, le_of_lt)
