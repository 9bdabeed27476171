use Rattle.form_lines.proofs.Parts.{last_ahead_fits, last_at_fits, last_end_fits, last_at_scaled, last_within, last_written}
use Rattle.form_lines.proofs.write_last.Goals as goal

pub overflow_mul-at : goal.overflow_mul-at
overflow_mul-at c = search last_ahead_fits

pub overflow_add-at-2 : goal.overflow_add-at-2
overflow_add-at-2 c = search last_at_fits

pub overflow_add-end : goal.overflow_add-end
overflow_add-end c = search last_end_fits

pub offset_bounds-space-at : goal.offset_bounds-space-at
offset_bounds-space-at c = search last_at_scaled

pub slice_bounds-write_last-end : goal.slice_bounds-write_last-end
slice_bounds-write_last-end c = search last_within

pub returns : goal.returns
returns c = search last_written
