use Rattle.form_lines.proofs.Parts.{ahead_fits, row_at_fits, row_at_is, row_at_room}
use Rattle.form_lines.proofs.row_at.Goals as goal

pub overflow_mul-result : goal.overflow_mul-result
overflow_mul-result c = search ahead_fits

pub overflow_add-result-2 : goal.overflow_add-result-2
overflow_add-result-2 c = search row_at_fits

pub returns : goal.returns
returns c = (search row_at_is, search row_at_room)
