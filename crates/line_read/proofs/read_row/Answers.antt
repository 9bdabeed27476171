use Rattle.std.proofs.Common.{◌∙◌}
use Rattle.line_read.specs.Types.{is_line_of, line_read}
use Rattle.line_read.specs.SavedNamed.{row_of, row_read, is_row}
use Rattle.line_read.proofs.Readers.{named, unnamed}
use Rattle.line_read.proofs.read_row.Goals as goal

pub returns-in_err-fields : goal.returns-in_err-fields
unfolding row_read is_row line_read is_line_of
returns-in_err-fields c = c.from_residual.ensures ∙ unnamed row_of _ _ c.in_err-fields.ensures

pub returns : goal.returns
unfolding row_read is_row line_read is_line_of
returns c = named row_of _ _ _ c.in_ok-fields.ensures
