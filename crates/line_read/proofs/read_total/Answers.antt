use Rattle.std.proofs.Common.{◌∙◌}
use Rattle.line_read.specs.Types.{is_line_of, line_read}
use Rattle.line_read.specs.SavedNamed.{total_of, total_read, is_total}
use Rattle.line_read.proofs.Readers.{named, unnamed}
use Rattle.line_read.proofs.read_total.Goals as goal

pub returns-in_err-object : goal.returns-in_err-object
unfolding total_read is_total line_read is_line_of
returns-in_err-object c = c.from_residual.ensures ∙ unnamed total_of _ _ c.in_err-object.ensures

pub returns : goal.returns
unfolding total_read is_total line_read is_line_of
returns c = named total_of _ _ _ c.in_ok-object.ensures
