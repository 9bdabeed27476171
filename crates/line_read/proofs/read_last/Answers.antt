use Rattle.std.proofs.Common.{◌∙◌}
use Rattle.line_read.specs.Types.{is_line_of, line_read}
use Rattle.line_read.specs.SavedNamed.{last_of, last_read, is_last}
use Rattle.line_read.proofs.Readers.{named, unnamed}
use Rattle.line_read.proofs.read_last.Goals as goal

pub returns-in_err-fields : goal.returns-in_err-fields
unfolding last_read is_last line_read is_line_of
returns-in_err-fields c = c.from_residual.ensures ∙ unnamed last_of _ _ c.in_err-fields.ensures

pub returns : goal.returns
unfolding last_read is_last line_read is_line_of
returns c = named last_of _ _ _ c.in_ok-fields.ensures
