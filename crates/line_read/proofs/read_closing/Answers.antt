use Rattle.std.proofs.Common.{◌∙◌}
use Rattle.line_read.specs.Types.{is_line_of, line_read}
use Rattle.line_read.specs.SavedNamed.{closing_of, closing_read, is_closing}
use Rattle.line_read.proofs.Readers.{named, unnamed}
use Rattle.line_read.proofs.read_closing.Goals as goal

pub returns-in_err-rows : goal.returns-in_err-rows
unfolding closing_read is_closing line_read is_line_of
returns-in_err-rows c = c.from_residual.ensures ∙ unnamed closing_of _ _ c.in_err-rows.ensures

pub returns : goal.returns
unfolding closing_read is_closing line_read is_line_of
returns c = named closing_of _ _ _ c.in_ok-rows.ensures
