use Rattle.std.proofs.Common.{◌∙◌}
use Rattle.line_read.specs.Types.{is_line_of, line_read}
use Rattle.line_read.specs.SavedNamed.{clock_of, clock_read, is_clock}
use Rattle.line_read.proofs.Readers.{named, unnamed}
use Rattle.line_read.proofs.read_clock.Goals as goal

pub returns-in_err-vector : goal.returns-in_err-vector
unfolding clock_read is_clock line_read is_line_of
returns-in_err-vector c = c.from_residual.ensures ∙ unnamed clock_of _ _ c.in_err-vector.ensures

pub returns : goal.returns
unfolding clock_read is_clock line_read is_line_of
returns c = named clock_of _ _ _ c.in_ok-vector.ensures
