use Rattle.std.proofs.Common.{◌∙◌}
use Rattle.line_read.specs.Types.{is_line_of, line_read}
use Rattle.line_read.specs.Named.{settling_of, settling_read, is_settling}
use Rattle.line_read.proofs.Readers.{named, unnamed}
use Rattle.line_read.proofs.read_settling.Goals as goal

pub returns-in_err-limit : goal.returns-in_err-limit
unfolding settling_read is_settling line_read is_line_of
returns-in_err-limit c = c.from_residual.ensures ∙ unnamed settling_of _ _ c.in_err-limit.ensures

pub returns : goal.returns
unfolding settling_read is_settling line_read is_line_of
returns c = named settling_of _ _ _ c.in_ok-limit.ensures
