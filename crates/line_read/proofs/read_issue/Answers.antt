use Rattle.std.proofs.Common.{◌∙◌}
use Rattle.line_read.specs.Types.{is_line_of, line_read}
use Rattle.line_read.specs.Named.{issue_of, issue_read, is_issue}
use Rattle.line_read.proofs.Readers.{named, unnamed}
use Rattle.line_read.proofs.read_issue.Goals as goal

pub returns-in_err-object : goal.returns-in_err-object
unfolding issue_read is_issue line_read is_line_of
returns-in_err-object c = c.from_residual.ensures ∙ unnamed issue_of _ _ c.in_err-object.ensures

pub returns : goal.returns
unfolding issue_read is_issue line_read is_line_of
returns c = named issue_of _ _ _ c.in_ok-object.ensures
