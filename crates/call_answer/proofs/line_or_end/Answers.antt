use Rattle.std.proofs.Common.{◌∙◌}
use Rattle.call_answer.proofs.OutputLines.{ok_is}
use Rattle.call_answer.proofs.line_or_end.Goals as goal

pub returns : goal.returns
returns c = c.ok.ensures.value ∙ ok_is _
