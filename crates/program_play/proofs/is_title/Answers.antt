use Rattle.std.proofs.Common.{◌∙◌}
use Rattle.program_play.proofs.Lines.{starts_title}
use Rattle.program_play.proofs.is_title.Goals as goal

pub returns-then-titles : goal.returns-then-titles
returns-then-titles c = rw c.if-titles.true (c.starts_with.ensures.value ∙ starts_title _)
