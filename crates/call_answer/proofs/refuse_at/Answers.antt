use Rattle.call_answer.proofs.OutputLines.{refused_later, refused_first}
use Rattle.call_answer.proofs.refuse_at.Goals as goal

pub returns-then-k-gt0 : goal.returns-then-k-gt0
returns-then-k-gt0 c = search refused_later

pub returns : goal.returns
returns c = search refused_first
