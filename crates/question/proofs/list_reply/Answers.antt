use Rattle.question.proofs.Asked.{too_long_replied, list_replied}
use Rattle.question.proofs.list_reply.Goals as goal

pub returns-then-out-wide : goal.returns-then-out-wide
returns-then-out-wide c = search too_long_replied

pub returns : goal.returns
returns c = search list_replied
