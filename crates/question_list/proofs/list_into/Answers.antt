use Rattle.std.proofs.Common.{arith}
use Rattle.question_list.proofs.Lists.{writing_start, writing_done, writing_next}
use Rattle.question_list.proofs.list_into.Goals as goal

pub loop-to-init : goal.loop-to-init
loop-to-init c = search (writing_start, arith)

pub loop-to-preserved : goal.loop-to-preserved
loop-to-preserved c = search (writing_next, arith)

pub returns : goal.returns
returns c = search (writing_done, arith)
