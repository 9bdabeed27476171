use Rattle.std.proofs.Common.{arith}
use Rattle.words_tags.proofs.Lessening.{start, turn, done}
use Rattle.words_tags.proofs.lessen.Goals as goal

pub loop-i-init : goal.loop-i-init
loop-i-init c = search start

pub loop-i-preserved : goal.loop-i-preserved
loop-i-preserved c = turn _ _ _ _ c.loop-i.invariant (omega arith) _ (omega arith)

pub returns : goal.returns
returns c = done _ _ _ _ c.loop-i.invariant (omega arith)
