use Rattle.replay.proofs.Holding.{holding_start, holding_turn}
use borrow.Author.Rules.{rules}
use Rattle.replay.proofs.main.Goals as goal

pub loop-i-init : goal.loop-i-init
loop-i-init c = search (holding_start, rules)

pub loop-i-preserved : goal.loop-i-preserved
loop-i-preserved c = search holding_turn
