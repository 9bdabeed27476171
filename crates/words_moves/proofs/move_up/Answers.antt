use Rattle.std.proofs.Common.{arith}
use Rattle.words_moves.proofs.Moving.{up_start, up_turn, up_done}
use Rattle.words_moves.proofs.move_up.Goals as goal

pub loop-i-init : goal.loop-i-init
loop-i-init c = search (up_start, arith)

pub loop-i-preserved : goal.loop-i-preserved
loop-i-preserved c = search (up_turn, arith)

pub returns : goal.returns
returns c = search (up_done, arith)
