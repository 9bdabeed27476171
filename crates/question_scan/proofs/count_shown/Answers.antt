use Rattle.std.proofs.Common.{arith}
use Rattle.question_scan.proofs.Scanning.{same_place, next_place, counted, counting_on, counting_done}
use Rattle.question_scan.proofs.count_shown.Goals as goal
use Rattle.question_scan.proofs.count_shown.Goals.{then-shows_at, else-shows_at}

pub loop-i-preserved : goal.loop-i-preserved
loop-i-preserved c = elim c.if-shows_at.branch [
  | then-shows_at w ↦ (omega arith, search (counted, same_place, next_place, c.loop-i.invariant.1))
  | else-shows_at w ↦ (omega arith, search (counting_on, same_place, next_place, c.loop-i.invariant.1))
]

pub returns : goal.returns
returns c = search (counting_done, c.loop-i.invariant.1, arith)
