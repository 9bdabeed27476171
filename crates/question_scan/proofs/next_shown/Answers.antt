use Rattle.std.proofs.Common.{arith}
use Rattle.question_scan.proofs.Scanning.{same_place_from, next_place_from, next_found, next_passed, next_none}
use Rattle.question_scan.proofs.next_shown.Goals as goal

pub returns-then-shows_at : goal.returns-then-shows_at
returns-then-shows_at c = search (next_found, same_place_from)

pub loop-i-preserved : goal.loop-i-preserved
loop-i-preserved c = search (next_passed, same_place_from, next_place_from)

pub returns : goal.returns
returns c = search (next_none, arith)
