use Rattle.std.proofs.Common.{arith}
use Rattle.question_scan.proofs.Scanning.{same_place, next_place, value_found, value_passed, value_none}
use Rattle.question_scan.proofs.value_shown.Goals as goal

pub returns-then-shows_value_at : goal.returns-then-shows_value_at
returns-then-shows_value_at c = value_found _ _ _ _ _ (omega arith) _ _ _ (same_place _ _ _ c.wide.ensures.0) _ c.shows_value_at.ensures _ c.loop-i.invariant c.if-shows_value_at.true

pub loop-i-preserved : goal.loop-i-preserved
loop-i-preserved c = search (value_passed, same_place, next_place)

pub returns : goal.returns
returns c = search (value_none, arith)
