use Rattle.program_input.proofs.Feeding.{reading_ended, reading_start, reading_turn, ready_still}
use Rattle.program_input.proofs.read.Goals as goal

pub loop-init : goal.loop-init
loop-init g c = search reading_start

pub returns-in-None : goal.returns-in-None
returns-in-None g c =
    let held = c.loop.invariant in
    let read = c.some.ensures in
    (reading_ended _ _ _ _ _ _ _ _ _ _ _ _ held _ _ _ _ read c.in-None.is, ready_still _ _ _ _ _ _ _ _ _ _ _ _ held _ _ _ _ read c.in-None.is)

pub loop-preserved : goal.loop-preserved
loop-preserved g c = search reading_turn
