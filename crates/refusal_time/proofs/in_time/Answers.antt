use Rattle.refusal_time.proofs.Entries.{time_start, time_turn, time_done}
use Rattle.refusal_time.proofs.in_time.Goals as goal

pub loop-i-init : goal.loop-i-init
loop-i-init c = search time_start

pub loop-i-preserved : goal.loop-i-preserved
loop-i-preserved c = search time_turn

pub returns : goal.returns
returns c = search time_done
