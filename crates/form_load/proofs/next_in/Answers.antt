use Rattle.form_load.proofs.Nexts.{next_behind, next_clock, next_last, next_none}
use Rattle.form_load.proofs.next_in.Goals as goal

pub returns-then-space-eq-IDLE : goal.returns-then-space-eq-IDLE
returns-then-space-eq-IDLE c = search next_none

pub returns-then-space-eq-OPENED : goal.returns-then-space-eq-OPENED
returns-then-space-eq-OPENED c = search next_clock

pub returns-then-progress-size : goal.returns-then-progress-size
returns-then-progress-size c = search next_last

pub returns : goal.returns
returns c = search next_behind
