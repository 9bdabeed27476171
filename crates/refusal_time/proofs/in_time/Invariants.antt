use Rattle.refusal_time.proofs.Entries.{Timely}
use Rattle.refusal_time.proofs.in_time.Given as goal

abbrev pub invariant-loop-i : goal.invariant-loop-i
invariant-loop-i l = Timely l.v l.clock l.at l.good l.i
