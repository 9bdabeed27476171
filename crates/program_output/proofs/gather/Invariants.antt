use Rattle.program_output.proofs.Replying.{Replying}
use Rattle.program_output.proofs.gather.Given as goal

abbrev pub invariant-loop-k : goal.invariant-loop-k
invariant-loop-k l = Replying l.source l.line l.initial.space l.initial.waits.count l.initial.pending l.space l.waits.count l.pending l.k
