use Rattle.program_input.proofs.Feeding.{Reading}
use Rattle.program_input.proofs.read.Given as goal

abbrev pub invariant-loop : goal.invariant-loop
invariant-loop g l =
    Reading l.titles l.initial.line l.initial.so_far.have l.initial.so_far.part.source l.initial.space l.initial.pending l.line l.space l.pending l.so_far.have l.so_far.part.waiting.count l.so_far.part.source
