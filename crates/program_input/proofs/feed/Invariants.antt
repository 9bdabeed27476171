use Rattle.program_input.proofs.Feeding.{Feeding}
use Rattle.program_input.proofs.feed.Given as goal

abbrev pub invariant-loop-b : goal.invariant-loop-b
invariant-loop-b l =
    Feeding l.titles l.initial.line l.initial.kept.have (l.initial.kept.part.source, (l.initial.space, (l.initial.kept.part.waiting.count, l.initial.pending))) l.chunk l.line l.kept.have l.kept.part.source l.space l.kept.part.waiting.count l.pending l.b-index
