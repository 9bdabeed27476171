use Rattle.replay.proofs.Holding.{Holding}
use Rattle.replay.proofs.main.Given as goal

abbrev pub invariant-loop-i : goal.invariant-loop-i
invariant-loop-i l =
    Holding l.space l.line l.pending l.kept.have l.kept.part.waiting.count
