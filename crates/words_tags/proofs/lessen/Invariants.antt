use Rattle.words_tags.proofs.Lessening.{Lessened}
use Rattle.words_tags.proofs.lessen.Given as goal

abbrev pub invariant-loop-i : goal.invariant-loop-i
invariant-loop-i l = Lessened l.initial.low l.t l.low l.i
