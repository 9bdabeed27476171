use Rattle.form_write.proofs.Forming.{Seeking}
use Rattle.form_write.proofs.counter.Given as goal

abbrev pub invariant-loop-object : goal.invariant-loop-object
invariant-loop-object l = Seeking l.kinds l.ahead l.object l.left
