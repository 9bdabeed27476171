use Rattle.std.proofs.Common.{◌-◌}
use Rattle.call_question.proofs.Values.{Valuing}
use Rattle.call_question.proofs.put_values.Given as goal

abbrev pub invariant-loop-i : goal.invariant-loop-i
invariant-loop-i l = Valuing l.s l.object l.initial.out l.at l.out l.passed l.to (l._i-end - l._i)
