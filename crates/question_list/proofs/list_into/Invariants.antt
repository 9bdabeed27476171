use Rattle.std.proofs.Common.{◌-◌}
use Rattle.question_list.proofs.Lists.{Writing}
use Rattle.question_list.proofs.list_into.Given as goal

abbrev pub invariant-loop-to : goal.invariant-loop-to
invariant-loop-to l = Writing l.s l.object l.initial.out l.out l.passed l.to (l.to-end - l.to)
