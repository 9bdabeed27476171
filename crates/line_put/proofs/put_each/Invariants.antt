use Rattle.line_put.proofs.Laying.{Numbering}
use Rattle.line_put.proofs.put_each.Given as goal

abbrev pub invariant-loop-number : goal.invariant-loop-number
invariant-loop-number l = Numbering l.initial.out l.at l.width l.numbers l.out l.to l.number-index
