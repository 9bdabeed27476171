use Rattle.line_hex.proofs.Writing.{Putting}
use Rattle.line_hex.proofs.put_number.Given as goal

abbrev pub invariant-loop-i : goal.invariant-loop-i
invariant-loop-i l = Putting l.initial.out l.at l.number l.width l.out l.i l.rest
