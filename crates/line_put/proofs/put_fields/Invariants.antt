use Rattle.std.proofs.Common.{length}
use Rattle.line_put.proofs.Laying.{Fielding}
use Rattle.line_put.proofs.put_fields.Given as goal

abbrev pub invariant-loop-width : goal.invariant-loop-width
invariant-loop-width l = Fielding l.initial.out l.at l.widths l.fields l.out l.to (length l.yielded)
