use Rattle.line_shape.proofs.Filling.{Heading}
use Rattle.line_shape.proofs.fields_of.Given as goal

abbrev pub invariant-loop-i : goal.invariant-loop-i
invariant-loop-i g l = Heading g.row.MOST l.bytes l.widths l.fields l.rest l.i
