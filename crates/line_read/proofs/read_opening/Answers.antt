use Rattle.std.proofs.Common.{◌∙◌, arith}
use Rattle.line_read.proofs.Readers.{opening_few, opening_other, opening_there}
use Rattle.line_read.proofs.read_opening.Goals as goal

pub returns-in_err-get : goal.returns-in_err-get
returns-in_err-get c = c.from_residual.ensures ∙ opening_few c.args.s.now (grind arith)

pub returns-then-not-has_shape : goal.returns-then-not-has_shape
returns-then-not-has_shape c = opening_other c.args.s.now _ _ (c.in_ok-get.ensures.lookup.3.1 0) c.from-kinds.ensures _ c.has_shape.ensures c.if-not-has_shape.true

pub returns : goal.returns
returns c = opening_there c.args.s.now _ _ (c.in_ok-get.ensures.lookup.3.1 0) c.from-kinds.ensures _ c.has_shape.ensures _ c.if-not-has_shape.false c.head_of.ensures
