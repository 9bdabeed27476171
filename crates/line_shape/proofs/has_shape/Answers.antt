use Rattle.std.proofs.Common.{refl}
use Rattle.line_shape.proofs.Taking.{shape_by_type, shape_other}
use Rattle.line_shape.proofs.has_shape.Goals as goal

pub returns-then-s-size : goal.returns-then-s-size
returns-then-s-size c = shape_by_type _ _ _ _ _ _ c.if-s-size.true c.eq.ensures c.first.ensures.value refl

pub returns-else-s-size : goal.returns-else-s-size
returns-else-s-size c = shape_other _ _ _ c.if-s-size.false
