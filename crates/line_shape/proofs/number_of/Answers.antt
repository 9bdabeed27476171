use Rattle.std.proofs.Common.{arith}
use Rattle.line_shape.proofs.Counting.{counting_start, counting_shift, counting_add, counting_turn}
use Rattle.line_shape.proofs.number_of.Goals as goal

pub loop-byte-init : goal.loop-byte-init
loop-byte-init c = search counting_start

pub overflow_mul-number : goal.overflow_mul-number
overflow_mul-number c = counting_shift _ _ _ c.loop-byte.invariant (omega arith)

pub overflow_add-number : goal.overflow_add-number
overflow_add-number c = counting_add _ _ _ c.loop-byte.invariant _ (omega (arith, c.type_inv.bytes c.loop-byte.byte-index)) (omega arith)

pub loop-byte-preserved : goal.loop-byte-preserved
loop-byte-preserved c = counting_turn _ _ _ c.loop-byte.invariant _ (omega (arith, c.type_inv.bytes c.loop-byte.byte-index)) c.loop-byte-test.true c.from.ensures
