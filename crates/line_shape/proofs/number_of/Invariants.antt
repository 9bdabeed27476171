use Rattle.line_shape.proofs.Counting.{Counting}
use Rattle.line_shape.proofs.number_of.Given as goal

abbrev pub invariant-loop-byte : goal.invariant-loop-byte
invariant-loop-byte l = Counting l.bytes l.number l.byte-index
