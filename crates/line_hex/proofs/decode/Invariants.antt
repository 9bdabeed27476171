use Rattle.line_hex.proofs.Reading.{Decoding}
use Rattle.line_hex.proofs.decode.Given as goal

abbrev pub invariant-loop-count : goal.invariant-loop-count
invariant-loop-count l = Decoding l.line l.initial.into l.into l.count
