use Rattle.std.proofs.Common.{arith}
use Rattle.line_hex.proofs.Reading.{decoding_start, decoding_turn, decoding_stopped, decoding_full}
use Rattle.line_hex.proofs.decode.Goals as goal

pub loop-count-init : goal.loop-count-init
loop-count-init c = search decoding_start

pub loop-count-preserved : goal.loop-count-preserved
loop-count-preserved c = decoding_turn _ _ _ _ c.loop-count.invariant _ (omega arith) c.in-Some.ensures

pub returns-in-None : goal.returns-in-None
returns-in-None c = decoding_stopped _ _ _ _ c.loop-count.invariant _ c.in-None.ensures c.ended_at.ensures

pub returns : goal.returns
returns c = search (decoding_full, arith)
