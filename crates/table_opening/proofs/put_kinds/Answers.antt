use Rattle.words_moves.proofs.Moving.{put_turn}
use native.Mathlib.Omega.{arith}
use Rattle.table_opening.proofs.put_kinds.Goals as goal

pub loop-i-preserved : goal.loop-i-preserved
loop-i-preserved c = put_turn _ _ _ _ _ _ c.requires (omega arith) c.from.ensures c.loop-i.invariant
