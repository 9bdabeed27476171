use Rattle.std.proofs.Common.{◌≡◌, ◌+◌, ◌++◌, ◌≤◌, take, drop}
use Rattle.std.proofs.Math.Seq.{slice}
use Rattle.words_moves.proofs.move_up.Given as goal

abbrev pub invariant-loop-i : goal.invariant-loop-i
invariant-loop-i l = (l.start ≤ l.i) × (l.words ≡ take (l.i + l.gap) l.initial.words ++ slice l.i l.end l.initial.words ++ drop (l.end + l.gap) l.initial.words)
