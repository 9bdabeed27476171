use mathlib.Core.Path.{◌≡◌}
use lib.Seq.{paste}
use Rattle.table_opening.proofs.put_kinds.Given as goal

abbrev pub invariant-loop-i : goal.invariant-loop-i
invariant-loop-i l = l.s ≡ paste l.initial.s 7 l.kinds l.i
