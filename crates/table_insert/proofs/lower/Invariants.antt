use Rattle.std.proofs.Common.{◌≡◌, drop}
use Rattle.meaning.specs.Rows.{lower_key}
use Rattle.table_insert.proofs.lower.Given as goal

abbrev pub invariant-loop-i : goal.invariant-loop-i
invariant-loop-i l = lower_key l.key l.other ≡ lower_key (drop l.i l.key) (drop l.i l.other)
