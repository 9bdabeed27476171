use Rattle.std.proofs.Common.{◌*◌, length}
use Rattle.table_rules_clock.specs.ClockTests.{total_kept_at}
use Rattle.table_rules_rows.proofs.Scanning.{Passed}
use Rattle.table_rules_clock.proofs.each_total_ok.Given as goal

abbrev pub invariant-loop-k : goal.invariant-loop-k
invariant-loop-k l = Passed (total_kept_at l.bound l.kinds) 2 (length l.kinds) l.totals l.good l.k (l.k * 2)
