use Rattle.std.proofs.Common.{◌*◌, length}
use Rattle.table_rules_clock.specs.ClockTests.{last_kept}
use Rattle.table_rules_rows.proofs.Scanning.{Passed}
use Rattle.table_rules_clock.proofs.each_last_ok.Given as goal

abbrev pub invariant-loop-station : goal.invariant-loop-station
invariant-loop-station l = Passed (last_kept l.own.0 l.clock) (length l.clock) (length l.clock) l.lasts l.good l.station (l.station * length l.clock)
