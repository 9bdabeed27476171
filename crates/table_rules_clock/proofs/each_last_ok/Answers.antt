use Rattle.std.proofs.Common.{arith}
use Rattle.table_rules_rows.proofs.Scanning.{next_noted, pass_done}
use Rattle.table_rules_clock.proofs.each_last_ok.Goals as goal

pub loop-station-preserved : goal.loop-station-preserved
loop-station-preserved c = next_noted _ _ _ _ _ _ c.loop-station.invariant c.loop-station-test.true _ c.last_ok-good.ensures

pub returns : goal.returns
returns c = pass_done _ _ _ _ _ _ _ c.loop-station.invariant (omega arith)
