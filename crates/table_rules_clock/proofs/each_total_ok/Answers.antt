use Rattle.std.proofs.Common.{arith, rules}
use Rattle.table_rules_rows.proofs.Scanning.{next_noted, pass_done}
use Rattle.table_rules_clock.proofs.each_total_ok.Goals as goal

pub loop-k-preserved : goal.loop-k-preserved
loop-k-preserved c = search (next_noted, rules)

pub returns : goal.returns
returns c = pass_done _ _ _ _ _ _ _ c.loop-k.invariant (omega arith)
