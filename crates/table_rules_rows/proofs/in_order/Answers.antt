use Rattle.std.proofs.Common.{arith, rules}
use Rattle.table_rules_rows.proofs.Chaining.{chain_start, chain_noted, chain_done}
use Rattle.table_rules_rows.proofs.in_order.Goals as goal

pub loop-k-init : goal.loop-k-init
loop-k-init c = chain_start _ _ _ _ c.requires.0

pub loop-k-preserved : goal.loop-k-preserved
loop-k-preserved c = search (chain_noted, rules)

pub returns : goal.returns
returns c = chain_done _ _ _ _ _ _ c.loop-k.invariant (omega arith)
