use Rattle.table_rules_rows.specs.RowTests.{follows}
use Rattle.table_rules_rows.proofs.Chaining.{Chaining}
use Rattle.table_rules_rows.proofs.in_order.Given as goal

abbrev pub invariant-loop-k : goal.invariant-loop-k
invariant-loop-k l = Chaining (follows l.kinds) l.width l.k-end l.rows l.good l.k
