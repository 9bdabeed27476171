use Rattle.std.proofs.Common.{◌*◌}
use Rattle.table_rules_rows.specs.RowTests.{row_kept}
use Rattle.table_rules_rows.proofs.Scanning.{Passed, anywhere}
use Rattle.table_rules_rows.proofs.each_ok.Given as goal

abbrev pub invariant-loop-k : goal.invariant-loop-k
invariant-loop-k l = Passed (anywhere (row_kept l.kinds l.clock)) l.width l.k-end l.rows l.good l.k (l.k * l.width)
