use Rattle.std.proofs.Common.{◌*◌, ◌-◌}
use Rattle.table_drop.specs.Arriving.{row_goes}
use Rattle.table_drop.proofs.Dropping.{Dropping}
use Rattle.table_drop.proofs.drop_rows.Given as goal

abbrev pub invariant-loop-row : goal.invariant-loop-row
invariant-loop-row l = Dropping (row_goes l.a l.v) l.initial.rows l.width l.row-end l.rows (l.row * l.width) l.to (l.row-end - l.row) l.left
