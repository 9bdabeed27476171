use Rattle.std.proofs.Common.{◌*◌, ap, arith}
use Rattle.table_drop.proofs.Dropping.{row_kept, row_gone, rows_dropped}
use Rattle.table_drop.proofs.drop_rows.Goals as goal
use Rattle.table_drop.proofs.drop_rows.Goals.{then-not-row_goes, else-not-row_goes}

pub loop-row-preserved : goal.loop-row-preserved
loop-row-preserved c =
    let from = c.wide-in-loop-row.result * c.args.width in
    let at = ap (λ n. n * c.args.width) c.wide-in-loop-row.ensures.0 in
    elim c.if-not-row_goes.branch [
      | then-not-row_goes w ↦ row_kept _ _ _ _ _ _ _ _ c.loop-row.invariant c.loop-row-test.true from at w.if-not-row_goes.ensures _ _ _ (cc) w.to-is w.left-is
      | else-not-row_goes w ↦ row_gone _ _ _ _ _ _ _ _ c.loop-row.invariant c.loop-row-test.true from at w.if-not-row_goes.ensures _ _ _ w.rows-is w.to-is w.left-is
    ]

pub returns : goal.returns
returns c = rows_dropped _ _ _ _ _ _ _ _ _ c.loop-row.invariant (omega arith) (ap (λ n. n * c.args.width) c.wide.ensures.0) _ c.clear.ensures
