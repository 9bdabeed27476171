use Rattle.std.proofs.Common.{◌∙◌, arith, rules}
use Rattle.table_rules_rows.specs.RowTests.{row_kept}
use Rattle.table_rules_rows.proofs.Scanning.{every_anywhere, next_noted, pass_done}
use Rattle.words_layout.specs.Words.{pieces}
use Rattle.table_rules_rows.proofs.each_ok.Goals as goal

pub loop-k-preserved : goal.loop-k-preserved
loop-k-preserved c = search (next_noted, rules)

pub returns : goal.returns
returns c = pass_done _ _ _ _ _ _ _ c.loop-k.invariant (omega arith) ∙ every_anywhere (row_kept c.args.kinds.now c.args.clock.now) 0 (pieces c.args.width c.args.count.0 c.args.rows.now)
