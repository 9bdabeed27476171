use Rattle.calls.proofs.Falling.{table_falls, no_table_falls}
use Rattle.calls.proofs.Tested.{found, settle_no_table, settle_table}
use Rattle.calls.proofs.settle.Goals as goal

pub settle_line-requires : goal.settle_line-requires
settle_line-requires c = search found

pub returns-then-not-is_table : goal.returns-then-not-is_table
returns-then-not-is_table c = (search settle_no_table, search no_table_falls)

pub returns : goal.returns
returns c = (search settle_table, search table_falls)
