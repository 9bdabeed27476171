use Rattle.form_save.proofs.Saving.{save_no_table, save_table}
use Rattle.calls.proofs.Tested.{found}
use Rattle.calls.proofs.save_line.Goals as goal

pub save_checked-requires : goal.save_checked-requires
save_checked-requires c = search found

pub returns-then-is_table : goal.returns-then-is_table
returns-then-is_table c = search save_table

pub returns-else-is_table : goal.returns-else-is_table
returns-else-is_table c = search save_no_table
