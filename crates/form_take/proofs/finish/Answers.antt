use Rattle.form_take.proofs.Closing.{finish_none, finish_table}
use Rattle.form_take.proofs.finish.Goals as goal

pub returns-then-is_table : goal.returns-then-is_table
returns-then-is_table c = search finish_table

pub returns-else-is_table : goal.returns-else-is_table
returns-else-is_table c = search finish_none
