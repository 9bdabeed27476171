use Rattle.form_load.proofs.Loads.{ends_half, ends_nothing, ends_table}
use Rattle.form_load.proofs.load_end.Goals as goal

pub returns-then-is_table : goal.returns-then-is_table
returns-then-is_table c = search ends_table

pub returns-then-under_load : goal.returns-then-under_load
returns-then-under_load c = search ends_half

pub returns : goal.returns
returns c = search ends_nothing
