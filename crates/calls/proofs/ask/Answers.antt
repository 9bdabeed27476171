use Rattle.calls.proofs.Tested.{found, ask_no_table, ask_table}
use Rattle.calls.proofs.ask.Goals as goal

pub ask_line-requires : goal.ask_line-requires
ask_line-requires c = search found

pub returns-then-not-is_table : goal.returns-then-not-is_table
returns-then-not-is_table c = search ask_no_table

pub returns : goal.returns
returns c = search ask_table
