use Rattle.calls.proofs.Tested.{found, receive_no_table, receive_table}
use Rattle.calls.proofs.receive.Goals as goal

pub receive_line-requires : goal.receive_line-requires
receive_line-requires c = search found

pub returns-then-not-is_table : goal.returns-then-not-is_table
returns-then-not-is_table c = search receive_no_table

pub returns : goal.returns
returns c = search receive_table
