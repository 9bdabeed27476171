use Rattle.call_checked.proofs.Shaped.{read_wrong}
use Rattle.call_checked.proofs.Receiving.{receive_misshapen, receive_shaped, read_few, read_long}
use Rattle.std.proofs.Common.{[]}
use borrow.Author.Rules.{rules}
use Rattle.call_checked.proofs.receive_line.Goals as goal

pub receive_read-requires : goal.receive_read-requires
receive_read-requires c = (search rules, read_few _ [] _ c.in-Some.ensures, read_long _ [] _ c.in-Some.ensures)

pub returns-in-Some : goal.returns-in-Some
returns-in-Some c = receive_shaped _ _ _ c.in-Some.ensures _ _ c.receive_read.ensures

pub returns-in-None : goal.returns-in-None
returns-in-None c = receive_misshapen _ _ (read_wrong _ _ c.in-None.ensures)
