use Rattle.arrival_frame.proofs.Receiving.{sender_below, frame_arrives, frame_taken}
use Rattle.table_change.proofs.Changing.{opened}
use borrow.Author.Rules.{rules}
use Rattle.arrival_frame.proofs.take_frame.Goals as goal

pub write_last-requires : goal.write_last-requires
write_last-requires c = (search opened, search (sender_below, rules), search rules)

pub arrive-requires : goal.arrive-requires
arrive-requires c = search frame_arrives

pub returns : goal.returns
returns c = search frame_taken
