use Rattle.arrival_frame.proofs.Receiving.{receive_refused, receive_taken}
use Rattle.arrival_frame.proofs.receive_frame.Goals as goal

pub returns-in-Ok : goal.returns-in-Ok
returns-in-Ok c = search (receive_taken, c.in-Ok.ensures)

pub returns-in-Err : goal.returns-in-Err
returns-in-Err c = receive_refused _ _ _ c.in-Err.ensures
