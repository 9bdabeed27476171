use Rattle.call_answer.proofs.Saying.{said_done, said_refused}
use Rattle.call_answer.proofs.answer_done.Goals as goal

pub returns-in-Ok : goal.returns-in-Ok
returns-in-Ok c = search said_done

pub returns-in-Err : goal.returns-in-Err
returns-in-Err c = search said_refused
