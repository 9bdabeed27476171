use Rattle.call_answer.proofs.Saying.{settled_refused, settled_steps}
use Rattle.call_answer.proofs.answer_settled.Goals as goal

pub returns-in-Ok : goal.returns-in-Ok
returns-in-Ok c = search settled_steps

pub returns-in-Err : goal.returns-in-Err
returns-in-Err c = search settled_refused
