use Rattle.call_answer.proofs.Saying.{second_refused, no_opening}
use Rattle.call_answer.proofs.answer_opening.Goals as goal

pub returns-then-is_opening : goal.returns-then-is_opening
returns-then-is_opening c = search second_refused

pub returns-else-is_opening : goal.returns-else-is_opening
returns-else-is_opening c = search no_opening
