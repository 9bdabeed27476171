use Rattle.call_answer.proofs.Saying.{question_told, question_misshapen}
use Rattle.call_answer.proofs.answer_question.Goals as goal

pub returns-in-Some : goal.returns-in-Some
returns-in-Some c = question_told _ _ _ _ _ _ c.in-Some.ensures c.answer_question.ensures

pub returns-in-None : goal.returns-in-None
returns-in-None c = question_misshapen _ _ _ _ _ c.in-None.ensures c.refuse.ensures
