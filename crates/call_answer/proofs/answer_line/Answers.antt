use mathlib.Core.Path.{refl, sym}
use Rattle.line_decode.specs.declared.LineKind.TheVariants as kind
use Rattle.call_answer.specs.Answering.{answer_on}
use Rattle.call_answer.proofs.Choosing.{answers_frame, answers_issue, answers_misshapen, answers_opening, answers_question, answers_settling}
use Rattle.call_answer.proofs.answer_line.Goals as goal

pub returns-in-Opening : goal.returns-in-Opening
returns-in-Opening c = search answers_opening

pub returns-in-Operation : goal.returns-in-Operation
returns-in-Operation c = answers_frame _ _ _ _ _ _ c.in-Operation.is _ _ c.receive_line.ensures (rw (sym c.by_number.ensures) c.answer_done.ensures)

pub returns-in-Issue : goal.returns-in-Issue
returns-in-Issue c = search answers_issue

pub returns-in-Settling : goal.returns-in-Settling
returns-in-Settling c = search answers_settling

pub returns-in-Question : goal.returns-in-Question
returns-in-Question c = search answers_question

pub returns-in-Printing : goal.returns-in-Printing
unfolding answer_on
returns-in-Printing c = search (answers_misshapen kind.Printing (λ line words. refl))

pub returns-in-Saved : goal.returns-in-Saved
unfolding answer_on
returns-in-Saved c = search (answers_misshapen kind.Saved (λ line words. refl))

pub returns-in-Unknown : goal.returns-in-Unknown
unfolding answer_on
returns-in-Unknown c = search (answers_misshapen kind.Unknown (λ line words. refl))
