use Rattle.program_play.proofs.Lines.{begins_form, begins_session, begins_short}
use Rattle.program_play.proofs.begin.Goals as goal

pub returns-then-title-lt3 : goal.returns-then-title-lt3
returns-then-title-lt3 c = search begins_short

pub returns-then-title-eq-FORM : goal.returns-then-title-eq-FORM
returns-then-title-eq-FORM c = search begins_form

pub returns : goal.returns
returns c = search begins_session
