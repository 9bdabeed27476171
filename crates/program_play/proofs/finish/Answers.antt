use Rattle.program_play.proofs.Lines.{form_ended, session_ended}
use borrow.Author.Rules.{rules}
use Rattle.program_play.proofs.finish.Goals as goal

pub returns-in-Session : goal.returns-in-Session
returns-in-Session c = (search session_ended, search rules)

pub returns-in-Form : goal.returns-in-Form
returns-in-Form c = (search form_ended, search rules)
