use Rattle.program_play.proofs.Lines.{form_played, session_played}
use borrow.Author.Rules.{rules}
use Rattle.program_play.proofs.play.Goals as goal

pub returns-in-Session : goal.returns-in-Session
returns-in-Session c = (search session_played, search rules)

pub returns-in-Form : goal.returns-in-Form
returns-in-Form c = (search form_played, search rules)
