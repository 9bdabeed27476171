use Rattle.program_play.proofs.Lines.{line_played, title_turned}
use borrow.Author.Rules.{rules}
use Rattle.program_play.proofs.respond.Goals as goal

pub returns-then-is_title : goal.returns-then-is_title
returns-then-is_title c = (search title_turned, search rules)

pub returns : goal.returns
returns c = (search line_played, search rules)
