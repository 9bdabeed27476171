use Rattle.program_input.proofs.Feeding.{nothing_read}
use borrow.Author.Rules.{rules}
use Rattle.replay.proofs.play_named.Goals as goal

pub returns-in_default : goal.returns-in_default
returns-in_default c = (nothing_read _ _ _ _, search rules)

pub returns : goal.returns
returns c = c.read.ensures
