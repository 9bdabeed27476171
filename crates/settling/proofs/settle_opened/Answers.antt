use Rattle.settling.proofs.Settled.{lent_long, lent_room, lent_held, call_steps, call_words_lem}
use borrow.Author.Rules.{rules}
use Rattle.settling.proofs.settle_opened.Goals as goal

pub pass_rows-passed-requires : goal.pass_rows-passed-requires
pass_rows-passed-requires c = (search lent_long, search rules, search lent_room, search lent_held)

pub returns : goal.returns
returns c = (search call_steps, search call_words_lem)
