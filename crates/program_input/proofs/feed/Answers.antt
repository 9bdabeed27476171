use Rattle.program_input.proofs.Feeding.{feeding_done, feeding_start, feeding_turn, held_done, whole_done}
use borrow.Author.Rules.{rules}
use Rattle.program_input.proofs.feed.Goals as goal

pub loop-b-init : goal.loop-b-init
loop-b-init c = search feeding_start

pub loop-b-preserved : goal.loop-b-preserved
loop-b-preserved c = search feeding_turn

pub returns : goal.returns
returns c = (search feeding_done, (search held_done, (search whole_done, search rules)))
