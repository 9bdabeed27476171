use Rattle.line_put.proofs.Laying.{numbering_start, numbering_room, numbering_turn, numbering_done}
use Rattle.line_put.proofs.put_each.Goals as goal

pub loop-number-init : goal.loop-number-init
loop-number-init c = search numbering_start

pub put_number-to-requires : goal.put_number-to-requires
put_number-to-requires c = search numbering_room

pub loop-number-preserved : goal.loop-number-preserved
loop-number-preserved c = search numbering_turn

pub returns : goal.returns
returns c = search numbering_done
