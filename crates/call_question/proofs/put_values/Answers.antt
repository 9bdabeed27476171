use Rattle.call_question.proofs.Values.{valuing_start, valuing_done, value_left, value_room, valuing_next}
use borrow.Author.Rules.{rules}
use Rattle.call_question.proofs.put_values.Goals as goal

pub loop-i-init : goal.loop-i-init
loop-i-init c = search valuing_start

pub next_value-found-requires : goal.next_value-found-requires
next_value-found-requires c = (search rules, search value_left)

pub put_number-to-requires : goal.put_number-to-requires
put_number-to-requires c = search value_room

pub loop-i-preserved : goal.loop-i-preserved
loop-i-preserved c = search valuing_next

pub returns : goal.returns
returns c = search valuing_done
