use Rattle.call_question.proofs.Listed.{list_short, list_fields, list_room, list_end, list_done}
use borrow.Author.Rules.{rules}
use Rattle.call_question.proofs.write_list.Goals as goal

pub returns-then-out-size : goal.returns-then-out-size
returns-then-out-size c = search list_short

pub put_values-end-requires : goal.put_values-end-requires
put_values-end-requires c = (search rules, search rules, list_room _ c.requires.0 _ _ c.requires.1 _ c.wide.ensures.0 _ (search rules) _ _ c.put_fields-at.ensures)

pub returns : goal.returns
returns c = search list_done

pub put_fields-at-requires : goal.put_fields-at-requires
put_fields-at-requires c = (search rules, search list_fields)

pub put_lf-requires : goal.put_lf-requires
put_lf-requires c = search list_end
