use borrow.Author.Rules.{rules}
use Rattle.question_list.proofs.Walks.{passed_most, passed_fits, from_fits, rest_room, sum_fits, next_fits, before_fits, at_fits, low_fits, low_scaled, low_within, walked}
use Rattle.question_list.proofs.next_value.Goals as goal

pub overflow_sub-s : goal.overflow_sub-s
overflow_sub-s c = search passed_most

pub next_shown-before-requires : goal.next_shown-before-requires
next_shown-before-requires c = (search rest_room, search rules)

pub bounds-s-at : goal.bounds-s-at
bounds-s-at c = search low_within

pub overflow_add-result-2 : goal.overflow_add-result-2
overflow_add-result-2 c = search sum_fits

pub overflow_add-result-3 : goal.overflow_add-result-3
overflow_add-result-3 c = search next_fits

pub returns : goal.returns
returns c = search walked
