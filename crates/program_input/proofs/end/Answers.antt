use Rattle.program_input.proofs.Ending.{no_last_line, nothing_left, piece_left, whole_last_line}
use Rattle.program_input.proofs.Feeding.{ready_short, ready_within}
use borrow.Author.Rules.{rules}
use Rattle.program_input.proofs.end.Goals as goal

pub returns-then-have-eq0 : goal.returns-then-have-eq0
returns-then-have-eq0 c = (search nothing_left, (search no_last_line, search rules))

pub slice_bounds-respond-end : goal.slice_bounds-respond-end
slice_bounds-respond-end c = search (ready_within, rules)

pub respond-last-requires : goal.respond-last-requires
respond-last-requires c = (search rules, search (ready_short, rules))

pub returns : goal.returns
returns c = (search (piece_left, ready_within), (search whole_last_line, search rules))
