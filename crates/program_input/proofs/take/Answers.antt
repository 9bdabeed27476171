use Rattle.line_decode.proofs.Feeding.{held_ended, held_joined, taken_ended, taken_joined}
use Rattle.program_input.proofs.Feeding.{kept_in, kept_short, ready_ended, ready_joined}
use borrow.Author.Rules.{rules}
use Rattle.program_input.proofs.take.Goals as goal

pub returns-then-b-ne-LF : goal.returns-then-b-ne-LF
returns-then-b-ne-LF c = (search taken_joined, (search held_joined, search ready_joined))

pub slice_bounds-respond-end : goal.slice_bounds-respond-end
slice_bounds-respond-end c = search (kept_in, rules)

pub respond-after-requires : goal.respond-after-requires
respond-after-requires c = (search rules, search (kept_short, rules))

pub returns : goal.returns
returns c = (search taken_ended, (search held_ended, search ready_ended))
