use Rattle.program_output.proofs.Replying.{replying_start, replying_turn, replying_ended, replying_done}
use Rattle.program_output.proofs.Fitting.{line_short, line_within}
use borrow.Author.Rules.{rules}
use Rattle.program_output.proofs.gather.Goals as goal

pub loop-k-init : goal.loop-k-init
loop-k-init c = search (replying_start, rules)

pub slice_bounds-push-end : goal.slice_bounds-push-end
slice_bounds-push-end c = search (line_within, rules)

pub push-waits-requires : goal.push-waits-requires
push-waits-requires c = (search rules, search line_short)

pub returns-in-None : goal.returns-in-None
returns-in-None c = (search replying_ended, search rules)

pub loop-k-preserved : goal.loop-k-preserved
loop-k-preserved c = search replying_turn

pub returns : goal.returns
returns c = (search replying_done, search rules)
