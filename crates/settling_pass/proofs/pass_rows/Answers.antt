use Rattle.std.proofs.Common.{◌≤◌}
use mathlib.Core.Logic.{◌⊎◌, inl, inr}
use Rattle.settling_pass.proofs.Looping.{loop_start, resume_fits, resume_fits_again, row_within, copy_within, copy_again, kept_below, rest_within, rows_held, here_spelt, loop_keep, loop_settle, loop_drop, two_more, loop_both, run_within, run_fits, loop_count, loop_steps, loop_done}
use borrow.Author.Rules.{rules}
use Rattle.settling_pass.proofs.pass_rows.Goals as goal
use Rattle.settling_pass.proofs.pass_rows.Goals.{else-loop-more-test, then-loop-more-test+then-limit-taken}

pub loop-more-init : goal.loop-more-init
loop-more-init c = search loop_start

pub resume_at-from-requires : goal.resume_at-from-requires
resume_at-from-requires c = search resume_fits

pub step_for-requires : goal.step_for-requires
step_for-requires c = record { low_len = (search rules, search rules, search kept_below, search row_within, search rest_within); held = search rows_held }

pub copy_down-requires : goal.copy_down-requires
copy_down-requires c = (search rules, search copy_within)

pub loop-more-preserved-in-Keeps : goal.loop-more-preserved-in-Keeps
loop-more-preserved-in-Keeps c = loop_keep _ _ _ _ _ _ _ _ _ _ _ _ _ c.loop-more.invariant (search rules) _ c.step_for.ensures _ c.resume_at-from.ensures _ c.copy_down.ensures c.in-Keeps.is

pub settle_row-requires : goal.settle_row-requires
settle_row-requires c = (search row_within, search rules, search here_spelt)

pub copy_down-requires-in-Settles : goal.copy_down-requires-in-Settles
copy_down-requires-in-Settles c = (search rules, search copy_again)

pub loop-more-preserved-in-Settles : goal.loop-more-preserved-in-Settles
loop-more-preserved-in-Settles c = loop_settle _ _ _ _ _ _ _ _ _ _ _ _ _ c.loop-more.invariant (search rules) _ c.step_for.ensures (search rules) _ c.resume_at-from.ensures _ _ c.settle_row.ensures c.copy_down-in-Settles.ensures c.in-Settles.is

pub loop-more-preserved-in-Drops : goal.loop-more-preserved-in-Drops
loop-more-preserved-in-Drops c = search loop_drop

pub overflow_sub-more-in-DropsBoth : goal.overflow_sub-more-in-DropsBoth
overflow_sub-more-in-DropsBoth c = search two_more

pub resume_at-from-requires-in-DropsBoth : goal.resume_at-from-requires-in-DropsBoth
resume_at-from-requires-in-DropsBoth c = search resume_fits_again

pub loop-more-preserved : goal.loop-more-preserved
loop-more-preserved c = loop_both _ _ _ _ _ _ _ _ _ _ _ _ _ c.loop-more.invariant (search rules) _ c.step_for.ensures (search rules) _ _ c.resume_at-from.ensures c.resume_at-from-in-DropsBoth.ensures c.in-DropsBoth.is

pub overflow_mul-wide : goal.overflow_mul-wide
overflow_mul-wide c = search run_fits

pub close_up-requires : goal.close_up-requires
close_up-requires c = (search rules, search run_within)

pub returns : goal.returns
returns c =
    let stop : (c.args.limit.0 ≤ c.loop-more.taken) ⊎ (c.loop-more.more ≤ 0) = elim c.loop-more-test.branch [ else-loop-more-test w ↦ inr w.loop-more-test.false | then-loop-more-test+then-limit-taken w ↦ inl w.if-limit-taken.true ] in
    (search (loop_count, stop), search (loop_steps, stop), search (loop_done, stop))
