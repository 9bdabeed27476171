use Rattle.std.proofs.Common.{◌∙◌}
use Rattle.line_shape.proofs.Found.{told_no_first, told_no_second, told_no_third, told_no_value, told_not_ended, told_other_type, told_taken}
use Rattle.line_shape.proofs.read_short.Goals as goal
use Rattle.line_shape.proofs.read_short.Goals.{else-first-kind-via-then-first-kind+else-at_end, else-first-kind-via-else-first-kind}

pub returns-in_err-first : goal.returns-in_err-first
returns-in_err-first c = c.from_residual.ensures ∙ told_no_first c.args.kind c.args.s c.in_err-first.ensures.0

pub returns-in_err-second : goal.returns-in_err-second
returns-in_err-second c =
    let first = c.in_ok-first.ensures in
    c.from_residual-in_err-second.ensures ∙ told_no_second c.args.kind c.args.s _ first.0 _ first.1 c.in_err-second.ensures.0

pub returns-in_err-third : goal.returns-in_err-third
returns-in_err-third c =
    let first = c.in_ok-first.ensures in
    let second = c.in_ok-second.ensures in
    c.from_residual-in_err-third.ensures ∙ told_no_third c.args.kind c.args.s _ first.0 _ first.1 _ second.0 _ second.1 c.in_err-third.ensures.0

pub returns-in_err-value : goal.returns-in_err-value
returns-in_err-value c =
    let first = c.in_ok-first.ensures in
    let second = c.in_ok-second.ensures in
    let third = c.in_ok-third.ensures in
    c.from_residual-in_err-value.ensures ∙ told_no_value c.args.kind c.args.s _ first.0 _ first.1 _ second.0 _ second.1 _ third.0 _ third.1 c.in_err-value.ensures.0

pub returns-then-at_end : goal.returns-then-at_end
returns-then-at_end c =
    let first = c.in_ok-first.ensures in
    let second = c.in_ok-second.ensures in
    let third = c.in_ok-third.ensures in
    let value = c.in_ok-value.ensures in
    told_taken c.args.kind c.args.s _ first.0 _ first.1 _ second.0 _ second.1 _ third.0 _ third.1 _ value.0 _ value.1 c.if-first-kind.true c.if-at_end.ensures _ _ _ c.from.ensures c.from-then-at_end.ensures c.from-then-at_end-2.ensures

pub returns-else-first-kind : goal.returns-else-first-kind
returns-else-first-kind c =
    let first = c.in_ok-first.ensures in
    let second = c.in_ok-second.ensures in
    let third = c.in_ok-third.ensures in
    let value = c.in_ok-value.ensures in
    elim c.else-first-kind.branch [
      | else-first-kind-via-then-first-kind+else-at_end w ↦ told_not_ended c.args.kind c.args.s _ first.0 _ first.1 _ second.0 _ second.1 _ third.0 _ third.1 _ value.0 _ value.1 w.if-first-kind.true w.if-at_end.ensures
      | else-first-kind-via-else-first-kind w ↦ told_other_type c.args.kind c.args.s _ first.0 _ first.1 _ second.0 _ second.1 _ third.0 _ third.1 _ value.0 _ value.1 w.if-first-kind.false
    ]
