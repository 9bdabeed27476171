use Rattle.std.proofs.Common.{◌∙◌, arith}
use Rattle.line_hex.proofs.Digits.{value_read}
use Rattle.line_hex.proofs.Reading.{pair_none, pair_one, pair_first, pair_second, pair_byte}
use Rattle.line_hex.proofs.pair_at.Goals as goal

pub returns-in_err-get : goal.returns-in_err-get
returns-in_err-get c = c.from_residual.ensures ∙ pair_none c.args.line.now c.args.at (grind arith)

pub returns-in_err-high : goal.returns-in_err-high
returns-in_err-high c =
    let first = c.in_ok-get.ensures.lookup.3 in
    c.from_residual-in_err-high.ensures ∙ pair_first c.args.line.now c.args.at first.0 _ (first.1 0) c.in_err-high.ensures

pub returns-in_err-get-2 : goal.returns-in_err-get-2
returns-in_err-get-2 c = c.from_residual-in_err-get-2.ensures ∙ pair_one c.args.line.now c.args.at (grind arith) (grind arith)

pub returns-in_err-low : goal.returns-in_err-low
returns-in_err-low c =
    let first = c.in_ok-get.ensures.lookup.3 in
    let second = c.in_ok-get-2.ensures.lookup.3 in
    c.from_residual-in_err-low.ensures ∙ pair_second c.args.line.now c.args.at second.0 _ _ (first.1 0) (second.1 0) _ c.in_ok-high.ensures c.in_err-low.ensures

pub overflow_mul-result : goal.overflow_mul-result
overflow_mul-result c = omega (arith, (value_read _ _ c.in_ok-high.ensures).2)

pub overflow_add-result : goal.overflow_add-result
overflow_add-result c = omega (arith, (value_read _ _ c.in_ok-high.ensures).2, (value_read _ _ c.in_ok-low.ensures).2)

pub returns : goal.returns
returns c =
    let first = c.in_ok-get.ensures.lookup.3 in
    let second = c.in_ok-get-2.ensures.lookup.3 in
    pair_byte c.args.line.now c.args.at second.0 _ _ (first.1 0) (second.1 0) _ _ c.in_ok-high.ensures c.in_ok-low.ensures
