use Rattle.std.proofs.Common.{◌≡◌, ◌∙◌, sum, rules}
use Rattle.line_shape.proofs.Counting.{length_of_sum}
use Rattle.line_shape.proofs.length_of.Goals as goal

pub returns : goal.returns
returns c = let added : c.sum.result ≡ sum c.args.widths.now = search rules in added ∙ length_of_sum c.args.widths.now
