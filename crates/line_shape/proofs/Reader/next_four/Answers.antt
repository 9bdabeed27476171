use Rattle.std.proofs.Common.{◌∙◌, ◌+◌, ◌≤◌, length, arith}
use Rattle.line_shape.proofs.Places.{few_left, four_few, four_there, moved, stays}
use Rattle.line_shape.proofs.Reader.next_four.Goals as goal

pub returns-in_err-get : goal.returns-in_err-get
returns-in_err-get c = (c.from_residual.ensures ∙ four_few c.args.self.now.src.now c.args.self.now.at (grind arith), stays 4 c.args.self.now (grind arith))

pub returns-in_err-four : goal.returns-in_err-four
returns-in_err-four c =
    let few = few_left c.args.self.now.src.now c.args.self.now.at c.in_ok-get.ensures.lookup.0.3 (grind arith) in
    (c.from_residual-in_err-four.ensures ∙ four_few c.args.self.now.src.now c.args.self.now.at few, stays 4 c.args.self.now few)

pub returns : goal.returns
returns c =
    let behind = c.in_ok-get.ensures.lookup.0 in
    let four = c.in_ok-four.ensures.lookup.0 in
    let enough : c.args.self.now.at + 4 ≤ length c.args.self.now.src.now = omega (arith, behind.3, four.1) in
    (four_there c.args.self.now.src.now c.args.self.now.at enough _ _ _ behind.2 four.2 c.number_of.ensures, moved 4 c.args.self.now _ enough (grind arith) (grind arith))
