use Rattle.std.proofs.Common.{◌≡◌, ◌∙◌, subst, arith}
use Rattle.line_hex.proofs.Writing.{Putting, putting_turn, putting_done}
use Rattle.line_hex.proofs.put_number.Goals as goal

pub loop-i-preserved : goal.loop-i-preserved
loop-i-preserved c = c.loop-i.invariant ∙ putting_turn _ _ _ _ _ _ c.loop-i-test.true (omega (arith, c.loop-i.auto.out, c.requires)) c.digit_of.ensures c.digit_of-in-loop-i.ensures

pub returns : goal.returns
returns c = let none : c.loop-i.i ≡ 0 = omega arith in putting_done _ _ _ _ _ _ (subst (λ n. Putting c.args.out.now c.args.at c.args.number c.args.width c.loop-i.out n c.loop-i.rest) none c.loop-i.invariant)
