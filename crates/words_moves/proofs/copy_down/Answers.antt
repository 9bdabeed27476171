use lib.Seq.{paste-zero}
use Rattle.std.proofs.Common.{◌≡◌, subst, drop, arith}
use Rattle.std.proofs.Math.Seq.{paste}
use Rattle.words_moves.proofs.Moving.{copy_nothing, copy_turn}
use Rattle.words_moves.proofs.copy_down.Goals as goal

pub loop-j-init : goal.loop-j-init
loop-j-init c = search paste-zero

pub loop-j-preserved : goal.loop-j-preserved
loop-j-preserved c = search (copy_turn, arith)

pub returns-else-to-from : goal.returns-else-to-from
returns-else-to-from c =
    let same : c.args.to ≡ c.args.from = omega arith in
    subst (λ from. c.args.words.now ≡ paste c.args.words.now c.args.to (drop from c.args.words.now) c.args.run) same (copy_nothing c.args.words.now c.args.to c.args.run)
