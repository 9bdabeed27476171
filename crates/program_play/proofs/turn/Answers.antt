use Rattle.std.proofs.Common.{◌≡◌, length, replicate}
use Rattle.program_play.proofs.Lines.{next_begun}
use borrow.Author.Rules.{rules}
use Rattle.program_play.proofs.turn.Goals as goal

pub returns : goal.returns
returns c =
    let zeros : c.fill.new.self ≡ replicate (length c.finish-last.new.space) 0 = search rules in
    (next_begun _ _ _ _ _ _ _ _ c.finish-last.ensures.0 _ _ c.push-waiting.ensures.0 _ zeros _ c.begin.ensures, search rules)
