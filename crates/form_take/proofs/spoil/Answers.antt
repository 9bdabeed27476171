use Rattle.std.proofs.Common.{◌≡◌, length, replicate, rules}
use Rattle.form_take.proofs.Words.{all_spoilt}
use Rattle.form_take.proofs.spoil.Goals as goal

pub returns : goal.returns
returns c = let zeros : c.fill.new.self ≡ replicate (length c.args.space.now) 0 = search rules in all_spoilt _ _ zeros
