use Rattle.std.proofs.Common.{◌≡◌, Bool, ◌&&◌, ap, ◌∙◌, rules}
use Rattle.std.proofs.lemmas.Iterator.{YieldsList-from_slice}
use Rattle.meaning.proofs.Chains.{every_from_fold}
use Rattle.words_tags.proofs.every.Goals as goal

noted : (a b r t : Bool) → b ≡ (a && r) → r ≡ t → b ≡ (a && t)
noted a b r t e f = e ∙ ap (λ s. a && s) f

pub returns : goal.returns
returns g c = λ p computes. every_from_fold _ _ p c.fold.ensures.ran (YieldsList-from_slice c.args.items.now cc) (λ a x b q k. (search rules, search (noted, computes)))
