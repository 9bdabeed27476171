use Rattle.std.proofs.Common.{◌≡◌, ◌∙◌, sym, rules, eqb, length, take, arith}
use Rattle.std.proofs.lemmas.List.{take_all}
use Rattle.std.proofs.lemmas.Bool.Decides.{nat_tests}
use Rattle.std.proofs.lemmas.Iterator.{YieldsList-from_slice, YieldsList-from_zip}
use Rattle.meaning.proofs.Chains.{every_from_fold}
use Rattle.words_tags.proofs.Zips.{same_zip}
use Rattle.words_tags.proofs.same.Goals as goal

pub returns : goal.returns
returns c =
    let whole : take (length c.args.u.now) c.args.t.now ≡ c.args.t.now = take_all (length c.args.u.now) c.args.t.now (omega (arith, c.requires)) in
    every_from_fold _ _ (λ p. eqb p.0 p.1) c.fold.ensures.ran (YieldsList-from_zip (YieldsList-from_slice c.args.u.now cc) (YieldsList-from_slice c.args.t.now (cc whole))) (λ a x b q k. (search rules, grind (arith, nat_tests)))
    ∙ sym (same_zip c.args.u.now c.args.t.now c.requires)
