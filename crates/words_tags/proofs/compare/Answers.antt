use Rattle.std.proofs.Common.{◌∙◌, sym}
use Rattle.words_tags.proofs.Relations.{is_before, is_after, is_same, is_concurrent}
use Rattle.words_tags.proofs.compare.Goals as goal

pub returns-in-true-true : goal.returns-in-true-true
returns-in-true-true c = is_same _ _ (sym c.in-true-true.is-0 ∙ c.at_most_both_ways-below.ensures.0) (sym c.in-true-true.is-1 ∙ c.at_most_both_ways-below.ensures.1)

pub returns-in-true-false : goal.returns-in-true-false
returns-in-true-false c = is_before _ _ (sym c.in-true-false.is-0 ∙ c.at_most_both_ways-below.ensures.0) (sym c.in-true-false.is-1 ∙ c.at_most_both_ways-below.ensures.1)

pub returns-in-false-true : goal.returns-in-false-true
returns-in-false-true c = is_after _ _ (sym c.in-false-true.is-0 ∙ c.at_most_both_ways-below.ensures.0) (sym c.in-false-true.is-1 ∙ c.at_most_both_ways-below.ensures.1)

pub returns-in-false-false : goal.returns-in-false-false
returns-in-false-false c = is_concurrent _ _ (sym c.in-false-false.is-0 ∙ c.at_most_both_ways-below.ensures.0) (sym c.in-false-false.is-1 ∙ c.at_most_both_ways-below.ensures.1)
