use Rattle.std.proofs.Common.{sym, ◌∙◌}
use borrow.Author.Tests.{eqb-true}
use Rattle.question_scan.proofs.Scanning.{other_object, no_add_there, last_shows, by_key}
use Rattle.question_scan.proofs.shows_at.Goals as goal
use Rattle.question_scan.proofs.shows_at.Goals.{then-rows-at, else-rows-at}

pub returns-then-more-eq1 : goal.returns-then-more-eq1
returns-then-more-eq1 c = elim c.if-rows-at.branch [ then-rows-at w ↦ search last_shows | else-rows-at w ↦ absurd (w.if-rows-at.false (eqb-true _ _ (sym w.value-is ∙ c.if-rows-at-eq-ADDS.true))) ]

pub returns-else-more-eq1 : goal.returns-else-more-eq1
returns-else-more-eq1 c = elim c.if-rows-at.branch [ then-rows-at w ↦ search by_key | else-rows-at w ↦ absurd (w.if-rows-at.false (eqb-true _ _ (sym w.value-is ∙ c.if-rows-at-eq-ADDS.true))) ]

pub returns-else-rows-at-eq-ADDS : goal.returns-else-rows-at-eq-ADDS
returns-else-rows-at-eq-ADDS c = elim c.if-rows-at.branch [ then-rows-at w ↦ search no_add_there | else-rows-at w ↦ w.value-is ∙ search other_object ]
