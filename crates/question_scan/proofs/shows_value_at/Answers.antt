use Rattle.std.proofs.Common.{sym, ◌∙◌}
use borrow.Author.Tests.{eqb-true}
use Rattle.question_scan.proofs.Scanning.{too_high, other_low, that_value}
use Rattle.question_scan.proofs.shows_value_at.Goals as goal
use Rattle.question_scan.proofs.shows_value_at.Goals.{then-rows-at-eq-NO_HIGH, else-rows-at-eq-NO_HIGH}

pub returns-then-rows-at : goal.returns-then-rows-at
returns-then-rows-at c = elim c.if-rows-at-eq-NO_HIGH.branch [ then-rows-at-eq-NO_HIGH w ↦ search that_value | else-rows-at-eq-NO_HIGH w ↦ absurd (w.if-rows-at-eq-NO_HIGH.false (eqb-true _ _ (sym w.value-is ∙ c.if-rows-at.true))) ]

pub returns-else-rows-at : goal.returns-else-rows-at
returns-else-rows-at c = elim c.if-rows-at-eq-NO_HIGH.branch [ then-rows-at-eq-NO_HIGH w ↦ search other_low | else-rows-at-eq-NO_HIGH w ↦ w.value-is ∙ search too_high ]
