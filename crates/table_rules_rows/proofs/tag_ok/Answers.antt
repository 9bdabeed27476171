use Rattle.std.proofs.Common.{◌∙◌, ap, arith}
use Rattle.std.proofs.lemmas.Bool.Decides.{nat_tests}
use Rattle.words_layout.specs.Words.{all_zero}
use Rattle.table_rules_rows.specs.RowTests.{tag_kept}
use Rattle.table_rules_rows.proofs.Tagging.{rest_is}
use Rattle.table_rules_rows.proofs.tag_ok.Goals as goal

pub returns-then-row-eq-SETTLED : goal.returns-then-row-eq-SETTLED
unfolding tag_kept
returns-then-row-eq-SETTLED c = let zero = c.all_zero.ensures ∙ ap all_zero (rest_is c.args.row.now 5) in grind (arith, nat_tests, zero)

pub returns-then-not-is_settled_only : goal.returns-then-not-is_settled_only
unfolding tag_kept
returns-then-not-is_settled_only c = grind (arith, nat_tests)

pub returns-else-not-is_settled_only : goal.returns-else-not-is_settled_only
unfolding tag_kept
returns-else-not-is_settled_only c = grind (arith, nat_tests)
