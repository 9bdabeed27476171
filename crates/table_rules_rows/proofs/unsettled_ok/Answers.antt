use Rattle.std.proofs.Common.{◌∙◌, ap, get_or, arith}
use Rattle.std.proofs.lemmas.Bool.Decides.{nat_tests}
use Rattle.meaning.specs.Order.{at_most}
use Rattle.table_rules_rows.specs.RowTests.{number_kept, unsettled_kept}
use Rattle.table_rules_rows.proofs.Tagging.{rest_is, unsettled_word_lem}
use Rattle.table_rules_rows.proofs.unsettled_ok.Goals as goal
use Rattle.table_rules_rows.proofs.unsettled_ok.Goals.{then-row-eq-UNSETTLED, else-row-eq-UNSETTLED}

pub returns-then-at_most : goal.returns-then-at_most
unfolding unsettled_kept
returns-then-at_most c =
    let row = c.args.row.now in
    let number = c.number_ok.ensures ∙ ap (number_kept (get_or row 6 0) (get_or row 5 0)) (rest_is row 7) in
    elim c.if-row-eq-UNSETTLED.branch [
      | then-row-eq-UNSETTLED w ↦ let below = w.at_most.ensures ∙ ap (λ l. at_most l c.args.clock.now) (rest_is row 7) in grind (arith, nat_tests, below, number)
      | else-row-eq-UNSETTLED w ↦ grind (arith, nat_tests)
    ]

pub returns-else-at_most : goal.returns-else-at_most
unfolding unsettled_kept
returns-else-at_most c =
    elim c.if-row-eq-UNSETTLED.branch [
      | then-row-eq-UNSETTLED w ↦ let below = w.at_most.ensures ∙ ap (λ l. at_most l c.args.clock.now) (rest_is c.args.row.now 7) in grind (arith, nat_tests, below)
      | else-row-eq-UNSETTLED w ↦ c.if-at_most.false ∙ unsettled_word_lem c.args.row.now c.args.clock.now w.if-row-eq-UNSETTLED.false
    ]
