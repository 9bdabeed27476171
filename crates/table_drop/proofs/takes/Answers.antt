use Rattle.std.proofs.Common.{◌≡◌, ◌∙◌, ap, drop, arith}
use Rattle.meaning.specs.Order.{before_by_vector}
use Rattle.table_drop.proofs.Testing.{vector_of_row}
use Rattle.std.proofs.lemmas.Bool.Decides.{nat_tests}
use Rattle.meaning.specs.Arrival.{taken_by, concerns, row_before}
use Rattle.meaning.specs.Operations.{before}
use Rattle.table_drop.proofs.takes.Goals as goal

pub returns-then-row-eq-SETTLED : goal.returns-then-row-eq-SETTLED
unfolding taken_by concerns row_before before
returns-then-row-eq-SETTLED c = grind (arith, nat_tests)

pub returns-else-row-eq-SETTLED : goal.returns-else-row-eq-SETTLED
unfolding taken_by concerns row_before before
returns-else-row-eq-SETTLED c =
    let vector : c.before-else-row-eq-SETTLED.result ≡ before_by_vector (drop 7 c.args.row.now) c.args.v.now =
    c.before-else-row-eq-SETTLED.ensures ∙ ap (λ l. before_by_vector l c.args.v.now) (vector_of_row c.args.row.now) in
    grind (arith, nat_tests, vector)

pub returns-else-concerns : goal.returns-else-concerns
unfolding taken_by concerns row_before before
returns-else-concerns c = grind (arith, nat_tests)
