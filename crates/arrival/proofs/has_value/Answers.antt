use Rattle.std.proofs.Common.{◌≡◌, ◌∙◌, true, false, ℕ, List, arith, rules}
use borrow.Author.Tests.{tests}
use Rattle.std.proofs.lemmas.Iterator.{cases_from_any}
use Rattle.meaning.specs.Arrival.{same_value}
use Rattle.words_layout.specs.Words.{pieces}
use Rattle.words_layout.specs.Layout.{row_of}
use Rattle.words_layout.proofs.Chunks.{YieldsList-from_pieces}
use Rattle.table_drop.specs.Arriving.{operation_of}
use Rattle.arrival.specs.Arrives.{has_value}
use Rattle.arrival.proofs.Putting.{any_by_cases, any_of_rows}
use Rattle.arrival.proofs.has_value.Goals as goal

pub returns : goal.returns
unfolding has_value
returns c =
    let test = λ (row : List ℕ). same_value (operation_of c.args.a c.args.v.now) (row_of row) in
    any_by_cases test c.any.result (pieces c.args.width c.args.count.0 c.args.rows.now)
    (cases_from_any c.any.new.self _ c.any.result (λ row. test row ≡ true) (λ row. test row ≡ false) c.any.ensures.ran
    (YieldsList-from_pieces c.args.width c.args.count.0 c.args.rows.now (cc) (cc) (omega arith) (c.requires.0))
    (λ x q k. search (rules, tests)) (λ x q k. search (rules, tests)))
    ∙ any_of_rows (same_value (operation_of c.args.a c.args.v.now)) (pieces c.args.width c.args.count.0 c.args.rows.now)
