use Rattle.std.proofs.Common.{arith}
use Rattle.std.proofs.lemmas.Bool.Decides.{nat_tests}
use Rattle.table_rules_rows.proofs.Contents.{stores_known, keeps_no_others}
use Rattle.table_rules_rows.proofs.is_storable.Goals as goal

pub returns-then-row-eq-ADDS : goal.returns-then-row-eq-ADDS
returns-then-row-eq-ADDS c = stores_known c.args.kind c.args.row.now _ (grind (arith, nat_tests))

pub returns-in-TwoPhaseSet : goal.returns-in-TwoPhaseSet
returns-in-TwoPhaseSet c = stores_known c.args.kind c.args.row.now _ (grind (arith, nat_tests))

pub returns-in_default : goal.returns-in_default
returns-in_default c =
    let none = keeps_no_others c.args.kind c.in_default.not-TwoPhaseSet c.in_default.not-DisableWinsFlag c.in_default.not-RemoveWinsSet in
    stores_known c.args.kind c.args.row.now _ (grind (arith, nat_tests, none))

pub returns-else-row-eq-REMOVES : goal.returns-else-row-eq-REMOVES
returns-else-row-eq-REMOVES c = stores_known c.args.kind c.args.row.now _ (grind (arith, nat_tests))
