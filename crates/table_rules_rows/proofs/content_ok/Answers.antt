use Rattle.std.proofs.Common.{refl, arith}
use Rattle.std.proofs.lemmas.Bool.Decides.{nat_tests}
use Rattle.table_kinds.specs.Kinds.{kind_number}
use Rattle.table_rules_rows.proofs.Contents.{content_tests}
use Rattle.table_rules_rows.proofs.content_ok.Goals as goal

pub returns-then-not-is_flag : goal.returns-then-not-is_flag
returns-then-not-is_flag c = let tests = content_tests (kind_number c.args.kind) c.args.row.now c.is_storable.result c.is_flag.result c.is_storable.ensures c.is_flag.ensures c.type_inv.row in grind (arith, nat_tests, tests)

pub returns-else-not-is_flag : goal.returns-else-not-is_flag
returns-else-not-is_flag c = let tests = content_tests (kind_number c.args.kind) c.args.row.now c.is_storable.result c.is_flag.result c.is_storable.ensures c.is_flag.ensures c.type_inv.row in grind (arith, nat_tests, tests)

pub returns-else-row-eq-NO_HIGH : goal.returns-else-row-eq-NO_HIGH
returns-else-row-eq-NO_HIGH c = let tests = content_tests (kind_number c.args.kind) c.args.row.now c.is_storable.result _ c.is_storable.ensures refl c.type_inv.row in grind (arith, nat_tests, tests)
