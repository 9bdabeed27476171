use Rattle.std.proofs.Common.{arith}
use Rattle.std.proofs.lemmas.Bool.Decides.{nat_tests}
use Rattle.table_rules.specs.TableTests.{parts_kept}
use Rattle.table_rules.proofs.HeadedWords.parts_ok.Goals as goal

pub returns-then-rows_kept : goal.returns-then-rows_kept
unfolding parts_kept
returns-then-rows_kept c = grind (arith, nat_tests)

pub returns-else-rows_kept : goal.returns-else-rows_kept
unfolding parts_kept
returns-else-rows_kept c = grind (arith, nat_tests)
