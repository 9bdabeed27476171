use Rattle.std.proofs.Common.{arith}
use Rattle.std.proofs.lemmas.Bool.Decides.{nat_tests}
use Rattle.meaning.specs.Operations.{is_counter}
use Rattle.meaning.specs.Table.{is_negative}
use Rattle.words_layout.specs.Words.{of_complement}
use Rattle.table_rules_clock.specs.ClockTests.{total_kept}
use Rattle.table_rules_clock.proofs.total_ok.Goals as goal

pub returns-then-not-negative : goal.returns-then-not-negative
unfolding total_kept is_counter is_negative of_complement
returns-then-not-negative c = grind (arith, nat_tests)

pub returns-else-not-negative : goal.returns-else-not-negative
unfolding total_kept is_counter is_negative of_complement
returns-else-not-negative c = grind (arith, nat_tests)

pub returns-in-Ok-UpDownCounter : goal.returns-in-Ok-UpDownCounter
unfolding total_kept is_counter is_negative of_complement
returns-in-Ok-UpDownCounter c = grind (arith, nat_tests)

pub returns-in-Ok-UpDownCounter-2 : goal.returns-in-Ok-UpDownCounter-2
unfolding total_kept is_counter is_negative of_complement
returns-in-Ok-UpDownCounter-2 c = grind (arith, nat_tests)

pub returns-in_default : goal.returns-in_default
unfolding total_kept is_counter is_negative of_complement
returns-in_default c = grind (arith, nat_tests)
