use Rattle.std.proofs.Common.{rules, arith}
use Rattle.std.proofs.lemmas.Bool.Decides.{nat_tests}
use Rattle.meaning.specs.Tests.{between}
use Rattle.meaning.specs.Operations.{value_allowed}
use Rattle.meaning.specs.Questions.{fits}
use Rattle.meaning.specs.Refusals.{well_asked}
use Rattle.refusal_kind.proofs.value_allowed.Goals as goal

pub returns-then-is_counter : goal.returns-then-is_counter
unfolding between value_allowed fits well_asked
returns-then-is_counter c = search rules

pub returns-then-eq : goal.returns-then-eq
unfolding value_allowed
returns-then-eq c = grind (arith, nat_tests)

pub returns-else-eq : goal.returns-else-eq
unfolding value_allowed
returns-else-eq c = grind (arith, nat_tests)
