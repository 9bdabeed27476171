use Rattle.std.proofs.Common.{rules}
use Rattle.meaning.specs.Tests.{between}
use Rattle.meaning.specs.Operations.{value_allowed}
use Rattle.meaning.specs.Questions.{fits}
use Rattle.meaning.specs.Refusals.{well_asked}
use Rattle.refusal_kind.proofs.is_fitted.Goals as goal

pub returns-then-not-is_counter : goal.returns-then-not-is_counter
unfolding between value_allowed fits well_asked
returns-then-not-is_counter c = search rules
