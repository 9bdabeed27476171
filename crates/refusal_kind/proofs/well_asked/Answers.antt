use Rattle.std.proofs.Common.{rules}
use Rattle.meaning.specs.Tests.{between}
use Rattle.meaning.specs.Operations.{value_allowed}
use Rattle.meaning.specs.Questions.{fits}
use Rattle.meaning.specs.Refusals.{well_asked}
use Rattle.refusal_kind.proofs.well_asked.Goals as goal

pub returns-in-Ok : goal.returns-in-Ok
unfolding between value_allowed fits well_asked
returns-in-Ok c = search rules
