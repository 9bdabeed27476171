use Rattle.std.proofs.Common.{rules}
use Rattle.meaning.specs.Tests.{between}
use Rattle.table_ranges.proofs.kinds_known.Goals as goal

pub returns : goal.returns
returns c = c.every.ensures (between 1 9) (λ x passed k. search rules)
