use Rattle.std.proofs.Common.{rules}
use Rattle.meaning.specs.Tests.{between}
use Rattle.table_rules.proofs.all_in_range.Goals as goal

pub returns : goal.returns
returns c = c.every.ensures (between c.args.least c.args.greatest) (λ x passed k. search rules)
