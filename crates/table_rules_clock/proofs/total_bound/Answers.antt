use Rattle.table_rules_clock.proofs.Totals.{bound_there}
use Rattle.table_rules_clock.proofs.total_bound.Goals as goal

pub returns : goal.returns
returns c = search bound_there
