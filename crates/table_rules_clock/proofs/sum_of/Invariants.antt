use Rattle.table_rules_clock.proofs.Totals.{Summed}
use Rattle.table_rules_clock.proofs.sum_of.Given as goal

abbrev pub invariant-loop-entry : goal.invariant-loop-entry
invariant-loop-entry l = Summed l.clock l.sum l.entry-index
