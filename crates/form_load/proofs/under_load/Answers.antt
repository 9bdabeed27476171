use Rattle.std.proofs.Common.{sym, ◌∙◌, arith}
use Rattle.std.proofs.lemmas.Bool.Decides.{nat_tests}
use Rattle.form_load.proofs.Nexts.{under_head, under_headed, under_short, under_waits}
use Rattle.form_load.proofs.under_load.Goals as goal
use Rattle.form_load.proofs.under_load.Goals.{then-space-ge-CLOCK_AT, else-space-ge-CLOCK_AT}

pub load_waits-requires : goal.load_waits-requires
load_waits-requires c = elim c.if-space-ge-CLOCK_AT.branch [
  | then-space-ge-CLOCK_AT w ↦ under_headed _ _ w.head_loads.ensures (sym w.value-is ∙ c.if-head_loads.true)
  | else-space-ge-CLOCK_AT w ↦ grind (arith, nat_tests)
]

pub returns-then-head_loads : goal.returns-then-head_loads
returns-then-head_loads c = elim c.if-space-ge-CLOCK_AT.branch [
  | then-space-ge-CLOCK_AT w ↦ under_waits _ _ w.head_loads.ensures (sym w.value-is ∙ c.if-head_loads.true) _ c.load_waits.ensures
  | else-space-ge-CLOCK_AT w ↦ grind (arith, nat_tests)
]

pub returns-else-head_loads : goal.returns-else-head_loads
returns-else-head_loads c = elim c.if-space-ge-CLOCK_AT.branch [
  | then-space-ge-CLOCK_AT w ↦ c.if-head_loads.false ∙ under_head _ _ w.head_loads.ensures (sym w.value-is ∙ c.if-head_loads.false)
  | else-space-ge-CLOCK_AT w ↦ c.if-head_loads.false ∙ under_short _ w.if-space-ge-CLOCK_AT.false
]
