use Rattle.std.proofs.Common.{sym, ◌∙◌, arith}
use Rattle.std.proofs.lemmas.Bool.Decides.{nat_tests}
use Rattle.table_rules.proofs.Holding.{held_short, held_head, told_headed, held_parts}
use Rattle.table_rules.proofs.is_table.Goals as goal
use Rattle.table_rules.proofs.is_table.Goals.{then-s-ge-CLOCK_AT, else-s-ge-CLOCK_AT}

pub invariant_of-parts_ok : goal.invariant_of-parts_ok
invariant_of-parts_ok c = elim c.if-s-ge-CLOCK_AT.branch [ then-s-ge-CLOCK_AT w ↦ record { headed = told_headed _ _ w.head_ok.ensures (sym w.value-is ∙ c.if-head_ok.true) } | else-s-ge-CLOCK_AT w ↦ grind (arith, nat_tests) ]

pub returns-then-head_ok : goal.returns-then-head_ok
returns-then-head_ok c = elim c.if-s-ge-CLOCK_AT.branch [ then-s-ge-CLOCK_AT w ↦ held_parts _ _ w.head_ok.ensures (sym w.value-is ∙ c.if-head_ok.true) c.type_inv.s _ c.parts_ok.ensures | else-s-ge-CLOCK_AT w ↦ grind (arith, nat_tests) ]

pub returns-else-head_ok : goal.returns-else-head_ok
returns-else-head_ok c = elim c.if-s-ge-CLOCK_AT.branch [ then-s-ge-CLOCK_AT w ↦ c.if-head_ok.false ∙ held_head _ _ w.head_ok.ensures (sym w.value-is ∙ c.if-head_ok.false) | else-s-ge-CLOCK_AT w ↦ c.if-head_ok.false ∙ held_short _ w.if-s-ge-CLOCK_AT.false ]
