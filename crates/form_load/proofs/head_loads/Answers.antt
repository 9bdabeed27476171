use borrow.Author.Rules.{rules}
use borrow.Author.Tests.{eqb-true}
use Rattle.std.proofs.Common.{sym, ◌∙◌}
use Rattle.table_rules.proofs.Heading.{head_few, head_small}
use Rattle.form_load.proofs.Nexts.{head_mark, head_room, head_sizes}
use Rattle.form_load.proofs.head_loads.Goals as goal
use Rattle.form_load.proofs.head_loads.Goals.{then-space-eq-TABLE_MARK, else-space-eq-TABLE_MARK}

pub has_room-requires : goal.has_room-requires
has_room-requires c = elim c.if-space-eq-TABLE_MARK.branch [
  | then-space-eq-TABLE_MARK w ↦ let true_there = sym w.value-is ∙ c.if-sizes_ok.true in (search rules, head_few c.args.space.now _ w.sizes_ok.ensures true_there, head_small c.args.space.now _ w.sizes_ok.ensures true_there)
  | else-space-eq-TABLE_MARK w ↦ absurd (w.if-space-eq-TABLE_MARK.false (eqb-true _ _ (sym w.value-is ∙ c.if-sizes_ok.true)))
]

pub returns-then-sizes_ok : goal.returns-then-sizes_ok
returns-then-sizes_ok c = elim c.if-space-eq-TABLE_MARK.branch [
  | then-space-eq-TABLE_MARK w ↦ head_room c.args.space.now _ w.sizes_ok.ensures w.if-space-eq-TABLE_MARK.true (sym w.value-is ∙ c.if-sizes_ok.true) _ c.has_room.ensures
  | else-space-eq-TABLE_MARK w ↦ absurd (w.if-space-eq-TABLE_MARK.false (eqb-true _ _ (sym w.value-is ∙ c.if-sizes_ok.true)))
]

pub returns-else-sizes_ok : goal.returns-else-sizes_ok
returns-else-sizes_ok c = elim c.if-space-eq-TABLE_MARK.branch [
  | then-space-eq-TABLE_MARK w ↦ c.if-sizes_ok.false ∙ head_sizes c.args.space.now _ w.sizes_ok.ensures (sym w.value-is ∙ c.if-sizes_ok.false)
  | else-space-eq-TABLE_MARK w ↦ c.if-sizes_ok.false ∙ head_mark _ w.if-space-eq-TABLE_MARK.false
]
