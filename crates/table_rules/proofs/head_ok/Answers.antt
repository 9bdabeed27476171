use Rattle.std.proofs.Common.{◌∙◌, sym, arith, rules}
use Rattle.std.proofs.lemmas.Bool.Decides.{nat_tests}
use Rattle.table_rules.specs.TableTests.{head_kept}
use Rattle.table_rules.proofs.Heading.{head_few, head_small}
use Rattle.table_rules.proofs.head_ok.Goals as goal
use Rattle.table_rules.proofs.head_ok.Goals.{then-s-eq-IDLE, else-s-eq-IDLE}

pub returns-then-sizes_ok : goal.returns-then-sizes_ok
unfolding head_kept
returns-then-sizes_ok c = grind (arith, nat_tests)

pub returns-else-sizes_ok : goal.returns-else-sizes_ok
unfolding head_kept
returns-else-sizes_ok c = grind (arith, nat_tests)

pub has_room-requires : goal.has_room-requires
has_room-requires c =
    elim c.if-s-eq-IDLE.branch [
      | then-s-eq-IDLE w ↦ let true_there = sym w.value-is ∙ c.if-sizes_ok.true in (search rules, head_few c.args.s.now _ w.sizes_ok.ensures true_there, head_small c.args.s.now _ w.sizes_ok.ensures true_there)
      | else-s-eq-IDLE w ↦ grind (arith, nat_tests)
    ]
