use Rattle.std.proofs.Common.{◌≡◌, ◌∙◌, eqb}
use Rattle.table_rules_rows.proofs.Chaining.{both_tests, first_fails, follows_new, follows_repeated, two_phase_told}
use Rattle.table_rules_rows.proofs.may_follow.Goals as goal
use Rattle.table_rules_rows.proofs.may_follow.Goals.{then-eq, else-eq}

pub returns-then-not-repeats : goal.returns-then-not-repeats
returns-then-not-repeats c =
    let k = c.kind_of-kind in
    let one : c.eq.result ≡ eqb k.result 4 = c.eq.ensures ∙ two_phase_told k.result c.try_from.result _ c.try_from.ensures in
    elim c.if-eq.branch [
      | then-eq w ↦ follows_new _ _ _ k.result k.ensures _ (both_tests _ _ _ _ _ one w.if-eq.true w.has_same_value-repeats.ensures w.repeats-is) c.if-not-repeats.true c.requires.0 c.requires.1 _ c.lower.ensures
      | else-eq w ↦ follows_new _ _ _ k.result k.ensures _ (first_fails _ _ _ _ one w.if-eq.false w.repeats-is) c.if-not-repeats.true c.requires.0 c.requires.1 _ c.lower.ensures
    ]

pub returns-else-not-repeats : goal.returns-else-not-repeats
returns-else-not-repeats c =
    let k = c.kind_of-kind in
    let one : c.eq.result ≡ eqb k.result 4 = c.eq.ensures ∙ two_phase_told k.result c.try_from.result _ c.try_from.ensures in
    elim c.if-eq.branch [
      | then-eq w ↦ follows_repeated c.args.kinds.now c.args.before.now c.args.row.now k.result k.ensures _ (both_tests _ _ _ _ _ one w.if-eq.true w.has_same_value-repeats.ensures w.repeats-is) c.if-not-repeats.false
      | else-eq w ↦ follows_repeated c.args.kinds.now c.args.before.now c.args.row.now k.result k.ensures _ (first_fails _ _ _ _ one w.if-eq.false w.repeats-is) c.if-not-repeats.false
    ]
