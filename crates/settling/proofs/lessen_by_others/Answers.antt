use Rattle.std.proofs.Common.{◌∙◌}
use Rattle.settling.proofs.Least.{lessening_start, lessening_by, lessening_skip, lessened_by, at_next, part_room, part_long}
use Rattle.settling.proofs.lessen_by_others.Goals as goal
use Rattle.settling.proofs.lessen_by_others.Goals.{then-station-place, else-station-place}

pub loop-station-init : goal.loop-station-init
loop-station-init c = search lessening_start

pub slice_bounds-lessen-end : goal.slice_bounds-lessen-end
slice_bounds-lessen-end c = search part_room

pub lessen-requires : goal.lessen-requires
lessen-requires c = search part_long

pub loop-station-preserved : goal.loop-station-preserved
loop-station-preserved c =
    let low = c.if-station-place.low in
    elim c.if-station-place.branch [
      | then-station-place w ↦ at_next _ _ _ _ _ _ c.if-station-place.auto.low (lessening_by _ _ _ _ _ _ c.loop-station.invariant c.loop-station-test.true low c.if-station-place.auto.low w.if-station-place.true (w.low-is ∙ w.lessen.ensures))
      | else-station-place w ↦ at_next _ _ _ _ _ _ c.if-station-place.auto.low (lessening_skip _ _ _ _ _ _ c.loop-station.invariant c.loop-station-test.true low w.low-is w.if-station-place.false)
    ]

pub returns : goal.returns
returns c = search lessened_by
