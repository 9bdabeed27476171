use Rattle.refusal_order.proofs.Chains.{opening_few, opening_small, opening_range, opening_space, opening_passes}
use Rattle.refusal_order.proofs.opening_refusal.Goals as goal
use Rattle.refusal_order.proofs.opening_refusal.Goals.{then-header_ok, else-header_ok}

pub space_for-requires : goal.space_for-requires
space_for-requires c = (search opening_few, search opening_small)

pub returns-then-fits : goal.returns-then-fits
returns-then-fits c = elim c.if-header_ok.branch [
  | then-header_ok w ↦ search opening_passes
  | else-header_ok w ↦ cc
]

pub returns-else-fits : goal.returns-else-fits
returns-else-fits c = elim c.if-header_ok.branch [
  | then-header_ok w ↦ search opening_space
  | else-header_ok w ↦ search opening_range
]
