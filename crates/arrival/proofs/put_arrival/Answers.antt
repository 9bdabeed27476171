use Rattle.arrival.proofs.Arriving.{kept_settled, kept_unsettled}
use Rattle.arrival.proofs.put_arrival.Goals as goal

pub returns-then-is_kept : goal.returns-then-is_kept
returns-then-is_kept c = search kept_settled

pub returns-else-is_kept : goal.returns-else-is_kept
returns-else-is_kept c = search kept_unsettled
