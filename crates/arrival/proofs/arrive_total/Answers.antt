use Rattle.arrival.proofs.Arriving.{total_none, total_changed}
use Rattle.arrival.proofs.arrive_total.Goals as goal

pub returns-then-is_counter : goal.returns-then-is_counter
returns-then-is_counter c = search total_changed

pub returns-else-is_counter : goal.returns-else-is_counter
returns-else-is_counter c = search total_none
