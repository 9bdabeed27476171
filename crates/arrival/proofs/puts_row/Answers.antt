use Rattle.arrival.proofs.Putting.{puts_counter, puts_added, puts_other, puts_tagged}
use Rattle.arrival.proofs.puts_row.Goals as goal

pub returns-then-is_counter : goal.returns-then-is_counter
returns-then-is_counter c = search puts_counter

pub returns-else-a-ne-ADDS : goal.returns-else-a-ne-ADDS
returns-else-a-ne-ADDS c = search puts_added

pub returns-then-a-ne-ADDS : goal.returns-then-a-ne-ADDS
returns-then-a-ne-ADDS c = search puts_other

pub returns-else-is_kept : goal.returns-else-is_kept
returns-else-is_kept c = search puts_tagged
