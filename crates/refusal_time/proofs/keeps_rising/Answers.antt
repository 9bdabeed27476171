use Rattle.refusal_time.proofs.Entries.{last_of_none, last_there}
use Rattle.refusal_time.proofs.keeps_rising.Goals as goal

pub returns-then-v-at : goal.returns-then-v-at
returns-then-v-at c = search last_of_none

pub returns : goal.returns
returns c = search last_there
