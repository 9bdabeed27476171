use Rattle.table_change.proofs.Parts.{last_written}
use Rattle.table_change.proofs.write_last.Goals as goal

pub returns : goal.returns
returns c = search last_written
