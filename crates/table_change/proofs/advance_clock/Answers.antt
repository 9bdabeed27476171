use Rattle.table_change.proofs.Parts.{clock_long, clock_below, advanced}
use Rattle.table_change.proofs.advance_clock.Goals as goal

pub advance-requires : goal.advance-requires
advance-requires c = (search clock_long, search clock_below)

pub returns : goal.returns
returns c = search advanced
