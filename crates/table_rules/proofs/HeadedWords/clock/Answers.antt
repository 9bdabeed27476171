use Rattle.table_rules.proofs.Parts.{clock_is}
use Rattle.table_rules.proofs.HeadedWords.clock.Goals as goal

pub returns : goal.returns
returns c = search clock_is
