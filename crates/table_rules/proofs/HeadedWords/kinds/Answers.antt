use Rattle.table_rules.proofs.Parts.{kinds_are}
use Rattle.table_rules.proofs.HeadedWords.kinds.Goals as goal

pub returns : goal.returns
returns c = search kinds_are
