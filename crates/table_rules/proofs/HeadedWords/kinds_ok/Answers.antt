use Rattle.table_rules.proofs.Parts.{kinds_wrong, kinds_beyond}
use Rattle.table_rules.proofs.HeadedWords.kinds_ok.Goals as goal

pub returns-then-all_in_range : goal.returns-then-all_in_range
returns-then-all_in_range c = search kinds_beyond

pub returns-else-all_in_range : goal.returns-else-all_in_range
returns-else-all_in_range c = search kinds_wrong
