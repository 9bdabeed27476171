use Rattle.table_rules.proofs.Parts.{totals_wrong, totals_beyond}
use Rattle.table_rules.proofs.HeadedWords.totals_ok.Goals as goal

pub returns-then-each_total_ok : goal.returns-then-each_total_ok
returns-then-each_total_ok c = search totals_beyond

pub returns-else-each_total_ok : goal.returns-else-each_total_ok
returns-else-each_total_ok c = search totals_wrong
