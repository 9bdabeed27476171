use Rattle.table_rules.proofs.Parts.{lasts_room, lasts_told}
use Rattle.table_rules.proofs.HeadedWords.lasts_ok.Goals as goal

pub each_last_ok-requires : goal.each_last_ok-requires
each_last_ok-requires c = search lasts_room

pub returns : goal.returns
returns c = search lasts_told
