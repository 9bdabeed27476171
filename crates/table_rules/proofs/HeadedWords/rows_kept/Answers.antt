use Rattle.table_rules.proofs.Parts.{rows_start, rows_room, row_wide, rows_told}
use Rattle.table_rules.proofs.HeadedWords.rows_kept.Goals as goal

pub slice_bounds-rows_ok-count : goal.slice_bounds-rows_ok-count
slice_bounds-rows_ok-count c = search rows_start

pub slice_bounds-rows_ok-start : goal.slice_bounds-rows_ok-start
slice_bounds-rows_ok-start c = search rows_start

pub rows_ok-requires : goal.rows_ok-requires
rows_ok-requires c = (search rows_room, search row_wide)

pub returns : goal.returns
returns c = search rows_told
