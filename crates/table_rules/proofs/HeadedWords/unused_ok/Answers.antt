use Rattle.table_rules.proofs.Parts.{unused_end, unused_start, unused_told}
use native.Mathlib.Omega.{arith}
use Rattle.table_rules.proofs.HeadedWords.unused_ok.Goals as goal

pub slice_bounds-all_zero-count : goal.slice_bounds-all_zero-count
slice_bounds-all_zero-count c = search (unused_start, arith)

pub slice_bounds-all_zero-start : goal.slice_bounds-all_zero-start
slice_bounds-all_zero-start c = search (unused_start, arith)

pub slice_bounds-all_zero-end : goal.slice_bounds-all_zero-end
slice_bounds-all_zero-end c = search unused_end

pub returns : goal.returns
returns c = search unused_told
