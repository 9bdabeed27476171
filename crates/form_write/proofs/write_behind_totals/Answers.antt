use Rattle.form_write.proofs.Forming.{row_told, closing_told, end_told, told}
use Rattle.form_write.proofs.write_behind_totals.Goals as goal

pub returns-then-place-rows : goal.returns-then-place-rows
returns-then-place-rows c = let t = told _ _ c.map.ensures.cases in search row_told

pub returns-then-place-rows-2 : goal.returns-then-place-rows-2
returns-then-place-rows-2 c = let t = told _ _ c.map-then-place-rows-2.ensures.cases in search closing_told

pub returns-else-place-rows-2 : goal.returns-else-place-rows-2
returns-else-place-rows-2 c = search end_told
