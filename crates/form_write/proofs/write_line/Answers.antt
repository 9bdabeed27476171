use Rattle.std.proofs.Common.{[], rules}
use Rattle.form_write.proofs.Forming.{opening_told, clock_told, station_below, last_told, lasts_behind, told}
use Rattle.form_write.proofs.write_line.Goals as goal

pub returns-then-k-eq-OPENING_PLACE : goal.returns-then-k-eq-OPENING_PLACE
returns-then-k-eq-OPENING_PLACE c = let t = told _ _ c.map.ensures.cases in search opening_told

pub returns-then-k-eq-CLOCK_PLACE : goal.returns-then-k-eq-CLOCK_PLACE
returns-then-k-eq-CLOCK_PLACE c = let t = told _ _ c.map-then-k-eq-CLOCK_PLACE.ensures.cases in search clock_told

pub write_last-requires : goal.write_last-requires
write_last-requires c = (search rules, station_below _ c.requires [] _ c.if-k-eq-OPENING_PLACE.false c.if-k-eq-CLOCK_PLACE.false _ c.wide-lasts_end.ensures.0 (search rules) _ c.other-station.ensures)

pub returns-then-k-lasts_end : goal.returns-then-k-lasts_end
returns-then-k-lasts_end c = last_told _ c.requires _ _ c.if-k-eq-OPENING_PLACE.false c.if-k-eq-CLOCK_PLACE.false _ c.wide-lasts_end.ensures.0 (search rules) _ c.other-station.ensures _ _ c.write_last.ensures _ (told _ _ c.map-then-k-lasts_end.ensures.cases)

pub returns-else-k-lasts_end : goal.returns-else-k-lasts_end
returns-else-k-lasts_end c = search lasts_behind
