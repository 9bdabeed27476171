use Rattle.std.proofs.Common.{rules}
use Rattle.form_write.proofs.Forming.{object_below, object_fits, told, total_told, totals_behind}
use Rattle.form_write.proofs.write_behind_lasts.Goals as goal

pub overflow_cast-object : goal.overflow_cast-object
overflow_cast-object c = search object_fits

pub write_total-requires : goal.write_total-requires
write_total-requires c = (search rules, search object_below)

pub returns-in-Ok : goal.returns-in-Ok
returns-in-Ok c = let t = told _ _ c.map.ensures.cases in search total_told

pub returns-in-Err : goal.returns-in-Err
returns-in-Err c = search totals_behind
