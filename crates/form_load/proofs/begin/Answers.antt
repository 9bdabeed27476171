use Rattle.std.proofs.Common.{refl}
use Rattle.std.proofs.lemmas.Result.{err_from_is_err_and}
use Rattle.form_load.proofs.Loads.{begin_fresh, begin_refused, begin_room}
use Rattle.form_load.proofs.begin.Goals as goal

pub returns-in_err-open_line : goal.returns-in_err-open_line
returns-in_err-open_line c =
    let p = err_from_is_err_and c.from_residual.result c.from_residual.ensures.1 in
    rw (p.1, p.2) (begin_refused _ _ _ _ c.in_err-open_line.ensures _ refl)

pub bounds-space-6 : goal.bounds-space-6
bounds-space-6 c = begin_room _ _ _ _ c.in_ok-open_line.ensures refl

pub returns : goal.returns
returns c = begin_fresh _ _ _ _ c.in_ok-open_line.ensures refl
