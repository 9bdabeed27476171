use Rattle.std.proofs.lemmas.Result.{err_from_is_err_and}
use Rattle.arrival_frame.proofs.Receiving.{number_early, number_none, number_full}
use Rattle.arrival_frame.proofs.frame_number.Goals as goal

pub returns-in_err-early_refusal : goal.returns-in_err-early_refusal
returns-in_err-early_refusal c =
    let p = err_from_is_err_and c.from_residual.result c.from_residual.ensures.1 in
    rw (p.1, p.2) (number_early _ _ _ c.in_err-early_refusal.field-0.0 c.in_err-early_refusal.ensures)

pub returns-then-has_room : goal.returns-then-has_room
returns-then-has_room c = number_none _ _ _ c.in_ok-early_refusal.ensures _ c.arrival_of-a.ensures _ c.has_room.ensures c.if-has_room.true

pub returns-else-has_room : goal.returns-else-has_room
returns-else-has_room c = number_full _ _ _ c.in_ok-early_refusal.ensures _ c.arrival_of-a.ensures _ c.has_room.ensures c.if-has_room.false
