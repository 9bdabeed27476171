use Rattle.std.proofs.Common.{Ok, Err}
use Rattle.std.proofs.lemmas.Result.{err_from_is_err_and}
use Rattle.call_checked.proofs.Receiving.{receive_other_size, receive_told}
use Rattle.call_checked.proofs.receive_read.Goals as goal

pub returns-then-f-space : goal.returns-then-f-space
returns-then-f-space c = search receive_other_size

pub returns-in_err-receive_frame : goal.returns-in_err-receive_frame
returns-in_err-receive_frame c =
    let p = err_from_is_err_and c.from_residual.result c.from_residual.ensures.1 in
    rw (p.1, p.2) (receive_told _ _ c.requires.2 _ c.wide-end.ensures.0 (Err c.in_err-receive_frame.field-0.0) _ c.in_err-receive_frame.ensures)

pub returns : goal.returns
returns c = receive_told _ _ c.requires.2 _ c.wide-end.ensures.0 (Ok tt) _ c.in_ok-receive_frame.ensures
