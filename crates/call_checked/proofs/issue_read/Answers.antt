use Rattle.std.proofs.lemmas.Result.{err_from_is_err_and}
use Rattle.call_checked.proofs.Issuing.{issue_refused, issue_rises, issue_framed, issue_short}
use borrow.Author.Rules.{rules}
use Rattle.call_checked.proofs.issue_read.Goals as goal

pub returns-in_err-issue_number : goal.returns-in_err-issue_number
returns-in_err-issue_number c =
    let p = err_from_is_err_and c.from_residual.result c.from_residual.ensures.1 in
    rw (p.1, p.2) (issue_refused _ _ c.requires _ c.in_err-issue_number.field-0.0 c.in_err-issue_number.ensures)

pub next_vector-vector-requires : goal.next_vector-vector-requires
next_vector-vector-requires c = (search rules, search (issue_rises, c.in_ok-issue_number.ensures))

pub returns-in-Ok : goal.returns-in-Ok
returns-in-Ok c = issue_framed _ _ c.requires _ c.in_ok-issue_number.ensures _ c.wide-size.ensures.0 _ c.next_vector-vector.ensures _ _ _ c.in-Ok.ensures c.take_local.ensures

pub returns-in-Err : goal.returns-in-Err
returns-in-Err c = issue_short _ _ c.requires _ c.in_ok-issue_number.ensures _ c.wide-size.ensures.0 _ c.next_vector-vector.ensures _ _ c.in-Err.ensures
