use Rattle.std.proofs.Common.{◌≡◌, ap, Ok, Err, Result, ℕ}
use Rattle.refusal_number.specs.Numbers.{number_of, numbered}
use Rattle.call_answer.proofs.Framing.{issue_refused, frame_fits_lem, issue_framed}
use Rattle.call_answer.proofs.answer_issue.Goals as goal

pub overflow_add-result : goal.overflow_add-result
overflow_add-result c =
    let h : ◌≡◌ {A = Result ℕ ℕ} (numbered c.issue_line.result) (Ok c.in-Ok.n) = ap numbered c.in-Ok.is in
    search (frame_fits_lem, h)

pub returns-in-Ok : goal.returns-in-Ok
returns-in-Ok c =
    let h : ◌≡◌ {A = Result ℕ ℕ} (numbered c.issue_line.result) (Ok c.in-Ok.n) = ap numbered c.in-Ok.is in
    search (issue_framed, h)

pub returns-in-Err : goal.returns-in-Err
returns-in-Err c =
    let h : ◌≡◌ {A = Result ℕ ℕ} (numbered c.issue_line.result) (Err (number_of c.in-Err.refusal)) = ap numbered c.in-Err.is in
    search (issue_refused, h)
