use Rattle.std.proofs.Common.{◌≡◌, ◌∙◌, ap, sym, ℕ, Option, Result, Ok, Err}
use Rattle.refusal_number.specs.Numbers.{numbered}
use Rattle.calls.proofs.Answering.{form_there, form_room, form_refused}
use Rattle.calls.proofs.answer_printing.Goals as goal

pub refuse_at-requires : goal.refuse_at-requires
refuse_at-requires c =
    let h : ◌≡◌ {A = Result (Option ℕ) ℕ} (numbered c.save_line.result) (Err c.number.result) = ap numbered c.in-Err.is ∙ ap Err (sym c.number.ensures) in
    search (form_room, h)

pub returns-in-Ok : goal.returns-in-Ok
returns-in-Ok c =
    let h : ◌≡◌ {A = Result (Option ℕ) ℕ} (numbered c.save_line.result) (Ok c.in-Ok.there) = ap numbered c.in-Ok.is in
    search (form_there, h)

pub returns-in-Err : goal.returns-in-Err
returns-in-Err c =
    let h : ◌≡◌ {A = Result (Option ℕ) ℕ} (numbered c.save_line.result) (Err c.number.result) = ap numbered c.in-Err.is ∙ ap Err (sym c.number.ensures) in
    search (form_refused, h)
