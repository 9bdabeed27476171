-- The number that a question gets is the first refusal that is given to it.
use mathlib.Core.Path.{◌≡◌, refl, sym, ◌∙◌}
use mathlib.Core.List.{List}
use Prim.Native.Nat.{ℕ}
use lib.Dec.{eqb}
use borrow.Author.Tests.{eqb-true}
use Rattle.meaning.specs.Table.{Table}
use Rattle.meaning.specs.Questions.{Asked, Answer, Source, total, flag, list, count, holds, by_rows, answer_from}
use Rattle.meaning.specs.Refusals.{first_of, question_refusals}
use Rattle.meaning.specs.Calls.{answered, reply_of, ask_of, ask}
use Rattle.meaning.proofs.Tests.{cases}
use Rattle.question.specs.Replies.{replied, number_of}

no_number : (answer : Answer) (out : List ℕ) → number_of (replied (answered answer) out).0 ≡ 0
unfolding number_of replied
no_number (total z) out = refl
no_number (flag on) out = refl
no_number (list values) out = refl
no_number (count number) out = refl
no_number (holds there) out = refl

reply_number : (refusal : ℕ) (source : Source) (asked : Asked) (out : List ℕ) → number_of (replied (reply_of refusal source asked) out).0 ≡ refusal
unfolding number_of replied reply_of
reply_number refusal source asked out = cases (eqb refusal 0)
    (λ z. rw z (no_number (answer_from source asked) out ∙ sym (eqb-true refusal 0 z)))
    (λ z. rw z (cases (eqb refusal 11) (λ e. rw e (sym (eqb-true refusal 11 e))) (λ e. rw e refl)))

-- "A question passes 14, 1, 3, 12, 11": a table that was checked has passed 14.
pub number_told : (table : Table) (room : ℕ) (asked : Asked) (out : List ℕ) → number_of (replied (ask table room asked) out).0 ≡ first_of (question_refusals table.header (by_rows table) room asked)
unfolding ask ask_of
number_told table room asked out = reply_number (first_of (question_refusals table.header (by_rows table) room asked)) (by_rows table) asked out
