-- The answer by the line's kind, way by way.
use Rattle.std.proofs.Common.{Result}
use Rattle.words_tags.specs.declared.RowCount.{RowCount}
use Rattle.line_put.specs.declared.TooShort.{TooShort}
use mathlib.Core.Path.{◌≡◌, refl, sym, ap, ap₂, ◌∙◌}
use mathlib.Core.List.{List}
use Prim.Native.Nat.{ℕ}
use Rattle.line_put.specs.Writing.{line_written}
use Rattle.line_decode.specs.declared.LineKind.{LineKind}
use Rattle.line_decode.specs.declared.LineKind.TheVariants as kind
use Rattle.call_question.specs.AnswerBytes.{refusal_bytes}
use Rattle.call_checked.specs.Called.{received_on, settled_on}
use Rattle.call_answer.specs.Answering.{answer_on, issue_answer, question_answer, outcome_bytes, second_opening, settled_bytes, answered_after}

-- an answer's line, where its bytes and the space are known
pub told : (out bytes words : List ℕ) (answer : List ℕ × List ℕ) → answer ≡ (bytes, words) → (w : Result ℕ TooShort) (y x : List ℕ) → (w, y) ≡ line_written out bytes → x ≡ words → (w, (x, y)) ≡ answered_after out answer
unfolding answered_after
told out bytes words answer a w y x e f =
    ap₂ (λ (q : Result ℕ TooShort × List ℕ) (l : List ℕ). (q.0, (l, q.1))) e f ∙ sym (ap (answered_after out) a)

module _ (k : LineKind) (line words out : List ℕ) (w : Result ℕ TooShort) (y : List ℕ) where
  pub answers_opening : k ≡ kind.Opening → (w, y) ≡ line_written out (second_opening line) → (w, (words, y)) ≡ answered_after out (answer_on k line words)
  unfolding answer_on
  answers_opening z p = told out (second_opening line) words (answer_on k line words) (rw z refl) w y words p refl

  pub answers_frame : k ≡ kind.Operation → (r : Result (Unit {0}) ℕ) (x : List ℕ) → (r, x) ≡ received_on line words → (w, y) ≡ line_written out (outcome_bytes r) → (w, (x, y)) ≡ answered_after out (answer_on k line words)
  unfolding answer_on
  answers_frame z r x e p = told out (outcome_bytes r) x (answer_on k line words) (rw z (ap (λ (q : Result (Unit {0}) ℕ × List ℕ). (outcome_bytes q.0, q.1)) (sym e))) w y x p refl

  pub answers_issue : k ≡ kind.Issue → (x : List ℕ) → (w, (x, y)) ≡ answered_after out (issue_answer line words) → (w, (x, y)) ≡ answered_after out (answer_on k line words)
  unfolding answer_on
  answers_issue z x p = p ∙ ap (answered_after out) (rw z refl)

  pub answers_settling : k ≡ kind.Settling → (r : Result RowCount ℕ) (x : List ℕ) → (r, x) ≡ settled_on line words → (w, y) ≡ line_written out (settled_bytes r) → (w, (x, y)) ≡ answered_after out (answer_on k line words)
  unfolding answer_on
  answers_settling z r x e p = told out (settled_bytes r) x (answer_on k line words) (rw z (ap (λ (q : Result RowCount ℕ × List ℕ). (settled_bytes q.0, q.1)) (sym e))) w y x p refl

  pub answers_question : k ≡ kind.Question → (w, y) ≡ line_written out (question_answer line words) → (w, (words, y)) ≡ answered_after out (answer_on k line words)
  unfolding answer_on
  answers_question z p = told out (question_answer line words) words (answer_on k line words) (rw z refl) w y words p refl

-- a kind whose lines get 1
pub answers_misshapen : (known : LineKind) → ((line words : List ℕ) → answer_on known line words ≡ (refusal_bytes 1, words)) → (k : LineKind) → k ≡ known → (line words out : List ℕ) (w : Result ℕ TooShort) (y : List ℕ) → (w, y) ≡ line_written out (refusal_bytes 1) → (w, (words, y)) ≡ answered_after out (answer_on k line words)
answers_misshapen known refuses k z line words out w y p = told out (refusal_bytes 1) words (answer_on k line words) (rw z (refuses line words)) w y words p refl
