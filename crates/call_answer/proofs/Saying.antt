-- The line of each answer, by the case that it is.
use Rattle.std.proofs.Common.{Result, Ok, Err, Some, None}
use Rattle.line_put.specs.declared.TooShort.{TooShort}
use Rattle.line_read.specs.Named.{is_opening, is_question, question_read}
use Rattle.std.specs.Bool.{if◌then◌else◌}
use Rattle.call_checked.proofs.Shaped.{read_right, read_fields, read_wrong}
use Rattle.refusal_number.specs.declared.Refusal.{Refusal}
use Rattle.refusal_number.specs.Numbers.{number_of, numbered}
use mathlib.Core.Path.{◌≡◌, sym, ap, ◌∙◌}
use mathlib.Core.Bool.{Bool, true, false}
use mathlib.Core.List.{List, [], ◌∷◌}
use Prim.Native.Nat.{ℕ}
use Rattle.meaning.specs.Calls as meaning
use Rattle.words_layout.specs.Layout.{table_of}
use Rattle.words_tags.specs.declared.RowCount.{RowCount}
use Rattle.refusal_kind.specs.Asking.{asked_from}
use Rattle.line_hex.specs.Choice.{pick}
use Rattle.line_put.specs.Writing.{line_written}
use Rattle.line_read.specs.declared.Question.{Question}
use Rattle.line_read.specs.Types.{count, done, refused}
use Rattle.line_print.specs.Printed.{printed}
use Rattle.line_decode.specs.Decoding.{bytes_of}
use Rattle.call_question.specs.AnswerBytes.{refusal_bytes, reply_bytes}
use Rattle.call_answer.specs.Answering.{done_bytes, outcome_bytes, question_answer, second_opening, settled_bytes}
use Rattle.meaning.specs.Table.{most_rows}

module _ (out : List ℕ) (w : Result ℕ TooShort) (y : List ℕ) where
  pub said_done : (r : Result (Unit {0}) ℕ) (u : Unit {0}) → r ≡ Ok u → (w, y) ≡ printed out done [] [] → (w, y) ≡ line_written out (outcome_bytes r)
  unfolding outcome_bytes printed done_bytes
  said_done r u e p = p ∙ sym (ap (λ (q : Result (Unit {0}) ℕ). line_written out (outcome_bytes q)) e)

  pub said_refused : (r : Result (Unit {0}) ℕ) (number : ℕ) → r ≡ Err number → (w, y) ≡ printed out refused (number ∷ []) [] → (w, y) ≡ line_written out (outcome_bytes r)
  unfolding outcome_bytes printed refusal_bytes
  said_refused r number e p = p ∙ sym (ap (λ (q : Result (Unit {0}) ℕ). line_written out (outcome_bytes q)) e)

  pub settled_refused : (r : Result RowCount Refusal) (refusal : Refusal) → r ≡ Err refusal → (w, y) ≡ line_written out (refusal_bytes (number_of refusal)) → (w, y) ≡ line_written out (settled_bytes (numbered r))
  unfolding settled_bytes
  settled_refused r refusal e p = p ∙ sym (ap (λ (q : Result RowCount Refusal). line_written out (settled_bytes (numbered q))) e)

  pub settled_steps : (r : Result RowCount Refusal) (steps : RowCount) → r ≡ Ok steps → (w, y) ≡ printed out count (steps.0 ∷ []) [] → (w, y) ≡ line_written out (settled_bytes (numbered r))
  unfolding settled_bytes printed
  settled_steps r steps e p = p ∙ sym (ap (λ (q : Result RowCount Refusal). line_written out (settled_bytes (numbered q))) e)

  -- a second opening
  module _ (line : List ℕ) (b : Bool) (e : b ≡ is_opening (bytes_of line)) where
    second_is : (c : Bool) → b ≡ c → refusal_bytes (pick c 13 1) ≡ second_opening line
    unfolding second_opening
    second_is c h = ap (λ (k : Bool). refusal_bytes (pick k 13 1)) (sym h ∙ e)

    pub second_refused : b ≡ true → (w, y) ≡ line_written out (refusal_bytes 13) → (w, y) ≡ line_written out (second_opening line)
    second_refused h p = p ∙ ap (line_written out) (second_is true h)

    pub no_opening : b ≡ false → (w, y) ≡ line_written out (refusal_bytes 1) → (w, y) ≡ line_written out (second_opening line)
    no_opening h p = p ∙ ap (line_written out) (second_is false h)

  -- a question
  module _ (line words : List ℕ) where
    pub question_told : (asked : Question) → Some asked ≡ (if is_question (bytes_of line) then Some (question_read (bytes_of line)) else None) → (w, y) ≡ line_written out (reply_bytes (meaning.ask (table_of words) most_rows (asked_from asked.object asked.question asked.value))) → (w, y) ≡ line_written out (question_answer line words)
    unfolding question_answer
    question_told asked e p =
        let right = read_right (is_question (bytes_of line)) (question_read (bytes_of line)) asked e in
        let fields = read_fields (is_question (bytes_of line)) (question_read (bytes_of line)) asked e in
        rw right (p ∙ ap (λ (q : Question). line_written out (reply_bytes (meaning.ask (table_of words) most_rows (asked_from q.object q.question q.value)))) fields)

    pub question_misshapen : None ≡ (if is_question (bytes_of line) then Some (question_read (bytes_of line)) else None) → (w, y) ≡ line_written out (refusal_bytes 1) → (w, y) ≡ line_written out (question_answer line words)
    unfolding question_answer
    question_misshapen e p = rw (read_wrong (is_question (bytes_of line)) (question_read (bytes_of line)) e) p
