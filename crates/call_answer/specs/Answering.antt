-- What the station program answers to a line at a table: the bytes of its one line, and the table space afterwards.
use Rattle.std.specs.Prelude.{Result, Ok, Err, List, [], ◌∷◌, ℕ, ◌+◌}
use Rattle.words_tags.specs.declared.RowCount.{RowCount}
use Rattle.line_put.specs.declared.TooShort.{TooShort}
use Rattle.line_read.specs.Named.{is_issue, is_opening, is_question, issue_read, question_read}
use Rattle.meaning.specs.Table.{most_rows}
use Rattle.meaning.specs.Calls as meaning
use Rattle.words_layout.specs.Layout.{rewritten, table_of}
use Rattle.refusal_kind.specs.Asking.{asked_from}
use Rattle.line_hex.specs.Choice.{pick}
use Rattle.line_put.specs.Writing.{line_written}
use Rattle.line_read.specs.Types.{count, done, line_of, longest_frame}
use Rattle.line_decode.specs.Decoding.{bytes_of}
use Rattle.line_decode.specs.declared.LineKind.{LineKind}
use Rattle.line_decode.specs.declared.LineKind.TheVariants as kind
use Rattle.call_question.specs.AnswerBytes.{refusal_bytes, reply_bytes}
use Rattle.call_checked.specs.Called.{frame_bytes, local_of, received_on, settled_on}

-- "An answer line is `00` and the result": "opening and operation none".
unfoldable pub done_bytes : List ℕ
done_bytes = line_of done [] []

-- What an opening and a frame are answered: nothing but that it is done, or the refusal.
unfoldable pub outcome_bytes : Result (Unit {0}) ℕ → List ℕ
outcome_bytes (Ok u) = done_bytes
outcome_bytes (Err number) = refusal_bytes number

-- "settle and count 2 bytes"
unfoldable pub settled_bytes : Result RowCount ℕ → List ℕ
settled_bytes (Err number) = refusal_bytes number
settled_bytes (Ok steps) = line_of count (steps.0 ∷ []) []

-- "issue the `20` frame", behind `00`.
unfoldable pub issued_bytes : List ℕ → meaning.Outcome → List ℕ × List ℕ
issued_bytes words (meaning.Outcome.refused number) = (refusal_bytes number, words)
issued_bytes words (meaning.Outcome.accepted u table) = (0 ∷ frame_bytes u, rewritten words table)

unfoldable pub issue_answer : List ℕ → List ℕ → List ℕ × List ℕ
issue_answer line words =
    let f = issue_read (bytes_of line) in
    pick (is_issue (bytes_of line)) (issued_bytes words (meaning.issue (table_of words) (local_of f))) (refusal_bytes 1, words)

-- A line has room for as many values as a table may have rows, so that 11 is never given here.
unfoldable pub question_answer : List ℕ → List ℕ → List ℕ
question_answer line words =
    let asked = question_read (bytes_of line) in
    pick (is_question (bytes_of line))
    (reply_bytes (meaning.ask (table_of words) most_rows (asked_from asked.object asked.question asked.value)))
    (refusal_bytes 1)

-- "a second opening gets `ff0d`"
unfoldable pub second_opening : List ℕ → List ℕ
second_opening line = refusal_bytes (pick (is_opening (bytes_of line)) 13 1)

-- An answer that changes the space, and one that does not.
abbrev pub changing : {A : Type 0} → (A → List ℕ) → A × List ℕ → List ℕ × List ℕ
changing bytes_of_answer (answer, words) = (bytes_of_answer answer, words)

-- By the line's kind: "Lines of type `50` to `5f` are of unknown type here (1)", and a `60` line that is answered with one line is misshapen.
unfoldable pub answer_on : LineKind → List ℕ → List ℕ → List ℕ × List ℕ
answer_on kind.Opening line words = (second_opening line, words)
answer_on kind.Operation line words = changing outcome_bytes (received_on line words)
answer_on kind.Issue line words = issue_answer line words
answer_on kind.Settling line words = changing settled_bytes (settled_on line words)
answer_on kind.Question line words = (question_answer line words, words)
answer_on kind.Printing line words = (refusal_bytes 1, words)
answer_on kind.Saved line words = (refusal_bytes 1, words)
answer_on kind.Unknown line words = (refusal_bytes 1, words)

-- The answer's line in a space for it, and the table space.
unfoldable pub answered_after : List ℕ → List ℕ × List ℕ → Result ℕ TooShort × (List ℕ × List ℕ)
answered_after out (bytes, words) = ((line_written out bytes).0, (words, (line_written out bytes).1))

-- The characters of the longest frame's line behind `00`.
abbrev pub frame_room : ℕ
frame_room = 2 + longest_frame
