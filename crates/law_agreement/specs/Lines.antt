-- Lines given to the station program one after the other over one space: the space after them, and the operations that were accepted.
use Rattle.question.specs.Told as reply
use Rattle.question.specs.Told.{Told}
use Rattle.std.specs.Prelude.{Result, Ok, Err, Option, Some, None, ◌≡◌, ◌≢◌, Bool, true, false, cond, List, [], ◌∷◌, ◌++◌, ℕ, eqb, length, take}
use Rattle.meaning.specs.Operations as meant
use Rattle.meaning.specs.Table.{Header, most_rows, zeros}
use Rattle.meaning.specs.Refusals.{issued_by}
use Rattle.meaning.specs.Calls as meaning
use Rattle.words_layout.specs.Layout.{holds_table, table_of}
use Rattle.refusal_kind.specs.Asking.{asked_from}
use Rattle.line_hex.specs.Choice.{pick}
use Rattle.line_hex.specs.Hex.{figure_zero, hex_line}
use Rattle.line_read.specs.Types.{count, flag, issue, line_of, opening, operation, printing, question, settling, sum, longest_frame}
use Rattle.line_read.specs.Named.{is_question, issue_read, operation_read, question_read}
use Rattle.line_decode.specs.Decoding.{bytes_of, type_of}
use Rattle.line_decode.specs.LineKinds.{kind_of}
use Rattle.line_decode.specs.declared.LineKind.{LineKind}
use Rattle.line_decode.specs.declared.LineKind.TheVariants as kind
use Rattle.call_question.specs.AnswerBytes.{list_bytes, refusal_bytes, reply_bytes}
use Rattle.call_checked.specs.Called.{frame_of, local_of, opened_by}
use Rattle.call_answer.specs.Answering.{changing, done_bytes, outcome_bytes, second_opening, settled_bytes}
use Rattle.form_write.specs.Forms.{saved_form}
use Rattle.form_save.specs.Saving.{saved_by}
use Rattle.calls.specs.Answers.{answer_of, answered_by, lines_for, longest_answer}
use Rattle.call_answer.specs.OutputLines.{printed_at}
use Rattle.calls.specs.Calls as calls
use Rattle.calls.specs.Calls.{received_by, replied_by, settled_by}
use Rattle.law_agreement.specs.Station.{Call, receives, issues, settles}
use Rattle.law_agreement.specs.Conditions.{is_line_of}

-- The space after these lines were answered, the first first.
unfoldable pub lines_after : List (List ℕ) → List ℕ → List ℕ
lines_after [] words = words
lines_after (line ∷ rest) words = lines_after rest (answer_of line words).1

-- "An answer line is `00` and the result": the answer is no refusal.
unfoldable pub is_done : List ℕ → Bool
is_done [] = false
is_done (first ∷ rest) = eqb first 0

-- The operation that a line of each kind offers: that of a `20` frame, or the one that is issued for a `21` line; other lines offer none.
unfoldable pub offered_as : LineKind → List ℕ → List ℕ → List meant.Operation
offered_as kind.Opening line words = []
offered_as kind.Operation line words = (frame_of (operation_read (bytes_of line))).operation ∷ []
offered_as kind.Issue line words = issued_by (table_of words) (local_of (issue_read (bytes_of line))) ∷ []
offered_as kind.Settling line words = []
offered_as kind.Question line words = []
offered_as kind.Printing line words = []
offered_as kind.Saved line words = []
offered_as kind.Unknown line words = []

unfoldable pub offered_by : List ℕ → List ℕ → List meant.Operation
offered_by line words = offered_as (kind_of (type_of line)) line words

-- It was accepted where the line's answer is no refusal.
unfoldable pub accepted_by : List ℕ → List ℕ → List meant.Operation
accepted_by line words = pick (is_done (answer_of line words).0) (offered_by line words) []

-- All operations that these lines brought, the latest first, behind which those stand that were accepted before.
unfoldable pub accepted_by_all : List (List ℕ) → List ℕ → List meant.Operation → List meant.Operation
accepted_by_all [] words earlier = earlier
accepted_by_all (line ∷ rest) words earlier = accepted_by_all rest (answer_of line words).1 (accepted_by line words ++ earlier)

-- An opening line that was answered with `00`, and the space after it.
pub record OpenedBy (line before words : List ℕ) : Type 0 where
  pub is_opening : type_of line ≡ opening.type_byte
  pub answered : answer_of line before ≡ (done_bytes, words)

-- What a question line gets by the nine definitions over these operations; 1 where it is misshapen.
unfoldable pub meant_answer : Header → List meant.Operation → List ℕ → List ℕ
meant_answer header operations line =
    let asked = question_read (bytes_of line) in
    pick (is_question (bytes_of line))
    (reply_bytes (meaning.meant header operations most_rows (asked_from asked.object asked.question asked.value)))
    (refusal_bytes 1)

-- The call that a line of each kind is at a table: a question, a second opening and a line of unknown type change nothing.
unfoldable pub calls_as : LineKind → List ℕ → List Call
calls_as kind.Opening line = []
calls_as kind.Operation line = receives line ∷ []
calls_as kind.Issue line = issues line (zeros longest_frame) ∷ []
calls_as kind.Settling line = settles line ∷ []
calls_as kind.Question line = []
calls_as kind.Printing line = []
calls_as kind.Saved line = []
calls_as kind.Unknown line = []

unfoldable pub calls_of : List ℕ → List Call
calls_of line = calls_as (kind_of (type_of line)) line

unfoldable pub calls_of_all : List (List ℕ) → List Call
calls_of_all [] = []
calls_of_all (line ∷ rest) = calls_of line ++ calls_of_all rest

-- What a call answered, as the program tells it. "issue the `20` frame": the two characters of `00`, and the line that stands in the frame space.
unfoldable pub issued_answer : Result ℕ ℕ × (List ℕ × List ℕ) → List ℕ × List ℕ
issued_answer (Err number, (words, out)) = (hex_line (refusal_bytes number), words)
issued_answer (Ok characters, (words, out)) = (figure_zero ∷ figure_zero ∷ take characters out, words)

-- "count 2 bytes; total 8; flag and holds 1; list a 2-byte count, then the different values ascending", which stand in the list space.
unfoldable pub replied_answer : Told × List ℕ → List ℕ
replied_answer (reply.Refused number, out) = refusal_bytes number
replied_answer (reply.TooLong needed, out) = refusal_bytes 11
replied_answer (reply.Total high low, out) = line_of sum (high ∷ low ∷ []) []
replied_answer (reply.Flag on, out) = line_of flag (cond on 1 0 ∷ []) []
replied_answer (reply.List values, out) = list_bytes (take values.0 out)
replied_answer (reply.Count number, out) = line_of count (number.0 ∷ []) []
replied_answer (reply.Holds there, out) = line_of flag (cond there 1 0 ∷ []) []

-- "`60` prints the saved lines only": the line that saving gives at a place, or the end; a refusal is one line.
unfoldable pub saved_answer : List ℕ → ℕ → Result (Option ℕ) ℕ × List ℕ → Option ℕ × (List ℕ × List ℕ)
saved_answer words place (Err number, out) = let told = printed_at (refusal_bytes number ∷ []) place out in (told.0, (words, told.1))
saved_answer words place (Ok (Some characters), out) = (Some characters, (words, out))
saved_answer words place (Ok None, out) = (None, (words, out))

-- The answer to a line of each type is what the call of that type answers: on any space, with room for every frame, every list and every line of a form.
pub record ByType (line words : List ℕ) : Type 0 where
  pub frame : type_of line ≡ operation.type_byte → answer_of line words ≡ changing outcome_bytes (received_by line words)
  pub local : type_of line ≡ issue.type_byte → (hex_line (answer_of line words).0, (answer_of line words).1) ≡ issued_answer (calls.issued_by line words (zeros longest_frame))
  pub settled : type_of line ≡ settling.type_byte → answer_of line words ≡ changing settled_bytes (settled_by line words)
  pub asked : type_of line ≡ question.type_byte → answer_of line words ≡ (replied_answer (replied_by line words (zeros most_rows)), words)
  pub opened : type_of line ≡ opening.type_byte → holds_table words ≡ false → answer_of line words ≡ changing outcome_bytes (opened_by line words)
  pub second : type_of line ≡ opening.type_byte → holds_table words ≡ true → answer_of line words ≡ (second_opening line, words)
  -- that answer is the one output line
  pub one_line : type_of line ≢ printing.type_byte → lines_for line words ≡ (answer_of line words).0 ∷ []
  -- each output line for a line of type `60` is what saving gives at its place, until the end, and the table space stays
  pub form : type_of line ≡ printing.type_byte → (place : ℕ) (out : List ℕ) → length out ≡ longest_answer → answered_by line place words out ≡ saved_answer words place (saved_by line words place out)
  -- so it is the whole form, 14, or 1
  pub whole_form : is_line_of printing 0 line ≡ true → holds_table words ≡ true → lines_for line words ≡ saved_form (table_of words)
  pub no_form : type_of line ≡ printing.type_byte → holds_table words ≡ false → lines_for line words ≡ refusal_bytes 14 ∷ []
  pub misshapen : type_of line ≡ printing.type_byte → is_line_of printing 0 line ≡ false → holds_table words ≡ true → lines_for line words ≡ refusal_bytes 1 ∷ []
