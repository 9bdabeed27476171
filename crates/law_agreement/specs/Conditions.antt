-- 01's table of refusals, call by call: each number with its condition, in the order in which the call tries them. A number is given when its condition
-- holds and that of no number before it does. Then the number of each answer, and what a call answers and leaves where it gives none.
use Rattle.question.specs.Told as reply
use Rattle.question.specs.Told.{Told}
use Rattle.std.specs.Prelude.{Result, Ok, Err, Option, Some, None, Bool, not, ◌&&◌, ◌||◌, cond, List, [], ◌∷◌, ◌++◌, ℕ, suc, leb, ltb, eqb, get_or, length, drop, set}
use Rattle.words_tags.specs.declared.RowCount.{RowCount}
use Rattle.meaning.specs.Order.{entry_limit, at_most}
use Rattle.meaning.specs.Operations.{number_of}
use Rattle.meaning.specs.Table as tables
use Rattle.meaning.specs.Table.{kind_in, in_range}
use Rattle.meaning.specs.Questions.{answer_from, by_rows, fits}
use Rattle.meaning.specs.Refusals.{Refusal, ◌when◌, declared, operation_allowed, in_time, room_for, issued_by, well_asked, list_too_long}
use Rattle.meaning.specs.Calls.{after_arrival, with_rows, rows_settled, steps, answered}
use Rattle.words_layout.specs.Layout.{holds_table, table_of, rewritten, space_for, words_of}
use Rattle.refusal_kind.specs.Asking.{asked_from}
use Rattle.question.specs.Replies.{replied}
use Rattle.line_hex.specs.Decoding.{is_line}
use Rattle.line_hex.specs.Hex.{hex_line}
use Rattle.line_read.specs.Types.{Line, is_of, longest, opening, operation, issue, settling, question, printing}
use Rattle.line_read.specs.Named.{count_of, stations_of, issue_read, operation_read, question_read, settling_read}
use Rattle.line_decode.specs.Decoding.{bytes_of}
use Rattle.form_write.specs.Forms.{saved_form}
use Rattle.call_checked.specs.Called.{header_read, local_of, frame_bytes, frame_of}

-- Not "line not lower-case hexadecimal or without its LF", and not "wrong length or type": it has so many fields beyond those that each of its type has.
unfoldable pub is_line_of : Line → ℕ → List ℕ → Bool
is_line_of type more line = is_line longest line && is_of type more (bytes_of line)

-- "opening 1, 13": the line, and the space. The line says itself how many kinds it has.
unfoldable pub open_conditions : List ℕ → List ℕ → List Refusal
open_conditions line words =
    let header = header_read (bytes_of line) in
    (1 when not (is_line_of opening (count_of (bytes_of line)) line))
    ∷ (13 when (not (in_range header) || ltb (length words) (space_for header.size header.capacity)))
    ∷ []

-- "A frame passes 14, 1 to 7, 8": the line, and the space. The line says itself its N, and so how many entries it has.
unfoldable pub receive_conditions : List ℕ → List ℕ → List Refusal
receive_conditions line words =
    let table = table_of words in
    let size = stations_of (bytes_of line) in
    let u = (frame_of (operation_read (bytes_of line))).operation in
    (14 when not (holds_table words))
    ∷ (1 when (not (is_line_of operation size line) || not (eqb size table.header.size)))
    ∷ (2 when (not (ltb u.sender table.header.size) || eqb u.sender table.header.own))
    ∷ (3 when not (declared table.header u.object))
    ∷ (4 when not (operation_allowed table.header u))
    ∷ (5 when leb (number_of u) (get_or table.clock u.sender 0))
    ∷ (6 when not (in_time table.clock u))
    ∷ (7 when not (at_most (get_or table.last u.sender []) u.vector))
    ∷ (8 when not (room_for table u))
    ∷ []

-- "A local operation passes 14, 1, 3, 4, 9, 8, 10": the line, the space, and the frame space.
unfoldable pub issue_conditions : List ℕ → List ℕ → List ℕ → List Refusal
issue_conditions line words out =
    let table = table_of words in
    let u = issued_by table (local_of (issue_read (bytes_of line))) in
    (14 when not (holds_table words))
    ∷ (1 when not (is_line_of issue 0 line))
    ∷ (3 when not (declared table.header u.object))
    ∷ (4 when not (operation_allowed table.header u))
    ∷ (9 when eqb (suc (get_or table.clock table.header.own 0)) entry_limit)
    ∷ (8 when not (room_for table u))
    ∷ (10 when ltb (length out) (length (hex_line (frame_bytes u))))
    ∷ []

-- "Settling passes 14, 1": the line, and the space.
unfoldable pub settle_conditions : List ℕ → List ℕ → List Refusal
settle_conditions line words =
    (14 when not (holds_table words))
    ∷ (1 when not (is_line_of settling 0 line))
    ∷ []

-- "A question passes 14, 1, 3, 12, 11": the line, the space, and the list space.
unfoldable pub ask_conditions : List ℕ → List ℕ → List ℕ → List Refusal
ask_conditions line words out =
    let table = table_of words in
    let read = question_read (bytes_of line) in
    let asked = asked_from read.object read.question read.value in
    (14 when not (holds_table words))
    ∷ (1 when (not (is_line_of question 0 line) || not (well_asked asked)))
    ∷ (3 when not (declared table.header asked.object))
    ∷ (12 when not (fits asked.question (kind_in table.header asked.object)))
    ∷ (11 when list_too_long (by_rows table) (length out) asked)
    ∷ []

-- "saving 14, 1, 10": the line, the space, the place of a line of the form, and the line space. Behind the form's last line the space is too short for none.
unfoldable pub save_conditions : List ℕ → List ℕ → ℕ → List ℕ → List Refusal
save_conditions line words place out =
    let form = saved_form (table_of words) in
    (14 when not (holds_table words))
    ∷ (1 when not (is_line_of printing 0 line))
    ∷ (10 when (ltb place (length form) && ltb (length out) (length (hex_line (get_or form place [])))))
    ∷ []

-- The number of an answer, 0 where it is no refusal. A question's is `question`'s own.
unfoldable pub number_in : {A : Type 0} → Result A ℕ → ℕ
number_in (Err number) = number
number_in (Ok answer) = 0

-- "11 also the count": what a question is told by its number.
unfoldable pub ask_refusal : List ℕ → List ℕ → ℕ → Told
ask_refusal line words number =
    let values = (by_rows (table_of words)).list_at (question_read (bytes_of line)).object in
    cond (eqb number 11) (reply.TooLong (record { 0 = length values })) (reply.Refused number)

-- What a call answers and leaves where it gives no refusal. An opening: the fresh table.
unfoldable pub open_result : List ℕ → List ℕ → Result (Unit {0}) ℕ × List ℕ
open_result line words =
    let header = header_read (bytes_of line) in
    (Ok tt, words_of (tables.opened header) ++ drop (space_for header.size header.capacity) words)

-- A frame: the table after its arrival, and L with its vector.
unfoldable pub receive_result : List ℕ → List ℕ → Result (Unit {0}) ℕ × List ℕ
receive_result line words =
    let table = table_of words in
    let u = (frame_of (operation_read (bytes_of line))).operation in
    (Ok tt, rewritten words (after_arrival table u (set table.last u.sender u.vector)))

-- A local operation: its frame's line, and the table after its arrival.
unfoldable pub issue_result : List ℕ → List ℕ → List ℕ → Result ℕ ℕ × (List ℕ × List ℕ)
issue_result line words out =
    let table = table_of words in
    let u = issued_by table (local_of (issue_read (bytes_of line))) in
    let spelt = hex_line (frame_bytes u) in
    (Ok (length spelt), (rewritten words (after_arrival table u table.last), spelt ++ drop (length spelt) out))

-- A settling call: its steps, and the table with the rows that they leave.
unfoldable pub settle_result : List ℕ → List ℕ → Result RowCount ℕ × List ℕ
settle_result line words =
    let table = table_of words in
    let limit = (settling_read (bytes_of line)).limit in
    (Ok (record { 0 = steps table limit }), rewritten words (with_rows table (rows_settled table limit)))

-- A question: its answer from the table's rows and totals.
unfoldable pub ask_result : List ℕ → List ℕ → List ℕ → Told × List ℕ
ask_result line words out =
    let read = question_read (bytes_of line) in
    replied (answered (answer_from (by_rows (table_of words)) (asked_from read.object read.question read.value))) out

-- Saving: the form's line at the place, or the end behind its last.
unfoldable pub save_result : List ℕ → ℕ → List ℕ → Result (Option ℕ) ℕ × List ℕ
save_result words place out =
    let form = saved_form (table_of words) in
    let spelt = hex_line (get_or form place []) in
    cond (ltb place (length form)) (Ok (Some (length spelt)), spelt ++ drop (length spelt) out) (Ok None, out)
