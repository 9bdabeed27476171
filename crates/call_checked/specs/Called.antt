-- Lines to a table, and the line that opens one: what each is answered, and the space afterwards.
use Rattle.std.specs.Prelude.{List, [], ◌∷◌, ◌++◌, ℕ, Result, Ok, Err, drop, length, take}
use Rattle.meaning.specs.Operations as meant
use Rattle.meaning.specs.Table.{Header, Table}
use Rattle.meaning.specs.Refusals.{Frame, Local}
use Rattle.meaning.specs.Calls as meaning
use Rattle.words_layout.specs.Layout.{table_of, rewritten, space_for, words_of}
use Rattle.table_ranges.specs.Headers.{header_of}
use Rattle.refusal_kind.specs.Asking.{asked_from}
use Rattle.question.specs.Told.{Told}
use Rattle.question.specs.Told as reply
use Rattle.question.specs.Replies.{replied}
use Rattle.line_hex.specs.Choice.{pick}
use Rattle.refusal_order.specs.Fields.{local_from}
use Rattle.line_put.specs.Writing.{line_written}
use Rattle.line_put.specs.declared.TooShort.{TooShort}
use Rattle.line_read.specs.declared.Issue.{Issue}
use Rattle.line_read.specs.declared.Operation.{Operation}
use Rattle.line_read.specs.Types.{line_of, operation}
use Rattle.line_read.specs.Named.{is_issue, is_opening, is_operation, is_question, is_settling, issue_read, opening_read, operation_read, question_read, settling_read}
use Rattle.line_decode.specs.Decoding.{bytes_of}
use Rattle.words_tags.specs.declared.RowCount.{RowCount}

-- "A refusal returns its number" and changes nothing; an opening that is taken lays the table, and "Bytes of a space beyond a result stay".
unfoldable pub opened_as : List ℕ → meaning.Opening → Result (Unit {0}) ℕ × List ℕ
opened_as words (meaning.Opening.refused number) = (Err number, words)
opened_as words (meaning.Opening.fresh table) = (Ok tt, words_of table ++ drop (space_for table.header.size table.header.capacity) words)

-- The header that an opening's bytes say; the kinds are its bytes from the sixth on.
unfoldable pub header_read : List ℕ → Header
header_read bytes =
    let asked = opening_read bytes in
    header_of asked.stations asked.own asked.capacity (drop 6 bytes)

-- "opening 1, 13".
unfoldable pub opened_by : List ℕ → List ℕ → Result (Unit {0}) ℕ × List ℕ
opened_by line words =
    let header = header_read (bytes_of line) in
    pick (is_opening (bytes_of line))
    (opened_as words (meaning.open_table (length words) (space_for header.size header.capacity) header))
    (Err 1, words)

-- The local operation that an issue line says.
unfoldable pub local_of : Issue → Local
local_of f = local_from f.object f.code f.value

-- The bytes of an operation's frame.
unfoldable pub frame_bytes : meant.Operation → List ℕ
frame_bytes u = line_of operation (length u.vector ∷ u.sender ∷ u.object ∷ u.code ∷ u.value ∷ []) u.vector

-- 10: "frame space shorter than the frame"; else the frame's line stands in the space, and the table has the operation.
unfoldable pub framed_as : List ℕ → Table → List ℕ → Result ℕ TooShort × List ℕ → Result ℕ ℕ × (List ℕ × List ℕ)
framed_as words table out (Ok length, line) = (Ok length, (rewritten words table, line))
framed_as words table out (Err short, line) = (Err 10, (words, out))

-- "A refusal returns its number" and changes nothing.
unfoldable pub issued_as : List ℕ → List ℕ → meaning.Outcome → Result ℕ ℕ × (List ℕ × List ℕ)
issued_as words out (meaning.Outcome.refused number) = (Err number, (words, out))
issued_as words out (meaning.Outcome.accepted u table) = framed_as words table out (line_written out (frame_bytes u))

-- "A local operation passes 14, 1, 3, 4, 9, 8, 10": what it gets, the table space and the frame space.
unfoldable pub issued_on : List ℕ → List ℕ → List ℕ → Result ℕ ℕ × (List ℕ × List ℕ)
issued_on line words out =
    let f = issue_read (bytes_of line) in
    pick (is_issue (bytes_of line)) (issued_as words out (meaning.issue (table_of words) (local_of f))) (Err 1, (words, out))

-- "A refusal returns its number" and changes nothing; a settling call that is taken reports its steps.
unfoldable pub settled_as : List ℕ → meaning.Settled → Result RowCount ℕ × List ℕ
settled_as words (meaning.Settled.refused number) = (Err number, words)
settled_as words (meaning.Settled.settled steps table) = (Ok (record { 0 = steps }), rewritten words table)

-- "Settling passes 14, 1".
unfoldable pub settled_on : List ℕ → List ℕ → Result RowCount ℕ × List ℕ
settled_on line words =
    let asked = settling_read (bytes_of line) in
    pick (is_settling (bytes_of line)) (settled_as words (meaning.settle (table_of words) asked.limit)) (Err 1, words)

-- The frame that an operation line says: of its vector as many entries as its N.
unfoldable pub frame_of : Operation → Frame
frame_of f = record {
  size = f.stations;
  operation = record {
    object = f.object;
    code = f.code;
    value = f.value;
    sender = f.sender;
    vector = take f.stations f.vector;
  };
}

-- "A refusal returns its number" and changes nothing; an accepted frame changes the table.
unfoldable pub received_as : List ℕ → meaning.Outcome → Result (Unit {0}) ℕ × List ℕ
received_as words (meaning.Outcome.refused number) = (Err number, words)
received_as words (meaning.Outcome.accepted u table) = (Ok tt, rewritten words table)

-- "A frame passes 14, 1 to 7, 8".
unfoldable pub received_on : List ℕ → List ℕ → Result (Unit {0}) ℕ × List ℕ
received_on line words =
    let f = operation_read (bytes_of line) in
    pick (is_operation (bytes_of line)) (received_as words (meaning.receive (table_of words) (frame_of f))) (Err 1, words)

-- "A question passes 14, 1, 3, 12, 11": what it gets, and the list space.
unfoldable pub replied_on : List ℕ → List ℕ → List ℕ → Told × List ℕ
replied_on line words out =
    let asked = question_read (bytes_of line) in
    pick (is_question (bytes_of line))
    (replied (meaning.ask (table_of words) (length out) (asked_from asked.object asked.question asked.value)) out)
    (reply.Refused 1, out)
