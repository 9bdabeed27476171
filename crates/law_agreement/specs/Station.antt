-- Calls one after the other over one space, and the events that they are in the meaning.
use Rattle.line_read.specs.Named.{is_operation, is_issue, is_settling, issue_read, operation_read, settling_read}
use Rattle.std.specs.Prelude.{Bool, ◌&&◌, List, [], ◌∷◌, ◌++◌, ℕ, leb, length}
use Rattle.meaning.specs.Refusals.{issued_by}
use Rattle.meaning.specs.History as history
use Rattle.meaning.specs.History.{Event}
use Rattle.words_layout.specs.Layout.{table_of}
use Rattle.line_hex.specs.Choice.{pick}
use Rattle.line_hex.specs.Hex.{hex_line}
use Rattle.line_decode.specs.Decoding.{bytes_of}
use Rattle.calls.specs.Calls as calls
use Rattle.call_checked.specs.Called.{frame_bytes, frame_of, local_of}
use Rattle.calls.specs.Calls.{received_by, settled_by}

-- A call that may change a table, with any line; a local operation with any frame space. A question changes nothing.
pub data Call : Type 0 where
  receives : List ℕ → Call
  issues : List ℕ → List ℕ → Call
  settles : List ℕ → Call

-- The space after a call, and after some, the first first.
unfoldable pub words_after : Call → List ℕ → List ℕ
words_after (receives line) words = (received_by line words).1
words_after (issues line out) words = (calls.issued_by line words out).1.0
words_after (settles line) words = (settled_by line words).1

unfoldable pub words_after_all : List Call → List ℕ → List ℕ
words_after_all [] words = words
words_after_all (call ∷ rest) words = words_after_all rest (words_after call words)

-- 10 is not given: the frame's line has room.
unfoldable pub frame_fits : List ℕ → List ℕ → List ℕ → Bool
frame_fits line words out =
    leb (length (hex_line (frame_bytes (issued_by (table_of words) (local_of (issue_read (bytes_of line))))))) (length out)

-- What a call is in the meaning: none where its line is misshapen (1), or a frame would have no room (10).
unfoldable pub events_of : Call → List ℕ → List Event
events_of (receives line) words =
    pick (is_operation (bytes_of line)) (history.receives (frame_of (operation_read (bytes_of line))) ∷ []) []
events_of (issues line out) words =
    pick ((is_issue (bytes_of line)) && frame_fits line words out) (history.issues (local_of (issue_read (bytes_of line))) ∷ []) []
events_of (settles line) words =
    pick (is_settling (bytes_of line)) (history.settles (settling_read (bytes_of line)).limit ∷ []) []

unfoldable pub events_of_all : List Call → List ℕ → List Event
events_of_all [] words = []
events_of_all (call ∷ rest) words = events_of call words ++ events_of_all rest (words_after call words)
