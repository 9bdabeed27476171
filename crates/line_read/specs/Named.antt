-- The fields of the lines that a station reads, by their names in "Lines of hexadecimal".
use Rattle.std.specs.Prelude.{ℕ, Bool, List, [], get_or}
use Rattle.line_hex.specs.Choice.{pick}
use Rattle.line_shape.specs.Reading.{padded}
use Rattle.line_shape.specs.Shapes.{read}
use Rattle.line_shape.specs.declared.Fields.{Fields}
use Rattle.line_read.specs.Types.{head_of, is_line_of, is_of, line_read, opening, operation, issue, settling, question, printing}
use Rattle.line_read.specs.declared.Opening.{Opening}
use Rattle.line_read.specs.declared.Operation.{Operation}
use Rattle.line_read.specs.declared.Issue.{Issue}
use Rattle.line_read.specs.declared.Settling.{Settling}
use Rattle.line_read.specs.declared.Question.{Question}

-- field i of a line; field 0 is its type
abbrev pub field : Fields → ℕ → ℕ
field f i = get_or f.head i 0

-- the kinds are the bytes behind the count
abbrev pub opening_of : List ℕ → Opening
opening_of head = record { stations = get_or head 1 0; own = get_or head 2 0; capacity = get_or head 3 0; count = get_or head 4 0 }

-- where an opening says how many kinds follow it: its length is 6 bytes and that count
abbrev pub count_of : List ℕ → ℕ
count_of bytes = get_or bytes 5 0

-- a line of each type in its right shape, and its fields, zeros where it has another
unfoldable pub is_opening : List ℕ → Bool
is_opening bytes = is_of opening (count_of bytes) bytes

unfoldable pub opening_read : List ℕ → Opening
opening_read bytes =
    pick (is_opening bytes)
    (opening_of (padded 6 (read (head_of opening) bytes)))
    (opening_of [])

abbrev pub operation_of : Fields → Operation
operation_of f = record { stations = field f 1; sender = field f 2; object = field f 3; code = field f 4; value = field f 5; vector = f.vector }

-- where an operation says its N, and so how many entries follow it
abbrev pub stations_of : List ℕ → ℕ
stations_of bytes = get_or bytes 1 0

unfoldable pub is_operation : List ℕ → Bool
is_operation bytes = is_line_of operation (stations_of bytes) bytes

unfoldable pub operation_read : List ℕ → Operation
operation_read bytes = operation_of (line_read operation (stations_of bytes) bytes)

abbrev pub issue_of : Fields → Issue
issue_of f = record { object = field f 1; code = field f 2; value = field f 3 }

unfoldable pub is_issue : List ℕ → Bool
is_issue bytes = is_line_of issue 0 bytes

unfoldable pub issue_read : List ℕ → Issue
issue_read bytes = issue_of (line_read issue 0 bytes)

abbrev pub settling_of : Fields → Settling
settling_of f = record { limit = field f 1 }

unfoldable pub is_settling : List ℕ → Bool
is_settling bytes = is_line_of settling 0 bytes

unfoldable pub settling_read : List ℕ → Settling
settling_read bytes = settling_of (line_read settling 0 bytes)

abbrev pub question_of : Fields → Question
question_of f = record { object = field f 1; question = field f 2; value = field f 3 }

unfoldable pub is_question : List ℕ → Bool
is_question bytes = is_line_of question 0 bytes

unfoldable pub question_read : List ℕ → Question
question_read bytes = question_of (line_read question 0 bytes)

unfoldable pub printing_read : List ℕ → Bool
printing_read bytes = is_of printing 0 bytes
