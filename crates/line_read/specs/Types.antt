-- "Lines of hexadecimal": the types of line, each by its first byte and the widths of its fields.
use Rattle.std.specs.Prelude.{ℕ, ◌+◌, ◌*◌, Bool, List, [], ◌∷◌, ◌++◌, replicate}
use Rattle.line_shape.specs.Reading.{fields_read, has_shape, is_shaped}
use Rattle.line_shape.specs.Shapes.{length_of, written}
use Rattle.line_shape.specs.declared.Fields.{Fields}
use Rattle.line_put.specs.Writing.{line_bytes}
use Rattle.meaning.specs.Table.{greatest_size}

-- a type of line: its first byte, the widths of the fields that each of its lines has behind that, and the width of each further one
pub record Line : Type 0 where
  pub type_byte : ℕ
  pub widths : List ℕ
  pub each : ℕ

-- `10` N, own, capacity (2 bytes), object count, one kind byte each: opening
abbrev pub opening : Line
opening = record { type_byte = 16; widths = 1 ∷ 1 ∷ 2 ∷ 1 ∷ []; each = 1 }

-- `20` N, sender, object, code, value (4), N entries (4 each): operation
abbrev pub operation : Line
operation = record { type_byte = 32; widths = 1 ∷ 1 ∷ 1 ∷ 1 ∷ 4 ∷ []; each = 4 }

-- `21` object, code, value (4): issue locally
abbrev pub issue : Line
issue = record { type_byte = 33; widths = 1 ∷ 1 ∷ 4 ∷ []; each = 4 }

-- `30` limit (2): settle
abbrev pub settling : Line
settling = record { type_byte = 48; widths = 2 ∷ []; each = 4 }

-- `40` object, question, value (4)
abbrev pub question : Line
question = record { type_byte = 64; widths = 1 ∷ 1 ∷ 4 ∷ []; each = 4 }

-- `60` alone: print the saved form
abbrev pub printing : Line
printing = record { type_byte = 96; widths = []; each = 4 }

-- `50` D
abbrev pub clock : Line
clock = record { type_byte = 80; widths = []; each = 4 }

-- `51` k, L[k]
abbrev pub last_vector : Line
last_vector = record { type_byte = 81; widths = 1 ∷ []; each = 4 }

-- `52` object, total (8, two's complement), here as two words
abbrev pub total : Line
total = record { type_byte = 82; widths = 1 ∷ 4 ∷ 4 ∷ []; each = 4 }

-- `53` object, code, 01 settled or 00, sender, value (4), vector
abbrev pub row : Line
row = record { type_byte = 83; widths = 1 ∷ 1 ∷ 1 ∷ 1 ∷ 4 ∷ []; each = 4 }

-- `5f` row count (2)
abbrev pub closing : Line
closing = record { type_byte = 95; widths = 2 ∷ []; each = 4 }

-- "or `ff` and the refusal number"
abbrev pub refused : Line
refused = record { type_byte = 255; widths = 1 ∷ []; each = 4 }

-- "`00` and the result": none
abbrev pub done : Line
done = record { type_byte = 0; widths = []; each = 4 }

-- "flag and holds 1"
abbrev pub flag : Line
flag = record { type_byte = 0; widths = 1 ∷ []; each = 4 }

-- "settle and count 2 bytes"
abbrev pub count : Line
count = record { type_byte = 0; widths = 2 ∷ []; each = 4 }

-- "total 8", here as two words
abbrev pub sum : Line
sum = record { type_byte = 0; widths = 4 ∷ 4 ∷ []; each = 4 }

-- the widths with that of the type
abbrev pub head_of : Line → List ℕ
head_of line = 1 ∷ line.widths

-- the shape of a line with so many further fields
abbrev pub shape_of : Line → ℕ → List ℕ
shape_of line more = head_of line ++ replicate more line.each

-- the bytes of a line
abbrev pub spelt : Line → ℕ → List ℕ → List ℕ
spelt line more fields = written (shape_of line more) (line.type_byte ∷ fields)

-- bytes are a line of the type with so many further fields
unfoldable pub is_of : Line → ℕ → List ℕ → Bool
is_of line more bytes = has_shape line.type_byte (length_of (head_of line) + line.each * more) bytes

-- the same of a line of vectors, with as many entries as there is room for
unfoldable pub is_line_of : Line → ℕ → List ℕ → Bool
is_line_of line stations bytes = is_shaped line.type_byte (head_of line) stations bytes

-- a line of vectors taken apart: what every reader here gives, by the names of its fields, which are zeros where the shape is wrong
unfoldable pub line_read : Line → ℕ → List ℕ → Fields
line_read line stations bytes = fields_read line.type_byte (head_of line) stations bytes

-- the same bytes with the further fields apart, as they are written
abbrev pub line_of : Line → List ℕ → List ℕ → List ℕ
line_of line fields more = line_bytes (head_of line) (line.type_byte ∷ fields) line.each more

-- the bytes of the longest line that reads: an opening with as many kinds as its count, a byte, can say
abbrev pub longest : ℕ
longest = 6 + 255

-- the characters of so many bytes and LF
abbrev pub characters_of : ℕ → ℕ
characters_of bytes = 2 * bytes + 1

-- the characters of the longest line that reads
abbrev pub line_room : ℕ
line_room = characters_of longest

-- the bytes of the longest line with a vector: an operation's or a row's, 9 bytes and an entry a station
abbrev pub longest_vector_line : ℕ
longest_vector_line = 9 + 4 * greatest_size

-- the characters of the longest frame
abbrev pub longest_frame : ℕ
longest_frame = characters_of longest_vector_line
