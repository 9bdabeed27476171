-- The bytes that a line says.
use Rattle.std.specs.Prelude.{ℕ, List, [], Option, Some, None, length}
use Rattle.line_hex.specs.Choice.{pick}
use Rattle.line_hex.specs.Decoding.{decoded, is_line, line_type, pairs}
use Rattle.line_read.specs.Types.{longest}

-- Of a "line not lower-case hexadecimal or without its LF", and of one longer than the longest, none: no line has no bytes, so it gets the
-- refusal of a "wrong length or type".
unfoldable pub bytes_of : List ℕ → List ℕ
bytes_of line = pick (is_line longest line) (pairs longest line) []

-- How many they are, and the buffer, which begins with them.
unfoldable pub decoded_into : List ℕ → List ℕ → ℕ × List ℕ
decoded_into line buffer = (length (bytes_of line), (decoded line buffer).1)

-- A line's type is its first two characters if they are lower-case hexadecimal digits; else it has none, and 0 is no type.
abbrev pub byte_of_type : Option ℕ → ℕ
byte_of_type (Some byte) = byte
byte_of_type None = 0

unfoldable pub type_of : List ℕ → ℕ
type_of line = byte_of_type (line_type line)
