-- A line written into a lent space.
use Rattle.std.specs.Prelude.{ℕ, ◌≤◌, ◌<◌, ◌≡◌, List, ◌++◌, Result, Ok, Err, leb, length, drop, replicate}
use Rattle.line_hex.specs.Choice.{pick}
use Rattle.line_hex.specs.Hex.{hex_line}
use Rattle.line_shape.specs.Reading.{Head}
use Rattle.line_shape.specs.Shapes.{widest, written}
use Rattle.line_put.specs.declared.TooShort.{TooShort}

-- numbers of one width: "one kind byte each", "N entries (4 each)"
unfoldable pub written_each : ℕ → List ℕ → List ℕ
written_each width numbers = written (replicate (length numbers) width) numbers

-- the bytes of a line: its fields, and the numbers behind them
unfoldable pub line_bytes : List ℕ → List ℕ → ℕ → List ℕ → List ℕ
line_bytes widths fields width numbers = written widths fields ++ written_each width numbers

abbrev pub too_short : TooShort
too_short = record {}

-- spaces for lines count characters with LF; "Bytes of a space beyond a result stay"; one that is too short stays whole
unfoldable pub line_written : List ℕ → List ℕ → Result ℕ TooShort × List ℕ
line_written space bytes =
    pick (leb (length (hex_line bytes)) (length space))
    (Ok (length (hex_line bytes)), hex_line bytes ++ drop (length (hex_line bytes)) space)
    (Err too_short, space)

-- the refusal number of an answer, 0 where there is none: 10 for a "line space shorter than the line"
abbrev pub refusal_of : Result ℕ TooShort → ℕ
refusal_of (Ok length) = 0
refusal_of (Err short) = 10

-- no more numbers than a count of one byte can say
abbrev pub Countable : List ℕ → Type 0
Countable numbers = length numbers < 256

-- one more than two bytes can say
abbrev pub two_byte_limit : ℕ
two_byte_limit = 65536

-- no more than a count of two bytes can say, as a list's is
abbrev pub Listable : List ℕ → Type 0
Listable numbers = length numbers < two_byte_limit

-- what can be written: as many fields as widths, and not too many numbers behind them
pub record Writable (widths fields : List ℕ) (width : ℕ) (numbers : List ℕ) : Type 0 where
  pub head : Head widths
  pub matched : length fields ≡ length widths
  pub slim : width ≤ widest
  pub counted : Listable numbers
