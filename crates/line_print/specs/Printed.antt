-- What each line that is printed says: "All numbers big-endian, one frame a line".
use Rattle.std.specs.Prelude.{ℕ, List, Result}
use Rattle.line_read.specs.Types.{Line, line_of}
use Rattle.line_put.specs.Writing.{line_written}
use Rattle.line_put.specs.declared.TooShort.{TooShort}

-- the answer and the space after a line of fields and further fields was written to it
unfoldable pub printed : List ℕ → Line → List ℕ → List ℕ → Result ℕ TooShort × List ℕ
printed space line fields more = line_written space (line_of line fields more)
