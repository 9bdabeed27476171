-- Output lines, one at a time.
use Rattle.std.specs.Prelude.{Result, Ok, Err, Option, Some, None, List, [], ◌∷◌, ◌++◌, ℕ, zero, suc, drop, length}
use Rattle.line_put.specs.declared.TooShort.{TooShort}
use Rattle.line_hex.specs.Hex.{hex_line}

-- How a line that was written is answered: the space of the station program is too short for no line, and the end stands for that.
unfoldable pub line_or_end : Result ℕ TooShort → Option ℕ
line_or_end (Ok characters) = Some characters
line_or_end (Err short) = None

-- A line at the front of the space for it: "Bytes of a space beyond a result stay." Behind the last there is none.
unfoldable pub printed_at : List (List ℕ) → ℕ → List ℕ → Option ℕ × List ℕ
printed_at [] place out = (None, out)
printed_at (bytes ∷ rest) zero out = (Some (length (hex_line bytes)), hex_line bytes ++ drop (length (hex_line bytes)) out)
printed_at (bytes ∷ rest) (suc place) out = printed_at rest place out
