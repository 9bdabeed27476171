-- Where a reader stands in its line once it has read on, and the shape of a line that is read by one.
use Rattle.std.specs.Prelude.{ℕ, ◌+◌, List, [], ◌∷◌, leb, length}
use Rattle.line_hex.specs.Choice.{pick}
use Rattle.line_shape.specs.declared.Reader.{Reader}

-- so many bytes further, or the same place where fewer are left
unfoldable pub place_after : ℕ → List ℕ → ℕ → ℕ
place_after width s at = pick (leb (at + width) (length s)) (at + width) at

-- the same line, and the place behind so many bytes
abbrev pub read_on : ℕ → Reader → Reader
read_on width reader = record { src = reader.src; at = place_after width reader.src.now reader.at }

-- the widths of a line of its type, two bytes and four
abbrev pub short_widths : List ℕ
short_widths = 1 ∷ 1 ∷ 1 ∷ 4 ∷ []
