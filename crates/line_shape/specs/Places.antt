-- What a place of a slice holds: the core that "a reader over a lent line" stands on, which "holds the line and its place in it".
use Rattle.std.specs.Prelude.{ℕ, ◌+◌, Bool, List, Option, Some, None, leb, ltb, length, get_or, take, drop}
use Rattle.line_hex.specs.Choice.{pick}
use Rattle.line_hex.specs.Numbers.{number_of}

-- the byte there, or the end
unfoldable pub byte_at : List ℕ → ℕ → Option ℕ
byte_at s at = pick (ltb at (length s)) (Some (get_or s at 0)) None

-- the number of four bytes there, or fewer are left
unfoldable pub four_at : List ℕ → ℕ → Option ℕ
four_at s at = pick (leb (at + 4) (length s)) (Some (number_of (take 4 (drop at s)))) None

unfoldable pub at_end : List ℕ → ℕ → Bool
at_end s at = leb (length s) at
