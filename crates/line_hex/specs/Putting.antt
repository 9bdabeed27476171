-- Bytes written as digits at a place of a lent space, the rest of which stays.
use Rattle.std.specs.Prelude.{ℕ, ◌+◌, ◌*◌, List, ◌++◌, length, take, drop, set}
use Rattle.line_hex.specs.Hex.{digits_of, lf}

-- the place behind the digits
abbrev pub place_after : ℕ → List ℕ → ℕ
place_after at bytes = at + 2 * length bytes

unfoldable pub digits_at : List ℕ → ℕ → List ℕ → List ℕ
digits_at space at bytes = take at space ++ (digits_of bytes ++ drop (place_after at bytes) space)

-- the next place, and the space
unfoldable pub put_at : List ℕ → ℕ → List ℕ → ℕ × List ℕ
put_at space at bytes = (place_after at bytes, digits_at space at bytes)

-- "each line ended by one LF": the line's length, and the space
abbrev pub end_at : List ℕ → ℕ → ℕ × List ℕ
end_at space at = (at + 1, set space at lf)
