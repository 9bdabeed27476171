-- A line read back to bytes, in one pass, into a buffer that is as long as the longest line that its caller knows.
use Rattle.std.specs.Prelude.{ℕ, zero, suc, ◌+◌, ◌*◌, Bool, false, ◌&&◌, List, [], ◌∷◌, ◌++◌, Option, Some, None, eqb, length, drop}
use Rattle.line_hex.specs.Choice.{pick}
use Rattle.line_hex.specs.Hex.{is_digit, lf, value_of}

-- the byte of two digits
abbrev pub byte_of : ℕ → ℕ → ℕ
byte_of h l = value_of h * 16 + value_of l

-- what two characters at the front are
unfoldable pub pair_of : List ℕ → Option ℕ
pair_of [] = None
pair_of (h ∷ []) = None
pair_of (h ∷ l ∷ s) = pick (is_digit h && is_digit l) (Some (byte_of h l)) None

-- the bytes of the pairs of digits at the front, at most so many
unfoldable pub pairs : ℕ → List ℕ → List ℕ
pairs zero s = []
pairs (suc room) [] = []
pairs (suc room) (h ∷ []) = []
pairs (suc room) (h ∷ l ∷ s) = pick (is_digit h && is_digit l) (byte_of h l ∷ pairs room s) []

-- "one LF": a single character, which is it
unfoldable pub just_lf : List ℕ → Bool
just_lf [] = false
just_lf (c ∷ []) = eqb c lf
just_lf (c ∷ d ∷ s) = false

-- a line of at most so many bytes: "each line ended by one LF" alone stands behind its pairs
unfoldable pub is_line : ℕ → List ℕ → Bool
is_line room line = just_lf (drop (2 * length (pairs room line)) line)

abbrev pub ended_at : List ℕ → ℕ → ℕ → Option ℕ
ended_at line at count = pick (just_lf (drop at line)) (Some count) None

-- the answer, and the buffer: the bytes of the line's leading pairs stand at its front, as far as they fit, and the rest of it stays
unfoldable pub decoded : List ℕ → List ℕ → Option ℕ × List ℕ
decoded line buffer =
    let bytes : List ℕ = pairs (length buffer) line in
    (pick (is_line (length buffer) line) (Some (length bytes)) None, bytes ++ drop (length bytes) buffer)

-- the refusal number of an answer, 0 where there is none: 1 for a "line not lower-case hexadecimal or without its LF"
abbrev pub refusal_of : Option ℕ → ℕ
refusal_of (Some count) = 0
refusal_of None = 1

-- a line's type is its first two characters if they are lower-case digits
abbrev pub line_type : List ℕ → Option ℕ
line_type line = pair_of line
