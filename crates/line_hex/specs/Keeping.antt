-- A line kept a character at a time in a lent space: characters beyond its end are let go.
use Rattle.std.specs.Prelude.{ℕ, ◌+◌, List, [], ◌∷◌, ltb, length, set, take}
use Rattle.line_hex.specs.Choice.{pick}

-- the number of characters kept, and the space, where so many stood already
unfoldable pub kept : List ℕ → ℕ → ℕ → ℕ × List ℕ
kept space have b = pick (ltb have (length space)) (have + 1, set space have b) (have, space)

-- the same after every character of a line, one after the other
unfoldable pub kept_all : List ℕ → ℕ → List ℕ → ℕ × List ℕ
kept_all space have [] = (have, space)
kept_all space have (b ∷ line) = kept_all (kept space have b).1 (kept space have b).0 line

-- the characters kept of a line
unfoldable pub kept_of : List ℕ → List ℕ → List ℕ
kept_of space line = take (kept_all space 0 line).0 (kept_all space 0 line).1
