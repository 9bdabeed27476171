-- A line is its fields, one after the other. Its shape is the list of their widths in bytes.
use Rattle.std.specs.Prelude.{ℕ, ◌+◌, ◌<◌, ◌^◌, Bool, true, ◌&&◌, List, [], ◌∷◌, ◌++◌, leb, take, drop}
use Rattle.line_hex.specs.Numbers.{big_endian, number_of}

-- the bytes of fields
unfoldable pub written : List ℕ → List ℕ → List ℕ
written [] fields = []
written (w ∷ widths) [] = []
written (w ∷ widths) (n ∷ fields) = big_endian w n ++ written widths fields

-- the fields of bytes
unfoldable pub read : List ℕ → List ℕ → List ℕ
read [] bytes = []
read (w ∷ widths) bytes = number_of (take w bytes) ∷ read widths (drop w bytes)

-- how many bytes a shape takes
unfoldable pub length_of : List ℕ → ℕ
length_of [] = 0
length_of (w ∷ widths) = w + length_of widths

-- each field fits its width, and there are as many as widths
unfoldable pub Fitting : List ℕ → List ℕ → Type 0
Fitting [] [] = Unit {0}
Fitting [] (n ∷ fields) = ⊥
Fitting (w ∷ widths) [] = ⊥
Fitting (w ∷ widths) (n ∷ fields) = (n < 256 ^ w) × Fitting widths fields

-- no field is wider than a word of the code: an 8-byte number is two fields
abbrev pub widest : ℕ
widest = 4

abbrev pub narrow : List ℕ → Bool
narrow [] = true
narrow (w ∷ widths) = leb w widest && narrow widths
