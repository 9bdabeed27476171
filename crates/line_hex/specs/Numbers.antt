-- "All numbers big-endian": numbers and their bytes.
use Rattle.std.specs.Prelude.{ℕ, zero, suc, ◌+◌, ◌*◌, ◌/◌, ◌%◌, ◌<◌, ◌^◌, List, [], ◌∷◌, ◌++◌}

-- a number, and the bytes that follow it
unfoldable pub number_from : ℕ → List ℕ → ℕ
number_from n [] = n
number_from n (b ∷ bs) = number_from (n * 256 + b) bs

-- the number that bytes say, the first of them the largest
abbrev pub number_of : List ℕ → ℕ
number_of bs = number_from 0 bs

-- the bytes of a number, at a width
unfoldable pub big_endian : ℕ → ℕ → List ℕ
big_endian zero n = []
big_endian (suc width) n = big_endian width (n / 256) ++ (n % 256 ∷ [])

-- the number of 8 bytes that two words of 4 say, the high one first; that it stands for a negative number, in two's complement, is the reading of who asks for a total
abbrev pub eight_of : ℕ → ℕ → ℕ
eight_of high low = high * 256 ^ 4 + low

-- every element is a byte
unfoldable pub AllBytes : List ℕ → Type 0
AllBytes [] = Unit {0}
AllBytes (b ∷ bs) = (b < 256) × AllBytes bs
