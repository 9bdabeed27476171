-- Lists of words, whatever they mean.
use Rattle.std.specs.Prelude.{ℕ, zero, suc, ◌+◌, ◌-◌, ◌*◌, ◌/◌, ◌%◌, Bool, true, ◌&&◌, cond, List, [], ◌∷◌, ◌++◌, eqb, ltb, ℤ, pos, negsuc, length, take, drop, replicate}

-- One more than the greatest number of a word, and of two words together.
abbrev pub word_limit : ℕ
word_limit = 4294967296

abbrev pub two_word_limit : ℕ
two_word_limit = 18446744073709551616

-- A number in two words, the high one first.
abbrev pub in_two_words : ℕ → List ℕ
in_two_words number = number / word_limit ∷ number % word_limit ∷ []

abbrev pub of_two_words : ℕ → ℕ → ℕ
of_two_words high low = high * word_limit + low

-- A whole number in 64 bits, "two's complement": -1 is written as 2 ^ 64 - 1.
unfoldable pub complement : ℤ → ℕ
complement (pos amount) = amount % two_word_limit
complement (negsuc amount) = 18446744073709551615 - amount % two_word_limit

unfoldable pub of_complement : ℕ → ℤ
of_complement code = cond (ltb code 9223372036854775808) (pos code) (negsuc (18446744073709551615 - code))

-- The first so many pieces of one width.
abbrev pub pieces : ℕ → ℕ → List ℕ → List (List ℕ)
pieces width zero words = []
pieces width (suc count) words = take width words ∷ pieces width count (drop width words)

-- Pieces one after the other.
abbrev pub flat : List (List ℕ) → List ℕ
flat [] = []
flat (piece ∷ rest) = piece ++ flat rest

-- A list with zeros after it, up to a length.
abbrev pub padded : ℕ → List ℕ → List ℕ
padded size list = list ++ replicate (size - length list) 0

abbrev pub all_zero : List ℕ → Bool
all_zero [] = true
all_zero (word ∷ words) = eqb word 0 && all_zero words
