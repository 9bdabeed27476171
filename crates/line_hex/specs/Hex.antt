-- "Lines of hexadecimal": "lower case, each line ended by one LF".
use Rattle.std.specs.Prelude.{ℕ, ◌+◌, ◌-◌, ◌/◌, ◌%◌, Bool, List, [], ◌∷◌, ◌++◌, Option, Some, None, leb, ltb}
use Rattle.line_hex.specs.Choice.{pick}

abbrev pub lf : ℕ
lf = 10

-- what is no digit has no value below 16
abbrev pub no_digit : ℕ
no_digit = 16

-- the characters of the digits: '0' to '9' and 'a' to 'f'
abbrev pub figure_zero : ℕ
figure_zero = 48

abbrev pub figure_nine : ℕ
figure_nine = 57

abbrev pub letter_a : ℕ
letter_a = 97

abbrev pub letter_f : ℕ
letter_f = 102

-- the value of a character: 0 to 9, and 10 to 15 from 'a' on
unfoldable pub value_of : ℕ → ℕ
value_of c =
    pick (ltb c figure_zero) no_digit
    (pick (leb c figure_nine) (c - figure_zero)
    (pick (ltb c letter_a) no_digit
    (pick (leb c letter_f) (c - letter_a + 10) no_digit)))

-- the lower-case digit of a value
unfoldable pub digit_of : ℕ → ℕ
digit_of v = pick (ltb v 10) (v + figure_zero) (v - 10 + letter_a)

unfoldable pub is_digit : ℕ → Bool
is_digit c = ltb (value_of c) no_digit

-- the value of a character that is a digit
unfoldable pub digit_value : ℕ → Option ℕ
digit_value c = pick (is_digit c) (Some (value_of c)) None

-- two digits a byte
unfoldable pub digits_of : List ℕ → List ℕ
digits_of [] = []
digits_of (b ∷ bs) = digit_of (b / 16) ∷ digit_of (b % 16) ∷ digits_of bs

-- the one spelling of bytes as a line
unfoldable pub hex_line : List ℕ → List ℕ
hex_line bytes = digits_of bytes ++ (lf ∷ [])
