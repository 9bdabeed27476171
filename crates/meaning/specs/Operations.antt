-- Operations, kinds and codes.
use Rattle.std.specs.Prelude.{Bool, ◌&&◌, ◌||◌, cond, List, [], ◌∷◌, ℕ, ltb, eqb, get_or}
use Rattle.meaning.specs.Tests.{any, between}
use Rattle.meaning.specs.Order.{Vector, before_by_vector, concurrent_by_vector}

-- "object, code, value", and "An operation's tag is its sender and a vector".
pub record Operation : Type 0 where
  pub object : ℕ
  pub code : ℕ
  pub value : ℕ
  pub sender : ℕ
  pub vector : Vector

-- "Its number is the vector's entry at its sender."
unfoldable pub number_of : Operation → ℕ
number_of u = get_or u.vector u.sender 0

-- "Operation u is *before* t": see the order of vectors.
unfoldable pub before : Operation → Operation → Bool
before u t = before_by_vector u.vector t.vector

-- "Neither before the other, and different: *concurrent*."
unfoldable pub concurrent : Operation → Operation → Bool
concurrent u t = concurrent_by_vector u.vector t.vector

-- "The nine kinds of object": "1 grow counter", "2 up-down counter" and so on.
abbrev pub grow_counter : ℕ
grow_counter = 1

abbrev pub up_down_counter : ℕ
up_down_counter = 2

abbrev pub grow_set : ℕ
grow_set = 3

abbrev pub two_phase_set : ℕ
two_phase_set = 4

abbrev pub enable_wins_flag : ℕ
enable_wins_flag = 5

abbrev pub disable_wins_flag : ℕ
disable_wins_flag = 6

abbrev pub multi_value_register : ℕ
multi_value_register = 7

abbrev pub add_wins_set : ℕ
add_wins_set = 8

abbrev pub remove_wins_set : ℕ
remove_wins_set = 9

-- "Codes: 1 add, write, enable, increase; 2 remove, disable, decrease; 3 clear."
abbrev pub adds : ℕ
adds = 1

abbrev pub removes : ℕ
removes = 2

abbrev pub clears : ℕ
clears = 3

-- Kinds 1 and 2: "grow counter", "up-down counter".
unfoldable pub is_counter : ℕ → Bool
is_counter kind = eqb kind grow_counter || eqb kind up_down_counter

-- Kinds 5 and 6: "enable-wins flag", "disable-wins flag".
unfoldable pub is_flag : ℕ → Bool
is_flag kind = eqb kind enable_wins_flag || eqb kind disable_wins_flag

-- "In kinds 6 and 9 an operation *stands* if ...".
unfoldable pub removes_stand : ℕ → Bool
removes_stand kind = eqb kind disable_wins_flag || eqb kind remove_wins_set

-- The codes of each kind, as the table of the nine kinds has them; no code is known for another kind.
unfoldable pub codes_of : ℕ → List ℕ
codes_of kind = get_or (
    []
    ∷ (adds ∷ [])
    ∷ (adds ∷ removes ∷ [])
    ∷ (adds ∷ [])
    ∷ (adds ∷ removes ∷ [])
    ∷ (adds ∷ removes ∷ [])
    ∷ (adds ∷ removes ∷ [])
    ∷ (adds ∷ clears ∷ [])
    ∷ (adds ∷ removes ∷ clears ∷ [])
    ∷ (adds ∷ removes ∷ clears ∷ [])
    ∷ []
    ) kind []

-- 4: "code ... not allowed for the kind".
unfoldable pub code_allowed : ℕ → ℕ → Bool
code_allowed kind code = any (eqb code) (codes_of kind)

-- "Amounts are 1 to 1,000,000."
abbrev pub greatest_amount : ℕ
greatest_amount = 1000000

-- One more than the greatest "32-bit number".
abbrev pub value_limit : ℕ
value_limit = 4294967296

-- "Flags and clears carry value 0. Other values are any 32-bit number, 0 included."
unfoldable pub value_allowed : ℕ → ℕ → ℕ → Bool
value_allowed kind code value =
    cond (is_counter kind) (between 1 greatest_amount value)
    (cond (is_flag kind || eqb code clears) (eqb value 0) (ltb value value_limit))

-- What refusal 4 asks: "code, value or amount not allowed for the kind".
unfoldable pub allowed : ℕ → ℕ → ℕ → Bool
allowed kind code value = code_allowed kind code && value_allowed kind code value
