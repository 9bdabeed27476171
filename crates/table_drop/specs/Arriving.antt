-- What an arrival does to rows, in one form for all nine kinds: some rows go, and one may be put.
use Rattle.std.specs.Prelude.{Bool, false, not, ◌&&◌, ◌||◌, cond, List, ℕ, eqb}
use Rattle.meaning.specs.Tests.{any, those}
use Rattle.meaning.specs.Order.{Vector}
use Rattle.meaning.specs.Operations.{Operation, is_counter, grow_set, two_phase_set, multi_value_register, adds, clears}
use Rattle.meaning.specs.Rows.{Row, settled_row, unsettled_row}
use Rattle.meaning.specs.Arrival.{taken_by, gets_row, same_value}
use Rattle.words_layout.specs.Words.{of_two_words, pieces}
use Rattle.words_layout.specs.Layout.{row_of}
use Rattle.table_drop.specs.declared.Arrival.{Arrival}

-- The operation that an arrival and its vector make.
abbrev pub operation_of : Arrival → Vector → Operation
operation_of a vector = record {
  object = a.object;
  code = a.code;
  value = a.value.0;
  sender = a.sender.0;
  vector = vector;
}

-- Whether it concerns a row of its object with this value.
abbrev pub concerns_value : Arrival → ℕ → ℕ → Bool
concerns_value a high low =
    eqb a.kind multi_value_register || (eqb a.code clears || eqb a.value.0 (of_two_words high low))

-- Kinds 3 and 4 keep settled rows.
abbrev pub is_kept : ℕ → Bool
is_kept kind = eqb kind grow_set || eqb kind two_phase_set

-- The rows that go: in kinds 3 and 4 those of the value, unless it is added; in 5 to 9 those that the arrival takes.
unfoldable pub goes : ℕ → Operation → Row → Bool
goes kind t row =
    cond (is_counter kind) false
    (cond (is_kept kind) (not (eqb t.code adds) && same_value t row) (taken_by kind t row))

-- Whether a row is put for the arrival: in kinds 3 and 4 unless it adds a value that has a row.
unfoldable pub puts : ℕ → Operation → List Row → Bool
puts kind t rows =
    cond (is_counter kind) false
    (cond (is_kept kind) (not (eqb t.code adds && any (same_value t) rows)) (gets_row kind t))

unfoldable pub row_for : ℕ → Operation → Row
row_for kind t = cond (is_kept kind) (settled_row t) (unsettled_row t)

-- The rows that stay where a test says which go, each as words.
unfoldable pub left_by : (List ℕ → Bool) → List (List ℕ) → List (List ℕ)
left_by test rows = those (λ (row : List ℕ). not (test row)) rows

abbrev pub row_goes : Arrival → Vector → List ℕ → Bool
row_goes a vector words = goes a.kind (operation_of a vector) (row_of words)

abbrev pub staying : Arrival → Vector → ℕ → ℕ → List ℕ → List (List ℕ)
staying a vector width count words = left_by (row_goes a vector) (pieces width count words)
