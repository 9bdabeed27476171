-- Rows, their order, and the answers from rows.
use Rattle.std.specs.Prelude.{Bool, true, false, not, ◌&&◌, ◌||◌, cond, List, [], ◌∷◌, map, ℕ, ◌+◌, ltb, eqb, length}
use Rattle.meaning.specs.Tests.{any, every, those}
use Rattle.meaning.specs.Operations.{Operation, number_of, two_phase_set, removes_stand}
use Rattle.meaning.specs.Meaning.{add_of, remove_of, joined, values_named}

-- "A row is object, value, code, and either its tag (unsettled) or no tag (settled)."
pub record Row : Type 0 where
  pub settled : Bool
  pub operation : Operation

-- An operation without its tag has sender 0 and no vector.
abbrev pub untagged : Operation → Operation
untagged u = record { object = u.object; code = u.code; value = u.value; sender = 0; vector = [] }

-- "its tag (unsettled)"
abbrev pub unsettled_row : Operation → Row
unsettled_row u = record { settled = false; operation = u }

-- "no tag (settled)"
abbrev pub settled_row : Operation → Row
settled_row u = record { settled = true; operation = untagged u }

-- The number of unsettled rows.
abbrev pub unsettled_count : List Row → ℕ
unsettled_count [] = 0
unsettled_count (row ∷ rows) = cond row.settled 0 1 + unsettled_count rows

-- What rows are ordered by: "object, value, code, settled before unsettled, sender, number".
unfoldable pub key_of : Row → List ℕ
key_of row =
    row.operation.object
    ∷ row.operation.value
    ∷ row.operation.code
    ∷ cond row.settled 0 1
    ∷ row.operation.sender
    ∷ number_of row.operation
    ∷ []

-- The order of lists of numbers by their first difference.
abbrev pub lower_key : List ℕ → List ℕ → Bool
lower_key [] [] = false
lower_key [] (other ∷ others) = true
lower_key (entry ∷ entries) [] = false
lower_key (entry ∷ entries) (other ∷ others) = ltb entry other || (eqb entry other && lower_key entries others)

-- "Rows are kept in ascending order of" these: a row stands before another.
unfoldable pub lower_row : Row → Row → Bool
lower_row row other = lower_key (key_of row) (key_of other)

-- "rows in strict order": each row is lower than all that come behind it.
abbrev pub in_order : List Row → Bool
in_order [] = true
in_order (row ∷ rows) = every (lower_row row) rows && in_order rows

-- The rows with one more, put before the first row that it is lower than.
abbrev pub insert_row : Row → List Row → List Row
insert_row new [] = new ∷ []
insert_row new (row ∷ rows) = cond (lower_row new row) (new ∷ row ∷ rows) (row ∷ insert_row new rows)

-- "in kinds 4, 6 and 9": where remove rows count in an answer.
unfoldable pub remove_rows_count : ℕ → Bool
remove_rows_count kind = eqb kind two_phase_set || removes_stand kind

-- "An answer from rows, in any table: in (or on) if an add row is there and, in kinds 4, 6 and 9, no remove row of that value."
unfoldable pub is_in_by_rows : ℕ → ℕ → ℕ → List Row → Bool
is_in_by_rows kind o v rows =
    any (λ (row : Row). add_of o v row.operation) rows
    && not (remove_rows_count kind && any (λ (row : Row). remove_of o v row.operation) rows)

-- "list": "the different values ascending", from rows.
unfoldable pub list_by_rows : ℕ → ℕ → List Row → List ℕ
list_by_rows kind o rows =
    joined (those (λ (v : ℕ). is_in_by_rows kind o v rows) (values_named o (map (λ (row : Row). row.operation) rows)))

-- The headcount: of different values, never of rows.
unfoldable pub count_by_rows : ℕ → ℕ → List Row → ℕ
count_by_rows kind o rows = length (list_by_rows kind o rows)
