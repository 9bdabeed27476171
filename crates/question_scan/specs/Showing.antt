-- Which row shows a value that is in: in a table by the rules a row and the one behind it decide.
use Rattle.std.specs.Prelude.{Bool, false, not, ◌&&◌, ◌||◌, cond, List, [], ◌∷◌, ℕ, suc, ◌+◌, eqb, length, get_or}
use Rattle.meaning.specs.Meaning.{add_of}
use Rattle.meaning.specs.Rows.{Row}
use Rattle.meaning.specs.Arrival.{same_value}

-- The row behind, if there is one, is of the same object and value.
abbrev pub followed : Row → List Row → Bool
followed row [] = false
followed row (next ∷ rest) = same_value row.operation next

-- An add row of the object that is the last of its value: adds stand before removes, so no remove row of the value is there.
unfoldable pub shows : ℕ → Row → List Row → Bool
shows o row behind = add_of o row.operation.value row.operation && not (followed row behind)

-- The values shown, in the order of the rows.
abbrev pub shown : ℕ → List Row → List ℕ
shown o [] = []
shown o (row ∷ rows) = cond (shows o row rows) (row.operation.value ∷ shown o rows) (shown o rows)

-- How many values are shown: the headcount of a roll.
unfoldable pub count_shown : ℕ → List Row → ℕ
count_shown o rows = length (shown o rows)

-- A row shows this value.
unfoldable pub shows_value : ℕ → ℕ → Row → List Row → Bool
shows_value o v row behind = shows o row behind && eqb row.operation.value v

-- The value is among those shown.
unfoldable pub value_shown : ℕ → ℕ → List Row → Bool
value_shown o v [] = false
value_shown o v (row ∷ rows) = shows_value o v row rows || value_shown o v rows

-- How many rows stand before the first that shows a value.
unfoldable pub before_shown : ℕ → List Row → ℕ
before_shown o [] = 0
before_shown o (row ∷ rows) = cond (shows o row rows) 0 (suc (before_shown o rows))

-- The rows at two places of the words begin with the same object and the same two words of a value.
unfoldable pub same_key : List ℕ → ℕ → ℕ → Bool
same_key words at next =
    eqb (get_or words next 0) (get_or words at 0) && (eqb (get_or words (next + 1) 0) (get_or words (at + 1) 0) && eqb (get_or words (next + 2) 0) (get_or words (at + 2) 0))
