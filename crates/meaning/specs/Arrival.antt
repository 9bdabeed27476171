-- Arriving: what an accepted operation changes in totals and rows.
use Rattle.std.specs.Prelude.{Bool, not, ◌&&◌, ◌||◌, cond, List, ℕ, eqb, ℤ, pos, neg_ℤ, ◌+ℤ◌, get_or, set}
use Rattle.meaning.specs.Tests.{any, those}
use Rattle.meaning.specs.Operations.{Operation, before, is_counter, adds, removes, clears, grow_set, two_phase_set, enable_wins_flag, multi_value_register, add_wins_set}
use Rattle.meaning.specs.Meaning.{on}
use Rattle.meaning.specs.Rows.{Row, unsettled_row, settled_row, insert_row}

-- Whether the arrival t is about the value v of the object o: "rows of the same value"; "for 7, all rows of the object";
-- "A clear takes every row of its object".
unfoldable pub concerns : ℕ → ℕ → ℕ → Operation → Bool
concerns kind o v t = eqb t.object o && (eqb kind multi_value_register || (eqb t.code clears || eqb t.value v))

-- "In kinds 5 to 9 a settled row is before every later arrival."
unfoldable pub row_before : Row → Operation → Bool
row_before row t = row.settled || before row.operation t

-- The rows that go: those that the arrival concerns and that are before it.
unfoldable pub taken_by : ℕ → Operation → Row → Bool
taken_by kind t row = concerns kind row.operation.object row.operation.value t && row_before row t

-- "Then the arrival gets an unsettled row, except: a clear gets none in any kind, a remove or disable gets none in kinds 5 and 8."
unfoldable pub gets_row : ℕ → Operation → Bool
gets_row kind t = not (eqb t.code clears) && not (eqb t.code removes && (eqb kind enable_wins_flag || eqb kind add_wins_set))

-- "Then the arrival gets an unsettled row, except": the rows with the new one, if it gets one.
unfoldable pub with_row : Bool → Row → List Row → List Row
with_row gets new rows = cond gets (insert_row new rows) rows

-- Kinds 5 to 9.
unfoldable pub tagged_arrival : ℕ → Operation → List Row → List Row
tagged_arrival kind t rows = with_row (gets_row kind t) (unsettled_row t) (those (λ (row : Row). not (taken_by kind t row)) rows)

-- "rows of the same value": a row of the object and value of t.
unfoldable pub same_value : Operation → Row → Bool
same_value t row = on t.object t.value row.operation

-- "Kind 3 keeps one settled row per value. Kind 4 keeps one settled add row, or one settled remove row that bars the value for ever."
unfoldable pub settled_arrival : Operation → List Row → List Row
settled_arrival t rows =
    cond (eqb t.code adds)
    (with_row (not (any (same_value t) rows)) (settled_row t) rows)
    (insert_row (settled_row t) (those (λ (row : Row). not (same_value t row)) rows))

-- "kinds 1 and 2 change the total only"
unfoldable pub rows_after : ℕ → Operation → List Row → List Row
rows_after kind t rows =
    cond (is_counter kind) rows
    (cond (eqb kind grow_set || eqb kind two_phase_set) (settled_arrival t rows) (tagged_arrival kind t rows))

-- What an operation on a counter adds to its total.
unfoldable pub amount_of : Operation → ℤ
amount_of t = cond (eqb t.code adds) (pos t.value) (neg_ℤ (pos t.value))

-- "kinds 1 and 2 change the total only": the total of the arrival's object, with its amount.
unfoldable pub totals_after : ℕ → Operation → List ℤ → List ℤ
totals_after kind t totals = cond (is_counter kind) (set totals t.object (get_or totals t.object (pos 0) +ℤ amount_of t)) totals
