-- "Saved form": its lines in order, and one of them written into a lent space.
use Rattle.std.specs.Prelude.{Bool, not, cond, List, [], ◌∷◌, ◌++◌, map, ℕ, zero, suc, ◌+◌, ◌-◌, Option, Some, None, Result, Ok, Err, eqb, length}
use Rattle.meaning.specs.Operations.{is_counter}
use Rattle.meaning.specs.Table.{Table, kind_in, greatest_size, most_rows, most_objects}
use Rattle.line_put.specs.Writing.{line_written}
use Rattle.line_put.specs.declared.TooShort.{TooShort}
use Rattle.form_lines.specs.FormLines.{opening_line, clock_line, last_line, total_line, row_line, closing_line}

-- "ascending": a line for each element at a place that the test takes; the first element's place is given
abbrev pub lines_of : {A : Type 0} → (ℕ → Bool) → (ℕ → A → List ℕ) → ℕ → List A → List (List ℕ)
lines_of test line place [] = []
lines_of test line place (first ∷ rest) =
    cond (test place) (line place first ∷ lines_of test line (suc place) rest) (lines_of test line (suc place) rest)

-- "for each other k ascending"
unfoldable pub last_lines : Table → List (List ℕ)
last_lines table = lines_of (λ (station : ℕ). not (eqb station table.header.own)) last_line 0 table.last

-- "for each counter ascending"
unfoldable pub total_lines : Table → List (List ℕ)
total_lines table = lines_of (λ (object : ℕ). is_counter (kind_in table.header object)) total_line 0 table.totals

-- "for each row in order", and the closing line
unfoldable pub row_lines : Table → List (List ℕ)
row_lines table = map (row_line table.header.size) table.rows ++ (closing_line (length table.rows) ∷ [])

-- the saved form, line by line
unfoldable pub saved_form : Table → List (List ℕ)
saved_form table = opening_line table.header ∷ clock_line table.clock ∷ (last_lines table ++ (total_lines table ++ row_lines table))

-- no form has more lines: its opening, D, the other last vectors, the totals, the rows, its closing line
abbrev pub most_form_lines : ℕ
most_form_lines = 2 + (greatest_size - 1) + most_objects + most_rows + 1

-- so many characters were written, or the space is too short
unfoldable pub formed_of : Result ℕ TooShort → Result (Option ℕ) TooShort
formed_of (Ok count) = Ok (Some count)
formed_of (Err short) = Err short

-- what a line gets, and the space
unfoldable pub line_into : List ℕ → List ℕ → Result (Option ℕ) TooShort × List ℕ
line_into out bytes = (formed_of (line_written out bytes).0, (line_written out bytes).1)

-- "It is written and read a line at a time": the line behind so many others, and the space; there is none behind the last
unfoldable pub line_at : List (List ℕ) → ℕ → List ℕ → Result (Option ℕ) TooShort × List ℕ
line_at [] place out = (Ok None, out)
line_at (line ∷ rest) zero out = line_into out line
line_at (line ∷ rest) (suc place) out = line_at rest place out
