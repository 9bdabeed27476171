-- When a line of a form is refused, and what it leaves where it is not.
use Rattle.std.specs.Prelude.{Result, Ok, Err, Bool, false, not, ◌&&◌, List, [], ◌∷◌, ℕ, ◌+◌, ◌*◌, eqb, leb, get_or, replicate, length, set, take}
use Rattle.meaning.specs.Table.{total_bound}
use Rattle.meaning.specs.Refusals.{◌when◌, Refusal}
use Rattle.words_layout.specs.Layout.{clock_at, count_in, holds_table, last_at, own_in, size_in, total_of_words, totals_at}
use Rattle.table_rules.specs.TableTests.{clock_in, kinds_in}
use Rattle.table_rules_clock.specs.ClockTests.{last_kept, total_kept}
use Rattle.line_hex.specs.Choice.{pick}
use Rattle.line_read.specs.SavedNamed.{is_closing, is_total, is_last, clock_read, is_clock, closing_read, last_read, row_read, is_row, total_read}
use Rattle.line_decode.specs.Decoding.{type_of}
use Rattle.line_decode.specs.LineKinds.{saved_type}
use Rattle.form_take.specs.declared.Loaded.{Loaded}
use Rattle.form_take.specs.declared.Loaded.TheVariants as loaded
use Rattle.form_row.specs.Joining.{joined, joins, row_said}
use Rattle.form_take.specs.Taking.{took}
use Rattle.form_load.specs.declared.Next.{Next}
use Rattle.form_load.specs.declared.Next.TheVariants as next
use Rattle.form_load.specs.Loading.{under_load}
use Rattle.law_agreement.specs.Conditions.{open_conditions, open_result}

-- The number of an answer, 0 where it is no refusal.
unfoldable pub number_of_loaded : Result Loaded ℕ → ℕ
number_of_loaded (Err number) = number
number_of_loaded (Ok loaded.Taken) = 0
number_of_loaded (Ok loaded.Table) = 0

-- No load is under way: "a saved line comes when no load is under way (15)", else "its opening line; if that gets 1 or 13".
unfoldable pub begin_conditions : List ℕ → List ℕ → List Refusal
begin_conditions line words = (15 when saved_type (type_of line)) ∷ open_conditions line words

-- The fresh table, with one line taken.
unfoldable pub begin_result : List ℕ → List ℕ → Result Loaded ℕ × List ℕ
begin_result line words = (Ok loaded.Taken, set (open_result line words).1 6 1)

-- The line is the one that comes next, and keeps its table rule. "a wrong closing count", and words that are no table, fail a closing line.
unfoldable pub is_next : Next → List ℕ → List ℕ → Bool
is_next next.Clock bytes words = is_clock (size_in words) bytes
is_next (next.Last station) bytes words =
    let f = last_read (size_in words) bytes in
    is_last (size_in words) bytes && (eqb f.station station.0 && last_kept (own_in words) (clock_in words) station.0 (take (size_in words) f.vector))
is_next (next.Total object) bytes words =
    let f = total_read bytes in
    is_total bytes && (eqb f.object object && total_kept (total_bound (clock_in words)) (get_or (kinds_in words) object 0) (total_of_words (f.high ∷ f.low ∷ [])))
is_next next.Rows bytes words =
    let f = row_read (size_in words) bytes in
    let g = closing_read bytes in
    pick (is_row (size_in words) bytes) (leb f.settled 1 && joins words (row_said (size_in words) f)) (is_closing bytes && (eqb g.rows (count_in words) && holds_table (set words 6 0)))
is_next next.Nothing bytes words = false

-- Under load: "In a load every wrong line, a second `10` too, gets 15, never 1 or 13".
unfoldable pub load_conditions : Next → List ℕ → List ℕ → List Refusal
load_conditions coming bytes words = (15 when not (is_next coming bytes words)) ∷ []

-- What it says is written, and the load goes on; or it closes, and the words are a table.
unfoldable pub load_result : Next → List ℕ → List ℕ → Result Loaded ℕ × List ℕ
load_result next.Clock bytes words = took words clock_at (take (size_in words) (clock_read (size_in words) bytes).vector)
load_result (next.Last station) bytes words =
    took words (last_at (size_in words) + station.0 * size_in words) (take (size_in words) (last_read (size_in words) bytes).vector)
load_result (next.Total object) bytes words = took words (totals_at + object * 2) ((total_read bytes).high ∷ (total_read bytes).low ∷ [])
load_result next.Rows bytes words =
    pick (is_row (size_in words) bytes) (Ok loaded.Taken, joined words (row_said (size_in words) (row_read (size_in words) bytes))) (Ok loaded.Table, set words 6 0)
load_result next.Nothing bytes words = (Ok loaded.Taken, words)

-- "and zeroes the table space"
unfoldable pub zeroed : List ℕ → List ℕ
zeroed words = replicate (length words) 0

-- The end of a form: "a form that ends before its closing line", or none at all.
unfoldable pub end_conditions : List ℕ → List Refusal
end_conditions words = (15 when not (holds_table words)) ∷ []

-- "so does a form that ends too early"; where no load was, nothing is written.
unfoldable pub end_left : List ℕ → List ℕ
end_left words = pick (under_load words) (zeroed words) words
