-- A line of a saved form to a space under load: what it gets where it is the one that comes next, and the space afterwards.
use Rattle.std.specs.Prelude.{Result, Ok, Err, ◌&&◌, List, [], ◌∷◌, ℕ, suc, ◌+◌, ◌-◌, ◌*◌, eqb, leb, get_or, length, replicate, set, take}
use Rattle.std.proofs.Math.Seq.{paste}
use Rattle.meaning.specs.Table.{total_bound, greatest_size, most_objects}
use Rattle.words_layout.specs.Layout.{clock_at, count_in, holds_table, last_at, own_in, size_in, total_of_words, totals_at}
use Rattle.table_rules.specs.TableTests.{clock_in, kinds_in}
use Rattle.table_rules_clock.specs.ClockTests.{last_kept, total_kept}
use Rattle.line_hex.specs.Choice.{pick}
use Rattle.line_read.specs.declared.Row.{Row}
use Rattle.line_read.specs.SavedNamed.{clock_read, closing_read, is_clock, is_closing, is_last, is_row, is_total, last_read, row_read, total_read}
use Rattle.form_row.specs.Joining.{joined, joins, row_said}
use Rattle.form_take.specs.declared.Loaded.{Loaded}
use Rattle.form_take.specs.declared.Loaded.TheVariants as loaded

-- The seventh word is 0 in a table. Under load it says how many lines were taken, those of rows aside.
abbrev pub progress_in : List ℕ → ℕ
progress_in words = get_or words 6 0

-- The opening line, D, and the lines of the other stations and of the counters: no form has more lines ahead of its rows.
abbrev pub most_progress : ℕ
most_progress = 2 + (greatest_size - 1) + most_objects

-- "In a load every wrong line ... gets 15 ... and zeroes the table space".
unfoldable pub spoilt : List ℕ → Result Loaded ℕ × List ℕ
spoilt words = (Err 15, replicate (length words) 0)

-- New words at a place, and one more line taken.
unfoldable pub took : List ℕ → ℕ → List ℕ → Result Loaded ℕ × List ℕ
took words at new = (Ok loaded.Taken, set (paste words at new (length new)) 6 (suc (progress_in words)))

-- `50` D
unfoldable pub clock_taken : List ℕ → List ℕ → Result Loaded ℕ × List ℕ
clock_taken bytes words =
    let f = clock_read (size_in words) bytes in
    pick (is_clock (size_in words) bytes) (took words clock_at (take (size_in words) f.vector)) (spoilt words)

-- `51` k, L[k], by its rule.
unfoldable pub last_taken : ℕ → List ℕ → List ℕ → Result Loaded ℕ × List ℕ
last_taken station bytes words =
    let f = last_read (size_in words) bytes in
    let vector = take (size_in words) f.vector in
    pick (is_last (size_in words) bytes && (eqb f.station station && last_kept (own_in words) (clock_in words) station vector))
    (took words (last_at (size_in words) + station * size_in words) vector)
    (spoilt words)

-- `52` object, total, by its rule.
unfoldable pub total_taken : ℕ → List ℕ → List ℕ → Result Loaded ℕ × List ℕ
total_taken object bytes words =
    let f = total_read bytes in
    let total = f.high ∷ f.low ∷ [] in
    pick (is_total bytes && (eqb f.object object && total_kept (total_bound (clock_in words)) (get_or (kinds_in words) object 0) (total_of_words total)))
    (took words (totals_at + object * 2) total)
    (spoilt words)

-- `53`, by the rules of rows.
unfoldable pub row_taken : Row → List ℕ → Result Loaded ℕ × List ℕ
row_taken f words =
    let row = row_said (size_in words) f in
    pick (leb f.settled 1 && joins words row) (Ok loaded.Taken, joined words row) (spoilt words)

-- No load is under way any more: the words are a table by the rules, or nothing.
unfoldable pub finished : List ℕ → Result Loaded ℕ × List ℕ
finished words =
    let whole = set words 6 0 in
    pick (holds_table whole) (Ok loaded.Table, whole) (spoilt words)

-- `5f` row count
unfoldable pub closed : List ℕ → List ℕ → Result Loaded ℕ × List ℕ
closed bytes words =
    let f = closing_read bytes in
    pick (is_closing bytes && eqb f.rows (count_in words)) (finished words) (spoilt words)

-- Once all totals are there: a row's line, or else the closing line.
unfoldable pub row_or_closing : List ℕ → List ℕ → Result Loaded ℕ × List ℕ
row_or_closing bytes words =
    pick (is_row (size_in words) bytes) (row_taken (row_read (size_in words) bytes) words) (closed bytes words)
