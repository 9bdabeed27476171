-- Loading: a saved form read a line at a time into a lent space. What each line gets, and the space afterwards.
use Rattle.std.specs.Prelude.{Result, Ok, Err, Bool, true, false, ◌&&◌, List, [], ◌∷◌, ℕ, zero, suc, ◌-◌, eqb, leb, get_or, length, set}
use Rattle.meaning.specs.Tests.{between, every}
use Rattle.meaning.specs.Table.{greatest_kind}
use Rattle.words_layout.specs.Layout.{capacity_in, count_in, holds_table, objects_in, own_in, size_in, space_for, table_mark}
use Rattle.table_rules.specs.TableTests.{kinds_in, sizes_kept}
use Rattle.line_hex.specs.Choice.{pick}
use Rattle.line_decode.specs.Decoding.{bytes_of, type_of}
use Rattle.line_decode.specs.LineKinds.{kind_of}
use Rattle.line_decode.specs.declared.LineKind.{LineKind}
use Rattle.line_decode.specs.declared.LineKind.TheVariants as kind
use Rattle.form_write.specs.Seeking.{counter_at, other_at}
use Rattle.call_checked.specs.Called.{opened_by}
use Rattle.form_take.specs.declared.Loaded.{Loaded}
use Rattle.form_take.specs.declared.Loaded.TheVariants as loaded
use Rattle.form_take.specs.Taking.{clock_taken, last_taken, progress_in, row_or_closing, spoilt, total_taken}
use Rattle.form_load.specs.declared.Next.{Next}
use Rattle.form_load.specs.declared.Next.TheVariants as next

-- Behind the last vectors: a counter's total, or rows and the closing line once all totals are there.
unfoldable pub behind_lasts : Result ℕ ℕ → Next
behind_lasts (Ok object) = next.Total object
behind_lasts (Err zero) = next.Rows
behind_lasts (Err (suc more)) = next.Nothing

-- The line that comes next: "the `10` line; `50` D; for each other k ascending `51` ...; for each counter ascending `52` ...; for each row in order
-- `53` ...; `5f`". Nothing is next where the progress is out of range.
unfoldable pub next_after : ℕ → ℕ → List ℕ → ℕ → Next
next_after size own kinds progress =
    pick (eqb progress 0) next.Nothing
    (pick (eqb progress 1) next.Clock
    (pick (leb progress size) (next.Last (record { 0 = other_at own (progress - 2) }))
    (behind_lasts (counter_at kinds 0 (progress - suc size)))))

unfoldable pub next_in : List ℕ → Next
next_in words = next_after (size_in words) (own_in words) (kinds_in words) (progress_in words)

-- Rows come last.
unfoldable pub waits : Next → ℕ → Bool
waits next.Clock rows = eqb rows 0
waits (next.Last station) rows = eqb rows 0
waits (next.Total object) rows = eqb rows 0
waits next.Rows rows = true
waits next.Nothing rows = false

-- The mark, and the header in opening's ranges with room for its table.
unfoldable pub head_loads : List ℕ → Bool
head_loads words =
    eqb (get_or words 0 0) table_mark
    && (sizes_kept (size_in words) (own_in words) (capacity_in words) (objects_in words) (count_in words)
    && leb (space_for (size_in words) (capacity_in words)) (length words))

-- The kinds, and progress in range.
unfoldable pub load_waits : List ℕ → Bool
load_waits words = every (between 1 greatest_kind) (kinds_in words) && waits (next_in words) (count_in words)

-- A space is under load.
unfoldable pub under_load : List ℕ → Bool
under_load words = head_loads words && load_waits words

-- A line to a space under load, by what comes next.
unfoldable pub taken_as : Next → List ℕ → List ℕ → Result Loaded ℕ × List ℕ
taken_as next.Clock bytes words = clock_taken bytes words
taken_as (next.Last station) bytes words = last_taken station.0 bytes words
taken_as (next.Total object) bytes words = total_taken object bytes words
taken_as next.Rows bytes words = row_or_closing bytes words
taken_as next.Nothing bytes words = spoilt words

-- "A load begins with its opening line; if that gets 1 or 13 ... nothing is written."
unfoldable pub begun : Result (Unit {0}) ℕ × List ℕ → Result Loaded ℕ × List ℕ
begun (Err number, words) = (Err number, words)
begun (Ok u, words) = (Ok loaded.Taken, set words 6 1)

-- "or a saved line comes when no load is under way (15), nothing is written"; any other line is no opening (1).
unfoldable pub first_as : LineKind → List ℕ → List ℕ → Result Loaded ℕ × List ℕ
first_as kind.Opening line words = begun (opened_by line words)
first_as kind.Operation line words = (Err 1, words)
first_as kind.Issue line words = (Err 1, words)
first_as kind.Settling line words = (Err 1, words)
first_as kind.Question line words = (Err 1, words)
first_as kind.Printing line words = (Err 1, words)
first_as kind.Saved line words = (Err 15, words)
first_as kind.Unknown line words = (Err 1, words)

unfoldable pub first_taken : List ℕ → List ℕ → Result Loaded ℕ × List ℕ
first_taken line words = first_as (kind_of (type_of line)) line words

-- The next line of a form to a space.
unfoldable pub loaded_by : List ℕ → List ℕ → Result Loaded ℕ × List ℕ
loaded_by line words = pick (under_load words) (taken_as (next_in words) (bytes_of line) words) (first_taken line words)

-- Lines one after the other, the first first: what each gets, and the space in the end.
unfoldable pub loaded_all : List (List ℕ) → List ℕ → List (Result Loaded ℕ) × List ℕ
loaded_all [] words = ([], words)
loaded_all (line ∷ lines) words =
    let first = loaded_by line words in
    let rest = loaded_all lines first.1 in
    (first.0 ∷ rest.0, rest.1)

-- The form is at its end: nothing where its table is there; 15 where it "ends before its closing line", or where no load was.
unfoldable pub load_ended : List ℕ → Result Loaded ℕ × List ℕ
load_ended words =
    pick (holds_table words) (Ok loaded.Table, words) (pick (under_load words) (spoilt words) (Err 15, words))
