-- "Saved form": the bytes of each of its lines, from the parts of a table.
use Rattle.std.specs.Prelude.{cond, List, [], ◌∷◌, map, ℕ, ℤ, get_or, length}
use Rattle.meaning.specs.Order.{Vector}
use Rattle.meaning.specs.Rows.{Row}
use Rattle.meaning.specs.Table.{Header, Table}
use Rattle.words_layout.specs.Words.{padded}
use Rattle.words_layout.specs.Layout.{total_words}
use Rattle.line_read.specs.Types.{line_of, opening, clock, last_vector, total, row, closing}

-- "the `10` line": `10` N, own, capacity, object count, one kind byte each
unfoldable pub opening_line : Header → List ℕ
opening_line header = line_of opening (header.size ∷ header.own ∷ header.capacity ∷ length header.kinds ∷ []) header.kinds

-- "`50` D"
unfoldable pub clock_line : Vector → List ℕ
clock_line vector = line_of clock [] vector

-- "`51` k, L[k]"
unfoldable pub last_line : ℕ → Vector → List ℕ
last_line station vector = line_of last_vector (station ∷ []) vector

-- "`52` object, total (8, two's complement)"
unfoldable pub total_line : ℕ → ℤ → List ℕ
total_line object amount = line_of total (object ∷ total_words amount) []

-- "`53` object, code, 01 settled or 00, sender, value (4), vector (a settled row has sender and vector 0)"
unfoldable pub row_line : ℕ → Row → List ℕ
row_line size r =
    line_of row
    (r.operation.object ∷ r.operation.code ∷ cond r.settled 1 0 ∷ r.operation.sender ∷ r.operation.value ∷ [])
    (padded size r.operation.vector)

-- "for each row in order": the line of the row behind so many others
unfoldable pub row_line_at : Table → ℕ → List ℕ
row_line_at table ahead = get_or (map (row_line table.header.size) table.rows) ahead []

-- "`5f` row count (2)"
unfoldable pub closing_line : ℕ → List ℕ
closing_line count = line_of closing (count ∷ []) []
