-- What the changes of a table ask and do.
use Rattle.std.specs.Prelude.{◌≡◌, ℕ, ◌+◌, ◌*◌, ◌<◌, ◌≤◌, Bool, not, List, length, ℤ, pos, ◌+ℤ◌, slice_index, slice_index_or, slice_set}
use Rattle.meaning.specs.Tests.{those}
use Rattle.meaning.specs.Order.{Vector, entry_limit}
use Rattle.meaning.specs.Rows.{Row}
use Rattle.meaning.specs.Table.{Table, greatest_size, greatest_capacity}
use Rattle.words_layout.specs.Layout.{Laid, rows_at, row_width, size_in, count_in, most_row_words}
use Rattle.table_change.specs.TotalChange.{change}
use Rattle.table_drop.specs.Arriving.{operation_of, goes}
use Rattle.table_drop.specs.declared.Arrival.{Arrival}

-- A laid table with the numbers of its head in hand, and what they bound.
pub record Opened (words : List ℕ) (size count : ℕ) : Type 0 where
  pub laid : Laid words
  pub size_is : size ≡ size_in words
  pub count_is : count ≡ count_in words
  pub few : size ≤ greatest_size
  pub less : count ≤ greatest_capacity size
  pub square : size * size ≤ greatest_size * greatest_size
  pub area : count * row_width size ≤ most_row_words
  pub room : rows_at size + count * row_width size ≤ length words

-- The rows that stay when an operation arrives.
unfoldable pub rows_left : Arrival → Vector → Table → List Row
rows_left a vector table = those (λ (row : Row). not (goes a.kind (operation_of a vector) row)) table.rows

-- The sender's number can rise: refusal 9, and a frame's entry, see to it.
abbrev pub EntryBelowLimit : Table → ℕ → Type 0
EntryBelowLimit table sender = slice_index table.clock sender + 1 < entry_limit

-- The totals with one of them changed.
unfoldable pub totals_changed : ℕ → ℕ → Bool → Table → List ℤ
totals_changed o amount increase table = slice_set table.totals o (slice_index_or table.totals o (pos 0) +ℤ change increase amount)
