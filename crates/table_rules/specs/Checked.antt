-- A lent space that was found to hold a table, and what that says of the numbers of its head.
use Rattle.std.specs.Prelude.{◌≡◌, true, List, ℕ, ◌+◌, ◌*◌, ◌≤◌, ◌<◌, length}
use Rattle.meaning.specs.Table.{is_table, greatest_size, greatest_capacity, most_objects}
use Rattle.words_layout.specs.Layout.{Laid, holds_table, table_of, rows_at, row_width, clock_at, size_in, own_in, capacity_in, objects_in, count_in, most_row_words}

-- `holds` is what the test of a space tells; all else follows from it (proofs/Checking.antt).
pub record Checked (words : List ℕ) : Type 0 where
  pub holds : holds_table words ≡ true
  pub laid : Laid words
  pub by_rules : is_table (table_of words) ≡ true
  pub some : 1 ≤ size_in words
  pub few : size_in words ≤ greatest_size
  pub own : own_in words < size_in words
  pub small : capacity_in words ≤ greatest_capacity (size_in words)
  pub objects : objects_in words ≤ most_objects
  pub within : count_in words ≤ capacity_in words
  pub long : clock_at ≤ length words
  pub square : size_in words * size_in words ≤ greatest_size * greatest_size
  pub area : count_in words * row_width (size_in words) ≤ most_row_words
  pub room : rows_at (size_in words) + count_in words * row_width (size_in words) ≤ length words
