-- What is known of the head of a space that a form is loaded into: with it, the places of a table's parts close by themselves.
use Rattle.std.specs.Prelude.{List, ℕ, ◌*◌, ◌≤◌, ◌<◌, length}
use Rattle.words_layout.specs.Layout.{capacity_in, clock_at, count_in, objects_in, own_in, size_in, space_for}
use Rattle.meaning.specs.Table.{greatest_size, greatest_capacity, most_objects}

pub record LoadHead (words : List ℕ) : Type 0 where
  pub some : 1 ≤ size_in words
  pub few : size_in words ≤ greatest_size
  pub own : own_in words < size_in words
  pub small : capacity_in words ≤ greatest_capacity (size_in words)
  pub objects : objects_in words ≤ most_objects
  pub within : count_in words ≤ capacity_in words
  pub long : clock_at ≤ length words
  pub square : size_in words * size_in words ≤ greatest_size * greatest_size
  pub room : space_for (size_in words) (capacity_in words) ≤ length words
