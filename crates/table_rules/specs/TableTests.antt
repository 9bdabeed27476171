-- The table rules, as tests of the words of a lent space.
use Rattle.std.specs.Prelude.{◌≡◌, Bool, ◌&&◌, List, ℕ, ◌+◌, ◌-◌, ◌*◌, ◌≤◌, ◌<◌, leb, ltb, eqb, length, get_or, take, drop}
use Rattle.meaning.specs.Tests.{every, every_at, between}
use Rattle.meaning.specs.Order.{Vector}
use Rattle.meaning.specs.Table.{greatest_size, greatest_capacity, most_objects, greatest_kind, total_bound}
use Rattle.words_layout.specs.Words.{all_zero, pieces}
use Rattle.words_layout.specs.Layout.{table_mark, kinds_at, totals_at, clock_at, last_at, rows_at, row_width, space_for, size_in, own_in, capacity_in, objects_in, count_in, rows_in}
use Rattle.table_rules_rows.specs.RowTests.{rows_kept}
use Rattle.table_rules_clock.specs.ClockTests.{total_kept_at, last_kept}

-- "header in opening's ranges", and rows "at most capacity".
unfoldable pub sizes_kept : ℕ → ℕ → ℕ → ℕ → ℕ → Bool
sizes_kept size own capacity objects count =
    between 1 greatest_size size
    && (ltb own size
    && (between 1 (greatest_capacity size) capacity && (between 1 most_objects objects && leb count capacity)))

-- The head: the mark, no load under way, its numbers in range, and room for what they say.
unfoldable pub head_kept : List ℕ → Bool
head_kept words =
    eqb (get_or words 0 0) table_mark
    && (eqb (get_or words 6 0) 0
    && (sizes_kept (size_in words) (own_in words) (capacity_in words) (objects_in words) (count_in words)
    && leb (space_for (size_in words) (capacity_in words)) (length words)))

-- The same as facts, which the tests of the other parts stand on.
pub record Headed (words : List ℕ) : Type 0 where
  pub mark : get_or words 0 0 ≡ table_mark
  pub idle : get_or words 6 0 ≡ 0
  pub some : 1 ≤ size_in words
  pub few : size_in words ≤ greatest_size
  pub own : own_in words < size_in words
  pub rooms : 1 ≤ capacity_in words
  pub small : capacity_in words ≤ greatest_capacity (size_in words)
  pub object : 1 ≤ objects_in words
  pub objects : objects_in words ≤ most_objects
  pub within : count_in words ≤ capacity_in words
  pub room : space_for (size_in words) (capacity_in words) ≤ length words

abbrev pub kinds_in : List ℕ → List ℕ
kinds_in words = take (objects_in words) (drop kinds_at words)

abbrev pub clock_in : List ℕ → Vector
clock_in words = take (size_in words) (drop clock_at words)

-- Kinds 1 to 9, "unused entries 0".
unfoldable pub kinds_kept : List ℕ → Bool
kinds_kept words =
    every (between 1 greatest_kind) (kinds_in words)
    && all_zero (take (most_objects - objects_in words) (drop (kinds_at + objects_in words) words))

unfoldable pub totals_kept : List ℕ → Bool
totals_kept words =
    every_at (total_kept_at (total_bound (clock_in words)) (kinds_in words)) 0 (pieces 2 (objects_in words) (drop totals_at words))
    && all_zero (take (2 * most_objects - objects_in words * 2) (drop (totals_at + objects_in words * 2) words))

unfoldable pub lasts_kept : List ℕ → Bool
lasts_kept words =
    every_at (last_kept (own_in words) (clock_in words)) 0 (pieces (size_in words) (size_in words) (drop (last_at (size_in words)) words))

-- "unused rows zero"
unfoldable pub unused_kept : List ℕ → Bool
unused_kept words =
    let width = row_width (size_in words) in
    all_zero (take (capacity_in words * width - count_in words * width) (drop (rows_at (size_in words) + count_in words * width) words))

-- The parts behind the head.
unfoldable pub parts_kept : List ℕ → Bool
parts_kept words =
    kinds_kept words
    && (totals_kept words
    && (lasts_kept words && (rows_kept (kinds_in words) (clock_in words) (rows_in words) && unused_kept words)))
