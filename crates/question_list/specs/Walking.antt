-- A walk over the values of an object: from one to the next, by how many rows are passed.
use Rattle.std.specs.Prelude.{List, ℕ, ◌+◌, get_or, drop}
use Rattle.meaning.specs.Table.{Table}
use Rattle.question_scan.specs.Showing.{shown, before_shown}
use Rattle.question_list.specs.declared.Found.{Found}

-- The values that the rows behind the first so many show: those that are left.
unfoldable pub values_behind : ℕ → ℕ → Table → List ℕ
values_behind passed o table = shown o (drop passed table.rows)

-- The first of them, and how many rows are passed with the row that shows it.
unfoldable pub next_value : ℕ → ℕ → Table → Found
next_value passed o table = record {
  value = record { 0 = get_or (values_behind passed o table) 0 0 };
  passed = record { 0 = passed + before_shown o (drop passed table.rows) + 1 };
}
