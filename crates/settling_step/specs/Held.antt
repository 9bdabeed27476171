-- Rows in words, and what is asked of them where a step is taken.
use Rattle.std.specs.Prelude.{◌≡◌, true, List, map, ℕ, get_or}
use Rattle.meaning.specs.Rows.{Row}
use Rattle.meaning.specs.Table.{Table, kind_in, is_table}
use Rattle.meaning.specs.Calls.{with_rows}
use Rattle.words_layout.specs.Words.{pieces}
use Rattle.words_layout.specs.Layout.{row_of, row_width, row_words}

-- "kinds fixed at opening": the kind of an object, from the words of the kinds.
unfoldable pub kind_at : List ℕ → ℕ → ℕ
kind_at kinds o = get_or kinds o 0

-- Words of rows that may stand in a table by the rules, whose objects have these kinds.
pub record Held (kinds : List ℕ) (size : ℕ) (rows : List (List ℕ)) : Type 0 where
  pub table : Table
  pub kinds_are : (o : ℕ) → kind_in table.header o ≡ kind_at kinds o
  pub by_rules : is_table (with_rows table (map row_of rows)) ≡ true
  pub spelt : map (row_words size) (map row_of rows) ≡ rows

-- The rows in so many words of one width.
abbrev pub rows_from : ℕ → ℕ → List ℕ → List Row
rows_from size count words = map row_of (pieces (row_width size) count words)
