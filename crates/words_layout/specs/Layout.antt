-- A table, written as words, and words, read as a table. docs/FORMAT.md shows every word.
use Rattle.std.specs.Prelude.{ℕ, ◌+◌, ◌*◌, ◌/◌, ◌%◌, ◌≤◌, ◌≡◌, Bool, ◌&&◌, cond, List, [], ◌∷◌, ◌++◌, map, leb, eqb, ℤ, length, get_or, take, drop}
use Rattle.meaning.specs.Order.{Vector, same}
use Rattle.meaning.specs.Operations.{number_of}
use Rattle.meaning.specs.Rows.{Row}
use Rattle.meaning.specs.Table.{Table, most_objects, is_table, greatest_size, greatest_capacity}
use Rattle.words_layout.specs.Words.{word_limit, in_two_words, of_two_words, complement, of_complement, pieces, flat, padded}

-- Where the parts of a table of N stations stand: seven words of head, the kinds, the totals, D, L, the rows.
abbrev pub kinds_at : ℕ
kinds_at = 7

abbrev pub totals_at : ℕ
totals_at = kinds_at + most_objects

-- A total has two words.
abbrev pub totals_width : ℕ
totals_width = 2 * most_objects

abbrev pub clock_at : ℕ
clock_at = totals_at + totals_width

abbrev pub last_at : ℕ → ℕ
last_at size = clock_at + size

abbrev pub rows_at : ℕ → ℕ
rows_at size = clock_at + size + size * size

-- A row: object, value (two words), code, 0 settled or 1 unsettled, sender, number, vector.
abbrev pub row_width : ℕ → ℕ
row_width size = 7 + size

-- How many words a table needs.
abbrev pub space_for : ℕ → ℕ → ℕ
space_for size capacity = rows_at size + capacity * row_width size

-- The words of the largest table: of those before its rows, of its rows, and altogether.
abbrev pub most_before_rows : ℕ
most_before_rows = rows_at greatest_size

abbrev pub most_row_words : ℕ
most_row_words = greatest_capacity greatest_size * row_width greatest_size

abbrev pub most_words : ℕ
most_words = most_before_rows + most_row_words

-- The first word tells a table from other words: "roll" in four bytes.
abbrev pub table_mark : ℕ
table_mark = 1919904876

abbrev pub row_words : ℕ → Row → List ℕ
row_words size row =
    row.operation.object
    ∷ (row.operation.value / word_limit)
    ∷ (row.operation.value % word_limit)
    ∷ row.operation.code
    ∷ cond row.settled 0 1
    ∷ row.operation.sender
    ∷ number_of row.operation
    ∷ padded size row.operation.vector

-- A settled row has no vector.
abbrev pub row_of : List ℕ → Row
row_of words = record {
  settled = eqb (get_or words 4 0) 0;
  operation = record {
    object = get_or words 0 0;
    code = get_or words 3 0;
    value = of_two_words (get_or words 1 0) (get_or words 2 0);
    sender = get_or words 5 0;
    vector = cond (eqb (get_or words 4 0) 0) [] (drop 7 words);
  };
}

abbrev pub total_words : ℤ → List ℕ
total_words total = in_two_words (complement total)

abbrev pub total_of_words : List ℕ → ℤ
total_of_words words = of_complement (of_two_words (get_or words 0 0) (get_or words 1 0))

abbrev pub totals_words : List ℤ → List ℕ
totals_words totals = flat (map total_words totals)

-- Mark, N, own, capacity, objects, rows; the seventh word is for loading, and 0 in a table.
abbrev pub head_words : Table → List ℕ
head_words table =
    table_mark
    ∷ table.header.size
    ∷ table.header.own
    ∷ table.header.capacity
    ∷ length table.header.kinds
    ∷ length table.rows
    ∷ 0
    ∷ []

abbrev pub front_words : Table → List ℕ
front_words table =
    head_words table
    ++ (padded most_objects table.header.kinds
    ++ (padded totals_width (totals_words table.totals) ++ (table.clock ++ flat table.last)))

-- Unused rows are zero.
abbrev pub rows_words : Table → List ℕ
rows_words table =
    padded (table.header.capacity * row_width table.header.size) (flat (map (row_words table.header.size) table.rows))

unfoldable pub words_of : Table → List ℕ
words_of table = front_words table ++ rows_words table

-- The numbers of the head.
abbrev pub size_in : List ℕ → ℕ
size_in words = get_or words 1 0

abbrev pub own_in : List ℕ → ℕ
own_in words = get_or words 2 0

abbrev pub capacity_in : List ℕ → ℕ
capacity_in words = get_or words 3 0

abbrev pub objects_in : List ℕ → ℕ
objects_in words = get_or words 4 0

abbrev pub count_in : List ℕ → ℕ
count_in words = get_or words 5 0

-- The rows, each as words.
abbrev pub rows_in : List ℕ → List (List ℕ)
rows_in words = pieces (row_width (size_in words)) (count_in words) (drop (rows_at (size_in words)) words)

unfoldable pub table_of : List ℕ → Table
table_of words = record {
  header = record {
    size = size_in words;
    own = own_in words;
    capacity = capacity_in words;
    kinds = take (objects_in words) (drop kinds_at words);
  };
  clock = take (size_in words) (drop clock_at words);
  last = pieces (size_in words) (size_in words) (drop (last_at (size_in words)) words);
  totals = map total_of_words (pieces 2 (objects_in words) (drop totals_at words));
  rows = map row_of (rows_in words);
}

-- The words that a table does not use: "Bytes of a space beyond a result stay."
abbrev pub beyond : List ℕ → List ℕ
beyond words = drop (space_for (size_in words) (capacity_in words)) words

-- The space, with another table of the same size and capacity in it.
unfoldable pub rewritten : List ℕ → Table → List ℕ
rewritten words table = words_of table ++ beyond words

-- Words that are what would be written for the table that they spell, with sizes in range. Between an insert and the advance of the clock the
-- table rules do not hold yet, and this does.
pub record Laid (words : List ℕ) : Type 0 where
  pub room : space_for (size_in words) (capacity_in words) ≤ length words
  pub some : 1 ≤ size_in words
  pub few : size_in words ≤ greatest_size
  pub small : capacity_in words ≤ greatest_capacity (size_in words)
  pub objects : objects_in words ≤ most_objects
  pub within : count_in words ≤ capacity_in words
  pub spelt : words ≡ rewritten words (table_of words)

-- The words are what would be written for the table that they spell.
unfoldable pub is_spelt : List ℕ → Bool
is_spelt words = leb (space_for (size_in words) (capacity_in words)) (length words) && same words (rewritten words (table_of words))

-- What refusal 14 asks: "the space holds no table by the table rules".
unfoldable pub holds_table : List ℕ → Bool
holds_table words = is_spelt words && is_table (table_of words)

-- A table with one part changed.
abbrev pub with_clock : Table → Vector → Table
with_clock table clock = record { header = table.header; clock = clock; last = table.last; totals = table.totals; rows = table.rows }

abbrev pub with_last : Table → List Vector → Table
with_last table last = record { header = table.header; clock = table.clock; last = last; totals = table.totals; rows = table.rows }

abbrev pub with_totals : Table → List ℤ → Table
with_totals table totals = record { header = table.header; clock = table.clock; last = table.last; totals = totals; rows = table.rows }
