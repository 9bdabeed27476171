-- The calls: what each answers to a line over any space, and the space afterwards.
use Rattle.question.specs.Told as reply
use Rattle.question.specs.Told.{Told}
use Rattle.std.specs.Prelude.{Result, Ok, Err, ◌≡◌, List, ℕ, ◌+◌}
use Rattle.words_tags.specs.declared.RowCount.{RowCount}
use Rattle.meaning.specs.Rows.{unsettled_count}
use Rattle.words_layout.specs.Layout.{holds_table, table_of}
use Rattle.line_hex.specs.Choice.{pick}
use Rattle.call_checked.specs.Called.{issued_on, received_on, replied_on, settled_on}

-- "A frame passes 14, 1 to 7, 8": on any space.
unfoldable pub received_by : List ℕ → List ℕ → Result (Unit {0}) ℕ × List ℕ
received_by line words = pick (holds_table words) (received_on line words) (Err 14, words)

-- "A local operation passes 14, 1, 3, 4, 9, 8, 10": on any space.
unfoldable pub issued_by : List ℕ → List ℕ → List ℕ → Result ℕ ℕ × (List ℕ × List ℕ)
issued_by line words out = pick (holds_table words) (issued_on line words out) (Err 14, (words, out))

-- "Settling passes 14, 1": on any space.
unfoldable pub settled_by : List ℕ → List ℕ → Result RowCount ℕ × List ℕ
settled_by line words = pick (holds_table words) (settled_on line words) (Err 14, words)

-- "That number equals the fall in unsettled rows."
unfoldable pub Fallen : Result RowCount ℕ → List ℕ → List ℕ → Type 0
Fallen (Err number) before after = before ≡ after
Fallen (Ok count) before after = count.0 + unsettled_count (table_of after).rows ≡ unsettled_count (table_of before).rows

-- "A question passes 14, 1, 3, 12, 11": on any space.
unfoldable pub replied_by : List ℕ → List ℕ → List ℕ → Told × List ℕ
replied_by line words out = pick (holds_table words) (replied_on line words out) (reply.Refused 14, out)
