-- What an arrival asks of a table in words, and whether there is room for it.
use Rattle.std.specs.Prelude.{◌≡◌, Bool, true, List, [], map, ℕ, ◌<◌, leb, ℤ, length}
use Rattle.meaning.specs.Tests.{any}
use Rattle.meaning.specs.Order.{Vector}
use Rattle.meaning.specs.Arrival.{rows_after, totals_after, same_value}
use Rattle.meaning.specs.Table.{Table, kind_in}
use Rattle.words_layout.specs.Words.{pieces}
use Rattle.words_layout.specs.Layout.{table_of, row_of}
use Rattle.words_tags.specs.declared.Station.{Station}
use Rattle.words_tags.specs.declared.Value.{Value}
use Rattle.table_drop.specs.Arriving.{operation_of}
use Rattle.table_drop.specs.declared.Arrival.{Arrival}
use Rattle.table_change.specs.Changes.{Opened, EntryBelowLimit}

-- What arrives of these fields: an operation on an object of this kind.
abbrev pub arrival_from : ℕ → ℕ → ℕ → Value → Station → Arrival
arrival_from kind object code value sender = record {
  kind = kind;
  object = object;
  code = code;
  value = value;
  sender = sender;
}

-- "rows of the same value": whether there is any among so many rows in words.
unfoldable pub has_value : Arrival → Vector → ℕ → ℕ → List ℕ → Bool
has_value a vector width count words = any (same_value (operation_of a vector)) (map row_of (pieces width count words))

-- Not "the rows left after the arrival's drops, with its own row if it gets one, exceed capacity".
unfoldable pub has_room : Arrival → Vector → Table → Bool
has_room a vector table =
    leb (length (rows_after a.kind (operation_of a vector) table.rows)) table.header.capacity

-- "kinds 1 and 2 change the total only": the totals after the arrival, which ask nothing of its tag.
unfoldable pub totals_with : Arrival → Table → List ℤ
totals_with a table = totals_after a.kind (operation_of a []) table.totals

-- An arrival that its refusals let pass, with its vector, in words that are laid. The table rules are not asked, for L may be written before.
pub record Arrives (words : List ℕ) (size count : ℕ) (a : Arrival) (vector : Vector) : Type 0 where
  pub opened : Opened words size count
  pub entries : length vector ≡ size
  pub declared : a.object < length (table_of words).header.kinds
  pub kind_is : a.kind ≡ kind_in (table_of words).header a.object
  pub sender_in : a.sender.0 < size
  pub rises : EntryBelowLimit (table_of words) a.sender.0
  pub room : has_room a vector (table_of words) ≡ true
