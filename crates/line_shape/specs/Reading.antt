-- A line's bytes taken apart: the fields that every line of its type has, and behind them "N entries (4 each)".
use Rattle.std.specs.Prelude.{ℕ, ◌+◌, ◌-◌, ◌*◌, ◌≤◌, ◌≡◌, Bool, true, false, ◌&&◌, List, [], ◌∷◌, ◌++◌, eqb, leb, length, drop, replicate}
use Rattle.line_hex.specs.Choice.{pick}
use Rattle.line_shape.specs.Shapes.{length_of, narrow, read}
use Rattle.line_shape.specs.declared.Fields.{Fields}
use Rattle.meaning.specs.Table.{greatest_size}

-- no line has more fields before its entries
abbrev pub most_fields : ℕ
most_fields = 6

-- what the widths of those fields meet
pub record Head (widths : List ℕ) : Type 0 where
  pub few : length widths ≤ most_fields
  pub small : narrow widths ≡ true

-- a list with zeros after it, up to n
unfoldable pub padded : ℕ → List ℕ → List ℕ
padded n l = l ++ replicate (n - length l) 0

-- a vector's entries
unfoldable pub entries : ℕ → List ℕ → List ℕ
entries stations bytes = read (replicate stations 4) bytes

unfoldable pub starts_with : ℕ → List ℕ → Bool
starts_with kind [] = false
starts_with kind (b ∷ bytes) = eqb b kind

-- "wrong length or type": so many bytes, the first of them the type
unfoldable pub has_shape : ℕ → ℕ → List ℕ → Bool
has_shape kind size bytes = eqb (length bytes) size && starts_with kind bytes

-- how many bytes a line of so many entries has
abbrev pub size_of : List ℕ → ℕ → ℕ
size_of widths stations = length_of widths + 4 * stations

-- a line has the shape of a type with so many entries, of which there is room for so many
unfoldable pub is_shaped : ℕ → List ℕ → ℕ → List ℕ → Bool
is_shaped kind widths stations bytes = leb stations greatest_size && has_shape kind (size_of widths stations) bytes

abbrev pub unread : Fields
unread = record { head = replicate most_fields 0; vector = replicate greatest_size 0 }

-- its fields, zeros where it has another shape
unfoldable pub fields_read : ℕ → List ℕ → ℕ → List ℕ → Fields
fields_read kind widths stations bytes =
    pick (is_shaped kind widths stations bytes)
    (record { head = padded most_fields (read widths bytes); vector = padded greatest_size (entries stations (drop (length_of widths) bytes)) })
    unread
