-- The fields of a saved form's lines, by their names in "Saved form". N is known from the form's opening line.
use Rattle.std.specs.Prelude.{ℕ, Bool, List}
use Rattle.line_shape.specs.declared.Fields.{Fields}
use Rattle.line_read.specs.Types.{is_line_of, line_read, clock, last_vector, total, row, closing}
use Rattle.line_read.specs.Named.{field}
use Rattle.line_read.specs.declared.Clock.{Clock}
use Rattle.line_read.specs.declared.LastVector.{LastVector}
use Rattle.line_read.specs.declared.Total.{Total}
use Rattle.line_read.specs.declared.Row.{Row}
use Rattle.line_read.specs.declared.Closing.{Closing}

abbrev pub clock_of : Fields → Clock
clock_of f = record { vector = f.vector }

unfoldable pub is_clock : ℕ → List ℕ → Bool
is_clock stations bytes = is_line_of clock stations bytes

unfoldable pub clock_read : ℕ → List ℕ → Clock
clock_read stations bytes = clock_of (line_read clock stations bytes)

abbrev pub last_of : Fields → LastVector
last_of f = record { station = field f 1; vector = f.vector }

unfoldable pub is_last : ℕ → List ℕ → Bool
is_last stations bytes = is_line_of last_vector stations bytes

unfoldable pub last_read : ℕ → List ℕ → LastVector
last_read stations bytes = last_of (line_read last_vector stations bytes)

abbrev pub total_of : Fields → Total
total_of f = record { object = field f 1; high = field f 2; low = field f 3 }

unfoldable pub is_total : List ℕ → Bool
is_total bytes = is_line_of total 0 bytes

unfoldable pub total_read : List ℕ → Total
total_read bytes = total_of (line_read total 0 bytes)

abbrev pub row_of : Fields → Row
row_of f = record { object = field f 1; code = field f 2; settled = field f 3; sender = field f 4; value = field f 5; vector = f.vector }

unfoldable pub is_row : ℕ → List ℕ → Bool
is_row stations bytes = is_line_of row stations bytes

unfoldable pub row_read : ℕ → List ℕ → Row
row_read stations bytes = row_of (line_read row stations bytes)

abbrev pub closing_of : Fields → Closing
closing_of f = record { rows = field f 1 }

unfoldable pub is_closing : List ℕ → Bool
is_closing bytes = is_line_of closing 0 bytes

unfoldable pub closing_read : List ℕ → Closing
closing_read bytes = closing_of (line_read closing 0 bytes)
