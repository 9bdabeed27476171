-- The definition computed: the form that ends 01's session, and a form with what that one lacks.
use Rattle.std.specs.Prelude.{◌≡◌, refl, List, [], ◌∷◌, pos, negsuc}
use Prim.Native.String.{String}
use Rattle.meaning.specs.Operations.{is_counter}
use Rattle.meaning.specs.Papers.{session_saved}
use Rattle.meaning.specs.Rows.{settled_row}
use Rattle.meaning.specs.Table.{Table, kind_in}
use Rattle.words_layout.specs.Words.{complement}
use Rattle.line_hex.specs.Numbers.{big_endian}
use Rattle.line_shape.specs.Shapes.{written}
use Rattle.line_put.specs.Writing.{written_each, line_bytes}
use Rattle.form_lines.specs.FormLines.{opening_line, clock_line, last_line, total_line, row_line, closing_line}
use Rattle.form_write.specs.Forms.{last_lines, total_lines, row_lines, saved_form}

-- the last lines of 01's session
abbrev pub session_form : List String
session_form = "10020000040108" ∷ "500000000100000002" ∷ "51010000000000000002" ∷ "5300010000000000070000000100000000" ∷ "5f0001" ∷ []

pub session_form_lem : saved_form session_saved
    ≡ (16 ∷ 2 ∷ 0 ∷ 0 ∷ 4 ∷ 1 ∷ 8 ∷ [])
    ∷ (80 ∷ 0 ∷ 0 ∷ 0 ∷ 1 ∷ 0 ∷ 0 ∷ 0 ∷ 2 ∷ [])
    ∷ (81 ∷ 1 ∷ 0 ∷ 0 ∷ 0 ∷ 0 ∷ 0 ∷ 0 ∷ 0 ∷ 2 ∷ [])
    ∷ (83 ∷ 0 ∷ 1 ∷ 0 ∷ 0 ∷ 0 ∷ 0 ∷ 0 ∷ 7 ∷ 0 ∷ 0 ∷ 0 ∷ 1 ∷ 0 ∷ 0 ∷ 0 ∷ 0 ∷ [])
    ∷ (95 ∷ 0 ∷ 1 ∷ [])
    ∷ []
unfolding is_counter kind_in complement big_endian written written_each line_bytes opening_line clock_line last_line total_line row_line closing_line last_lines total_lines row_lines saved_form
session_form_lem = refl

-- own station 1 of two, a set between two counters, a total below zero, a settled row
abbrev pub counters_table : Table
counters_table = record {
  header = record { size = 2; own = 1; capacity = 512; kinds = 2 ∷ 3 ∷ 1 ∷ [] };
  clock = 0 ∷ 3 ∷ [];
  last = (0 ∷ 0 ∷ []) ∷ (0 ∷ 0 ∷ []) ∷ [];
  totals = negsuc 6 ∷ pos 0 ∷ pos 258 ∷ [];
  rows = settled_row (record { object = 1; code = 1; value = 4294967295; sender = 1; vector = 0 ∷ 2 ∷ [] }) ∷ [];
}

-- "100201020003020301", "500000000000000003", "51000000000000000000", "5200fffffffffffffff9", "52020000000000000102",
-- "5301010100ffffffff0000000000000000", "5f0001"
pub counters_form_lem : saved_form counters_table
    ≡ (16 ∷ 2 ∷ 1 ∷ 2 ∷ 0 ∷ 3 ∷ 2 ∷ 3 ∷ 1 ∷ [])
    ∷ (80 ∷ 0 ∷ 0 ∷ 0 ∷ 0 ∷ 0 ∷ 0 ∷ 0 ∷ 3 ∷ [])
    ∷ (81 ∷ 0 ∷ 0 ∷ 0 ∷ 0 ∷ 0 ∷ 0 ∷ 0 ∷ 0 ∷ 0 ∷ [])
    ∷ (82 ∷ 0 ∷ 255 ∷ 255 ∷ 255 ∷ 255 ∷ 255 ∷ 255 ∷ 255 ∷ 249 ∷ [])
    ∷ (82 ∷ 2 ∷ 0 ∷ 0 ∷ 0 ∷ 0 ∷ 0 ∷ 0 ∷ 1 ∷ 2 ∷ [])
    ∷ (83 ∷ 1 ∷ 1 ∷ 1 ∷ 0 ∷ 255 ∷ 255 ∷ 255 ∷ 255 ∷ 0 ∷ 0 ∷ 0 ∷ 0 ∷ 0 ∷ 0 ∷ 0 ∷ 0 ∷ [])
    ∷ (95 ∷ 0 ∷ 1 ∷ [])
    ∷ []
unfolding is_counter kind_in complement big_endian written written_each line_bytes opening_line clock_line last_line total_line row_line closing_line last_lines total_lines row_lines saved_form
counters_form_lem = refl
