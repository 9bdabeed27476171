-- Saving: what a `60` line gets for the line of the form at a place, and the line space afterwards.
use Rattle.std.specs.Prelude.{List, ℕ, Option, Some, None, Result, Ok, Err}
use Rattle.words_layout.specs.Layout.{holds_table, table_of}
use Rattle.line_hex.specs.Choice.{pick}
use Rattle.line_read.specs.Named.{printing_read}
use Rattle.line_decode.specs.Decoding.{bytes_of}
use Rattle.form_write.specs.Forms.{line_at, saved_form}
use Rattle.line_put.specs.declared.TooShort.{TooShort}

-- 10: "line space shorter than the line", and it stays as it was; else the line stands in it, or the form has no line at that place.
unfoldable pub saved_as : List ℕ → Result (Option ℕ) TooShort × List ℕ → Result (Option ℕ) ℕ × List ℕ
saved_as out (Ok (Some length), line) = (Ok (Some length), line)
saved_as out (Ok None, line) = (Ok None, out)
saved_as out (Err short, line) = (Err 10, out)

-- "saving 14, 1, 10": on a table, and on any space.
unfoldable pub saved_on : List ℕ → List ℕ → ℕ → List ℕ → Result (Option ℕ) ℕ × List ℕ
saved_on line words place out =
    pick (printing_read (bytes_of line)) (saved_as out (line_at (saved_form (table_of words)) place out)) (Err 1, out)

unfoldable pub saved_by : List ℕ → List ℕ → ℕ → List ℕ → Result (Option ℕ) ℕ × List ℕ
saved_by line words place out = pick (holds_table words) (saved_on line words place out) (Err 14, out)
