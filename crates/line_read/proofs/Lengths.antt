-- How many bytes a line has.
use mathlib.Core.Path.{◌≡◌, refl, ◌∙◌}
use mathlib.Core.List.{List, ◌∷◌}
use Prim.Native.Nat.{ℕ, ◌+◌, ◌*◌}
use native.Mathlib.Omega.{arith}
use lib.ListN.{length, length-append}
use Rattle.line_shape.specs.Shapes.{length_of, written}
use Rattle.line_shape.proofs.Spelling.{length_written}
use Rattle.line_put.specs.Writing.{line_bytes, written_each}
use Rattle.line_put.proofs.Laying.{length_written_each}
use Rattle.line_read.specs.Types.{Line, head_of, line_of}

pub line_length : (line : Line) (fields more : List ℕ) → length fields ≡ length line.widths → length (line_of line fields more) ≡ length_of (head_of line) + line.each * length more
unfolding line_bytes
line_length line fields more e =
    length-append (written (head_of line) (line.type_byte ∷ fields)) (written_each line.each more)
    ∙ rw (length_written (head_of line) (line.type_byte ∷ fields) (omega arith), length_written_each line.each more) refl
