-- Every line can be written, with as many fields as it has and no more further ones than a byte can count.
use Prim.Native.Nat.{ℕ, ◌<◌}
use mathlib.Core.Path.{◌≡◌}
use mathlib.Core.Bool.{true}
use mathlib.Core.List.{List, ◌∷◌}
use native.Mathlib.Omega.{arith}
use lib.ListN.{length}
use Rattle.line_read.specs.Types.{head_of, Line}
use Rattle.line_read.proofs.Known.{known, sound}
use Rattle.line_put.specs.Writing.{Writable}

pub sayable : (line : Line) → sound line ≡ true → (fields more : List ℕ) → length fields ≡ length line.widths → length more < 256 → Writable (head_of line) (line.type_byte ∷ fields) line.each more
sayable line ok fields more e h = record { head = (known line ok).head; matched = omega arith; slim = (known line ok).slim; counted = omega arith }
