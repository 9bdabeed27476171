-- What the laws ask of a type of line, by a test that computes.
use Prim.Native.Nat.{◌≤◌, ◌<◌}
use mathlib.Core.Path.{◌≡◌}
use mathlib.Core.Bool.{Bool, true, ◌&&◌}
use borrow.Author.Tests.{leb-true, ltb-true}
use lib.Dec.{leb, ltb}
use lib.ListN.{length}
use Rattle.line_hex.proofs.Digits.{and_left, and_right}
use Rattle.line_shape.specs.Reading.{Head}
use Rattle.line_shape.specs.Shapes.{narrow}
use Rattle.line_shape.proofs.Taking.{is_head}
use Rattle.line_read.specs.Types.{head_of, Line}

pub record Known (line : Line) : Type 0 where
  pub head : Head (head_of line)
  pub small : line.type_byte < 256
  pub slim : line.each ≤ 4

abbrev pub sound : Line → Bool
sound line = (leb (length (head_of line)) 6 && narrow (head_of line)) && (ltb line.type_byte 256 && leb line.each 4)

pub known : (line : Line) → sound line ≡ true → Known line
known line h =
    let front : leb (length (head_of line)) 6 && narrow (head_of line) ≡ true = and_left (leb (length (head_of line)) 6 && narrow (head_of line)) (ltb line.type_byte 256 && leb line.each 4) h in
    let back : ltb line.type_byte 256 && leb line.each 4 ≡ true = and_right (leb (length (head_of line)) 6 && narrow (head_of line)) (ltb line.type_byte 256 && leb line.each 4) h in
    record {
      head = is_head (head_of line) front;
      small = ltb-true line.type_byte 256 (and_left (ltb line.type_byte 256) (leb line.each 4) back);
      slim = leb-true line.each 4 (and_right (ltb line.type_byte 256) (leb line.each 4) back);
    }
