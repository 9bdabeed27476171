-- A printed line decodes to its bytes; what stands beyond it stays; a space that is too short stays whole.
use Prim.Native.Nat.{ℕ, ◌*◌, ◌≤◌}
use mathlib.Core.Path.{◌≡◌, refl, ◌∙◌}
use mathlib.Core.Bool.{Bool, true, false}
use mathlib.Core.List.{List, ◌++◌}
use native.Mathlib.Omega.{arith}
use borrow.Author.Tests.{lt-leb}
use lib.Dec.{leb}
use lib.ListN.{length, take, drop}
use lib.Seq.{drop_at, take_at}
use Rattle.line_hex.specs.Choice.{pick}
use Rattle.line_hex.specs.Decoding.{decoded}
use Rattle.line_hex.specs.Hex.{hex_line}
use Rattle.std.proofs.Common.{Result, Ok, Err, Some}
use Rattle.line_hex.proofs.Spelling as hex
use Rattle.line_read.specs.Types.{Line, line_of}
use Rattle.line_read.proofs.Spelling.{all_bytes_line_of}
use Rattle.line_put.specs.Writing.{line_written, too_short}
use Rattle.line_put.specs.declared.TooShort.{TooShort}
use Rattle.line_put.proofs.Whole.{length_hex_line}
use Rattle.line_print.specs.Printed.{printed}

module _ (space : List ℕ) (line : Line) (fields more : List ℕ) where
  abbrev bytes : List ℕ
  bytes = line_of line fields more

  abbrev answer : Bool → Result ℕ TooShort × List ℕ
  answer t = pick t (Ok (length (hex_line bytes)), hex_line bytes ++ drop (length (hex_line bytes)) space) (Err too_short, space)

  pub printed_too_short : length space ≤ 2 * length bytes → printed space line fields more ≡ (Err too_short, space)
  unfolding printed line_written
  printed_too_short h = rw (lt-leb (length (hex_line bytes)) (length space) (omega (arith, length_hex_line bytes))) refl

  module _ (n : ℕ) where
    front : (t : Bool) → (answer t).0 ≡ Ok n → take n (answer t).1 ≡ hex_line bytes
    front true e = take_at (hex_line bytes) (drop (length (hex_line bytes)) space) n (cc)
    front false e = absurd (let z : ◌≡◌ {A = ℕ} 0 1 = cc in omega arith)

    beyond : (t : Bool) → (answer t).0 ≡ Ok n → drop n (answer t).1 ≡ drop n space
    beyond true e = let size : length (hex_line bytes) ≡ n = cc in drop_at (hex_line bytes) (drop (length (hex_line bytes)) space) n size ∙ rw size refl
    beyond false e = absurd (let z : ◌≡◌ {A = ℕ} 0 1 = cc in omega arith)

    -- what is printed is the one line of its bytes
    pub printed_line : (printed space line fields more).0 ≡ Ok n → take n (printed space line fields more).1 ≡ hex_line bytes
    unfolding printed line_written
    printed_line = front (leb (length (hex_line bytes)) (length space))

    pub printed_beyond : (printed space line fields more).0 ≡ Ok n → drop n (printed space line fields more).1 ≡ drop n space
    unfolding printed line_written
    printed_beyond = beyond (leb (length (hex_line bytes)) (length space))

    pub printed_reads_back : (buffer : List ℕ) → (printed space line fields more).0 ≡ Ok n → length bytes ≤ length buffer
        → decoded (take n (printed space line fields more).1) buffer ≡ (Some (length bytes), bytes ++ drop (length bytes) buffer)
    printed_reads_back buffer e h = rw (printed_line e) (hex.line_reads_back bytes buffer (all_bytes_line_of line fields more) h)
