-- Characters and fields at once: what is written for a line decodes and reads back, and characters that decode and read are those that would be written.
use Prim.Native.Nat.{ℕ, ◌≤◌}
use mathlib.Core.Path.{◌≡◌, refl, ap, ◌∙◌}
use mathlib.Core.Bool.{true}
use mathlib.Core.List.{List, ◌∷◌, ◌++◌}
use lib.ListN.{length, take, drop}
use lib.Seq.{take_at}
use Rattle.line_hex.specs.Decoding.{decoded}
use Rattle.line_hex.specs.Hex.{hex_line}
use Rattle.std.proofs.Common.{Ok, Some}
use Rattle.line_hex.proofs.Spelling as hex
use Rattle.line_shape.specs.Shapes.{Fitting, read}
use Rattle.line_read.specs.Types.{is_of, Line, line_of, shape_of, spelt}
use Rattle.line_read.proofs.Known.{Known}
use Rattle.line_read.proofs.Spelling.{line_of_spelt, only_spelling, reads_back, spelt_is_of}
use Rattle.line_print.specs.Printed.{printed}
use Rattle.line_print.proofs.Spelling.{printed_reads_back}

-- the bytes that decoding leaves at the front of a buffer
abbrev pub taken : ℕ → List ℕ → List ℕ → List ℕ
taken count line buffer = take count (decoded line buffer).1

-- characters that decode to so many bytes, which are a line of the type and read as these fields
pub record Back (line : Line) (more : ℕ) (fields characters buffer : List ℕ) (count : ℕ) : Type 0 where
  pub told : (decoded characters buffer).0 ≡ Some count
  pub typed : is_of line more (taken count characters buffer) ≡ true
  pub fielded : read (shape_of line more) (taken count characters buffer) ≡ line.type_byte ∷ fields

-- what is written reads back
pub characters_read_back : (space buffer : List ℕ) (line : Line) (fields more : List ℕ) (n : ℕ) → Known line → length fields ≡ length line.widths → Fitting (shape_of line (length more)) (line.type_byte ∷ (fields ++ more))
    → (printed space line fields more).0 ≡ Ok n → length (line_of line fields more) ≤ length buffer
    → Back line (length more) (fields ++ more) (take n (printed space line fields more).1) buffer (length (line_of line fields more))
characters_read_back space buffer line fields more n K many fit e room =
    let bytes : List ℕ = line_of line fields more in
    let whole : decoded (take n (printed space line fields more).1) buffer ≡ (Some (length bytes), bytes ++ drop (length bytes) buffer) = printed_reads_back space line fields more n buffer e room in
    let front : taken (length bytes) (take n (printed space line fields more).1) buffer ≡ spelt line (length more) (fields ++ more) =
    ap (λ (p : _ × List ℕ). take (length bytes) p.1) whole ∙ take_at bytes (drop (length bytes) buffer) (length bytes) refl ∙ line_of_spelt line fields more many in
    record {
      told = ap (λ (p : _ × List ℕ). p.0) whole;
      typed = rw front (spelt_is_of line (length more) K (fields ++ more) fit);
      fielded = rw front (reads_back line (length more) (fields ++ more) fit);
    }

-- whatever is read is what would be written
pub characters_only_spelling : (characters buffer : List ℕ) (count : ℕ) (line : Line) (more : ℕ) → (decoded characters buffer).0 ≡ Some count → is_of line more (taken count characters buffer) ≡ true
    → hex_line (spelt line more (drop 1 (read (shape_of line more) (taken count characters buffer)))) ≡ characters
characters_only_spelling characters buffer count line more told typed =
    ap hex_line (only_spelling line more (taken count characters buffer) (hex.all_bytes_decoded characters buffer count told) typed) ∙ hex.decoded_only_spelling characters buffer count told
