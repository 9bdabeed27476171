-- A line with a total has the 8-byte number of its two words; two's complement is the reading of who asks, the table's total being two words as well.
use Prim.Native.Nat.{ℕ, ◌<◌, ◌^◌}
use mathlib.Core.Path.{◌≡◌, refl, sym}
use mathlib.Core.List.{[], ◌∷◌, ◌++◌, append-nil}
use Rattle.line_hex.specs.Numbers.{big_endian, eight_of}
use Rattle.line_hex.proofs.Bytes.{eight_is_two_words}
use Rattle.line_shape.specs.Shapes.{written}
use Rattle.line_put.specs.Writing.{line_bytes, written_each}
use Rattle.line_read.specs.Types.{line_of, sum, total}

two_last : (high low : ℕ) → low < 256 ^ 4 → big_endian 4 high ++ (big_endian 4 low ++ []) ≡ big_endian 8 (eight_of high low)
two_last high low h = rw (append-nil (big_endian 4 low)) (sym (eight_is_two_words high low h))

pub sum_is_eight : (high low : ℕ) → low < 256 ^ 4 → line_of sum (high ∷ low ∷ []) [] ≡ big_endian 1 sum.type_byte ++ big_endian 8 (eight_of high low)
unfolding line_bytes written_each written
sum_is_eight high low h = rw (append-nil (written (1 ∷ 4 ∷ 4 ∷ []) (0 ∷ high ∷ low ∷ [])), two_last high low h) refl

pub total_is_eight : (object high low : ℕ) → low < 256 ^ 4 → line_of total (object ∷ high ∷ low ∷ []) [] ≡ big_endian 1 total.type_byte ++ (big_endian 1 object ++ big_endian 8 (eight_of high low))
unfolding line_bytes written_each written
total_is_eight object high low h = rw (append-nil (written (1 ∷ 1 ∷ 4 ∷ 4 ∷ []) (82 ∷ object ∷ high ∷ low ∷ [])), two_last high low h) refl
