-- Numbers that are added up: a number byte by byte, and the sum of widths.
use Rattle.std.proofs.Common.{◌≡◌, ℕ, ◌+◌, ◌*◌, ◌≤◌, ◌<◌, ◌^◌, List, [], ◌∷◌, length, get_or, drop, sum, Fits, w32, refl, sym, ◌∙◌, ap, arith, add-one, drop-cons}
use native.Mathlib.Nat.{pow-le-pow_right, pow-succ'}
use lib.ListN.{drop_of_length-le}
use Rattle.std.proofs.lemmas.List.Sums.{sum_by-cons}
use Rattle.line_hex.specs.Numbers.{number_from, number_of}
use Rattle.line_shape.specs.Shapes.{length_of}

-- `i` bytes are counted in `number`
pub record Counting (bytes : List ℕ) (number i : ℕ) : Type 0 where
  pub same : number_of bytes ≡ number_from number (drop i bytes)
  pub small : number < 256 ^ i

pub counting_start : (bytes : List ℕ) → Counting bytes 0 0
counting_start bytes = record { same = refl; small = omega arith }

module _ (bytes : List ℕ) (number i : ℕ) (C : Counting bytes number i) where
  counting_room : i < 4 → (number + 1) * 256 ≤ 256 ^ 4
  counting_room h = let most : 256 ^ i ≤ 256 ^ 3 = pow-le-pow_right {n = 256} (omega arith) {i = i} {j = 3} (omega arith) in omega (arith, C.small)

  pub counting_shift : i < 4 → Fits w32 (number * 256)
  counting_shift h = omega (arith, counting_room h)

  pub counting_add : (b : ℕ) → b < 256 → i < 4 → Fits w32 (number * 256 + b)
  counting_add b k h = omega (arith, counting_room h)

  pub counting_turn : (b : ℕ) → b < 256 → i < length bytes → b ≡ get_or bytes i 0 → Counting bytes (number * 256 + b) (i + 1)
  unfolding number_from
  counting_turn b k h e =
      let more : 256 ^ (i + 1) ≡ 256 * 256 ^ i = rw (add-one i) (pow-succ' 256 i) in
      record { same = C.same ∙ rw (drop-cons bytes i 0 h, e, add-one i) refl; small = omega (arith, C.small) }

  pub counting_done : length bytes ≤ i → number ≡ number_of bytes
  unfolding number_from
  counting_done h = sym (C.same ∙ rw (drop_of_length-le bytes h) refl)

-- the length of a shape is the sum of its widths
pub length_of_sum : (widths : List ℕ) → sum widths ≡ length_of widths
unfolding length_of
length_of_sum [] = refl
length_of_sum (w ∷ widths) = sum_by-cons (λ x. x) w widths ∙ ap (λ n. w + n) (length_of_sum widths)
