-- The whole line in its space: the ways through write_fields.
use Prim.Native.Nat.{ℕ, suc, ◌+◌, ◌-◌, ◌*◌, ◌≤◌, ◌<◌}
use mir.Val.{Fits}
use mir.Syntax.{w64}
use mathlib.Core.Path.{◌≡◌, refl, ap, ◌∙◌}
use mathlib.Core.Bool.{Bool, true, false}
use mathlib.Core.List.{List, [], ◌∷◌, ◌++◌, append_assoc}
use native.Mathlib.Nat.{mul-le-mul}
use native.Mathlib.Omega.{arith}
use borrow.Author.Tests.{le-leb, lt-leb}
use lib.Dec.{leb}
use lib.ListN.{length, drop, set, length-append}
use lib.Seq.{drop-cons, set_at}
use Rattle.line_hex.specs.Choice.{pick}
use Rattle.line_hex.specs.Hex.{digits_of, hex_line, lf}
use Rattle.line_hex.specs.Putting.{digits_at, end_at, place_after, put_at}
use Rattle.line_hex.proofs.Writing.{digits_at_append, length_digits, length_digits_at}
use Rattle.line_shape.specs.Shapes.{length_of, written}
use Rattle.line_shape.proofs.Spelling.{length_written}
use Rattle.line_shape.proofs.Taking.{head_small}
use Rattle.line_put.specs.Writing.{line_bytes, line_written, refusal_of, too_short, Writable, written_each, two_byte_limit}
use Rattle.line_put.specs.declared.TooShort.{TooShort}
use Rattle.std.proofs.Common.{Result, Ok, Err}
use Rattle.line_put.proofs.Laying.{length_written_each}

pub length_hex_line : (bytes : List ℕ) → length (hex_line bytes) ≡ 2 * length bytes + 1
unfolding hex_line
length_hex_line bytes = length-append (digits_of bytes) (lf ∷ []) ∙ rw (length_digits bytes) refl

-- digits from the front, and LF behind them, are the line
line_laid : (space bytes : List ℕ) → 2 * length bytes < length space → set (digits_at space 0 bytes) (2 * length bytes) lf ≡ hex_line bytes ++ drop (length (hex_line bytes)) space
unfolding digits_at hex_line
line_laid space bytes h =
    let size : length (digits_of bytes ++ (lf ∷ [])) ≡ suc (2 * length bytes) = length-append (digits_of bytes) (lf ∷ []) ∙ rw (length_digits bytes) (omega arith) in
    let front : 0 + 2 * length bytes ≡ 2 * length bytes = omega arith in
    rw (size, front, drop-cons space (2 * length bytes) 0 h, append_assoc (digits_of bytes) (lf ∷ []) (drop (suc (2 * length bytes)) space)) (set_at (digits_of bytes) _ (drop (suc (2 * length bytes)) space) lf (2 * length bytes) (length_digits bytes))

module _ (space widths fields : List ℕ) (width : ℕ) (numbers : List ℕ) (W : Writable widths fields width numbers) where
  each_small : width * length numbers ≤ 4 * (two_byte_limit - 1)
  each_small = let few : length numbers ≤ two_byte_limit - 1 = omega (arith, W.counted) in omega (arith, mul-le-mul W.slim few)

  size_of_line : length (line_bytes widths fields width numbers) ≡ length_of widths + width * length numbers
  unfolding line_bytes
  size_of_line = length-append (written widths fields) (written_each width numbers) ∙ rw (length_written widths fields W.matched, length_written_each width numbers) refl

  pub each_fits : Fits w64 (width * length numbers)
  each_fits = omega (arith, each_small)

  pub size_fits : (h : ℕ) → h ≡ length_of widths → Fits w64 (h + width * length numbers)
  size_fits h e = omega (arith, each_small, head_small widths W.head)

  pub double_fits : (h : ℕ) → h ≡ length_of widths → Fits w64 (2 * (h + width * length numbers))
  double_fits h e = omega (arith, each_small, head_small widths W.head)

  pub write_short : (h : ℕ) → h ≡ length_of widths → length space ≤ 2 * (h + width * length numbers) → (Err too_short, space) ≡ line_written space (line_bytes widths fields width numbers)
  unfolding line_written
  write_short h e k = rw (lt-leb (length (hex_line (line_bytes widths fields width numbers))) (length space) (omega (arith, length_hex_line (line_bytes widths fields width numbers), size_of_line))) refl

  module _ (h : ℕ) (e : h ≡ length_of widths) (room : 2 * (h + width * length numbers) ≤ length space) (at : ℕ) (first : List ℕ) (p : (at, first) ≡ put_at space 0 (written widths fields)) where
    at_is : at ≡ place_after 0 (written widths fields)
    unfolding put_at
    at_is = ap (λ (q : ℕ × List ℕ). q.0) p

    first_is : first ≡ digits_at space 0 (written widths fields)
    unfolding put_at
    first_is = ap (λ (q : ℕ × List ℕ). q.1) p

    head_fits : place_after 0 (written widths fields) ≤ length space
    head_fits = omega (arith, length_written widths fields W.matched)

    first_long : length first ≡ length space
    first_long = ap length first_is ∙ length_digits_at space 0 (written widths fields) head_fits

    pub write_room : at + 2 * (width * length numbers) ≤ length first
    write_room = omega (arith, first_long, at_is, length_written widths fields W.matched)

    module _ (end : ℕ) (second : List ℕ) (q : (end, second) ≡ put_at first at (written_each width numbers)) where
      end_is : end ≡ 2 * length (line_bytes widths fields width numbers)
      unfolding put_at
      end_is = ap (λ (q : ℕ × List ℕ). q.0) q ∙ omega (arith, at_is, size_of_line, length_written widths fields W.matched, length_written_each width numbers)

      second_is : second ≡ digits_at space 0 (line_bytes widths fields width numbers)
      unfolding put_at line_bytes
      second_is = ap (λ (q : ℕ × List ℕ). q.1) q ∙ rw (at_is, first_is) (digits_at_append space 0 (written widths fields) head_fits (written_each width numbers))

      pub write_end : 2 * (h + width * length numbers) < length space → length second ≡ length first → end < length second
      write_end more l = omega (arith, l, first_long, end_is, size_of_line)

      pub write_done : 2 * (h + width * length numbers) < length space → (size : ℕ) (third : List ℕ) → (size, third) ≡ end_at second end → (Ok size, third) ≡ line_written space (line_bytes widths fields width numbers)
      unfolding line_written
      write_done more size third r =
          let long : size ≡ length (hex_line (line_bytes widths fields width numbers)) = ap (λ (q : ℕ × List ℕ). q.0) r ∙ omega (arith, end_is, length_hex_line (line_bytes widths fields width numbers)) in
          let fits : 2 * length (line_bytes widths fields width numbers) < length space = omega (arith, size_of_line) in
          let whole : third ≡ hex_line (line_bytes widths fields width numbers) ++ drop (length (hex_line (line_bytes widths fields width numbers))) space = ap (λ (q : ℕ × List ℕ). q.1) r ∙ rw (second_is, end_is) (line_laid space (line_bytes widths fields width numbers) fits) in
          rw (le-leb (length (hex_line (line_bytes widths fields width numbers))) (length space) (omega (arith, length_hex_line (line_bytes widths fields width numbers))), whole, long) refl

-- refused with 10 exactly where the space is too short
pub refused_when_short : (space bytes : List ℕ) → refusal_of (line_written space bytes).0 ≡ pick (leb (length (hex_line bytes)) (length space)) 0 10
unfolding line_written
refused_when_short space bytes = go (leb (length (hex_line bytes)) (length space))
  where
    go : (t : Bool) → refusal_of (pick {A = Result ℕ TooShort × List ℕ} t (Ok (length (hex_line bytes)), hex_line bytes ++ drop (length (hex_line bytes)) space) (Err too_short, space)).0 ≡ pick t 0 10
    go true = refl
    go false = refl
