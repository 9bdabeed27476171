-- What is decoded of a line stands at the front of the buffer, and is bytes.
use Prim.Native.Nat.{ℕ, ◌≤◌, ◌-◌}
use mathlib.Core.Path.{◌≡◌, refl, sym, ap, ap₂, ◌∙◌}
use mathlib.Core.Bool.{Bool, true, false}
use mathlib.Core.List.{List, [], ◌++◌}
use native.Mathlib.Omega.{arith}
use lib.ListN.{length, take, drop, length-append}
use lib.Seq.{take_at}
use Rattle.meaning.proofs.Tests.{cases}
use Rattle.std.proofs.Common.{Option, Some, None}
use Rattle.std.specs.Option.{unwrap_or}
use Rattle.line_hex.specs.Choice.{pick}
use Rattle.line_hex.specs.Hex.{hex_line}
use Rattle.line_hex.specs.Numbers.{AllBytes}
use Rattle.line_hex.proofs.Spelling.{all_bytes_pairs, line_reads_back}
use Rattle.line_hex.specs.Decoding.{decoded, is_line, line_type, pairs}
use Rattle.line_decode.specs.Decoding.{byte_of_type, bytes_of, decoded_into, type_of}
use Rattle.line_read.specs.Types.{longest}

module _ (line buffer : List ℕ) (long : length buffer ≡ longest) where
  count_of : (b : Bool) → unwrap_or (pick b (Some (length (pairs longest line))) None) 0 ≡ length (pick b (pairs longest line) [])
  count_of true = refl
  count_of false = refl

  pub heard_as : (r : Option ℕ) (x : List ℕ) → (r, x) ≡ decoded line buffer → (unwrap_or r 0, x) ≡ decoded_into line buffer
  unfolding decoded_into bytes_of decoded
  heard_as r x e = ap₂ (λ (n : ℕ) (l : List ℕ). (n, l)) (ap (λ (p : Option ℕ × List ℕ). unwrap_or p.0 0) e ∙ rw long (count_of (is_line longest line))) (ap (λ (p : Option ℕ × List ℕ). p.1) e)

  -- the front of the buffer
  module _ (n : ℕ) (x : List ℕ) (e : (n, x) ≡ decoded_into line buffer) where
    count_is : n ≡ length (bytes_of line)
    unfolding decoded_into
    count_is = ap (λ (p : ℕ × List ℕ). p.0) e

    buffer_is : x ≡ pairs longest line ++ drop (length (pairs longest line)) buffer
    unfolding decoded_into decoded
    buffer_is = ap (λ (p : ℕ × List ℕ). p.1) e ∙ rw long refl

    pub heard_front : take (n - 0) x ≡ bytes_of line
    unfolding bytes_of
    heard_front =
        let z : n - 0 ≡ n = omega arith in
        rw (z, buffer_is) (cases (is_line longest line)
        (λ b. rw b (take_at (pairs longest line) (drop (length (pairs longest line)) buffer) n (sym (count_is ∙ rw b refl))))
        (λ b. let m : n ≡ 0 = count_is ∙ rw b refl in rw (b, m) refl))

    pub heard_room : n ≤ length x
    unfolding bytes_of
    heard_room = omega (arith, count_is, fewer (is_line longest line), ap length buffer_is, length-append (pairs longest line) (drop (length (pairs longest line)) buffer))
      where
        fewer : (b : Bool) → length (pick b (pairs longest line) []) ≤ length (pairs longest line)
        fewer true = omega arith
        fewer false = omega arith

-- each is a byte
pub decoded_bytes : (line : List ℕ) → AllBytes (bytes_of line)
unfolding bytes_of AllBytes
decoded_bytes line = cases (is_line longest line) (λ b. rw b (all_bytes_pairs longest line)) (λ b. rw b tt)

-- the type of a line
pub type_read : (line : List ℕ) (t : Option ℕ) → t ≡ line_type line → unwrap_or t 0 ≡ type_of line
unfolding type_of
type_read line t e = ap (λ (o : Option ℕ). unwrap_or o 0) e ∙ read (line_type line)
  where
    read : (o : Option ℕ) → unwrap_or o 0 ≡ byte_of_type o
    read None = refl
    read (Some byte) = refl

-- what is decoded of the one spelling of bytes is these bytes
pub bytes_back : (bs buffer : List ℕ) → AllBytes bs → length buffer ≡ longest → length bs ≤ longest → bytes_of (hex_line bs) ≡ bs
bytes_back bs buffer h long few =
    let whole = bs ++ drop (length bs) buffer in
    let none : length bs - 0 ≡ length bs = omega arith in
    sym (heard_front (hex_line bs) buffer long (length bs) whole (heard_as (hex_line bs) buffer long (Some (length bs)) whole (sym (line_reads_back bs buffer h (omega (arith, long))))))
    ∙ rw none (take_at bs (drop (length bs) buffer) (length bs) refl)
