-- Digits written at a place: a number from its last byte on, and one piece after the other.
use Prim.Native.Nat.{ℕ, zero, suc, ◌+◌, ◌-◌, ◌*◌, ◌/◌, ◌%◌, ◌≤◌, ◌<◌}
use mathlib.Core.Path.{◌≡◌, refl, sym, ap, ◌∙◌}
use mathlib.Core.List.{List, [], ◌∷◌, ◌++◌, append_assoc}
use native.Mathlib.Numerals.{add-one, add-two}
use native.Mathlib.Omega.{arith}
use lib.ListN.{length, get_or, take, drop, set, length-append, length-drop, length-set, take-append-drop}
use lib.Seq.{drop_at, drop-cons, drop-drop, drop-set-lt, get_or-set_other, get_or-set_same, length-take-le, take_at, take-set-le}
use Rattle.line_hex.specs.Hex.{digit_of, digits_of}
use Rattle.line_hex.specs.Numbers.{big_endian}
use Rattle.line_hex.specs.Putting.{digits_at, place_after, put_at}
use Rattle.line_hex.proofs.Bytes.{length_big_endian}

pub digits_append : (a b : List ℕ) → digits_of (a ++ b) ≡ digits_of a ++ digits_of b
unfolding digits_of
digits_append [] b = refl
digits_append (x ∷ a) b = ap (λ (l : List ℕ). digit_of (x / 16) ∷ digit_of (x % 16) ∷ l) (digits_append a b)

pub length_digits : (bs : List ℕ) → length (digits_of bs) ≡ 2 * length bs
unfolding digits_of
length_digits [] = refl
length_digits (b ∷ bs) = rw (length_digits bs) (omega arith)

two_set : (s : List ℕ) (p a b : ℕ) → p + 2 ≤ length s → drop p (set (set s p a) (p + 1) b) ≡ a ∷ b ∷ drop (p + 2) s
two_set s p a b h =
    let t : List ℕ = set (set s p a) (p + 1) b in
    let long : length t ≡ length s = simp length-set in
    let first : get_or t p 0 ≡ a = get_or-set_other (set s p a) (p + 1) p b 0 (omega arith) ∙ get_or-set_same s p a 0 (omega arith) in
    let second : get_or t (suc p) 0 ≡ b = rw (← add-one p) (get_or-set_same (set s p a) (p + 1) b 0 (rw (length-set s p a) (omega arith))) in
    let rest : drop (suc (suc p)) t ≡ drop (p + 2) s = rw (← add-two p) (drop-set-lt (p + 2) (set s p a) (p + 1) b (omega arith) ∙ drop-set-lt (p + 2) s p a (omega arith)) in
    drop-cons t p 0 (omega arith) ∙ rw (first, drop-cons t (suc p) 0 (omega arith), second, rest) refl

-- the digits of a number's last byte, behind those of the bytes before it
last_byte : (left rest : ℕ) → 0 < left → digits_of (big_endian left rest) ≡ digits_of (big_endian (left - 1) (rest / 256)) ++ (digit_of (rest / 16 % 16) ∷ digit_of (rest % 16) ∷ [])
unfolding big_endian digits_of
last_byte zero rest h = absurd (omega arith)
last_byte (suc left) rest h =
    let q : rest % 256 / 16 ≡ rest / 16 % 16 = omega arith in
    let r : rest % 256 % 16 ≡ rest % 16 = omega arith in
    let less : suc left - 1 ≡ left = omega arith in
    rw less (digits_append (big_endian left (rest / 256)) (rest % 256 ∷ []) ∙ rw (q, r) refl)

-- what is left to write: so many bytes of `rest`, in front of what stands behind them
abbrev pub Putting : List ℕ → ℕ → ℕ → ℕ → List ℕ → ℕ → ℕ → Type 0
Putting out₀ at number width out left rest = digits_at out₀ at (big_endian width number) ≡ digits_at out at (big_endian left rest)

pub putting_turn : (out : List ℕ) (at left rest d e : ℕ) → 0 < left → at + 2 * left ≤ length out → d ≡ digit_of (rest / 16 % 16) → e ≡ digit_of (rest % 16) → digits_at out at (big_endian left rest) ≡ digits_at (set (set out (at + 2 * (left - 1)) d) (at + 2 * (left - 1) + 1) e) at (big_endian (left - 1) (rest / 256))
unfolding digits_at big_endian digits_of
putting_turn out at left rest d e h room ed ee =
    let here : at + 2 * length (big_endian (left - 1) (rest / 256)) ≡ at + 2 * (left - 1) = rw (length_big_endian (left - 1) (rest / 256)) refl in
    let there : at + 2 * length (big_endian left rest) ≡ at + 2 * (left - 1) + 2 = rw (length_big_endian left rest) (omega arith) in
    let front : take at (set (set out (at + 2 * (left - 1)) d) (at + 2 * (left - 1) + 1) e) ≡ take at out = take-set-le at (set out (at + 2 * (left - 1)) d) (at + 2 * (left - 1) + 1) e (omega arith) ∙ take-set-le at out (at + 2 * (left - 1)) d (omega arith) in
    rw (there, here, front, two_set out (at + 2 * (left - 1)) d e (omega arith), last_byte left rest h, append_assoc, ed, ee) refl

pub putting_done : (out₀ : List ℕ) (at number width : ℕ) (out : List ℕ) (rest : ℕ) → Putting out₀ at number width out 0 rest → (at + 2 * width, out) ≡ put_at out₀ at (big_endian width number)
unfolding put_at digits_at big_endian digits_of
putting_done out₀ at number width out rest P =
    let here : at + 0 ≡ at = omega arith in
    let whole : out ≡ digits_at out₀ at (big_endian width number) = sym (P ∙ rw here (take-append-drop at out)) in
    let after : at + 2 * width ≡ place_after at (big_endian width number) = rw (length_big_endian width number) refl in
    cc whole

-- one piece after the other is both at once
module _ (space : List ℕ) (at : ℕ) (a : List ℕ) (fits : place_after at a ≤ length space) where
  front_length : length (take at space ++ digits_of a) ≡ place_after at a
  front_length = rw (length-append (take at space) (digits_of a), length-take-le at space (omega arith), length_digits a) refl

  pub length_digits_at : length (digits_at space at a) ≡ length space
  unfolding digits_at
  length_digits_at =
      rw (← append_assoc (take at space) (digits_of a) (drop (place_after at a) space), length-append (take at space ++ digits_of a) (drop (place_after at a) space), front_length, length-drop (place_after at a) space) (omega arith)

  pub digits_at_append : (b : List ℕ) → digits_at (digits_at space at a) (place_after at a) b ≡ digits_at space at (a ++ b)
  unfolding digits_at
  digits_at_append b =
      let far : place_after at (a ++ b) ≡ place_after at a + 2 * length b = rw (length-append a b) (omega arith) in
      rw (far, digits_append a b, ← append_assoc (take at space) (digits_of a) (drop (place_after at a) space), ← drop-drop (2 * length b) (place_after at a) ((take at space ++ digits_of a) ++ drop (place_after at a) space), take_at (take at space ++ digits_of a) (drop (place_after at a) space) (place_after at a) front_length, drop_at (take at space ++ digits_of a) (drop (place_after at a) space) (place_after at a) front_length, drop-drop (2 * length b) (place_after at a) space)
      (simp append_assoc)
