-- Decoding: the pairs of digits of a line, one after the other, and where they end.
use Prim.Native.Nat.{ℕ, zero, suc, ◌+◌, ◌-◌, ◌*◌, ◌≤◌, ◌<◌}
use mathlib.Core.Path.{◌≡◌, refl, sym, ap, ◌∙◌}
use mathlib.Core.Bool.{Bool, true, false, ◌&&◌}
use mathlib.Core.List.{List, [], ◌∷◌, ◌++◌, append-nil}
use native.Mathlib.Numerals.{add-one}
use native.Mathlib.Omega.{arith}
use lib.ListN.{length, get_or, take, drop, set, length-drop, length-set, drop_of_length-le, take-append-drop}
use lib.Seq.{append_snoc, drop-cons, drop-drop, drop-set-lt, length-take-le, take_all, take-suc-set}
use lib.Dec.{eqb}
use denote.Bor.{Bor}
use Rattle.std.proofs.Common.{Option, Some, None}
use Rattle.std.proofs.lemmas.Option.{none-some}
use Rattle.std.specs.List.{slice_get, slice_range}
use Rattle.std.specs.Option.{option_copied, option_eq}
use Rattle.line_hex.specs.Choice.{pick}
use Rattle.line_hex.specs.Hex.{digit_value, is_digit, lf, value_of}
use Rattle.line_hex.specs.Decoding.{byte_of, decoded, ended_at, is_line, just_lf, pair_of, pairs}
use Rattle.line_hex.proofs.Digits.{none_read, value_read}

-- the ways through pair_at
module _ (s : List ℕ) (at : ℕ) where
  pub pair_none : length s ≤ at → None ≡ pair_of (drop at s)
  unfolding pair_of
  pair_none h = rw (drop_of_length-le s h) refl

  pub pair_one : at < length s → length s ≤ at + 1 → None ≡ pair_of (drop at s)
  unfolding pair_of
  pair_one h k = let past : length s ≤ suc at = omega arith in rw (drop-cons s at 0 h, drop_of_length-le s past) refl

  pub pair_first : at < length s → (x : ℕ) → x ≡ get_or s at 0 → None ≡ digit_value x → None ≡ pair_of (drop at s)
  unfolding pair_of
  pair_first h x i e = rw (drop-cons s at 0 h, ← i) (go (drop (suc at) s))
    where
      go : (l : List ℕ) → None ≡ pair_of (x ∷ l)
      go [] = refl
      go (y ∷ l) = rw (none_read x e) refl

  -- two characters there
  module _ (k : at + 1 < length s) (x y : ℕ) (i : x ≡ get_or s at 0) (j : y ≡ get_or s (at + 1) 0) where
    two_there : pair_of (drop at s) ≡ pick (is_digit x && is_digit y) (Some (byte_of x y)) None
    unfolding pair_of
    two_there = rw (drop-cons s at 0 (omega arith), drop-cons s (suc at) 0 (omega arith), i, j, add-one at) refl

    pub pair_second : (v : ℕ) → Some v ≡ digit_value x → None ≡ digit_value y → None ≡ pair_of (drop at s)
    pair_second v e f = sym (two_there ∙ rw ((value_read x v e).0, none_read y f) refl)

    pub pair_byte : (v w : ℕ) → Some v ≡ digit_value x → Some w ≡ digit_value y → Some (v * 16 + w) ≡ pair_of (drop at s)
    pair_byte v w e f =
        let high : (is_digit x ≡ true) × (v ≡ value_of x) × (v < 16) = value_read x v e in
        let low : (is_digit y ≡ true) × (w ≡ value_of y) × (w < 16) = value_read y w f in
        sym (two_there ∙ rw (high.0, low.0, high.1, low.1) refl)

-- one LF alone, by the number of the characters and the last of them
module _ (last : Option (Bor ℕ)) (one : Bor ℕ) (f : one.now ≡ lf) where
  abbrev last_is : Bool
  last_is = option_eq (λ x y. eqb x.now y.now) last (Some one)

  alone_is : (l : List ℕ) → length l ≤ 1 → option_copied last ≡ slice_get l (length l - 1) → last_is ≡ just_lf l
  unfolding just_lf
  alone_is l h e = go l last h e
    where
      go : (l : List ℕ) (o : Option (Bor ℕ)) → length l ≤ 1 → option_copied o ≡ slice_get l (length l - 1) → option_eq (λ x y. eqb x.now y.now) o (Some one) ≡ just_lf l
      go [] None h e = refl
      go [] (Some x) h e = absurd (none-some x.now (sym e))
      go (c ∷ []) None h e = absurd (none-some c e)
      go (c ∷ []) (Some x) h e = let same : x.now ≡ c = cc in rw (same, f) refl
      go (c ∷ d ∷ l) o h e = absurd (omega arith)

  other_is : (l : List ℕ) → option_copied last ≡ slice_get l (length l - 1) → last_is ≡ false → just_lf l ≡ false
  unfolding just_lf
  other_is [] e g = refl
  other_is (c ∷ []) e g = sym (alone_is (c ∷ []) (omega arith) e) ∙ g
  other_is (c ∷ d ∷ l) e g = refl

many_is : (l : List ℕ) → (length l ≡ 1 → ⊥) → just_lf l ≡ false
unfolding just_lf
many_is [] h = refl
many_is (c ∷ []) h = absurd (h refl)
many_is (c ∷ d ∷ l) h = refl

-- the ways through ended_at
module _ (s : List ℕ) (at count : ℕ) where
  pub ended_past : length s ≤ at → None ≡ ended_at s at count
  unfolding just_lf
  ended_past h = rw (drop_of_length-le s h) refl

  module _ (rest : List ℕ) (r : rest ≡ slice_range s at (length s)) where
    left : rest ≡ drop at s
    left = r ∙ take_all (length s - at) (drop at s) (omega (arith, length-drop at s))

    pub ended_many : (length rest ≡ 1 → ⊥) → None ≡ ended_at s at count
    ended_many h = rw (← left, many_is rest h) refl

    module _ (t : Bool) (last : Option (Bor ℕ)) (one : Bor ℕ) (f : one.now ≡ lf) (e : t ≡ option_eq (λ x y. eqb x.now y.now) last (Some one)) (l : option_copied last ≡ slice_get rest (length rest - 1)) where
      pub ended_lf : length rest ≤ 1 → t ≡ true → Some count ≡ ended_at s at count
      ended_lf h g = rw (← left, ← alone_is last one f rest h l, ← e, g) refl

      pub ended_other : t ≡ false → None ≡ ended_at s at count
      ended_other g = rw (← left, other_is last one f rest l (sym e ∙ g)) refl

-- the pairs from the front: one more, or none
pairs_byte : (room : ℕ) (s : List ℕ) (b : ℕ) → pair_of s ≡ Some b → pairs (suc room) s ≡ b ∷ pairs room (drop 2 s)
unfolding pairs pair_of
pairs_byte room [] b e = absurd (let z : ◌≡◌ {A = ℕ} 0 1 = cc in omega arith)
pairs_byte room (h ∷ []) b e = absurd (let z : ◌≡◌ {A = ℕ} 0 1 = cc in omega arith)
pairs_byte room (h ∷ l ∷ s) b e = go (is_digit h && is_digit l) e
  where
    go : (t : Bool) → pick t (Some (byte_of h l)) None ≡ Some b → pick t (byte_of h l ∷ pairs room s) [] ≡ b ∷ pairs room s
    go true e = cc
    go false e = absurd (let z : ◌≡◌ {A = ℕ} 0 1 = cc in omega arith)

pairs_other : (room : ℕ) (s : List ℕ) → pair_of s ≡ None → pairs room s ≡ []
unfolding pairs pair_of
pairs_other zero s e = refl
pairs_other (suc room) [] e = refl
pairs_other (suc room) (h ∷ []) e = refl
pairs_other (suc room) (h ∷ l ∷ s) e = go (is_digit h && is_digit l) e
  where
    go : (t : Bool) → pick t (Some (byte_of h l)) None ≡ None → pick t (byte_of h l ∷ pairs room s) [] ≡ []
    go true e = absurd (let z : ◌≡◌ {A = ℕ} 0 1 = cc in omega arith)
    go false e = refl

-- `count` bytes are in the buffer, and the line goes on behind their characters
pub record Decoding (line buffer₀ buffer : List ℕ) (count : ℕ) : Type 0 where
  pub left : pairs (length buffer₀) line ≡ take count buffer ++ pairs (length buffer₀ - count) (drop (2 * count) line)
  pub rest : drop count buffer ≡ drop count buffer₀
  pub long : length buffer ≡ length buffer₀
  pub room : count ≤ length buffer₀

pub decoding_start : (line buffer : List ℕ) → Decoding line buffer buffer 0
decoding_start line buffer = record { left = let whole : length buffer - 0 ≡ length buffer = omega arith in rw whole refl; rest = refl; long = refl; room = omega arith }

module _ (line buffer₀ buffer : List ℕ) (count : ℕ) (D : Decoding line buffer₀ buffer count) where
  pub decoding_turn : (b : ℕ) → count < length buffer → Some b ≡ pair_of (drop (2 * count) line) → Decoding line buffer₀ (set buffer count b) (count + 1)
  decoding_turn b lt e =
      let more : length buffer₀ - count ≡ suc (length buffer₀ - (count + 1)) = omega (arith, D.long) in
      let next : 2 * (count + 1) ≡ 2 * count + 2 = omega arith in
      record {
        left = D.left ∙ rw (more, pairs_byte (length buffer₀ - (count + 1)) (drop (2 * count) line) b (sym e), drop-drop 2 (2 * count) line, next, add-one count, take-suc-set buffer count b lt) (sym (append_snoc (take count buffer) b _));
        rest = drop-set-lt (count + 1) buffer count b (omega arith) ∙ rw (← drop-drop 1 count buffer, ← drop-drop 1 count buffer₀, D.rest) refl;
        long = length-set buffer count b ∙ D.long;
        room = omega (arith, D.long);
      }

  -- no pair is left: what stands there decides
  ended : (r : Option ℕ) → pairs (length buffer₀ - count) (drop (2 * count) line) ≡ [] → r ≡ ended_at line (2 * count) count → (r, buffer) ≡ decoded line buffer₀
  unfolding decoded is_line
  ended r none e =
      let whole : pairs (length buffer₀) line ≡ take count buffer = D.left ∙ rw (none, append-nil) refl in
      let many : length (pairs (length buffer₀) line) ≡ count = ap length whole ∙ length-take-le count buffer (omega (arith, D.long, D.room)) in
      rw (e, many, whole, ← D.rest, take-append-drop count buffer) refl

  pub decoding_stopped : (r : Option ℕ) → None ≡ pair_of (drop (2 * count) line) → r ≡ ended_at line (2 * count) count → (r, buffer) ≡ decoded line buffer₀
  decoding_stopped r f g = ended r (pairs_other (length buffer₀ - count) (drop (2 * count) line) (sym f)) g

  pub decoding_full : (r : Option ℕ) (n : ℕ) → n ≡ count → length buffer ≤ count → r ≡ ended_at line (2 * n) n → (r, buffer) ≡ decoded line buffer₀
  unfolding pairs
  decoding_full r n e h g = let none : length buffer₀ - count ≡ 0 = omega (arith, D.long) in ended r (rw none refl) (g ∙ rw e refl)
