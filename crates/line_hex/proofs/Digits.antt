-- Characters and values: each digit has one value, each value below 16 one digit.
use Prim.Native.Nat.{ℕ, ◌+◌, ◌-◌, ◌≤◌, ◌<◌}
use mathlib.Core.Path.{◌≡◌, refl, sym, ◌∙◌}
use mathlib.Core.Bool.{Bool, true, false, ◌&&◌}
use mathlib.Core.Logic.{⊎_elim, ◌⊎◌, inl, inr}
use native.Mathlib.Omega.{arith}
use borrow.Author.Tests.{lt-ltb, le-ltb, le-leb, lt-leb, ltb-true, ltb-false, leb-true, leb-false}
use lib.Dec.{ltb, leb}
use Rattle.std.proofs.Common.{Some, None}
use Rattle.std.proofs.lemmas.Option.{none-some}
use Rattle.line_hex.specs.Choice.{pick}
use Rattle.line_hex.specs.Hex.{digit_of, digit_value, is_digit, no_digit, value_of}

pub and_left : (a b : Bool) → a && b ≡ true → a ≡ true
and_left true b h = refl
and_left false b h = h

pub and_right : (a b : Bool) → a && b ≡ true → b ≡ true
and_right true b h = h
and_right false b h = let z : false ≡ true = h in cc

-- the five cases of value_of
module _ (c : ℕ) where
  value_low : c < 48 → no_digit ≡ value_of c
  unfolding value_of
  value_low h = rw (lt-ltb c 48 h) refl

  value_figure : 48 ≤ c → c ≤ 57 → c - 48 ≡ value_of c
  unfolding value_of
  value_figure h k = rw (le-ltb c 48 h, le-leb c 57 k) refl

  value_between : 48 ≤ c → 57 < c → c < 97 → no_digit ≡ value_of c
  unfolding value_of
  value_between h k g = rw (le-ltb c 48 h, lt-leb c 57 k, lt-ltb c 97 g) refl

  value_letter : 48 ≤ c → 57 < c → 97 ≤ c → c ≤ 102 → c - 97 + 10 ≡ value_of c
  unfolding value_of
  value_letter h k g f = rw (le-ltb c 48 h, lt-leb c 57 k, le-ltb c 97 g, le-leb c 102 f) refl

  value_high : 48 ≤ c → 57 < c → 97 ≤ c → 102 < c → no_digit ≡ value_of c
  unfolding value_of
  value_high h k g f = rw (le-ltb c 48 h, lt-leb c 57 k, le-ltb c 97 g, lt-leb c 102 f) refl

-- the two cases of digit_of
digit_figure : (v : ℕ) → v < 10 → v + 48 ≡ digit_of v
unfolding digit_of
digit_figure v h = rw (lt-ltb v 10 h) refl

digit_letter : (v : ℕ) → 10 ≤ v → v - 10 + 97 ≡ digit_of v
unfolding digit_of
digit_letter v h = rw (le-ltb v 10 h) refl

pub digit_small : (c : ℕ) → is_digit c ≡ true → value_of c < 16
unfolding is_digit
digit_small c h = ltb-true (value_of c) 16 h

small_digit : (c : ℕ) → value_of c < 16 → is_digit c ≡ true
unfolding is_digit
small_digit c h = lt-ltb (value_of c) 16 h

-- what is read of a character: its value below 16 where it is a digit
module _ (c : ℕ) where
  pub value_read : (v : ℕ) → Some v ≡ digit_value c → (is_digit c ≡ true) × (v ≡ value_of c) × (v < 16)
  unfolding digit_value
  value_read v = go (is_digit c) refl
    where
      go : (b : Bool) → is_digit c ≡ b → Some v ≡ pick b (Some (value_of c)) None → (b ≡ true) × (v ≡ value_of c) × (v < 16)
      go true d e = let same : v ≡ value_of c = cc in (refl, same, omega (arith, digit_small c d))
      go false d e = absurd (none-some v (sym e))

  pub none_read : None ≡ digit_value c → is_digit c ≡ false
  unfolding digit_value
  none_read = go (is_digit c)
    where
      go : (b : Bool) → None ≡ pick b (Some (value_of c)) None → b ≡ false
      go true e = absurd (none-some (value_of c) e)
      go false e = refl

-- a value's digit has that value
pub value_digit_of : (v : ℕ) → v < 16 → value_of (digit_of v) ≡ v
unfolding digit_of
value_digit_of v h = go (ltb v 10) refl
  where
    go : (b : Bool) → ltb v 10 ≡ b → value_of (pick b (v + 48) (v - 10 + 97)) ≡ v
    go true e = sym (value_figure (v + 48) (omega arith) (omega (arith, ltb-true v 10 e))) ∙ omega arith
    go false e = let k : 10 ≤ v = ltb-false v 10 e in sym (value_letter (v - 10 + 97) (omega arith) (omega arith) (omega arith) (omega arith)) ∙ omega arith

pub digit_digit_of : (v : ℕ) → v < 16 → is_digit (digit_of v) ≡ true
digit_digit_of v h = small_digit (digit_of v) (rw (value_digit_of v h) h)

digit_cases : (c : ℕ) → value_of c < 16 → ((48 ≤ c) × (c ≤ 57)) ⊎ ((97 ≤ c) × (c ≤ 102))
digit_cases c small = go (ltb c 48) (leb c 57) (ltb c 97) (leb c 102) refl refl refl refl
  where
    go : (p q r t : Bool) → ltb c 48 ≡ p → leb c 57 ≡ q → ltb c 97 ≡ r → leb c 102 ≡ t → ((48 ≤ c) × (c ≤ 57)) ⊎ ((97 ≤ c) × (c ≤ 102))
    go true q r t a b d e = absurd (omega (arith, small, value_low c (ltb-true c 48 a)))
    go false true r t a b d e = inl (ltb-false c 48 a, leb-true c 57 b)
    go false false true t a b d e = absurd (omega (arith, small, value_between c (ltb-false c 48 a) (leb-false c 57 b) (ltb-true c 97 d)))
    go false false false true a b d e = inr (ltb-false c 97 d, leb-true c 102 e)
    go false false false false a b d e = absurd (omega (arith, small, value_high c (ltb-false c 48 a) (leb-false c 57 b) (ltb-false c 97 d) (leb-false c 102 e)))

-- a digit is the one digit of its value
pub digit_value_of : (c : ℕ) → is_digit c ≡ true → digit_of (value_of c) ≡ c
digit_value_of c h = ⊎_elim figure letter (digit_cases c (digit_small c h))
  where
    figure : (48 ≤ c) × (c ≤ 57) → digit_of (value_of c) ≡ c
    figure w = rw (← value_figure c w.0 w.1, ← digit_figure (c - 48) (omega (arith, w.1))) (omega (arith, w.0))

    letter : (97 ≤ c) × (c ≤ 102) → digit_of (value_of c) ≡ c
    letter w = rw (← value_letter c (omega (arith, w.0)) (omega (arith, w.0)) w.0 w.1, ← digit_letter (c - 97 + 10) (omega arith)) (omega (arith, w.0))
