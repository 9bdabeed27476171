-- The number of a refusal says which it is, so that an equation of numbers fixes a result.
use Rattle.std.proofs.Common.{◌≡◌, ℕ, List, [], ◌∷◌, Result, Ok, Err, get_or, refl, sym, ◌∙◌, ap}
use Rattle.refusal_number.specs.Numbers.{number_of, refused, numbered}
use Rattle.refusal_number.specs.declared.Refusal.{Refusal}
use Rattle.refusal_number.specs.declared.Refusal.TheVariants.{Misshapen, Stranger, Undeclared, Forbidden, Known, Early, Falling, Full, Last, NoRoom, Unfitted, Unopened, NoTable, Wrong}

-- The refusals, each at the place of its number; at 0 and at 11 stands none of its own.
by_number : List Refusal
by_number = Wrong ∷ Misshapen ∷ Stranger ∷ Undeclared ∷ Forbidden ∷ Known ∷ Early ∷ Falling ∷ Full ∷ Last ∷ NoRoom ∷ Wrong ∷ Unfitted ∷ Unopened ∷ NoTable ∷ Wrong ∷ []

read_back : (r : Refusal) → get_or by_number (number_of r) Wrong ≡ r
unfolding by_number
read_back Misshapen = refl
read_back Stranger = refl
read_back Undeclared = refl
read_back Forbidden = refl
read_back Known = refl
read_back Early = refl
read_back Falling = refl
read_back Full = refl
read_back Last = refl
read_back NoRoom = refl
read_back Unfitted = refl
read_back Unopened = refl
read_back NoTable = refl
read_back Wrong = refl

-- Two refusals with one number are the same.
pub number_fixes : (a b : Refusal) → number_of a ≡ number_of b → a ≡ b
number_fixes a b e = sym (read_back a) ∙ ap (λ (n : ℕ). get_or by_number n Wrong) e ∙ read_back b

-- No refusal has the number 0, which says that nothing is refused.
pub number_above : (a : Refusal) → number_of a ≡ 0 → ⊥
number_above Misshapen e = cc
number_above Stranger e = cc
number_above Undeclared e = cc
number_above Forbidden e = cc
number_above Known e = cc
number_above Early e = cc
number_above Falling e = cc
number_above Full e = cc
number_above Last e = cc
number_above NoRoom e = cc
number_above Unfitted e = cc
number_above Unopened e = cc
number_above NoTable e = cc
number_above Wrong e = cc

-- Two results with one number are the same.
pub refused_fixes : (a b : Result (Unit {0}) Refusal) → refused a ≡ refused b → a ≡ b
refused_fixes (Ok u) (Ok v) e = refl
refused_fixes (Ok u) (Err f) e = absurd (number_above f (sym e))
refused_fixes (Err f) (Ok u) e = absurd (number_above f e)
refused_fixes (Err f) (Err g) e = ap Err (number_fixes f g e)

from_ok : {A : Type 0} → A → Result A ℕ → A
from_ok spare (Ok value) = value
from_ok spare (Err n) = spare

from_err : {A : Type 0} → Result A ℕ → ℕ
from_err (Ok value) = 0
from_err (Err n) = n

-- Two results that are the same by their numbers are the same.
pub numbered_fixes : {A : Type 0} (a b : Result A Refusal) → numbered a ≡ numbered b → a ≡ b
unfolding from_ok from_err
numbered_fixes (Ok x) (Ok y) e = ap Ok (ap (from_ok x) e)
numbered_fixes (Ok x) (Err g) e = cc
numbered_fixes (Err f) (Ok y) e = cc
numbered_fixes (Err f) (Err g) e = ap Err (number_fixes f g (ap from_err e))
