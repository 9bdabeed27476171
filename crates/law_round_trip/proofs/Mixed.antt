-- A list that is changed into another from the front on, and lines taken one after the other.
use Rattle.std.specs.Prelude.{Result, Ok}
use mathlib.Core.Path.{◌≡◌, refl, sym, ap, ap₂, ◌∙◌, subst}
use mathlib.Core.List.{List, [], ◌∷◌, ◌++◌, append-nil}
use Prim.Native.Nat.{ℕ, zero, suc, ◌<◌}
use native.Mathlib.Omega.{arith}
use lib.ListN.{get_or, length, take, drop, set, drop_of_length-le}
use lib.Seq.{take_all}
use Rattle.words_layout.proofs.Pieces.{Each}
use Rattle.form_take.specs.declared.Loaded.{Loaded}
use Rattle.form_take.specs.declared.Loaded.TheVariants as loaded
use Rattle.form_load.specs.Loading.{loaded_by}
use Rattle.law_round_trip.specs.Restoring.{Loads, TakesAll}

-- so many of the one, then the other
abbrev pub mixed : {A : Type 0} → ℕ → List A → List A → List A
mixed k a b = take k a ++ drop k b

pub mixed_set : {A : Type 0} (a b : List A) (d : A) (k : ℕ) → k < length a → k < length b → set (mixed k a b) k (get_or a k d) ≡ mixed (suc k) a b
mixed_set [] b d k h g = absurd (omega arith)
mixed_set (x ∷ a) [] d k h g = absurd (omega arith)
mixed_set (x ∷ a) (y ∷ b) d zero h g = refl
mixed_set {A} (x ∷ a) (y ∷ b) d (suc k) h g = ap (λ (l : List A). x ∷ l) (mixed_set a b d k (omega arith) (omega arith))

pub mixed_same : {A : Type 0} (a b : List A) (d : A) (k : ℕ) → k < length a → k < length b → get_or a k d ≡ get_or b k d → mixed k a b ≡ mixed (suc k) a b
mixed_same [] b d k h g e = absurd (omega arith)
mixed_same (x ∷ a) [] d k h g e = absurd (omega arith)
mixed_same {A} (x ∷ a) (y ∷ b) d zero h g e = ap (λ (z : A). z ∷ b) (sym e)
mixed_same {A} (x ∷ a) (y ∷ b) d (suc k) h g e = ap (λ (l : List A). x ∷ l) (mixed_same a b d k (omega arith) (omega arith) e)

-- lines taken one after the other
pub first_taken_lem : (line : List ℕ) (lines : List (List ℕ)) (words next after : List ℕ) → loaded_by line words ≡ (Ok loaded.Taken, next) → TakesAll lines next after → TakesAll (line ∷ lines) words after
first_taken_lem line lines words next after e f = (ap (λ (p : Result Loaded ℕ × List ℕ). p.0) e, subst (λ (w : List ℕ). TakesAll lines w after) (sym (ap (λ (p : Result Loaded ℕ × List ℕ). p.1) e)) f)

pub then_taken : (a b : List (List ℕ)) (words next after : List ℕ) → TakesAll a words next → TakesAll b next after → TakesAll (a ++ b) words after
then_taken [] b words next after e f = subst (λ (w : List ℕ). TakesAll b w after) (sym e) f
then_taken (line ∷ a) b words next after e f = (e.0, then_taken a b (loaded_by line words).1 next after e.1 f)

pub then_closed : (a : List (List ℕ)) (line words next after : List ℕ) → TakesAll a words next → loaded_by line next ≡ (Ok loaded.Table, after) → Loads (a ++ (line ∷ [])) words after
then_closed [] line words next after e f = ap (loaded_by line) e ∙ f
then_closed (first ∷ []) line words next after e f = (e.0, then_closed [] line (loaded_by first words).1 next after e.1 f)
then_closed (first ∷ second ∷ a) line words next after e f = (e.0, then_closed (second ∷ a) line (loaded_by first words).1 next after e.1 f)

pub length_mixed : {A : Type 0} (a b : List A) (k : ℕ) → length a ≡ length b → length (mixed k a b) ≡ length b
length_mixed [] [] zero e = refl
length_mixed [] [] (suc k) e = refl
length_mixed [] (y ∷ b) k e = absurd (omega arith)
length_mixed (x ∷ a) [] k e = absurd (omega arith)
length_mixed (x ∷ a) (y ∷ b) zero e = refl
length_mixed (x ∷ a) (y ∷ b) (suc k) e = ap suc (length_mixed a b k (omega arith))

pub each_mixed : {A : Type 0} (P : A → Type 0) (a b : List A) (k : ℕ) → length a ≡ length b → Each P a → Each P b → Each P (mixed k a b)
each_mixed P a b zero e f g = g
each_mixed P [] [] (suc k) e f g = tt
each_mixed P [] (y ∷ b) (suc k) e f g = absurd (omega arith)
each_mixed P (x ∷ a) [] (suc k) e f g = absurd (omega arith)
each_mixed P (x ∷ a) (y ∷ b) (suc k) e f g = (f.0, each_mixed P a b k (omega arith) f.1 g.1)

pub mixed_whole : {A : Type 0} (a b : List A) (k : ℕ) → length a ≡ k → length b ≡ k → mixed k a b ≡ a
mixed_whole {A} a b k e f = ap₂ (λ (x y : List A). x ++ y) (take_all k a (omega arith)) (drop_of_length-le b {i = k} (omega arith)) ∙ append-nil a
