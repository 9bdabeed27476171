-- The nine kinds in four groups, and what their codes allow.
use mathlib.Core.Path.{◌≡◌, refl, sym, subst}
use mathlib.Core.Bool.{Bool, true, false, not, ◌&&◌, ◌||◌, cond, false≢true}
use mathlib.Core.Logic.{◌⊎◌, inl, inr, ⊎_elim}
use mathlib.Core.List.{List, [], ◌∷◌}
use Prim.Native.Nat.{ℕ, ◌≤◌}
use native.Mathlib.Omega.{arith}
use lib.Dec.{eqb, leb}
use borrow.Author.Tests.{eqb-true, eqb-false, leb-true, leb-false}
use Rattle.meaning.specs.Tests.{any}
use Rattle.meaning.specs.Operations.{Operation, is_counter, removes_stand, codes_of, code_allowed}
use Rattle.meaning.specs.Meaning.{of, on, add_of, remove_of, clear_of, ends}
use Rattle.meaning.specs.Arrival.{concerns, gets_row}
use Rattle.meaning.proofs.Tests.{cases, clash, or_cases}
use Rattle.meaning.proofs.RowLaws.{Tagged}

-- kinds 3 and 4 keep settled rows; 5, 7 and 8 go by survival; 6 and 9 by standing
abbrev pub Keeper : ℕ → Type 0
Keeper k = (k ≡ 3) ⊎ (k ≡ 4)

abbrev pub Survivor : ℕ → Type 0
Survivor k = (k ≡ 5) ⊎ ((k ≡ 7) ⊎ (k ≡ 8))

abbrev pub Stander : ℕ → Type 0
Stander k = (k ≡ 6) ⊎ (k ≡ 9)

pub at_keeper : (P : ℕ → Type 0) → P 3 → P 4 → (k : ℕ) → Keeper k → P k
at_keeper P p q k h = ⊎_elim (λ e. subst P (sym e) p) (λ e. subst P (sym e) q) h

pub at_survivor : (P : ℕ → Type 0) → P 5 → P 7 → P 8 → (k : ℕ) → Survivor k → P k
at_survivor P p q r k h = ⊎_elim (λ e. subst P (sym e) p) (λ g. ⊎_elim (λ e. subst P (sym e) q) (λ e. subst P (sym e) r) g) h

pub at_stander : (P : ℕ → Type 0) → P 6 → P 9 → (k : ℕ) → Stander k → P k
at_stander P p q k h = ⊎_elim (λ e. subst P (sym e) p) (λ e. subst P (sym e) q) h

pub data Group (k : ℕ) : Type 0 where
  counting : is_counter k ≡ true → Group k
  keeping : Keeper k → Group k
  surviving : Survivor k → Group k
  standing : Stander k → Group k

low_group : (k : ℕ) → 1 ≤ k → k ≤ 4 → Group k
unfolding is_counter
low_group k low high = cases (eqb k 1) (λ e. counting (rw e)) (λ n1. cases (eqb k 2) (λ e. counting (rw (n1, e))) (λ n2.
    cases (eqb k 3) (λ e. keeping (inl (eqb-true k 3 e))) (λ n3. keeping (inr (omega (arith, eqb-false k 1 n1, eqb-false k 2 n2, eqb-false k 3 n3))))))

high_group : (k : ℕ) → 5 ≤ k → k ≤ 9 → Group k
high_group k low high = cases (eqb k 5) (λ e. surviving (inl (eqb-true k 5 e))) (λ n5. cases (eqb k 6) (λ e. standing (inl (eqb-true k 6 e))) (λ n6.
    cases (eqb k 7) (λ e. surviving (inr (inl (eqb-true k 7 e)))) (λ n7. cases (eqb k 8) (λ e. surviving (inr (inr (eqb-true k 8 e)))) (λ n8.
    standing (inr (omega (arith, eqb-false k 5 n5, eqb-false k 6 n6, eqb-false k 7 n7, eqb-false k 8 n8)))))))

-- every kind that an object may have is in one of the groups
pub group : (k : ℕ) → 1 ≤ k → k ≤ 9 → Group k
group k low high = cases (leb k 4) (λ e. low_group k low (leb-true k 4 e)) (λ e. high_group k (leb-false k 4 e) high)

pub survivor_tagged : (k : ℕ) → Survivor k → Tagged k
unfolding is_counter
survivor_tagged k h = at_survivor Tagged (refl, refl) (refl, refl) (refl, refl) k h

pub stander_tagged : (k : ℕ) → Stander k → Tagged k
unfolding is_counter
stander_tagged k h = at_stander Tagged (refl, refl) (refl, refl) k h

pub survivor_stands_not : (k : ℕ) → Survivor k → removes_stand k ≡ false
unfolding removes_stand
survivor_stands_not k h = at_survivor (λ (j : ℕ). removes_stand j ≡ false) refl refl refl k h

pub stander_stands : (k : ℕ) → Stander k → removes_stand k ≡ true
unfolding removes_stand
stander_stands k h = at_stander (λ (j : ℕ). removes_stand j ≡ true) refl refl k h

pub stander_no_register : (k : ℕ) → Stander k → eqb k 7 ≡ false
stander_no_register k h = at_stander (λ (j : ℕ). eqb j 7 ≡ false) refl refl k h

-- a fact of every code of a list is a fact of a code that is in it
abbrev pub All : (ℕ → Type 0) → List ℕ → Type 0
All P [] = Unit {0}
All P (x ∷ l) = P x × All P l

pub each_code : (P : ℕ → Type 0) (c : ℕ) (l : List ℕ) → any (eqb c) l ≡ true → All P l → P c
each_code P c [] e a = absurd (false≢true e)
each_code P c (x ∷ l) e a = ⊎_elim (λ h. subst P (sym (eqb-true c x h)) a.0) (λ h. each_code P c l h a.1) (or_cases (eqb c x) (any (eqb c) l) e)

pub allowed_code : (P : ℕ → Type 0) (k c : ℕ) → code_allowed k c ≡ true → All P (codes_of k) → P c
unfolding code_allowed
allowed_code P k c e a = each_code P c (codes_of k) e a

-- kinds 5, 7 and 8: only an add gets a row
GetsTest : ℕ → ℕ → Type 0
GetsTest k c = (not (eqb c 3) && not (eqb c 2 && (eqb k 5 || eqb k 8))) ≡ eqb c 1

pub survivor_gets : (k o v : ℕ) (t : Operation) → Survivor k → code_allowed k t.code ≡ true → on o v t ≡ true → gets_row k t ≡ add_of o v t
unfolding gets_row add_of codes_of GetsTest
survivor_gets k o v t h l p = rw p (at_survivor (λ (j : ℕ). code_allowed j t.code ≡ true → GetsTest j t.code)
    (λ e. allowed_code (GetsTest 5) 5 t.code e (refl, (refl, tt)))
    (λ e. allowed_code (GetsTest 7) 7 t.code e (refl, (refl, tt)))
    (λ e. allowed_code (GetsTest 8) 8 t.code e (refl, (refl, (refl, tt)))) k h l)

-- kinds 6 and 9: adds and removes do
StandTest : ℕ → ℕ → Type 0
StandTest k c = (not (eqb c 3) && not (eqb c 2 && (eqb k 5 || eqb k 8))) ≡ (eqb c 1 || eqb c 2)

pub stander_gets : (k o v : ℕ) (t : Operation) → Stander k → code_allowed k t.code ≡ true → on o v t ≡ true → gets_row k t ≡ (add_of o v t || remove_of o v t)
unfolding gets_row add_of remove_of codes_of StandTest
stander_gets k o v t h l p = rw p (at_stander (λ (j : ℕ). code_allowed j t.code ≡ true → StandTest j t.code)
    (λ e. allowed_code (StandTest 6) 6 t.code e (refl, (refl, tt)))
    (λ e. allowed_code (StandTest 9) 9 t.code e (refl, (refl, (refl, tt)))) k h l)

-- kinds 5, 7 and 8: what concerns v and ends no add of it, adds v
LawTest : ℕ → Bool → Bool → ℕ → Type 0
LawTest k a e c = (a && (eqb k 7 || (eqb c 3 || e))) ≡ true → cond (eqb k 7) a (((a && e) && eqb c 2) || (a && eqb c 3)) ≡ false → ((a && e) && eqb c 1) ≡ true

adding : (k c : ℕ) → eqb k 7 ≡ false → eqb c 1 ≡ true → eqb c 2 ≡ false → eqb c 3 ≡ false → (a e : Bool) → LawTest k a e c
unfolding LawTest
adding k c s c1 c2 c3 true true p q = rw c1
adding k c s c1 c2 c3 true false p q = clash (eqb k 7 || (eqb c 3 || false)) p (rw (s, c3))
adding k c s c1 c2 c3 false e p q = clash false p refl

ending : (k c : ℕ) → eqb k 7 ≡ false → eqb c 1 ≡ false → (eqb c 2 || eqb c 3) ≡ true → (a e : Bool) → LawTest k a e c
unfolding LawTest
ending k c s c1 h true true p q = clash (eqb c 2 || eqb c 3) h (rw s at q)
ending k c s c1 h true false p q = ⊎_elim (λ e. clash (eqb c 3) e (rw s at q)) (λ e. clash false e refl) (or_cases (eqb c 3) false (rw s at p))
ending k c s c1 h false e p q = clash false p refl

register : (c : ℕ) (a e : Bool) → LawTest 7 a e c
unfolding LawTest
register c true e p q = clash true refl q
register c false e p q = clash false p refl

pub survivor_law : (k o v : ℕ) (t : Operation) → Survivor k → code_allowed k t.code ≡ true → concerns k o v t ≡ true → ends k o v t ≡ false → add_of o v t ≡ true
unfolding concerns ends of on add_of remove_of clear_of codes_of LawTest
survivor_law k o v t h l p q =
    let a = eqb t.object o in let e = eqb t.value v in
    at_survivor (λ (j : ℕ). code_allowed j t.code ≡ true → LawTest j a e t.code)
    (λ f. allowed_code (LawTest 5 a e) 5 t.code f (adding 5 1 refl refl refl refl a e, (ending 5 2 refl refl refl a e, tt)))
    (λ f. register t.code a e)
    (λ f. allowed_code (LawTest 8 a e) 8 t.code f (adding 8 1 refl refl refl refl a e, (ending 8 2 refl refl refl a e, (ending 8 3 refl refl refl a e, tt)))) k h l p q

-- kinds 3 and 4: what is no add is a remove, of kind 4
KeepTest : ℕ → ℕ → Type 0
KeepTest k c = eqb c 1 ≡ false → (eqb c 2 ≡ true) × (k ≡ 4)

pub keeper_removes : (k c : ℕ) → Keeper k → code_allowed k c ≡ true → eqb c 1 ≡ false → (eqb c 2 ≡ true) × (k ≡ 4)
unfolding codes_of KeepTest
keeper_removes k c h l = at_keeper (λ (j : ℕ). code_allowed j c ≡ true → KeepTest j c)
    (λ e. allowed_code (KeepTest 3) 3 c e (λ f. clash true refl f, tt))
    (λ e. allowed_code (KeepTest 4) 4 c e (λ f. clash true refl f, (λ f. (refl, refl), tt))) k h l
