-- Laws of the tests over lists: each test, and what it says of the elements.
use mathlib.Core.Path.{◌≡◌, refl, sym, ◌∙◌, ap, subst}
use mathlib.Core.Bool.{Bool, true, false, not, ◌&&◌, ◌||◌, cond, false≢true}
use mathlib.Core.Logic.{◌⊎◌, inl, inr, ⊎_elim}
use mathlib.Core.List.Memᴰ
use mathlib.Core.List.{List, [], ◌∷◌, ◌++◌, Memᴰ}
use Prim.Native.Nat.{ℕ, zero, suc, ◌+◌, ◌≤◌, ◌<◌}
use native.Mathlib.Omega.{arith}
use native.Mathlib.Nat.{le_of_suc-le-suc, not-suc-le-zero, add-zero, add-suc, suc-add}
use borrow.Author.Tests.{leb-true, le-leb}
use lib.Dec.{leb}
use lib.ListN.{get_or, length}
use Rattle.meaning.specs.Tests.{any, every, every_at, those, all_hold, between}
-- Nothing of the tables of lines is used here: these two have them checked before every law, so that a wrong rule or number is refused at a line
-- of them first. `rt tidy` takes them for unused and drops them: put them back then.
use Rattle.meaning.specs.Papers.{papers}
use Rattle.meaning.specs.Boundaries.{boundaries}

-- a case on a test, with the equation
pub cases : {C : Type 0} (b : Bool) → (b ≡ true → C) → (b ≡ false → C) → C
cases true f g = f refl
cases false f g = g refl

pub clash : {C : Type 0} (b : Bool) → b ≡ true → b ≡ false → C
clash b p q = absurd (false≢true (sym q ∙ p))

pub iff : (a b : Bool) → (a ≡ true → b ≡ true) → (b ≡ true → a ≡ true) → a ≡ b
iff true true f g = refl
iff true false f g = sym (f refl)
iff false true f g = g refl
iff false false f g = refl

pub and_left : (a b : Bool) → (a && b) ≡ true → a ≡ true
and_left true b e = refl
and_left false b e = e

pub and_right : (a b : Bool) → (a && b) ≡ true → b ≡ true
and_right true b e = e
and_right false b e = absurd (false≢true e)

pub and_both : (a b : Bool) → a ≡ true → b ≡ true → (a && b) ≡ true
and_both a b p q = rw (p, q)

pub and_true : (a : Bool) → (a && true) ≡ a
and_true true = refl
and_true false = refl

pub and_fails : (a b : Bool) → (a ≡ true → b ≡ false) → (a && b) ≡ false
and_fails true b f = f refl
and_fails false b f = refl

pub and_rest : (a b : Bool) → (a && b) ≡ false → a ≡ true → b ≡ false
and_rest true b e p = e
and_rest false b e p = absurd (false≢true p)

pub or_cases : (a b : Bool) → (a || b) ≡ true → (a ≡ true) ⊎ (b ≡ true)
or_cases true b e = inl refl
or_cases false b e = inr e

pub or_left : {a : Bool} (b : Bool) → a ≡ true → (a || b) ≡ true
or_left b p = rw p

pub or_right : (a : Bool) {b : Bool} → b ≡ true → (a || b) ≡ true
or_right true p = refl
or_right false p = p

pub or_left_fails : (a b : Bool) → (a || b) ≡ false → a ≡ false
or_left_fails true b e = e
or_left_fails false b e = refl

pub or_right_fails : (a b : Bool) → (a || b) ≡ false → b ≡ false
or_right_fails true b e = absurd (false≢true (sym e))
or_right_fails false b e = e

pub not_holds : (a : Bool) → not a ≡ true → a ≡ false
not_holds true e = sym e
not_holds false e = refl

pub fails_not : (a : Bool) → a ≡ false → not a ≡ true
fails_not true e = sym e
fails_not false e = refl

pub fails : (a : Bool) → (a ≡ true → ⊥) → a ≡ false
fails true f = absurd (f refl)
fails false f = refl

-- a law of tests, checked at both values of each
abbrev pub both : (Bool → Bool) → Bool
both f = f true && f false

abbrev pub imp : Bool → Bool → Bool
imp true b = b
imp false b = true

abbrev pub agree : Bool → Bool → Bool
agree true b = b
agree false b = not b

pub both_at : (f : Bool → Bool) → both f ≡ true → (b : Bool) → f b ≡ true
both_at f e true = and_left (f true) (f false) e
both_at f e false = and_right (f true) (f false) e

pub imp_at : (a b : Bool) → imp a b ≡ true → a ≡ true → b ≡ true
imp_at true b e p = e
imp_at false b e p = absurd (false≢true p)

pub agree_at : (a b : Bool) → agree a b ≡ true → a ≡ b
agree_at true b e = sym e
agree_at false true e = e
agree_at false false e = refl

-- a law of six tests, checked at all their values
abbrev pub Six : Type 0
Six = Bool → Bool → Bool → Bool → Bool → Bool → Bool

abbrev pub all6 : Six → Bool
all6 f = both (λ a. both (λ b. both (λ c. both (λ d. both (λ e. both (λ g. f a b c d e g))))))

pub at6 : (f : Six) → all6 f ≡ true → (a b c d e g : Bool) → f a b c d e g ≡ true
at6 f t a b c d e g =
    both_at (λ g. f a b c d e g)
    (both_at (λ e. both (λ g. f a b c d e g))
    (both_at (λ d. both (λ e. both (λ g. f a b c d e g)))
    (both_at (λ c. both (λ d. both (λ e. both (λ g. f a b c d e g))))
    (both_at (λ b. both (λ c. both (λ d. both (λ e. both (λ g. f a b c d e g)))))
    (both_at (λ a. both (λ b. both (λ c. both (λ d. both (λ e. both (λ g. f a b c d e g)))))) t a) b) c) d) e) g

module _ {A : Type 0} where
  pub on_cons : (P : A → Type 0) {y : A} {l : List A} → P y → ((x : A) → Memᴰ x l → P x) → (x : A) → Memᴰ x (y ∷ l) → P x
  on_cons P h f x (Memᴰ.head e) = subst P (sym e) h
  on_cons P h f x (Memᴰ.tail m) = f x m

  pub any_in : (p : A → Bool) {x : A} {l : List A} → Memᴰ x l → p x ≡ true → any p l ≡ true
  any_in p {x} {l} (Memᴰ.head {x = y} {xs = xs} e) h = or_left (any p xs) (ap p (sym e) ∙ h)
  any_in p {x} {l} (Memᴰ.tail {x = y} {xs = xs} m) h = or_right (p y) (any_in p m h)

  abbrev pub Some : (A → Bool) → List A → Type 0
  Some p l = (x : A) × Memᴰ x l × (p x ≡ true)

  pub any_out : (p : A → Bool) (l : List A) → any p l ≡ true → Some p l
  any_out p [] e = absurd (false≢true e)
  any_out p (y ∷ l) e = cases {C = Some p (y ∷ l)} (p y)
      (λ q. (y, Memᴰ.head refl, q))
      (λ q. let r = any_out p l (rw q at e) in (r.0, Memᴰ.tail r.1, r.2))

  pub any_no : (p : A → Bool) (l : List A) → any p l ≡ false → (x : A) → Memᴰ x l → p x ≡ false
  any_no p l e x m = fails (p x) (λ h. clash (any p l) (any_in p m h) e)

  pub any_none : (p : A → Bool) (l : List A) → ((x : A) → Memᴰ x l → p x ≡ false) → any p l ≡ false
  any_none p l f = fails (any p l) (λ e. let r = any_out p l e in clash (p r.0) r.2 (f r.0 r.1))

  pub any_append : (p : A → Bool) (l m : List A) → any p (l ++ m) ≡ (any p l || any p m)
  any_append p [] m = refl
  any_append p (x ∷ l) m = cases (p x) (λ q. rw q) (λ q. rw q (any_append p l m))

  pub those_out : (p : A → Bool) (l : List A) {x : A} → Memᴰ x (those p l) → Memᴰ x l × (p x ≡ true)
  those_out p [] {x} m = elim m [ ]
  those_out p (y ∷ l) {x} m = go (p y) refl (λ m'. those_out p l m') m
    where
      go : (b : Bool) → p y ≡ b → (Memᴰ x (those p l) → Memᴰ x l × (p x ≡ true)) → Memᴰ x (cond b (y ∷ those p l) (those p l)) → Memᴰ x (y ∷ l) × (p x ≡ true)
      go true q f (Memᴰ.head e) = (Memᴰ.head e, ap p e ∙ q)
      go true q f (Memᴰ.tail m) = let r = f m in (Memᴰ.tail r.0, r.1)
      go false q f m = let r = f m in (Memᴰ.tail r.0, r.1)

  pub those_in : (p : A → Bool) {x : A} {l : List A} → Memᴰ x l → p x ≡ true → Memᴰ x (those p l)
  those_in p {x} {l} (Memᴰ.head {x = y} {xs = xs} e) h = rw (ap p (sym e) ∙ h) (Memᴰ.head e)
  those_in p {x} {l} (Memᴰ.tail {x = y} {xs = xs} m) h = cases (p y) (λ q. rw q (Memᴰ.tail (those_in p m h))) (λ q. rw q (those_in p m h))

  pub any_cong : (p q : A → Bool) (l : List A) → ((x : A) → Memᴰ x l → p x ≡ q x) → any p l ≡ any q l
  any_cong p q [] f = refl
  any_cong p q (x ∷ l) f = rw (f x (Memᴰ.head refl), any_cong p q l (λ y m. f y (Memᴰ.tail m)))

  pub any_those : (p q : A → Bool) (l : List A) → any p (those q l) ≡ any (λ (x : A). p x && q x) l
  any_those p q l = iff (any p (those q l)) (any (λ (x : A). p x && q x) l)
      (λ e. let s = any_out p (those q l) e in let r = those_out q l s.1 in any_in (λ (x : A). p x && q x) r.0 (and_both (p s.0) (q s.0) s.2 r.1))
      (λ e. let s = any_out (λ (x : A). p x && q x) l e in any_in p (those_in q s.1 (and_right (p s.0) (q s.0) s.2)) (and_left (p s.0) (q s.0) s.2))

  pub any_or : (p q : A → Bool) (l : List A) → any (λ (x : A). p x || q x) l ≡ (any p l || any q l)
  any_or p q l = iff (any (λ (x : A). p x || q x) l) (any p l || any q l)
      (λ e. let s = any_out (λ (x : A). p x || q x) l e in ⊎_elim (λ h. or_left (any q l) (any_in p s.1 h)) (λ h. or_right (any p l) (any_in q s.1 h)) (or_cases (p s.0) (q s.0) s.2))
      (λ e. ⊎_elim
      (λ h. let s = any_out p l h in any_in (λ (x : A). p x || q x) s.1 (or_left (q s.0) s.2))
      (λ h. let s = any_out q l h in any_in (λ (x : A). p x || q x) s.1 (or_right (p s.0) s.2))
      (or_cases (any p l) (any q l) e))

  pub any_and : (p : A → Bool) (b : Bool) (l : List A) → any (λ (x : A). p x && b) l ≡ (any p l && b)
  any_and p b l = iff (any (λ (x : A). p x && b) l) (any p l && b)
      (λ e. let s = any_out (λ (x : A). p x && b) l e in and_both (any p l) b (any_in p s.1 (and_left (p s.0) b s.2)) (and_right (p s.0) b s.2))
      (λ e. let s = any_out p l (and_left (any p l) b e) in any_in (λ (x : A). p x && b) s.1 (and_both (p s.0) b s.2 (and_right (any p l) b e)))

  pub mem_mid : (l m : List A) (x : A) → Memᴰ x (l ++ (x ∷ m))
  mem_mid [] m x = Memᴰ.head refl
  mem_mid (y ∷ l) m x = Memᴰ.tail (mem_mid l m x)

  pub any_mid : (p : A → Bool) (l m : List A) (x : A) → any p (l ++ (x ∷ m)) ≡ (p x || any p (l ++ m))
  any_mid p [] m x = refl
  any_mid p (y ∷ l) m x = go (p y) (p x) (any p (l ++ m)) (any_mid p l m x)
    where
      go : (a b c : Bool) → any p (l ++ (x ∷ m)) ≡ (b || c) → (a || any p (l ++ (x ∷ m))) ≡ (b || (a || c))
      go true true c e = refl
      go true false c e = refl
      go false b c e = e

  pub mem_out : (l m : List A) (x : A) {y : A} → Memᴰ y (l ++ (x ∷ m)) → (y ≡ x) ⊎ Memᴰ y (l ++ m)
  mem_out l m x n = ⊎_elim (λ a. inr (Memᴰ.append_left m a)) (λ a. ⊎_elim inl (λ b. inr (Memᴰ.append_right l b)) (Memᴰ.cases_cons a)) (Memᴰ.append_cases l n)

  pub mem_into : (l m : List A) (x : A) {y : A} → Memᴰ y (l ++ m) → Memᴰ y (l ++ (x ∷ m))
  mem_into l m x n = ⊎_elim (λ a. Memᴰ.append_left (x ∷ m) a) (λ a. Memᴰ.append_right l (Memᴰ.tail a)) (Memᴰ.append_cases l n)

  -- every: an element of the list meets the test
  pub every_out : (p : A → Bool) (l : List A) → every p l ≡ true → (x : A) → Memᴰ x l → p x ≡ true
  every_out p [] e x m = elim m [ ]
  every_out p (y ∷ l) e x m = ⊎_elim (λ q. ap p q ∙ and_left (p y) (every p l) e) (λ n. every_out p l (and_right (p y) (every p l) e) x n) (Memᴰ.cases_cons m)

  pub every_in : (p : A → Bool) (l : List A) → ((x : A) → Memᴰ x l → p x ≡ true) → every p l ≡ true
  every_in p [] f = refl
  every_in p (y ∷ l) f = and_both (p y) (every p l) (f y (Memᴰ.head refl)) (every_in p l (λ x m. f x (Memᴰ.tail m)))

  -- every at its place
  pub every_at_lem : (p : ℕ → A → Bool) (place : ℕ) (l : List A) (d : A) → every_at p place l ≡ true → (i : ℕ) → i < length l → p (place + i) (get_or l i d) ≡ true
  every_at_lem p place [] d e i h = absurd (not-suc-le-zero h)
  every_at_lem p place (y ∷ l) d e zero h = rw add-zero (and_left (p place y) (every_at p (suc place) l) e)
  every_at_lem p place (y ∷ l) d e (suc i) h = rw (add-suc, ← suc-add) (every_at_lem p (suc place) l d (and_right (p place y) (every_at p (suc place) l) e) i (le_of_suc-le-suc h))

  pub at_every : (p : ℕ → A → Bool) (place : ℕ) (l : List A) (d : A) → ((i : ℕ) → i < length l → p (place + i) (get_or l i d) ≡ true) → every_at p place l ≡ true
  at_every p place [] d f = refl
  at_every p place (y ∷ l) d f = and_both (p place y) (every_at p (suc place) l) (rw add-zero at (f 0 (omega arith))) (at_every p (suc place) l d (λ i h. rw (add-suc, ← suc-add) at (f (suc i) (omega arith))))

-- a rule of a list of rules that all hold
pub rule_at_lem : (rules : List Bool) → all_hold rules ≡ true → (i : ℕ) → get_or rules i true ≡ true
rule_at_lem [] e i = refl
rule_at_lem (rule ∷ rules) e zero = and_left rule (all_hold rules) e
rule_at_lem (rule ∷ rules) e (suc i) = rule_at_lem rules (and_right rule (all_hold rules) e) i

pub between_out : (least greatest number : ℕ) → between least greatest number ≡ true → (least ≤ number) × (number ≤ greatest)
unfolding between
between_out least greatest number e = (leb-true least number (and_left (leb least number) (leb number greatest) e), leb-true number greatest (and_right (leb least number) (leb number greatest) e))

pub between_in : (least greatest number : ℕ) → least ≤ number → number ≤ greatest → between least greatest number ≡ true
unfolding between
between_in least greatest number p q = and_both (leb least number) (leb number greatest) (le-leb least number p) (le-leb number greatest q)
