-- Ascending lists: equal where their members are; and the order of rows.
use mathlib.Core.Path.{◌≡◌, refl, sym, ◌∙◌, ap₂, subst}
use mathlib.Core.Bool.{Bool, true, false, ◌&&◌, false≢true}
use mathlib.Core.Logic.{◌⊎◌, inl, inr, ⊎_elim, ◌≢◌}
use mathlib.Core.List.Memᴰ
use mathlib.Core.List.{List, [], ◌∷◌, ◌++◌, Memᴰ}
use Prim.Native.Nat.{ℕ, ◌<◌}
use native.Mathlib.Omega.{arith}
use lib.Dec.{ltb, eqb}
use borrow.Author.Tests.{ltb-true, eqb-true, eqb-false, eq-eqb, lt-ltb}
use Rattle.meaning.specs.Tests.{every, those}
use Rattle.meaning.specs.Rows.{Row, key_of, lower_key, lower_row, in_order}
use Rattle.meaning.proofs.Tests.{cases, clash, fails, and_left, and_right, and_both, or_cases, or_left, or_right, those_out, every_out, every_in}

module _ {A : Type 0} (lt : A → A → Bool) where
  abbrev pub Asc : List A → Type 0
  Asc [] = Unit {0}
  Asc (x ∷ l) = ((y : A) → Memᴰ y l → lt x y ≡ true) × Asc l

  module _ (irr : (x : A) → lt x x ≡ false) (trans : (x y z : A) → lt x y ≡ true → lt y z ≡ true → lt x z ≡ true) where
    pub asc_eq : (l m : List A) → Asc l → Asc m → ((x : A) → Memᴰ x l → Memᴰ x m) → ((x : A) → Memᴰ x m → Memᴰ x l) → l ≡ m
    asc_eq [] [] p q to from = refl
    asc_eq [] (y ∷ m) p q to from = elim (from y (Memᴰ.head refl)) [ ]
    asc_eq (x ∷ l) [] p q to from = elim (to x (Memᴰ.head refl)) [ ]
    asc_eq (x ∷ l) (y ∷ m) p q to from = go (λ f g. asc_eq l m p.1 q.1 f g)
      where
        heads : x ≡ y
        heads = ⊎_elim (λ e. e) (λ n. ⊎_elim sym (λ k. clash (lt x x) (trans x y x (p.0 y k) (q.0 x n)) (irr x)) (Memᴰ.cases_cons (from y (Memᴰ.head refl)))) (Memᴰ.cases_cons (to x (Memᴰ.head refl)))

        go : (((z : A) → Memᴰ z l → Memᴰ z m) → ((z : A) → Memᴰ z m → Memᴰ z l) → l ≡ m) → x ∷ l ≡ y ∷ m
        go rest = ap₂ ◌∷◌ heads (rest
            (λ z n. ⊎_elim (λ e. clash (lt x x) (subst (λ (a : A). lt x a ≡ true) (e ∙ sym heads) (p.0 z n)) (irr x)) (λ k. k) (Memᴰ.cases_cons (to z (Memᴰ.tail n))))
            (λ z n. ⊎_elim (λ e. clash (lt y y) (subst (λ (a : A). lt y a ≡ true) (e ∙ heads) (q.0 z n)) (irr y)) (λ k. k) (Memᴰ.cases_cons (from z (Memᴰ.tail n)))))

  pub asc_those : (p : A → Bool) (l : List A) → Asc l → Asc (those p l)
  asc_those p [] h = tt
  asc_those p (x ∷ l) h = cases (p x)
      (λ q. rw q (λ y m. h.0 y (those_out p l m).0, asc_those p l h.1))
      (λ q. rw q (asc_those p l h.1))

  -- two ascending lists, one after the other
  pub asc_join : (l m : List A) → Asc l → Asc m → ((x y : A) → Memᴰ x l → Memᴰ y m → lt x y ≡ true) → Asc (l ++ m)
  asc_join [] m p q h = q
  asc_join (x ∷ l) m p q h = (λ y n. ⊎_elim (p.0 y) (h x y (Memᴰ.head refl)) (Memᴰ.append_cases l n), asc_join l m p.1 q (λ a b n k. h a b (Memᴰ.tail n) k))

  pub asc_left : (l m : List A) → Asc (l ++ m) → Asc l
  asc_left [] m p = tt
  asc_left (x ∷ l) m p = (λ y n. p.0 y (Memᴰ.append_left m n), asc_left l m p.1)

  pub asc_right : (l m : List A) → Asc (l ++ m) → Asc m
  asc_right [] m p = p
  asc_right (x ∷ l) m p = asc_right l m p.1

  pub asc_cross : (l m : List A) → Asc (l ++ m) → (x y : A) → Memᴰ x l → Memᴰ y m → lt x y ≡ true
  asc_cross [] m p x y n k = elim n [ ]
  asc_cross (a ∷ l) m p x y n k = ⊎_elim (λ e. rw e (p.0 y (Memᴰ.append_right l k))) (λ n. asc_cross l m p.1 x y n k) (Memᴰ.cases_cons n)

-- the order of lists of numbers
pub lower_irreflexive : (a : List ℕ) → lower_key a a ≡ false
lower_irreflexive [] = refl
lower_irreflexive (x ∷ a) = fails (lower_key (x ∷ a) (x ∷ a)) (λ p. ⊎_elim
    (λ h. let k = ltb-true x x h in absurd (omega arith))
    (λ h. clash (lower_key a a) (and_right (eqb x x) (lower_key a a) h) (lower_irreflexive a))
    (or_cases (ltb x x) (eqb x x && lower_key a a) p))

pub lower_cases : (x y : ℕ) (a b : List ℕ) → lower_key (x ∷ a) (y ∷ b) ≡ true → (x < y) ⊎ ((x ≡ y) × (lower_key a b ≡ true))
lower_cases x y a b p = ⊎_elim (λ h. inl (ltb-true x y h)) (λ h. inr (eqb-true x y (and_left (eqb x y) (lower_key a b) h), and_right (eqb x y) (lower_key a b) h)) (or_cases (ltb x y) (eqb x y && lower_key a b) p)

pub lower_by_first : (x y : ℕ) (a b : List ℕ) → x < y → lower_key (x ∷ a) (y ∷ b) ≡ true
lower_by_first x y a b h = or_left (eqb x y && lower_key a b) (lt-ltb x y h)

pub lower_by_rest : (x y : ℕ) (a b : List ℕ) → x ≡ y → lower_key a b ≡ true → lower_key (x ∷ a) (y ∷ b) ≡ true
lower_by_rest x y a b e h = or_right (ltb x y) (and_both (eqb x y) (lower_key a b) (eq-eqb x y e) h)

pub lower_trans : (a b c : List ℕ) → lower_key a b ≡ true → lower_key b c ≡ true → lower_key a c ≡ true
lower_trans [] [] c p q = absurd (false≢true p)
lower_trans [] (y ∷ b) [] p q = q
lower_trans [] (y ∷ b) (z ∷ c) p q = refl
lower_trans (x ∷ a) [] c p q = absurd (false≢true p)
lower_trans (x ∷ a) (y ∷ b) [] p q = absurd (false≢true q)
lower_trans (x ∷ a) (y ∷ b) (z ∷ c) p q = ⊎_elim
    (λ h. lower_by_first x z a c (⊎_elim (λ k. omega arith) (λ k. omega arith) (lower_cases y z b c q)))
    (λ h. ⊎_elim (λ k. lower_by_first x z a c (omega arith)) (λ k. lower_by_rest x z a c (omega arith) (lower_trans a b c h.1 k.1)) (lower_cases y z b c q))
    (lower_cases x y a b p)

pub lower_total : (a b : List ℕ) → a ≢ b → lower_key a b ≡ false → lower_key b a ≡ true
lower_total [] [] d p = absurd (d refl)
lower_total [] (y ∷ b) d p = absurd (false≢true (sym p))
lower_total (x ∷ a) [] d p = refl
lower_total (x ∷ a) (y ∷ b) d p = cases (eqb x y)
    (λ e. lower_by_rest y x b a (sym (eqb-true x y e)) (lower_total a b (λ f. d (ap₂ ◌∷◌ (eqb-true x y e) f)) (fails (lower_key a b) (λ h. clash (lower_key (x ∷ a) (y ∷ b)) (lower_by_rest x y a b (eqb-true x y e) h) p))))
    (λ e. lower_by_first y x b a (let n = eqb-false x y e in let k : (x < y) → ⊥ = λ h. clash (lower_key (x ∷ a) (y ∷ b)) (lower_by_first x y a b h) p in omega arith))

-- rows
pub row_irreflexive : (a : Row) → lower_row a a ≡ false
unfolding lower_row
row_irreflexive a = lower_irreflexive (key_of a)

pub row_trans : (a b c : Row) → lower_row a b ≡ true → lower_row b c ≡ true → lower_row a c ≡ true
unfolding lower_row
row_trans a b c p q = lower_trans (key_of a) (key_of b) (key_of c) p q

pub row_total : (a b : Row) → key_of a ≢ key_of b → lower_row a b ≡ false → lower_row b a ≡ true
unfolding lower_row
row_total a b d p = lower_total (key_of a) (key_of b) d p

abbrev pub Sorted : List Row → Type 0
Sorted rows = Asc lower_row rows

pub order_sorted : (rows : List Row) → in_order rows ≡ true → Sorted rows
order_sorted [] e = tt
order_sorted (r ∷ rows) e = (λ y m. every_out (lower_row r) rows (and_left (every (lower_row r) rows) (in_order rows) e) y m, order_sorted rows (and_right (every (lower_row r) rows) (in_order rows) e))

pub sorted_order : (rows : List Row) → Sorted rows → in_order rows ≡ true
sorted_order [] s = refl
sorted_order (r ∷ rows) s = and_both (every (lower_row r) rows) (in_order rows) (every_in (lower_row r) rows s.0) (sorted_order rows s.1)
