-- Vectors, for every N.
use mathlib.Core.Path.{◌≡◌, refl, ap₂}
use mathlib.Core.Bool.{true, false, not, false≢true}
use mathlib.Core.Logic.{◌⊎◌, inl, inr, ◌≢◌}
use mathlib.Core.List.{List, [], ◌∷◌, Memᴰ}
use Prim.Native.Nat.{ℕ, zero, suc, ◌≤◌, ◌<◌, min}
use native.Mathlib.Omega.{arith}
use native.Mathlib.Nat.{le_of_suc-le-suc, not-suc-le-zero}
use borrow.Author.Tests.{leb-true, le-leb, eqb-true, eq-eqb}
use lib.Dec.{leb, eqb}
use lib.ListN.{get_or, set, length}
use Rattle.meaning.specs.Order.{at_most, same, before_by_vector, raised, least, least_of, others_of, low_of}
use Rattle.meaning.proofs.Tests.{clash, and_left, and_right, and_both, fails, not_holds, fails_not}

-- both ways between a cons's test and its parts
down : (x y : ℕ) (u v : List ℕ) → at_most (x ∷ u) (y ∷ v) ≡ true → (x ≤ y) × (at_most u v ≡ true)
down x y u v p = (leb-true x y (and_left (leb x y) (at_most u v) p), and_right (leb x y) (at_most u v) p)

up : (x y : ℕ) (u v : List ℕ) → x ≤ y → at_most u v ≡ true → at_most (x ∷ u) (y ∷ v) ≡ true
up x y u v h p = and_both (leb x y) (at_most u v) (le-leb x y h) p

pub at_most_refl : (u : List ℕ) → at_most u u ≡ true
at_most_refl [] = refl
at_most_refl (x ∷ u) = up x x u u (omega arith) (at_most_refl u)

pub at_most_trans : (u v w : List ℕ) → at_most u v ≡ true → at_most v w ≡ true → at_most u w ≡ true
at_most_trans [] v w p q = refl
at_most_trans (x ∷ u) [] w p q = absurd (false≢true p)
at_most_trans (x ∷ u) (y ∷ v) [] p q = absurd (false≢true q)
at_most_trans (x ∷ u) (y ∷ v) (z ∷ w) p q =
    let a = down x y u v p in let b = down y z v w q in
    up x z u w (omega arith) (at_most_trans u v w a.1 b.1)

pub at_most_antisym : (u v : List ℕ) → at_most u v ≡ true → at_most v u ≡ true → u ≡ v
at_most_antisym [] [] p q = refl
at_most_antisym [] (y ∷ v) p q = absurd (false≢true q)
at_most_antisym (x ∷ u) [] p q = absurd (false≢true p)
at_most_antisym (x ∷ u) (y ∷ v) p q =
    let a = down x y u v p in let b = down y x v u q in
    let e : x ≡ y = omega arith in
    ap₂ ◌∷◌ e (at_most_antisym u v a.1 b.1)

-- the test of equal vectors
pub same_eq : (u v : List ℕ) → same u v ≡ true → u ≡ v
same_eq [] [] p = refl
same_eq [] (y ∷ v) p = absurd (false≢true p)
same_eq (x ∷ u) [] p = absurd (false≢true p)
same_eq (x ∷ u) (y ∷ v) p = ap₂ ◌∷◌ (eqb-true x y (and_left (eqb x y) (same u v) p)) (same_eq u v (and_right (eqb x y) (same u v) p))

pub eq_same : (u v : List ℕ) → u ≡ v → same u v ≡ true
eq_same u v e = rw e (same_self v)
  where
    same_self : (w : List ℕ) → same w w ≡ true
    same_self [] = refl
    same_self (x ∷ w) = and_both (eqb x x) (same w w) (eq-eqb x x refl) (same_self w)

-- before is a strict order, and goes with at most
pub before_at_most : (u v : List ℕ) → before_by_vector u v ≡ true → at_most u v ≡ true
unfolding before_by_vector
before_at_most u v p = and_left (at_most u v) (not (same u v)) p

pub before_not : (u v : List ℕ) → before_by_vector u v ≡ true → at_most v u ≡ false
unfolding before_by_vector
before_not u v p = fails (at_most v u) (λ q. clash (same u v) (eq_same u v (at_most_antisym u v (before_at_most u v p) q)) (not_holds (same u v) (and_right (at_most u v) (not (same u v)) p)))

pub before_by : (u v : List ℕ) → at_most u v ≡ true → at_most v u ≡ false → before_by_vector u v ≡ true
unfolding before_by_vector
before_by u v p q = and_both (at_most u v) (not (same u v)) p (fails_not (same u v) (fails (same u v) (λ s. clash (at_most v u) (rw (same_eq u v s) (at_most_refl v)) q)))

pub not_before : (u v : List ℕ) → at_most u v ≡ false → before_by_vector u v ≡ false
not_before u v q = fails (before_by_vector u v) (λ p. clash (at_most u v) (before_at_most u v p) q)

pub before_irreflexive : (u : List ℕ) → before_by_vector u u ≡ false
before_irreflexive u = fails (before_by_vector u u) (λ p. clash (at_most u u) (at_most_refl u) (before_not u u p))

pub at_most_before : (u v w : List ℕ) → at_most u v ≡ true → before_by_vector v w ≡ true → before_by_vector u w ≡ true
at_most_before u v w p q = before_by u w (at_most_trans u v w p (before_at_most v w q)) (fails (at_most w u) (λ r. clash (at_most w v) (at_most_trans w u v r p) (before_not v w q)))

pub before_trans : (u v w : List ℕ) → before_by_vector u v ≡ true → before_by_vector v w ≡ true → before_by_vector u w ≡ true
before_trans u v w p q = at_most_before u v w (before_at_most u v p) q

-- entry by entry
pub at_most_at : (u v : List ℕ) → at_most u v ≡ true → (i : ℕ) → get_or u i 0 ≤ get_or v i 0
at_most_at [] v p i = omega arith
at_most_at (x ∷ u) [] p i = absurd (false≢true p)
at_most_at (x ∷ u) (y ∷ v) p zero = (down x y u v p).0
at_most_at (x ∷ u) (y ∷ v) p (suc i) = at_most_at u v (down x y u v p).1 i

pub at_most_by : (u v : List ℕ) → length u ≤ length v → ((i : ℕ) → get_or u i 0 ≤ get_or v i 0) → at_most u v ≡ true
at_most_by [] v h f = refl
at_most_by (x ∷ u) [] h f = absurd (not-suc-le-zero h)
at_most_by (x ∷ u) (y ∷ v) h f = up x y u v (f 0) (at_most_by u v (le_of_suc-le-suc h) (λ i. f (suc i)))

-- an entry that is higher: not at or below
pub higher : (u v : List ℕ) (i : ℕ) → get_or v i 0 < get_or u i 0 → at_most u v ≡ false
higher u v i h = fails (at_most u v) (λ p. let k = at_most_at u v p i in omega arith)

pub at_most_raised : (d : List ℕ) (s : ℕ) → at_most d (raised d s) ≡ true
at_most_raised [] s = refl
at_most_raised (x ∷ d) zero = up x (suc x) d d (omega arith) (at_most_refl d)
at_most_raised (x ∷ d) (suc s) = up x x d (raised d s) (omega arith) (at_most_raised d s)

pub raised_at : (d : List ℕ) (s : ℕ) → s < length d → get_or (raised d s) s 0 ≡ suc (get_or d s 0)
raised_at [] s h = absurd (not-suc-le-zero h)
raised_at (x ∷ d) zero h = refl
raised_at (x ∷ d) (suc s) h = raised_at d s (le_of_suc-le-suc h)

pub mins_l : (u a b : List ℕ) → at_most u (least a b) ≡ true → at_most u a ≡ true
mins_l [] a b p = refl
mins_l (x ∷ u) [] b p = p
mins_l (x ∷ u) (y ∷ a) [] p = absurd (false≢true p)
mins_l (x ∷ u) (y ∷ a) (z ∷ b) p = let d = down x (min y z) u (least a b) p in up x y u a (omega arith) (mins_l u a b d.1)

pub mins_r : (u a b : List ℕ) → at_most u (least a b) ≡ true → at_most u b ≡ true
mins_r [] a b p = refl
mins_r (x ∷ u) [] b p = absurd (false≢true p)
mins_r (x ∷ u) (y ∷ a) [] p = p
mins_r (x ∷ u) (y ∷ a) (z ∷ b) p = let d = down x (min y z) u (least a b) p in up x z u b (omega arith) (mins_r u a b d.1)

pub mins_i : (u a b : List ℕ) → at_most u a ≡ true → at_most u b ≡ true → at_most u (least a b) ≡ true
mins_i [] a b p q = refl
mins_i (x ∷ u) [] b p q = p
mins_i (x ∷ u) (y ∷ a) [] p q = q
mins_i (x ∷ u) (y ∷ a) (z ∷ b) p q =
    let d = down x y u a p in let e = down x z u b q in
    up x (min y z) u (least a b) (omega arith) (mins_i u a b d.1 e.1)

-- at or below the least of some vectors: at or below each
meet_first : (u x : List ℕ) (l : List (List ℕ)) → at_most u (least_of x l) ≡ true → at_most u x ≡ true
meet_first u x [] p = p
meet_first u x (y ∷ l) p = mins_l u x y (meet_first u (least x y) l p)

meet_under : (u x : List ℕ) (l : List (List ℕ)) → at_most u (least_of x l) ≡ true → {y : List ℕ} → Memᴰ y l → at_most u y ≡ true
meet_under u x [] p m = elim m [ ]
meet_under u x (z ∷ l) p (Memᴰ.head e) = rw e (mins_r u x z (meet_first u (least x z) l p))
meet_under u x (z ∷ l) p (Memᴰ.tail m) = meet_under u (least x z) l p m

meet_i : (u x : List ℕ) (l : List (List ℕ)) → at_most u x ≡ true → ((y : List ℕ) → Memᴰ y l → at_most u y ≡ true) → at_most u (least_of x l) ≡ true
meet_i u x [] p f = p
meet_i u x (y ∷ l) p f = meet_i u (least x y) l (mins_i u x y p (f y (Memᴰ.head refl))) (λ z m. f z (Memᴰ.tail m))

pub low_under : (u d : List ℕ) (l : List (List ℕ)) → at_most u (low_of d l) ≡ true → {y : List ℕ} → Memᴰ y l → at_most u y ≡ true
low_under u d [] p m = elim m [ ]
low_under u d (x ∷ l) p (Memᴰ.head e) = rw e (meet_first u x l p)
low_under u d (x ∷ l) p (Memᴰ.tail m) = meet_under u x l p m

-- the vector of a place that is not skipped
pub others_mem : (k s : ℕ) (l : List (List ℕ)) → s ≢ k → s < length l → Memᴰ (get_or l s []) (others_of k l)
others_mem k s [] d h = absurd (not-suc-le-zero h)
others_mem zero zero (x ∷ l) d h = absurd (d refl)
others_mem zero (suc s) (x ∷ l) d h = in_at_lem l s (le_of_suc-le-suc h)
  where
    in_at_lem : (l : List (List ℕ)) (s : ℕ) → s < length l → Memᴰ (get_or l s []) l
    in_at_lem [] s h = absurd (not-suc-le-zero h)
    in_at_lem (x ∷ l) zero h = Memᴰ.head refl
    in_at_lem (x ∷ l) (suc s) h = Memᴰ.tail (in_at_lem l s (le_of_suc-le-suc h))
others_mem (suc k) zero (x ∷ l) d h = Memᴰ.head refl
others_mem (suc k) (suc s) (x ∷ l) d h = Memᴰ.tail (others_mem k s l (omega arith) (le_of_suc-le-suc h))

-- a place that is not skipped, unless there is none
pub others_first : (k : ℕ) (l : List (List ℕ)) → (others_of k l ≡ []) ⊎ ((s : ℕ) × (s < length l) × (s ≢ k))
others_first k [] = inl refl
others_first zero (x ∷ []) = inl refl
others_first zero (x ∷ y ∷ l) = inr (1, omega arith, omega arith)
others_first (suc k) (x ∷ l) = inr (0, omega arith, omega arith)

pub low_i : (u d : List ℕ) (l : List (List ℕ)) → at_most u d ≡ true → ((y : List ℕ) → Memᴰ y l → at_most u y ≡ true) → at_most u (low_of d l) ≡ true
low_i u d [] p f = p
low_i u d (x ∷ l) p f = meet_i u x l (f x (Memᴰ.head refl)) (λ y m. f y (Memᴰ.tail m))

-- what is in a list of which one vector was raised is at or above something that was there
rises : (w : List ℕ) (s : ℕ) (l : List (List ℕ)) → at_most (get_or l s []) w ≡ true → {y : List ℕ} → Memᴰ y (set l s w) → (z : List ℕ) × Memᴰ z l × (at_most z y ≡ true)
rises w s [] q m = elim m [ ]
rises w zero (x ∷ l) q {y} (Memᴰ.head e) = (x, Memᴰ.head refl, rw e q)
rises w zero (x ∷ l) q {y} (Memᴰ.tail m) = (y, Memᴰ.tail m, at_most_refl y)
rises w (suc s) (x ∷ l) q {y} (Memᴰ.head e) = (x, Memᴰ.head refl, rw e (at_most_refl x))
rises w (suc s) (x ∷ l) q {y} (Memᴰ.tail m) = let r = rises w s l q m in (r.0, Memᴰ.tail r.1, r.2)

others_raised : (w : List ℕ) (k s : ℕ) (l : List (List ℕ)) → at_most (get_or l s []) w ≡ true → {y : List ℕ} → Memᴰ y (others_of k (set l s w)) → (z : List ℕ) × Memᴰ z (others_of k l) × (at_most z y ≡ true)
others_raised w k s [] q m = elim m [ ]
others_raised w zero zero (x ∷ l) q {y} m = (y, m, at_most_refl y)
others_raised w zero (suc s) (x ∷ l) q {y} m = rises w s l q m
others_raised w (suc k) zero (x ∷ l) q {y} (Memᴰ.head e) = (x, Memᴰ.head refl, rw e q)
others_raised w (suc k) zero (x ∷ l) q {y} (Memᴰ.tail m) = (y, Memᴰ.tail m, at_most_refl y)
others_raised w (suc k) (suc s) (x ∷ l) q {y} (Memᴰ.head e) = (x, Memᴰ.head refl, rw e (at_most_refl x))
others_raised w (suc k) (suc s) (x ∷ l) q {y} (Memᴰ.tail m) = let r = others_raised w k s l q m in (r.0, Memᴰ.tail r.1, r.2)

-- the least rises where the clock and one vector rise
pub low_up : (u d d' w : List ℕ) (k s : ℕ) (l : List (List ℕ)) → at_most u d' ≡ true → at_most (get_or l s []) w ≡ true → at_most u (low_of d (others_of k l)) ≡ true → at_most u (low_of d' (others_of k (set l s w))) ≡ true
low_up u d d' w k s l p q h = low_i u d' (others_of k (set l s w)) p (λ y m. let r = others_raised w k s l q m in at_most_trans u r.0 y (low_under u d (others_of k l) h r.1) r.2)
