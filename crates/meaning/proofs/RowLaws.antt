-- What an arrival and a settling step do to the rows, by membership.
use mathlib.Core.Path.{◌≡◌, refl, sym, ◌∙◌, ap, subst}
use mathlib.Core.Bool.{Bool, true, false, not, ◌&&◌, ◌||◌, cond, false≢true}
use mathlib.Core.Logic.{◌⊎◌, inl, inr, ⊎_elim, ◌≢◌}
use mathlib.Core.List.Memᴰ
use mathlib.Core.List.{List, [], ◌∷◌, ◌++◌, Memᴰ, append_assoc, append-nil}
use Prim.Native.Nat.{ℕ, zero, suc}
use lib.Dec.{eqb}
use borrow.Author.Tests.{eqb-true, eq-eqb, ne_eqb}
use Rattle.meaning.specs.Tests.{any, those}
use Rattle.meaning.specs.Order.{Vector}
use Rattle.meaning.specs.Operations.{Operation, is_counter, removes_stand}
use Rattle.meaning.specs.Meaning.{on, remove_of}
use Rattle.meaning.specs.Rows.{Row, unsettled_row, settled_row, lower_row, insert_row}
use Rattle.meaning.specs.Arrival.{concerns, taken_by, gets_row, with_row, tagged_arrival, same_value, settled_arrival, rows_after}
use Rattle.meaning.specs.Settling.{stable_by, due, add_beside, becomes_settled, dropped_with, left_by, step_at, step_from, step_of, settled_rows}
use Rattle.meaning.proofs.Tests.{cases, clash, and_left, and_right, and_both, fails, not_holds, fails_not, those_in, those_out, mem_out}
use Rattle.meaning.proofs.OneValue.{remove_on}

pub ins_back : (r : Row) (l : List Row) {x : Row} → Memᴰ x (insert_row r l) → (x ≡ r) ⊎ Memᴰ x l
ins_back r [] {x} m = inl (Memᴰ.eq_of_singleton m)
ins_back r (y ∷ l) {x} m = go (lower_row r y) (λ n. ins_back r l n) m
  where
    go : (b : Bool) → (Memᴰ x (insert_row r l) → (x ≡ r) ⊎ Memᴰ x l) → Memᴰ x (cond b (r ∷ y ∷ l) (y ∷ insert_row r l)) → (x ≡ r) ⊎ Memᴰ x (y ∷ l)
    go true f m = Memᴰ.cases_cons m
    go false f m = ⊎_elim (λ e. inr (Memᴰ.head e)) (λ n. ⊎_elim inl (λ k. inr (Memᴰ.tail k)) (f n)) (Memᴰ.cases_cons m)

pub ins_new : (r : Row) (l : List Row) → Memᴰ r (insert_row r l)
ins_new r [] = Memᴰ.head refl
ins_new r (y ∷ l) = cases (lower_row r y) (λ q. rw q (Memᴰ.head refl)) (λ q. rw q (Memᴰ.tail (ins_new r l)))

pub ins_kept : (r : Row) {x : Row} {l : List Row} → Memᴰ x l → Memᴰ x (insert_row r l)
ins_kept r {x} {l} (Memᴰ.head {x = y} {xs = ys} e) = cases (lower_row r y) (λ q. rw q (Memᴰ.tail (Memᴰ.head e))) (λ q. rw q (Memᴰ.head e))
ins_kept r {x} {l} (Memᴰ.tail {x = y} {xs = ys} m) = cases (lower_row r y) (λ q. rw q (Memᴰ.tail (Memᴰ.tail m))) (λ q. rw q (Memᴰ.tail (ins_kept r m)))

pub put_back : (b : Bool) (r : Row) (l : List Row) {x : Row} → Memᴰ x (with_row b r l) → ((x ≡ r) × (b ≡ true)) ⊎ Memᴰ x l
unfolding with_row
put_back true r l m = ⊎_elim (λ e. inl (e, refl)) inr (ins_back r l m)
put_back false r l m = inr m

pub put_kept : (b : Bool) (r : Row) {l : List Row} {x : Row} → Memᴰ x l → Memᴰ x (with_row b r l)
unfolding with_row
put_kept true r m = ins_kept r m
put_kept false r m = m

pub put_new : (b : Bool) (r : Row) (l : List Row) → b ≡ true → Memᴰ r (with_row b r l)
unfolding with_row
put_new true r l e = ins_new r l
put_new false r l e = absurd (false≢true e)

-- own, by its two equations
pub on_eq : (o v : ℕ) (u : Operation) → on o v u ≡ true → (u.object ≡ o) × (u.value ≡ v)
unfolding on
on_eq o v u p = (eqb-true u.object o (and_left (eqb u.object o) (eqb u.value v) p), eqb-true u.value v (and_right (eqb u.object o) (eqb u.value v) p))

pub on_self : (u : Operation) → on u.object u.value u ≡ true
unfolding on
on_self u = and_both (eqb u.object u.object) (eqb u.value u.value) (eq-eqb u.object u.object refl) (eq-eqb u.value u.value refl)

pub same_on : (o v : ℕ) (a b : Operation) → a.object ≡ b.object → a.value ≡ b.value → on o v a ≡ on o v b
unfolding on
same_on o v a b e f = rw (e, f)

-- the three ways of arriving: counters, kinds 3 and 4, kinds 5 to 9
abbrev pub Tagged : ℕ → Type 0
Tagged k = (is_counter k ≡ false) × ((eqb k 3 || eqb k 4) ≡ false)

pub tagged_rows : (k : ℕ) (t : Operation) (R : List Row) → Tagged k → rows_after k t R ≡ tagged_arrival k t R
unfolding rows_after
tagged_rows k t R h = rw (h.0, h.1)

pub settled_rows_lem : (k : ℕ) (t : Operation) (R : List Row) → is_counter k ≡ false → (eqb k 3 || eqb k 4) ≡ true → rows_after k t R ≡ settled_arrival t R
unfolding rows_after
settled_rows_lem k t R p q = rw (p, q)

pub counter_rows : (k : ℕ) (t : Operation) (R : List Row) → is_counter k ≡ true → rows_after k t R ≡ R
unfolding rows_after
counter_rows k t R p = rw p

-- a law of rows that holds in each of the three ways
pub arrival_elim : (P : List Row → Type 0) (k : ℕ) (t : Operation) (R : List Row) →
    (is_counter k ≡ true → P R) → (is_counter k ≡ false → (eqb k 3 || eqb k 4) ≡ true → P (settled_arrival t R)) → (Tagged k → P (tagged_arrival k t R)) → P (rows_after k t R)
arrival_elim P k t R f g h = cases (is_counter k)
    (λ p. subst P (sym (counter_rows k t R p)) (f p))
    (λ p. cases (eqb k 3 || eqb k 4)
    (λ q. subst P (sym (settled_rows_lem k t R p q)) (g p q))
    (λ q. subst P (sym (tagged_rows k t R (p, q))) (h (p, q))))

-- where a row comes from
pub settled_back : (t : Operation) (R : List Row) {r : Row} → Memᴰ r (settled_arrival t R) → (r ≡ settled_row t) ⊎ Memᴰ r R
unfolding settled_arrival
settled_back t R {r} m = go (eqb t.code 1) m
  where
    go : (c : Bool) → Memᴰ r (cond c (with_row (not (any (same_value t) R)) (settled_row t) R) (insert_row (settled_row t) (those (λ (r : Row). not (same_value t r)) R))) → (r ≡ settled_row t) ⊎ Memᴰ r R
    go true m = ⊎_elim (λ e. inl e.0) inr (put_back (not (any (same_value t) R)) (settled_row t) R m)
    go false m = ⊎_elim inl (λ n. inr (those_out (λ (r : Row). not (same_value t r)) R n).0) (ins_back (settled_row t) (those (λ (r : Row). not (same_value t r)) R) m)

pub settled_kept : (t : Operation) (R : List Row) {r : Row} → Memᴰ r R → same_value t r ≡ false → Memᴰ r (settled_arrival t R)
unfolding settled_arrival
settled_kept t R {r} m d = go (eqb t.code 1)
  where
    go : (c : Bool) → Memᴰ r (cond c (with_row (not (any (same_value t) R)) (settled_row t) R) (insert_row (settled_row t) (those (λ (r : Row). not (same_value t r)) R)))
    go true = put_kept (not (any (same_value t) R)) (settled_row t) m
    go false = ins_kept (settled_row t) (those_in (λ (r : Row). not (same_value t r)) m (fails_not (same_value t r) d))

pub arrival_back : (k : ℕ) (t : Operation) (R : List Row) {r : Row} → Memᴰ r (tagged_arrival k t R) → ((r ≡ unsettled_row t) × (gets_row k t ≡ true)) ⊎ (Memᴰ r R × (taken_by k t r ≡ false))
unfolding tagged_arrival
arrival_back k t R {r} m = ⊎_elim inl (λ n. let f = those_out (λ (r : Row). not (taken_by k t r)) R n in inr (f.0, not_holds (taken_by k t r) f.1)) (put_back (gets_row k t) (unsettled_row t) (those (λ (r : Row). not (taken_by k t r)) R) m)

pub arrival_kept : (k : ℕ) (t : Operation) (R : List Row) {r : Row} → Memᴰ r R → taken_by k t r ≡ false → Memᴰ r (tagged_arrival k t R)
unfolding tagged_arrival
arrival_kept k t R {r} m h = put_kept (gets_row k t) (unsettled_row t) (those_in (λ (r : Row). not (taken_by k t r)) m (fails_not (taken_by k t r) h))

pub arrival_new : (k : ℕ) (t : Operation) (R : List Row) → gets_row k t ≡ true → Memᴰ (unsettled_row t) (tagged_arrival k t R)
unfolding tagged_arrival
arrival_new k t R g = put_new (gets_row k t) (unsettled_row t) (those (λ (r : Row). not (taken_by k t r)) R) g

-- rows of another object stay as they are
pub other_back : (k : ℕ) (t : Operation) (R : List Row) {r : Row} → Memᴰ r (rows_after k t R) → r.operation.object ≢ t.object → Memᴰ r R
other_back k t R {r} m d = arrival_elim (λ (rows : List Row). Memᴰ r rows → Memᴰ r R) k t R
    (λ _ n. n)
    (λ _ _ n. ⊎_elim (λ e. absurd (d (ap (λ (x : Row). x.operation.object) e))) (λ n. n) (settled_back t R n))
    (λ _ n. ⊎_elim (λ e. absurd (d (ap (λ (x : Row). x.operation.object) e.0))) (λ n. n.0) (arrival_back k t R n))
    m

pub concerns_object : (k o v : ℕ) (t : Operation) → o ≢ t.object → concerns k o v t ≡ false
unfolding concerns
concerns_object k o v t d = rw (ne_eqb t.object o (λ e. d (sym e)))

on_object : (o v : ℕ) (u : Operation) → u.object ≢ o → on o v u ≡ false
unfolding on
on_object o v u d = rw (ne_eqb u.object o d)

pub other_kept : (k : ℕ) (t : Operation) (R : List Row) {r : Row} → Memᴰ r R → r.operation.object ≢ t.object → Memᴰ r (rows_after k t R)
unfolding taken_by same_value
other_kept k t R {r} m d = arrival_elim (λ (rows : List Row). Memᴰ r rows) k t R
    (λ _. m)
    (λ _ _. settled_kept t R m (on_object t.object t.value r.operation d))
    (λ _. arrival_kept k t R m (rw (concerns_object k r.operation.object r.operation.value t d)))

-- settling
pub step_back : (k : ℕ) (pre post : List Row) (w : Operation) {r : Row} → Memᴰ r (step_at k pre w post) → Memᴰ r (pre ++ (unsettled_row w ∷ post)) ⊎ (r ≡ settled_row w)
unfolding step_at left_by
step_back k pre post w {r} m = ⊎_elim
    (λ n. inl (Memᴰ.append_left (unsettled_row w ∷ post) (those_out (λ (x : Row). not (dropped_with k w (pre ++ post) x)) pre n).0))
    (λ n. ⊎_elim (λ c. inr (go (becomes_settled k w (pre ++ post)) c)) (λ c. inl (Memᴰ.append_right pre (Memᴰ.tail (those_out (λ (x : Row). not (dropped_with k w (pre ++ post) x)) post c).0)))
    (Memᴰ.append_cases (cond (becomes_settled k w (pre ++ post)) (settled_row w ∷ []) []) n))
    (Memᴰ.append_cases (those (λ (x : Row). not (dropped_with k w (pre ++ post) x)) pre) m)
  where
    go : (b : Bool) → Memᴰ r (cond b (settled_row w ∷ []) []) → r ≡ settled_row w
    go true m = Memᴰ.eq_of_singleton m
    go false m = elim m [ ]

pub step_others : (k : ℕ) (pre post : List Row) (w : Operation) {r : Row} → Memᴰ r (pre ++ post) → dropped_with k w (pre ++ post) r ≡ false → Memᴰ r (step_at k pre w post)
unfolding step_at left_by
step_others k pre post w {r} m s = ⊎_elim
    (λ n. Memᴰ.append_left (cond (becomes_settled k w (pre ++ post)) (settled_row w ∷ []) [] ++ those (λ (x : Row). not (dropped_with k w (pre ++ post) x)) post) (those_in (λ (x : Row). not (dropped_with k w (pre ++ post) x)) n (fails_not (dropped_with k w (pre ++ post) r) s)))
    (λ n. Memᴰ.append_right (those (λ (x : Row). not (dropped_with k w (pre ++ post) x)) pre) (Memᴰ.append_right (cond (becomes_settled k w (pre ++ post)) (settled_row w ∷ []) []) (those_in (λ (x : Row). not (dropped_with k w (pre ++ post) x)) n (fails_not (dropped_with k w (pre ++ post) r) s))))
    (Memᴰ.append_cases pre m)

pub step_kept : (k : ℕ) (pre post : List Row) (w : Operation) {r : Row} → Memᴰ r (pre ++ (unsettled_row w ∷ post)) → dropped_with k w (pre ++ post) r ≡ false → (r ≡ unsettled_row w) ⊎ Memᴰ r (step_at k pre w post)
step_kept k pre post w m s = ⊎_elim inl (λ n. inr (step_others k pre post w n s)) (mem_out pre post (unsettled_row w) m)

pub step_settles : (k : ℕ) (pre post : List Row) (w : Operation) → becomes_settled k w (pre ++ post) ≡ true → Memᴰ (settled_row w) (step_at k pre w post)
unfolding step_at left_by
step_settles k pre post w p = rw p (Memᴰ.append_right (those (λ (x : Row). not (dropped_with k w (pre ++ post) x)) pre) (Memᴰ.head refl))

pub dropped_only_standing : (k : ℕ) (w : Operation) (O : List Row) (x : Row) → removes_stand k ≡ false → dropped_with k w O x ≡ false
unfolding dropped_with
dropped_only_standing k w O x p = rw p

pub dropped_same_value : (o v k : ℕ) (w : Operation) (O : List Row) (x : Row) → on o v x.operation ≡ true → on o v w ≡ false → dropped_with k w O x ≡ false
unfolding dropped_with
dropped_same_value o v k w O x p q = fails (dropped_with k w O x) (λ s.
    let e = on_eq w.object w.value x.operation (remove_on w.object w.value x.operation (and_right x.settled (remove_of w.object w.value x.operation) (and_right (removes_stand k && (eqb w.code 1 && not (add_beside w O))) (x.settled && remove_of w.object w.value x.operation) s))) in
    clash (on o v w) (sym (same_on o v x.operation w e.0 e.1) ∙ p) q)

-- one step is a step at some row that is due, or nothing
pub step_elim : (P : List Row → Type 0) (kind : ℕ → ℕ) (lo : Vector) (pre rest : List Row) → P (pre ++ rest) → ((a b : List Row) (w : Operation) → stable_by lo w ≡ true → pre ++ rest ≡ a ++ (unsettled_row w ∷ b) → P (step_at (kind w.object) a w b)) → P (step_from kind lo pre rest)
unfolding due
step_elim P kind lo pre [] h f = rw append-nil at h
step_elim P kind lo pre (r ∷ rest) h f = cases (due lo r)
    (λ q. rw q (on_due r.settled r.operation q (λ w c e. f pre rest w c e)))
    (λ q. rw q (step_elim P kind lo (pre ++ (r ∷ [])) rest (rw append_assoc h) (λ a b w c e. f a b w c (sym (append_assoc pre (r ∷ []) rest) ∙ e))))
  where
    on_due : (g : Bool) (u : Operation) → due lo (record { settled = g; operation = u }) ≡ true → ((w : Operation) → stable_by lo w ≡ true → pre ++ (record { settled = g; operation = u } ∷ rest) ≡ pre ++ (unsettled_row w ∷ rest) → P (step_at (kind w.object) pre w rest)) → P (step_at (kind u.object) pre u rest)
    on_due true u q f = absurd (false≢true q)
    on_due false u q f = f u q refl

pub steps_elim : (P : List Row → Type 0) (kind : ℕ → ℕ) (lo : Vector) → ((a b : List Row) (w : Operation) → stable_by lo w ≡ true → P (a ++ (unsettled_row w ∷ b)) → P (step_at (kind w.object) a w b)) → (n : ℕ) (R : List Row) → P R → P (settled_rows n kind lo R)
steps_elim P kind lo f zero R h = h
steps_elim P kind lo f (suc n) R h = cases (any (due lo) R)
    (λ q. rw (q, settled_rows) (steps_elim P kind lo f n (step_of kind lo R) (step_elim P kind lo [] R h (λ a b w c e. f a b w c (subst P e h)))))
    (λ q. rw (q, settled_rows) h)
