-- Lists: the values that are in, ascending, each once; one list has just these members.
use mathlib.Core.Path.{◌≡◌, refl, sym, ◌∙◌, ap, subst}
use mathlib.Core.Bool.{Bool, true, false, not, ◌&&◌, cond}
use mathlib.Core.Logic.{◌⊎◌, inl, inr, ⊎_elim}
use mathlib.Core.List.Memᴰ
use mathlib.Core.List.{List, [], ◌∷◌, map, Memᴰ}
use Prim.Native.Nat.{ℕ}
use native.Mathlib.Omega.{arith}
use lib.Dec.{ltb, eqb}
use borrow.Author.Tests.{eqb-true, eqb-false, eq-eqb, ltb-true, ltb-false, lt-ltb, le-ltb}
use Rattle.meaning.specs.Tests.{any, those}
use Rattle.meaning.specs.Operations.{Operation, removes_stand}
use Rattle.meaning.specs.Meaning.{of, add_of, remove_of, survives, stands, in_grow_set, in_two_phase_set, in_by_survival, in_by_standing, is_in, joined_with, joined, values_named, list_of}
use Rattle.meaning.specs.Rows.{Row, remove_rows_count, is_in_by_rows, list_by_rows}
use Rattle.meaning.proofs.Tests.{cases, and_left, any_in, any_out, on_cons, those_in, those_out}
use Rattle.meaning.proofs.Ascending.{Asc, asc_eq}
use Rattle.meaning.proofs.OneValue.{add_on}
use Rattle.meaning.proofs.RowLaws.{on_eq}

-- joining: the same members, ascending
with_out : (v : ℕ) (l : List ℕ) {x : ℕ} → Memᴰ x (joined_with v l) → (x ≡ v) ⊎ Memᴰ x l
with_out v [] m = inl (Memᴰ.eq_of_singleton m)
with_out v (y ∷ l) {x} m = go (ltb v y) (eqb v y) (λ n. with_out v l n) m
  where
    go : (a b : Bool) → (Memᴰ x (joined_with v l) → (x ≡ v) ⊎ Memᴰ x l) → Memᴰ x (cond a (v ∷ y ∷ l) (cond b (y ∷ l) (y ∷ joined_with v l))) → (x ≡ v) ⊎ Memᴰ x (y ∷ l)
    go true b f m = Memᴰ.cases_cons m
    go false true f m = inr m
    go false false f m = ⊎_elim (λ e. inr (Memᴰ.head e)) (λ n. ⊎_elim inl (λ k. inr (Memᴰ.tail k)) (f n)) (Memᴰ.cases_cons m)

with_new : (v : ℕ) (l : List ℕ) → Memᴰ v (joined_with v l)
with_new v [] = Memᴰ.head refl
with_new v (y ∷ l) = cases (ltb v y) (λ p. rw p (Memᴰ.head refl)) (λ p. cases (eqb v y) (λ q. rw (p, q) (Memᴰ.head (eqb-true v y q))) (λ q. rw (p, q) (Memᴰ.tail (with_new v l))))

with_kept : (v : ℕ) (l : List ℕ) {x : ℕ} → Memᴰ x l → Memᴰ x (joined_with v l)
with_kept v [] m = elim m [ ]
with_kept v (y ∷ l) {x} m = cases (ltb v y) (λ p. rw p (Memᴰ.tail m)) (λ p. cases (eqb v y) (λ q. rw (p, q) m)
    (λ q. rw (p, q) (⊎_elim (λ e. Memᴰ.head e) (λ n. Memᴰ.tail (with_kept v l n)) (Memᴰ.cases_cons m))))

ltb_trans : (x y z : ℕ) → ltb x y ≡ true → ltb y z ≡ true → ltb x z ≡ true
ltb_trans x y z p q = lt-ltb x z (omega (arith, ltb-true x y p, ltb-true y z q))

with_asc : (v : ℕ) (l : List ℕ) → Asc ltb l → Asc ltb (joined_with v l)
with_asc v [] h = (λ y m. elim m [ ], tt)
with_asc v (y ∷ l) h = cases (ltb v y)
    (λ p. rw p (on_cons (λ (x : ℕ). ltb v x ≡ true) p (λ x m. ltb_trans v y x p (h.0 x m)), h))
    (λ p. cases (eqb v y) (λ q. rw (p, q) h)
    (λ q. rw (p, q) (
      λ x m. ⊎_elim (λ e. rw e (lt-ltb y v (omega (arith, ltb-false v y p, eqb-false v y q)))) (h.0 x) (with_out v l m),
      with_asc v l h.1,
    )))

pub joined_out : (l : List ℕ) {x : ℕ} → Memᴰ x (joined l) → Memᴰ x l
joined_out [] m = m
joined_out (v ∷ l) m = ⊎_elim Memᴰ.head (λ n. Memᴰ.tail (joined_out l n)) (with_out v (joined l) m)

pub joined_in : (l : List ℕ) {x : ℕ} → Memᴰ x l → Memᴰ x (joined l)
joined_in [] m = m
joined_in (v ∷ l) {x} m = ⊎_elim (λ e. rw e (with_new v (joined l))) (λ n. with_kept v (joined l) (joined_in l n)) (Memᴰ.cases_cons m)

pub joined_asc : (l : List ℕ) → Asc ltb (joined l)
joined_asc [] = tt
joined_asc (v ∷ l) = with_asc v (joined l) (joined_asc l)

-- there is one ascending list with given members
pub one_list : (l m : List ℕ) → Asc ltb l → Asc ltb m → ((v : ℕ) → Memᴰ v l → Memᴰ v m) → ((v : ℕ) → Memᴰ v m → Memᴰ v l) → l ≡ m
one_list l m p q to from = asc_eq ltb (λ x. le-ltb x x (omega arith)) ltb_trans l m p q to from

-- a value that some operation of the object names
named : (o v : ℕ) (operations : List Operation) → any (add_of o v) operations ≡ true → Memᴰ v (values_named o operations)
unfolding values_named of
named o v operations e =
    let s = any_out (add_of o v) operations e in
    let q = on_eq o v s.0 (add_on o v s.0 s.2) in
    subst (λ (x : ℕ). Memᴰ x (map (λ (u : Operation). u.value) (those (of o) operations))) q.1 (mapped (those (of o) operations) (those_in (of o) s.1 (eq-eqb s.0.object o q.0)))
  where
    mapped : (l : List Operation) {u : Operation} → Memᴰ u l → Memᴰ u.value (map (λ (u : Operation). u.value) l)
    mapped [] m = elim m [ ]
    mapped (x ∷ l) m = ⊎_elim (λ f. Memᴰ.head (ap (λ (u : Operation). u.value) f)) (λ n. Memᴰ.tail (mapped l n)) (Memᴰ.cases_cons m)

-- what is in, was added
in_added : (k o v : ℕ) (accepted : List Operation) → is_in k o v accepted ≡ true → any (add_of o v) accepted ≡ true
unfolding is_in in_grow_set in_two_phase_set in_by_survival in_by_standing
in_added k o v accepted e = go (eqb k 3) (eqb k 4) e
  where
    some : (p : Operation → Bool) → any (λ (u : Operation). add_of o v u && p u) accepted ≡ true → any (add_of o v) accepted ≡ true
    some p h = let s = any_out (λ (u : Operation). add_of o v u && p u) accepted h in any_in (add_of o v) s.1 (and_left (add_of o v s.0) (p s.0) s.2)

    stand : Bool
    stand = not (any (λ (u : Operation). remove_of o v u && stands o v accepted u) accepted)

    last : (c : Bool) → cond c (any (λ (u : Operation). add_of o v u && stands o v accepted u) accepted && stand) (any (λ (u : Operation). add_of o v u && survives k o v accepted u) accepted) ≡ true → any (add_of o v) accepted ≡ true
    last true h = some (stands o v accepted) (and_left (any (λ (u : Operation). add_of o v u && stands o v accepted u) accepted) stand h)
    last false h = some (survives k o v accepted) h

    go : (a b : Bool) → cond a (any (add_of o v) accepted) (cond b (any (add_of o v) accepted && not (any (remove_of o v) accepted)) (cond (removes_stand k) (any (λ (u : Operation). add_of o v u && stands o v accepted u) accepted && stand) (any (λ (u : Operation). add_of o v u && survives k o v accepted u) accepted))) ≡ true → any (add_of o v) accepted ≡ true
    go true b h = h
    go false true h = and_left (any (add_of o v) accepted) (not (any (remove_of o v) accepted)) h
    go false false h = last (removes_stand k) h

rows_added : (k o v : ℕ) (rows : List Row) → is_in_by_rows k o v rows ≡ true → any (add_of o v) (map (λ (row : Row). row.operation) rows) ≡ true
unfolding is_in_by_rows
rows_added k o v rows e = mapped rows (and_left (any (λ (row : Row). add_of o v row.operation) rows) (not (remove_rows_count k && any (λ (row : Row). remove_of o v row.operation) rows)) e)
  where
    mapped : (l : List Row) → any (λ (row : Row). add_of o v row.operation) l ≡ true → any (add_of o v) (map (λ (row : Row). row.operation) l) ≡ true
    mapped [] h = h
    mapped (r ∷ l) h = cases (add_of o v r.operation) (λ q. rw q) (λ q. rw q (mapped l (rw q at h)))

-- the list of the definition: just the values that are in, ascending
pub list_out : (k o v : ℕ) (accepted : List Operation) → Memᴰ v (list_of k o accepted) → is_in k o v accepted ≡ true
unfolding list_of
list_out k o v accepted m = (those_out (λ (v : ℕ). is_in k o v accepted) (values_named o accepted) (joined_out (those (λ (v : ℕ). is_in k o v accepted) (values_named o accepted)) m)).1

pub list_in : (k o v : ℕ) (accepted : List Operation) → is_in k o v accepted ≡ true → Memᴰ v (list_of k o accepted)
unfolding list_of
list_in k o v accepted e = joined_in (those (λ (v : ℕ). is_in k o v accepted) (values_named o accepted)) (those_in (λ (v : ℕ). is_in k o v accepted) (named o v accepted (in_added k o v accepted e)) e)

pub list_asc : (k o : ℕ) (accepted : List Operation) → Asc ltb (list_of k o accepted)
unfolding list_of
list_asc k o accepted = joined_asc (those (λ (v : ℕ). is_in k o v accepted) (values_named o accepted))

-- the list from rows, likewise
pub rows_list_out : (k o v : ℕ) (rows : List Row) → Memᴰ v (list_by_rows k o rows) → is_in_by_rows k o v rows ≡ true
unfolding list_by_rows
rows_list_out k o v rows m = (those_out (λ (v : ℕ). is_in_by_rows k o v rows) (values_named o (map (λ (row : Row). row.operation) rows)) (joined_out (those (λ (v : ℕ). is_in_by_rows k o v rows) (values_named o (map (λ (row : Row). row.operation) rows))) m)).1

pub rows_list_in : (k o v : ℕ) (rows : List Row) → is_in_by_rows k o v rows ≡ true → Memᴰ v (list_by_rows k o rows)
unfolding list_by_rows
rows_list_in k o v rows e = joined_in (those (λ (v : ℕ). is_in_by_rows k o v rows) (values_named o (map (λ (row : Row). row.operation) rows))) (those_in (λ (v : ℕ). is_in_by_rows k o v rows) (named o v (map (λ (row : Row). row.operation) rows) (rows_added k o v rows e)) e)

pub rows_list_asc : (k o : ℕ) (rows : List Row) → Asc ltb (list_by_rows k o rows)
unfolding list_by_rows
rows_list_asc k o rows = joined_asc (those (λ (v : ℕ). is_in_by_rows k o v rows) (values_named o (map (λ (row : Row). row.operation) rows)))

-- where each value is in alike, the lists are one
pub list_is : (k o : ℕ) (rows : List Row) (accepted : List Operation) → ((v : ℕ) → is_in_by_rows k o v rows ≡ is_in k o v accepted) → list_by_rows k o rows ≡ list_of k o accepted
list_is k o rows accepted e = one_list (list_by_rows k o rows) (list_of k o accepted) (rows_list_asc k o rows) (list_asc k o accepted)
    (λ v m. list_in k o v accepted (sym (e v) ∙ rows_list_out k o v rows m))
    (λ v m. rows_list_in k o v rows (e v ∙ list_out k o v accepted m))

pub list_same : (k o : ℕ) (accepted others : List Operation) → ((v : ℕ) → is_in k o v accepted ≡ is_in k o v others) → list_of k o accepted ≡ list_of k o others
list_same k o accepted others e = one_list (list_of k o accepted) (list_of k o others) (list_asc k o accepted) (list_asc k o others)
    (λ v m. list_in k o v others (sym (e v) ∙ list_out k o v accepted m))
    (λ v m. list_in k o v accepted (e v ∙ list_out k o v others m))

pub rows_list_same : (k o : ℕ) (rows others : List Row) → ((v : ℕ) → is_in_by_rows k o v rows ≡ is_in_by_rows k o v others) → list_by_rows k o rows ≡ list_by_rows k o others
rows_list_same k o rows others e = one_list (list_by_rows k o rows) (list_by_rows k o others) (rows_list_asc k o rows) (rows_list_asc k o others)
    (λ v m. rows_list_in k o v others (sym (e v) ∙ rows_list_out k o v rows m))
    (λ v m. rows_list_in k o v rows (e v ∙ rows_list_out k o v others m))
