-- In a table by the rules the values shown are the list: "the different values ascending".
use mathlib.Core.Path.{◌≡◌, refl, sym, ◌∙◌, ap, subst}
use mathlib.Core.Bool.{Bool, true, false, not, ◌&&◌, ◌||◌, false≢true}
use mathlib.Core.Logic.{inl, inr, ⊎_elim}
use mathlib.Core.List.Memᴰ
use mathlib.Core.List.{List, [], ◌∷◌, Memᴰ}
use Prim.Native.Nat.{ℕ}
use native.Mathlib.Omega.{arith}
use lib.Dec.{eqb, ltb}
use lib.ListN.{length}
use borrow.Author.Tests.{eqb-true, eq-eqb, lt-ltb}
use Rattle.meaning.specs.Tests.{any}
use Rattle.meaning.specs.Operations.{Operation}
use Rattle.meaning.specs.Meaning.{on, add_of, remove_of}
use Rattle.meaning.specs.Rows.{Row, lower_row, remove_rows_count, is_in_by_rows, list_by_rows, count_by_rows}
use Rattle.meaning.specs.Arrival.{same_value}
use Rattle.meaning.proofs.Tests.{iff, cases, clash, fails, and_left, and_right, and_both, not_holds, fails_not, any_in, any_out, any_none, or_cases, or_right, or_right_fails}
use Rattle.meaning.proofs.Ascending.{Asc, Sorted}
use Rattle.meaning.proofs.RowOrder.{ordered, between, code_rises}
use Rattle.meaning.proofs.OneValue.{add_on, remove_on}
use Rattle.meaning.proofs.RowLaws.{on_eq}
use Rattle.meaning.proofs.Steps.{and_false, add_not_rem}
use Rattle.meaning.proofs.Lists.{one_list, rows_list_in, rows_list_out, rows_list_asc}
use Rattle.question_scan.specs.Showing.{followed, shows, shown, count_shown, shows_value, value_shown}

same_on : (u : Operation) (row : Row) → same_value u row ≡ on u.object u.value row.operation
unfolding same_value
same_on u row = refl

-- where a later row is of the same object and value, the next one is
next_same : (o v : ℕ) (row : Row) (rows : List Row) → Sorted (row ∷ rows) → on o v row.operation ≡ true → any (λ (r : Row). on o v r.operation) rows ≡ true → followed row rows ≡ true
next_same o v row [] h p e = absurd (false≢true e)
next_same o v row (next ∷ rest) h p e =
    let s = any_out (λ (r : Row). on o v r.operation) (next ∷ rest) e in
    let q = on_eq o v row.operation p in
    let here : on o v next.operation ≡ true = between o v row next s.0 p s.2 (h.0 next (Memᴰ.head refl)) (⊎_elim (λ f. inl (sym f)) (λ m. inr (h.1.0 s.0 m)) (Memᴰ.cases_cons s.1)) in
    same_on row.operation next ∙ rw (q.0, q.1) here

-- and where the next one is, a later row is
same_next : (o v : ℕ) (row : Row) (rows : List Row) → on o v row.operation ≡ true → followed row rows ≡ true → any (λ (r : Row). on o v r.operation) rows ≡ true
same_next o v row [] p e = absurd (false≢true e)
same_next o v row (next ∷ rest) p e =
    let q = on_eq o v row.operation p in
    any_in (λ (r : Row). on o v r.operation) {l = next ∷ rest} (Memᴰ.head refl) (rw (same_on row.operation next, q.0, q.1) at e)

-- what shows a value is an add row of it that is not followed
shows_add : (o : ℕ) (row : Row) (behind : List Row) → shows o row behind ≡ true → (add_of o row.operation.value row.operation ≡ true) × (followed row behind ≡ false)
unfolding shows
shows_add o row behind e = (and_left (add_of o row.operation.value row.operation) (not (followed row behind)) e, not_holds (followed row behind) (and_right (add_of o row.operation.value row.operation) (not (followed row behind)) e))

add_shows : (o : ℕ) (row : Row) (behind : List Row) → add_of o row.operation.value row.operation ≡ true → followed row behind ≡ false → shows o row behind ≡ true
unfolding shows
add_shows o row behind a f = and_both (add_of o row.operation.value row.operation) (not (followed row behind)) a (fails_not (followed row behind) f)

-- an add row is lower than a remove row of the same object and value
remove_not_first : (o v : ℕ) (a b : Row) → lower_row a b ≡ true → remove_of o v a.operation ≡ true → add_of o v b.operation ≡ true → ⊥
unfolding add_of remove_of
remove_not_first o v a b h p q =
    let ca = eqb-true a.operation.code 2 (and_right (on o v a.operation) (eqb a.operation.code 2) p) in
    let cb = eqb-true b.operation.code 1 (and_right (on o v b.operation) (eqb b.operation.code 1) q) in
    omega (arith, code_rises o v a b h (and_left (on o v a.operation) (eqb a.operation.code 2) p) (and_left (on o v b.operation) (eqb b.operation.code 1) q))

abbrev any_add : ℕ → ℕ → List Row → Bool
any_add o v rows = any (λ (r : Row). add_of o v r.operation) rows

abbrev any_remove : ℕ → ℕ → List Row → Bool
any_remove o v rows = any (λ (r : Row). remove_of o v r.operation) rows

abbrev any_on : ℕ → ℕ → List Row → Bool
any_on o v rows = any (λ (r : Row). on o v r.operation) rows

-- rows of the object are adds and removes
abbrev pub Coded : ℕ → List Row → Type 0
Coded o rows = (r : Row) → Memᴰ r rows → (v : ℕ) → on o v r.operation ≡ true → (add_of o v r.operation || remove_of o v r.operation) ≡ true

-- a value that is shown has an add row and no remove row
out_first : (o v : ℕ) (row : Row) (rest : List Row) → Sorted (row ∷ rest) → shows o row rest ≡ true → v ≡ row.operation.value → (any_add o v (row ∷ rest) ≡ true) × (any_remove o v (row ∷ rest) ≡ false)
out_first o v row rest h q e =
    let s = shows_add o row rest q in
    let a : add_of o v row.operation ≡ true = rw e s.0 in
    let p = add_on o v row.operation a in
    let none : any_on o v rest ≡ false = fails (any_on o v rest) (λ x. clash (followed row rest) (next_same o v row rest h p x) s.1) in
    let b : remove_of o v row.operation ≡ false = add_not_rem o v row.operation a in
    (rw a refl, rw b (any_none (λ (r : Row). remove_of o v r.operation) rest (λ r k. fails (remove_of o v r.operation) (λ x. clash (any_on o v rest) (any_in (λ (r : Row). on o v r.operation) k (remove_on o v r.operation x)) none))))

out_later : (o v : ℕ) (row : Row) (rest : List Row) → Sorted (row ∷ rest) → (any_add o v rest ≡ true) × (any_remove o v rest ≡ false) → (any_add o v (row ∷ rest) ≡ true) × (any_remove o v (row ∷ rest) ≡ false)
out_later o v row rest h r =
    let s = any_out (λ (x : Row). add_of o v x.operation) rest r.0 in
    let b : remove_of o v row.operation ≡ false = fails (remove_of o v row.operation) (λ x. remove_not_first o v row s.0 (h.0 s.0 s.1) x s.2) in
    (or_right (add_of o v row.operation) r.0, rw b r.1)

shown_out : (o v : ℕ) (rows : List Row) → Sorted rows → Memᴰ v (shown o rows) → (any_add o v rows ≡ true) × (any_remove o v rows ≡ false)
shown_out o v [] h m = elim m [ ]
shown_out o v (row ∷ rest) h m = cases (shows o row rest)
    (λ q. ⊎_elim (out_first o v row rest h q) (λ n. out_later o v row rest h (shown_out o v rest h.1 n)) (Memᴰ.cases_cons (rw q at m)))
    (λ q. out_later o v row rest h (shown_out o v rest h.1 (rw q at m)))

-- and a value with an add row and no remove row is shown
shown_in : (o v : ℕ) (rows : List Row) → Sorted rows → Coded o rows → any_add o v rows ≡ true → any_remove o v rows ≡ false → Memᴰ v (shown o rows)
shown_in o v [] h c a n = absurd (false≢true a)
shown_in o v (row ∷ rest) h c a n = cases (any_on o v rest)
    (λ x. let s = any_out (λ (r : Row). on o v r.operation) rest x in
    let none : any_remove o v rest ≡ false = or_right_fails (remove_of o v row.operation) (any_remove o v rest) n in
    let add : add_of o v s.0.operation ≡ true = ⊎_elim (λ p. p) (λ p. clash (any_remove o v rest) (any_in (λ (r : Row). remove_of o v r.operation) s.1 p) none) (or_cases (add_of o v s.0.operation) (remove_of o v s.0.operation) (c s.0 (Memᴰ.tail s.1) v s.2)) in
    let m = shown_in o v rest h.1 (λ r k. c r (Memᴰ.tail k)) (any_in (λ (r : Row). add_of o v r.operation) s.1 add) none in
    cases (shows o row rest) (λ q. rw q (Memᴰ.tail m)) (λ q. rw q m))
    (λ x. let own : add_of o v row.operation ≡ true = ⊎_elim (λ p. p) (λ p. let s = any_out (λ (r : Row). add_of o v r.operation) rest p in clash (any_on o v rest) (any_in (λ (r : Row). on o v r.operation) s.1 (add_on o v s.0.operation s.2)) x) (or_cases (add_of o v row.operation) (any_add o v rest) a) in
    let p = add_on o v row.operation own in
    let e : row.operation.value ≡ v = (on_eq o v row.operation p).1 in
    let alone : followed row rest ≡ false = fails (followed row rest) (λ f. clash (any_on o v rest) (same_next o v row rest p f) x) in
    rw (add_shows o row rest (subst (λ (x : ℕ). add_of o x row.operation ≡ true) (sym e) own) alone) (Memᴰ.head (sym e)))

shown_asc : (o : ℕ) (rows : List Row) → Sorted rows → Asc ltb (shown o rows)
shown_asc o [] h = tt
shown_asc o (row ∷ rest) h = cases (shows o row rest)
    (λ q. rw q (λ w m. above w m q, shown_asc o rest h.1))
    (λ q. rw q (shown_asc o rest h.1))
  where
    above : (w : ℕ) → Memᴰ w (shown o rest) → shows o row rest ≡ true → ltb row.operation.value w ≡ true
    above w m q =
        let s = shows_add o row rest q in
        let p = add_on o row.operation.value row.operation s.0 in
        let r = any_out (λ (x : Row). add_of o w x.operation) rest (shown_out o w rest h.1 m).0 in
        let t = on_eq o w r.0.operation (add_on o w r.0.operation r.2) in
        let u = on_eq o row.operation.value row.operation p in
        ⊎_elim (λ x. absurd (omega arith))
        (λ x. ⊎_elim (λ y. lt-ltb row.operation.value w (omega arith))
        (λ y. let e : row.operation.value ≡ w = (let z = y.0 in omega arith) in
        clash (followed row rest) (next_same o row.operation.value row rest h p (any_in (λ (z : Row). on o row.operation.value z.operation) r.1 (rw e (add_on o w r.0.operation r.2)))) s.1)
        x.1)
        (ordered row r.0 (h.0 r.0 r.1))

-- In rows in order, of adds and removes, where removes count or there are none, the list is what is shown.
pub list_shown : (kind o : ℕ) (rows : List Row) → Sorted rows → Coded o rows → (remove_rows_count kind ≡ false → (v : ℕ) → any (λ (r : Row). remove_of o v r.operation) rows ≡ false) → list_by_rows kind o rows ≡ shown o rows
unfolding is_in_by_rows
list_shown kind o rows h c n = one_list (list_by_rows kind o rows) (shown o rows) (rows_list_asc kind o rows) (shown_asc o rows h)
    (λ v m. let e = rows_list_out kind o v rows m in
    shown_in o v rows h c (and_left (any_add o v rows) (not (remove_rows_count kind && any_remove o v rows)) e)
    (cases (remove_rows_count kind) (λ q. not_holds (any_remove o v rows) (rw q at (and_right (any_add o v rows) (not (remove_rows_count kind && any_remove o v rows)) e))) (λ q. n q v)))
    (λ v m. let s = shown_out o v rows h m in rows_list_in kind o v rows (rw (s.0, s.1) (fails_not (remove_rows_count kind && false) (and_false (remove_rows_count kind)))))

-- So the headcount of such rows counts pupils, not log rows.
pub count_shown_lem : (kind o : ℕ) (rows : List Row) → Sorted rows → Coded o rows → (remove_rows_count kind ≡ false → (v : ℕ) → any (λ (r : Row). remove_of o v r.operation) rows ≡ false) → count_by_rows kind o rows ≡ count_shown o rows
unfolding count_by_rows count_shown
count_shown_lem kind o rows h c n = ap length (list_shown kind o rows h c n)

-- A value is shown where it is among the values shown.
shown_member : (o v : ℕ) (rows : List Row) → value_shown o v rows ≡ true → Memᴰ v (shown o rows)
unfolding value_shown shows_value
shown_member o v [] e = absurd (false≢true e)
shown_member o v (row ∷ rest) e = ⊎_elim
    (λ p. rw (and_left (shows o row rest) (eqb row.operation.value v) p) (Memᴰ.head (sym (eqb-true row.operation.value v (and_right (shows o row rest) (eqb row.operation.value v) p)))))
    (λ p. cases (shows o row rest) (λ q. rw q (Memᴰ.tail (shown_member o v rest p))) (λ q. rw q (shown_member o v rest p)))
    (or_cases (shows o row rest && eqb row.operation.value v) (value_shown o v rest) e)

member_shown : (o v : ℕ) (rows : List Row) → Memᴰ v (shown o rows) → value_shown o v rows ≡ true
unfolding value_shown shows_value
member_shown o v [] m = elim m [ ]
member_shown o v (row ∷ rest) m = cases (shows o row rest)
    (λ q. ⊎_elim (λ e. rw (q, eq-eqb row.operation.value v (sym e)) refl) (λ n. or_right (shows o row rest && eqb row.operation.value v) (member_shown o v rest n)) (Memᴰ.cases_cons (rw q at m)))
    (λ q. or_right (shows o row rest && eqb row.operation.value v) (member_shown o v rest (rw q at m)))

-- So the test for one value answers whether it is in.
pub value_in_shown : (kind o v : ℕ) (rows : List Row) → list_by_rows kind o rows ≡ shown o rows → is_in_by_rows kind o v rows ≡ value_shown o v rows
value_in_shown kind o v rows e = iff (is_in_by_rows kind o v rows) (value_shown o v rows)
    (λ p. member_shown o v rows (subst (λ (l : List ℕ). Memᴰ v l) e (rows_list_in kind o v rows p)))
    (λ p. rows_list_out kind o v rows (subst (λ (l : List ℕ). Memᴰ v l) (sym e) (shown_member o v rows p)))
