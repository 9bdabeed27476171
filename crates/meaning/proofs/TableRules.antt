-- Each call keeps the table rules, on any table that meets them, reachable or not.
use mathlib.Core.Path.{◌≡◌, refl, sym, ◌∙◌, ap, subst}
use mathlib.Core.Bool.{Bool, true, false, not, ◌&&◌, ◌||◌, cond, false≢true}
use mathlib.Core.Logic.{⊎_elim, ◌≢◌}
use mathlib.Core.List.Memᴰ
use mathlib.Core.List.{List, [], ◌∷◌, ◌++◌, Memᴰ}
use Prim.Native.Nat.{ℕ, zero, suc, ◌+◌, ◌*◌, ◌<◌, ◌≤◌}
use native.Mathlib.Omega.{arith}
use native.Mathlib.Nat.{le_of_suc-le-suc, not-suc-le-zero}
use lib.Dec.{leb, ltb, eqb}
use lib.IntN.{ℤ, pos, negsuc, neg_ℤ, ◌+ℤ◌, nat_abs, sub_ℕ}
use lib.ListN.{get_or, set, length, replicate, length-append, length-set, length-replicate, get_or-replicate}
use lib.Seq.{get_or-set_same, get_or-set_other}
use borrow.Author.Tests.{ltb-true, ltb-false, leb-true, eqb-true, eqb-false, not-false, lt-ltb, le-ltb, le-leb, eq-eqb, ne_eqb}
use Rattle.meaning.specs.Tests.{any, every, those}
use Rattle.meaning.specs.Order.{Vector, entry_limit, at_most, raised}
use Rattle.meaning.specs.Operations.{Operation, number_of, is_counter, removes_stand, codes_of, code_allowed, value_allowed, allowed, greatest_amount}
use Rattle.meaning.specs.Meaning.{on, remove_of}
use Rattle.meaning.specs.Rows.{Row, unsettled_row, settled_row, key_of, lower_key, lower_row, insert_row}
use Rattle.meaning.specs.Arrival.{gets_row, with_row, taken_by, tagged_arrival, same_value, settled_arrival, rows_after, amount_of, totals_after}
use Rattle.meaning.specs.Settling.{remove_beside, add_beside, becomes_settled, dropped_with, left_by, step_at}
use Rattle.meaning.specs.Table.{Header, Table, kind_in, low, zeros, opened, in_range, last_rule, sum_of_entries, total_bound, is_negative, total_rule, storable, settled_only, one_row_a_value, is_table}
use Rattle.meaning.specs.Refusals.{Frame, Local, issued_by, refusal_of_frame, refusal_of_local, refusal_of_settling, operation_allowed, opening_refusals}
use Rattle.meaning.specs.Calls.{Opening, with_rows, after_arrival, outcome, receive, issue, settle, rows_settled, open_table}
use Rattle.meaning.specs.History.{Event, receives, issues, settles, Station, after_outcome, after_settling, after, after_all, reached as reached_station}
use Rattle.meaning.proofs.Tests.{cases, clash, and_left, and_right, and_both, and_fails, fails, fails_not, not_holds, or_cases, or_left_fails, or_right_fails, on_cons, any_in, any_no, any_none, those_out, mem_mid, between_out}
use Rattle.meaning.proofs.Vectors.{at_most_refl, at_most_trans, at_most_at, at_most_raised, raised_at, eq_same}
use Rattle.meaning.proofs.Ascending.{Asc, Sorted, asc_those, asc_join, asc_left, asc_right, asc_cross, row_trans, row_total, lower_by_rest}
use Rattle.meaning.proofs.RowLaws.{Tagged, arrival_elim, settled_back, arrival_back, ins_back, on_eq, on_self, same_on, steps_elim}
use Rattle.meaning.proofs.KindGroups.{allowed_code}
use Rattle.meaning.proofs.Acceptance.{frame_accepted, local_accepted}
use Rattle.meaning.proofs.TableFacts.{RowFacts, Facts, facts, is_table_lem, header_facts, every_place}
use Rattle.meaning.proofs.Arriving.{Accepts, frame_accepts, local_accepts}
use Rattle.meaning.proofs.Settling.{step_facts, stored_codes}

-- the clock
every_set : (p : ℕ → Bool) (l : List ℕ) (i a : ℕ) → every p l ≡ true → p a ≡ true → every p (set l i a) ≡ true
every_set p [] i a e q = refl
every_set p (x ∷ l) zero a e q = and_both (p a) (every p l) q (and_right (p x) (every p l) e)
every_set p (x ∷ l) (suc i) a e q = and_both (p x) (every p (set l i a)) (and_left (p x) (every p l) e) (every_set p l i a (and_right (p x) (every p l) e) q)

sum_raised : (clock : Vector) (s : ℕ) → s < length clock → sum_of_entries (raised clock s) ≡ suc (sum_of_entries clock)
sum_raised [] s h = absurd (not-suc-le-zero h)
sum_raised (x ∷ clock) zero h = omega arith
sum_raised (x ∷ clock) (suc s) h = let e = sum_raised clock s (le_of_suc-le-suc h) in omega arith

-- totals
abs_sub : (a b : ℕ) → nat_abs (sub_ℕ a b) ≤ a + b
abs_sub a b = cases (ltb a b) (λ q. let h = ltb-true a b q in rw q (omega arith)) (λ q. rw q (omega arith))

abs_add : (x y : ℤ) → nat_abs (x +ℤ y) ≤ nat_abs x + nat_abs y
abs_add (pos a) (pos b) = omega arith
abs_add (pos a) (negsuc b) = abs_sub a (suc b)
abs_add (negsuc a) (pos b) = let h = abs_sub b (suc a) in omega arith
abs_add (negsuc a) (negsuc b) = omega arith

abs_amount : (u : Operation) → nat_abs (amount_of u) ≡ u.value
unfolding amount_of
abs_amount u = cases (eqb u.code 1) (λ q. rw q) (λ q. rw q (abs_neg u.value))
  where
    abs_neg : (n : ℕ) → nat_abs (neg_ℤ (pos n)) ≡ n
    abs_neg zero = refl
    abs_neg (suc n) = refl

-- the rule of a total, by its kind and bound
abbrev rule_at : ℕ → ℕ → ℤ → Bool
rule_at kind bound total = cond (is_counter kind) (leb (nat_abs total) bound && not (eqb kind 1 && is_negative total)) (eqb (nat_abs total) 0)

rule_above : (kind bound bound' : ℕ) (total : ℤ) → bound ≤ bound' → rule_at kind bound total ≡ true → rule_at kind bound' total ≡ true
rule_above kind bound bound' total h e = cases (is_counter kind)
    (λ q. let f = rw q at e in
    let small = leb-true (nat_abs total) bound (and_left (leb (nat_abs total) bound) (not (eqb kind 1 && is_negative total)) f) in
    rw q (and_both (leb (nat_abs total) bound') (not (eqb kind 1 && is_negative total)) (le-leb (nat_abs total) bound' (omega arith)) (and_right (leb (nat_abs total) bound) (not (eqb kind 1 && is_negative total)) f)))
    (λ q. rw q (rw q at e))

still_positive : (total : ℤ) (u : Operation) → code_allowed 1 u.code ≡ true → is_negative total ≡ false → is_negative (total +ℤ amount_of u) ≡ false
unfolding amount_of codes_of is_negative
still_positive (pos n) u c e = rw (allowed_code (λ (code : ℕ). eqb code 1 ≡ true) 1 u.code c (refl, tt))
still_positive (negsuc n) u c e = absurd (false≢true (sym e))

rule_added : (kind bound bound' : ℕ) (total : ℤ) (u : Operation) → is_counter kind ≡ true → code_allowed kind u.code ≡ true → u.value ≤ greatest_amount → bound + greatest_amount ≤ bound' → rule_at kind bound total ≡ true → rule_at kind bound' (total +ℤ amount_of u) ≡ true
rule_added kind bound bound' total u counter code value h e =
    let f = rw counter at e in
    let small = leb-true (nat_abs total) bound (and_left (leb (nat_abs total) bound) (not (eqb kind 1 && is_negative total)) f) in
    let sum = abs_add total (amount_of u) in
    let amount = abs_amount u in
    rw counter (and_both (leb (nat_abs (total +ℤ amount_of u)) bound') (not (eqb kind 1 && is_negative (total +ℤ amount_of u)))
    (le-leb (nat_abs (total +ℤ amount_of u)) bound' (omega arith))
    (fails_not (eqb kind 1 && is_negative (total +ℤ amount_of u)) (and_fails (eqb kind 1) (is_negative (total +ℤ amount_of u)) (λ one.
    still_positive total u (rw (eqb-true kind 1 one) at code) (not_holds (is_negative total) (rw one at (and_right (leb (nat_abs total) bound) (not (eqb kind 1 && is_negative total)) f)))))))

-- a relation of the rows in a list, each with all that come behind it: of a new row put in at its place
abbrev Placed : (Row → Row → Bool) → Row → Row → Type 0
Placed lt new row = (lower_row new row ≡ true → lt new row ≡ true) × (lower_row new row ≡ false → lt row new ≡ true)

insert_asc : (lt : Row → Row → Bool) (new : Row) (rows : List Row) → Sorted rows → Asc lt rows → ((row : Row) → Memᴰ row rows → Placed lt new row) → Asc lt (insert_row new rows)
insert_asc lt new [] s h p = (λ y m. elim m [ ], tt)
insert_asc lt new (row ∷ rows) s h p = cases (lower_row new row)
    (λ q. rw q (on_cons (λ (y : Row). lt new y ≡ true) ((p row (Memᴰ.head refl)).0 q) (λ y m. (p y (Memᴰ.tail m)).0 (row_trans new row y q (s.0 y m))), h))
    (λ q. rw q (λ y m. ⊎_elim (λ e. rw e ((p row (Memᴰ.head refl)).1 q)) (h.0 y) (ins_back new rows m), insert_asc lt new rows s.1 h.1 (λ y m. p y (Memᴰ.tail m))))

with_asc : (lt : Row → Row → Bool) (gets : Bool) (new : Row) (rows : List Row) → Sorted rows → Asc lt rows → (gets ≡ true → (row : Row) → Memᴰ row rows → Placed lt new row) → Asc lt (with_row gets new rows)
unfolding with_row
with_asc lt true new rows s h p = insert_asc lt new rows s h (p refl)
with_asc lt false new rows s h p = h

-- of the rows after an arrival
arrival_asc : (lt : Row → Row → Bool) (kind : ℕ) (t : Operation) (rows : List Row) → Sorted rows → Asc lt rows →
    ((row : Row) → Memᴰ row rows → same_value t row ≡ false → Placed lt (settled_row t) row) →
    (Tagged kind → (row : Row) → Memᴰ row rows → Placed lt (unsettled_row t) row) → Asc lt (rows_after kind t rows)
unfolding settled_arrival tagged_arrival
arrival_asc lt kind t rows s h plain tags = arrival_elim (Asc lt) kind t rows (λ _. h)
    (λ _ _. cases (eqb t.code 1)
    (λ q. rw q (with_asc lt (not (any (same_value t) rows)) (settled_row t) rows s h (λ g row m. plain row m (any_no (same_value t) rows (not_holds (any (same_value t) rows) g) row m))))
    (λ q. rw q (insert_asc lt (settled_row t) (those apart rows) (asc_those lower_row apart rows s) (asc_those lt apart rows h)
    (λ row m. let n = those_out apart rows m in plain row n.0 (not_holds (same_value t row) n.1)))))
    (λ g. with_asc lt (gets_row kind t) (unsettled_row t) (those stays rows) (asc_those lower_row stays rows s) (asc_those lt stays rows h)
    (λ _ row m. tags g row (those_out stays rows m).0))
  where
    apart : Row → Bool
    apart row = not (same_value t row)

    stays : Row → Bool
    stays row = not (taken_by kind t row)

-- and of the rows after a settling step, if a settled row stands where its unsettled row stood
step_asc : (lt : Row → Row → Bool) (kind : ℕ) (above below : List Row) (u : Operation) → Asc lt (above ++ (unsettled_row u ∷ below)) →
    (becomes_settled kind u (above ++ below) ≡ true → (row : Row) → Memᴰ row (above ++ below) → (lt row (unsettled_row u) ≡ true → lt row (settled_row u) ≡ true) × (lt (unsettled_row u) row ≡ true → lt (settled_row u) row ≡ true)) →
    Asc lt (step_at kind above u below)
unfolding step_at left_by
step_asc lt kind above below u h moves = go (becomes_settled kind u (above ++ below)) refl
  where
    stays : Row → Bool
    stays row = not (dropped_with kind u (above ++ below) row)

    ha : Asc lt (those stays above)
    ha = asc_those lt stays above (asc_left lt above (unsettled_row u ∷ below) h)

    right : Asc lt (unsettled_row u ∷ below)
    right = asc_right lt above (unsettled_row u ∷ below) h

    hb : Asc lt (those stays below)
    hb = asc_those lt stays below right.1

    ina : {x : Row} → Memᴰ x (those stays above) → Memᴰ x above
    ina m = (those_out stays above m).0

    inb : {x : Row} → Memᴰ x (those stays below) → Memᴰ x below
    inb m = (those_out stays below m).0

    cross : (x y : Row) → Memᴰ x (those stays above) → Memᴰ y (unsettled_row u ∷ below) → lt x y ≡ true
    cross x y m n = asc_cross lt above (unsettled_row u ∷ below) h x y (ina m) n

    go : (c : Bool) → becomes_settled kind u (above ++ below) ≡ c → Asc lt (those stays above ++ (cond c (settled_row u ∷ []) [] ++ those stays below))
    go true q = asc_join lt (those stays above) (settled_row u ∷ those stays below) ha
        (λ y m. (moves q y (Memᴰ.append_right above (inb m))).1 (right.0 y (inb m)), hb)
        (λ x y m n. ⊎_elim
        (λ e. rw e ((moves q x (Memᴰ.append_left below (ina m))).0 (cross x (unsettled_row u) m (Memᴰ.head refl))))
        (λ n. cross x y m (Memᴰ.tail (inb n)))
        (Memᴰ.cases_cons n))
    go false q = asc_join lt (those stays above) (those stays below) ha hb (λ x y m n. cross x y m (Memᴰ.tail (inb n)))

-- strict order: a row's key tells its object, value, sender and number, and whether it is settled
key_value : (t : Operation) (row : Row) → key_of (settled_row t) ≡ key_of row → same_value t row ≡ true
unfolding key_of same_value on
key_value t row e = and_both (eqb row.operation.object t.object) (eqb row.operation.value t.value)
    (eq-eqb row.operation.object t.object (sym (ap (λ (l : List ℕ). get_or l 0 0) e)))
    (eq-eqb row.operation.value t.value (sym (ap (λ (l : List ℕ). get_or l 1 0) e)))

key_number : (t u : Operation) (f : Bool) → key_of (unsettled_row t) ≡ key_of (record { settled = f; operation = u }) → (f ≡ false) × (get_or u.vector t.sender 0 ≡ get_or t.vector t.sender 0)
unfolding key_of number_of
key_number t u true e = let z : ◌≡◌ {A = ℕ} 1 0 = ap (λ (l : List ℕ). get_or l 3 0) e in absurd (omega arith)
key_number t u false e =
    let s : t.sender ≡ u.sender = ap (λ (l : List ℕ). get_or l 4 0) e in
    let n : get_or t.vector t.sender 0 ≡ get_or u.vector u.sender 0 = ap (λ (l : List ℕ). get_or l 5 0) e in
    (refl, rw s (rw s at (sym n)))

placed_by_key : (new row : Row) → key_of new ≢ key_of row → Placed lower_row new row
placed_by_key new row d = (λ q. q, row_total new row d)

arrival_sorted : (kind : ℕ) (t : Operation) (rows : List Row) → Sorted rows → ((row : Row) → Memᴰ row rows → row.settled ≡ false → get_or row.operation.vector t.sender 0 < get_or t.vector t.sender 0) → Sorted (rows_after kind t rows)
arrival_sorted kind t rows s lower = arrival_asc lower_row kind t rows s s
    (λ row m d. placed_by_key (settled_row t) row (λ e. clash (same_value t row) (key_value t row e) d))
    (λ _ row m. placed_by_key (unsettled_row t) row (λ e. let n = key_number t row.operation row.settled e in let l = lower row m n.0 in let q = n.1 in omega arith))

-- a row that becomes settled differs from the others in object, value or code
settles_apart : (kind : ℕ) (u : Operation) (beside : List Row) → (removes_stand kind ≡ true → (eqb u.code 1 || eqb u.code 2) ≡ true) → becomes_settled kind u beside ≡ true → (row : Row) → Memᴰ row beside →
    (eqb row.operation.object u.object && (eqb row.operation.value u.value && eqb row.operation.code u.code)) ≡ false
unfolding becomes_settled same_value on remove_of remove_beside
settles_apart kind u beside codes h row m = fails (o && (v && c)) (λ p.
    let vc = and_right o (v && c) p in
    let one : (o && v) ≡ true = and_both o v (and_left o (v && c) p) (and_left v c vc) in
    cases (removes_stand kind && not (eqb u.code 1))
    (λ q.
    let n = not_holds (eqb u.code 1) (and_right (removes_stand kind) (not (eqb u.code 1)) q) in
    let two : eqb u.code 2 ≡ true = ⊎_elim (λ e. clash (eqb u.code 1) e n) (λ e. e) (or_cases (eqb u.code 1) (eqb u.code 2) (codes (and_left (removes_stand kind) (not (eqb u.code 1)) q))) in
    clash (remove_beside u beside)
    (any_in (λ (x : Row). remove_of u.object u.value x.operation) m (and_both (o && v) (eqb row.operation.code 2) one (rw (eqb-true row.operation.code u.code (and_right v c vc)) two)))
    (not_holds (remove_beside u beside) (and_right (add_beside u beside) (not (remove_beside u beside)) (rw q at h))))
    (λ q. clash (any (same_value u) beside) (any_in (same_value u) m one) (not_holds (any (same_value u) beside) (rw q at h))))
  where
    o : Bool
    o = eqb row.operation.object u.object

    v : Bool
    v = eqb row.operation.value u.value

    c : Bool
    c = eqb row.operation.code u.code

settled_first : (u : Operation) → lower_row (settled_row u) (unsettled_row u) ≡ true
unfolding lower_row key_of number_of
settled_first u =
    let tag = u.sender ∷ get_or u.vector u.sender 0 ∷ [] in
    lower_by_rest u.object u.object (u.value ∷ u.code ∷ 0 ∷ 0 ∷ 0 ∷ []) (u.value ∷ u.code ∷ 1 ∷ tag) refl
    (lower_by_rest u.value u.value (u.code ∷ 0 ∷ 0 ∷ 0 ∷ []) (u.code ∷ 1 ∷ tag) refl
    (lower_by_rest u.code u.code (0 ∷ 0 ∷ 0 ∷ []) (1 ∷ tag) refl refl))

first : (a b c d e f r r' : Bool) → (b && (d && f)) ≡ false → (a || (b && (c || (d && (e || (f && r)))))) ≡ true → (a || (b && (c || (d && (e || (f && r')))))) ≡ true
first true b c d e f r r' n p = refl
first false false c d e f r r' n p = p
first false true true d e f r r' n p = refl
first false true false false e f r r' n p = p
first false true false true true f r r' n p = refl
first false true false true false true r r' n p = clash true refl n
first false true false true false false r r' n p = p

stays_first : (row : Row) (u : Operation) → (eqb row.operation.object u.object && (eqb row.operation.value u.value && eqb row.operation.code u.code)) ≡ false → lower_row row (unsettled_row u) ≡ true → lower_row row (settled_row u) ≡ true
unfolding lower_row key_of number_of
stays_first row u n p =
    let tag : List ℕ = cond row.settled 0 1 ∷ row.operation.sender ∷ get_or row.operation.vector row.operation.sender 0 ∷ [] in
    first (ltb row.operation.object u.object) (eqb row.operation.object u.object) (ltb row.operation.value u.value) (eqb row.operation.value u.value) (ltb row.operation.code u.code) (eqb row.operation.code u.code)
    (lower_key tag (1 ∷ u.sender ∷ get_or u.vector u.sender 0 ∷ [])) (lower_key tag (0 ∷ 0 ∷ 0 ∷ [])) n p

step_sorted : (kind : ℕ) (above below : List Row) (u : Operation) → (removes_stand kind ≡ true → (eqb u.code 1 || eqb u.code 2) ≡ true) → Sorted (above ++ (unsettled_row u ∷ below)) → Sorted (step_at kind above u below)
step_sorted kind above below u codes s = step_asc lower_row kind above below u s
    (λ q row m. (stays_first row u (settles_apart kind u (above ++ below) codes q row m), row_trans (settled_row u) (unsettled_row u) row (settled_first u)))

-- "kind 4 one row a value", as a relation of rows
abbrev single : (ℕ → ℕ) → Row → Row → Bool
single kind_of row other = not (eqb (kind_of row.operation.object) 4 && same_value row.operation other)

one_row_single : (kind_of : ℕ → ℕ) (rows : List Row) → one_row_a_value kind_of rows ≡ true → Asc (single kind_of) rows
one_row_single kind_of [] e = tt
one_row_single kind_of (row ∷ rows) e =
    let four = eqb (kind_of row.operation.object) 4 in
    let same = any (same_value row.operation) rows in
    let n = not_holds (four && same) (and_left (not (four && same)) (one_row_a_value kind_of rows) e) in (
      λ y m. fails_not (four && same_value row.operation y) (and_fails four (same_value row.operation y) (λ q. any_no (same_value row.operation) rows (rw q at n) y m)),
      one_row_single kind_of rows (and_right (not (four && same)) (one_row_a_value kind_of rows) e),
    )

single_one_row : (kind_of : ℕ → ℕ) (rows : List Row) → Asc (single kind_of) rows → one_row_a_value kind_of rows ≡ true
single_one_row kind_of [] s = refl
single_one_row kind_of (row ∷ rows) s =
    let four = eqb (kind_of row.operation.object) 4 in
    let same = any (same_value row.operation) rows in
    and_both (not (four && same)) (one_row_a_value kind_of rows)
    (fails_not (four && same) (and_fails four same (λ q. any_none (same_value row.operation) rows (λ y m. rw q at (not_holds (four && same_value row.operation y) (s.0 y m))))))
    (single_one_row kind_of rows s.1)

-- a new row of another kind, or of a value that no row has
placed_single : (kind_of : ℕ → ℕ) (new row : Row) → (eqb (kind_of new.operation.object) 4 && same_value new.operation row) ≡ false → Placed (single kind_of) new row
unfolding same_value
placed_single kind_of new row h = (
  λ _. fails_not (four new && same_value new.operation row) h,
  λ _. fails_not (four row && same_value row.operation new) (fails (four row && same_value row.operation new) (λ p.
      let e = on_eq row.operation.object row.operation.value new.operation (and_right (four row) (same_value row.operation new) p) in
      clash (four new && same_value new.operation row)
      (and_both (four new) (same_value new.operation row) (rw e.0 (and_left (four row) (same_value row.operation new) p))
      (same_on new.operation.object new.operation.value row.operation new.operation (sym e.0) (sym e.1) ∙ on_self new.operation))
      h)),
)
  where
    four : Row → Bool
    four x = eqb (kind_of x.operation.object) 4

arrival_single : (kind_of : ℕ → ℕ) (t : Operation) (rows : List Row) → Sorted rows → Asc (single kind_of) rows → Asc (single kind_of) (rows_after (kind_of t.object) t rows)
unfolding same_value
arrival_single kind_of t rows s h = arrival_asc (single kind_of) (kind_of t.object) t rows s h
    (λ row m d. placed_single kind_of (settled_row t) row (and_fails (eqb (kind_of t.object) 4) (same_value t row) (λ _. d)))
    (λ g row m. placed_single kind_of (unsettled_row t) row (rw (or_right_fails (eqb (kind_of t.object) 3) (eqb (kind_of t.object) 4) g.1)))

step_single : (kind_of : ℕ → ℕ) (kind : ℕ) (above below : List Row) (u : Operation) → Asc (single kind_of) (above ++ (unsettled_row u ∷ below)) → Asc (single kind_of) (step_at kind above u below)
unfolding same_value on
step_single kind_of kind above below u h = step_asc (single kind_of) kind above below u h (λ _ row m. (λ e. e, λ e. e))

-- the rules of a row go by the header and D, and hold on where D rises
facts_above : (table : Table) (clock' : Vector) (last' : List Vector) (totals' : List ℤ) (rows' : List Row) (row : Row) → at_most table.clock clock' ≡ true → RowFacts table row →
    RowFacts (record { header = table.header; clock = clock'; last = last'; totals = totals'; rows = rows' }) row
facts_above table clock' last' totals' rows' row h f = record {
  declared = f.declared;
  is_storable = f.is_storable;
  value_allowed_lem = f.value_allowed_lem;
  settled_only_lem = f.settled_only_lem;
  without_tag = f.without_tag;
  sender_in = f.sender_in;
  vector_length = f.vector_length;
  below_clock = λ s. at_most_trans row.operation.vector table.clock clock' (f.below_clock s) h;
  numbered = f.numbered;
}

-- what holds of the rows, and of the row that an arrival gets, holds of the rows after it
arrival_each : (Q : Row → Type 0) (kind : ℕ) (t : Operation) (rows : List Row) → ((row : Row) → Memᴰ row rows → Q row) →
    (Tagged kind → gets_row kind t ≡ true → Q (unsettled_row t)) → (is_counter kind ≡ false → (eqb kind 3 || eqb kind 4) ≡ true → Q (settled_row t)) → (row : Row) → Memᴰ row (rows_after kind t rows) → Q row
arrival_each Q kind t rows old tagged plain = arrival_elim (λ (after : List Row). (row : Row) → Memᴰ row after → Q row) kind t rows
    (λ _. old)
    (λ p q row m. ⊎_elim (λ e. subst Q (sym e) (plain p q)) (old row) (settled_back t rows m))
    (λ g row m. ⊎_elim (λ e. subst Q (sym e.0) (tagged g e.1)) (λ n. old row n.0) (arrival_back kind t rows m))

-- kinds 3 and 4 store every code that they allow
gets_plain : (kind : ℕ) (t : Operation) → (eqb kind 3 || eqb kind 4) ≡ true → code_allowed kind t.code ≡ true → gets_row kind t ≡ true
unfolding gets_row codes_of
gets_plain kind t h code = ⊎_elim
    (λ e. let k = eqb-true kind 3 e in rw k (allowed_code (Stores 3) 3 t.code (rw k at code) (refl, tt)))
    (λ e. let k = eqb-true kind 4 e in rw k (allowed_code (Stores 4) 4 t.code (rw k at code) (refl, (refl, tt))))
    (or_cases (eqb kind 3) (eqb kind 4) h)
  where
    Stores : ℕ → ℕ → Type 0
    Stores k code = (not (eqb code 3) && not (eqb code 2 && (eqb k 5 || eqb k 8))) ≡ true

-- What an accepted operation brings, beyond its order: last' is L afterwards.
record Brings (table : Table) (u : Operation) (last' : List Vector) : Type 0 where
  accepts : Accepts table u last'
  value_allowed_lem : value_allowed (kind_in table.header u.object) u.code u.value ≡ true
  vector_length : length u.vector ≡ table.header.size
  next_fits : suc (get_or table.clock u.sender 0) < entry_limit
  room : length (rows_after (kind_in table.header u.object) u table.rows) ≤ table.header.capacity
  last_length : length last' ≡ table.header.size
  last_rule_lem : (k : ℕ) → k < table.header.size → last_rule (after_arrival table u last') k (get_or last' k []) ≡ true

module _ (table : Table) (u : Operation) (last' : List Vector) (F : Facts table) (B : Brings table u last') where
  abbrev kind : ℕ
  kind = kind_in table.header u.object

  abbrev A : Accepts table u last'
  A = B.accepts

  up : at_most table.clock (raised table.clock u.sender) ≡ true
  up = at_most_raised table.clock u.sender

  here : u.sender < length table.clock
  here = let l = F.clock_length in let h = A.sender_in in omega arith

  new_tagged : Tagged kind → gets_row kind u ≡ true → RowFacts (after_arrival table u last') (unsettled_row u)
  unfolding after_arrival storable settled_only number_of
  new_tagged g gets = record {
    declared = A.declared;
    is_storable = rw (g.0, A.code_allowed_lem, gets);
    value_allowed_lem = B.value_allowed_lem;
    settled_only_lem = λ s. clash (settled_only kind) s g.1;
    without_tag = λ s. absurd (false≢true s);
    sender_in = λ _. A.sender_in;
    vector_length = λ _. B.vector_length;
    below_clock = λ _. A.under;
    numbered = λ _. let n = A.next in omega arith;
  }

  new_plain : is_counter kind ≡ false → (eqb kind 3 || eqb kind 4) ≡ true → RowFacts (after_arrival table u last') (settled_row u)
  unfolding after_arrival storable gets_row
  new_plain p q = record {
    declared = A.declared;
    is_storable = rw (p, A.code_allowed_lem) (gets_plain kind u q A.code_allowed_lem);
    value_allowed_lem = B.value_allowed_lem;
    settled_only_lem = λ _. refl;
    without_tag = λ _. refl;
    sender_in = λ s. absurd (false≢true (sym s));
    vector_length = λ s. absurd (false≢true (sym s));
    below_clock = λ s. absurd (false≢true (sym s));
    numbered = λ s. absurd (false≢true (sym s));
  }

  rows_sorted : Sorted (rows_after kind u table.rows)
  rows_sorted = arrival_sorted kind u table.rows F.sorted (λ row m s.
      let below = at_most_at row.operation.vector table.clock ((F.row_facts row m).below_clock s) u.sender in
      let n = A.next in omega arith)

  -- "totals within the bound above, not negative in kind 1"
  totals_long : length (totals_after kind u table.totals) ≡ length table.header.kinds
  unfolding totals_after
  totals_long = cases (is_counter kind) (λ q. rw q (length-set table.totals u.object (get_or table.totals u.object (pos 0) +ℤ amount_of u) ∙ F.totals_length)) (λ q. rw q F.totals_length)

  more : total_bound table.clock + greatest_amount ≤ total_bound (raised table.clock u.sender)
  unfolding total_bound
  more = let s = sum_raised table.clock u.sender here in omega arith

  amount_small : is_counter kind ≡ true → u.value ≤ greatest_amount
  unfolding value_allowed
  amount_small q = (between_out 1 greatest_amount u.value (rw q at B.value_allowed_lem)).1

  total_after : (o : ℕ) → o < length table.header.kinds → total_rule (after_arrival table u last') o (get_or (totals_after kind u table.totals) o (pos 0)) ≡ true
  unfolding after_arrival total_rule totals_after
  total_after o h = cases (is_counter kind)
      (λ q. rw q (cases (eqb o u.object)
      (λ e. let same = eqb-true o u.object e in
      rw (same, get_or-set_same table.totals u.object added (pos 0) (let l = F.totals_length in let d = A.declared in omega arith))
      (rule_added kind (total_bound table.clock) (total_bound (raised table.clock u.sender)) (get_or table.totals u.object (pos 0)) u q A.code_allowed_lem (amount_small q) more (F.total_rule_lem u.object A.declared)))
      (λ e. rw (get_or-set_other table.totals u.object o added (pos 0) (eqb-false o u.object e)) old)))
      (λ q. rw q old)
    where
      added : ℤ
      added = get_or table.totals u.object (pos 0) +ℤ amount_of u

      old : rule_at (kind_in table.header o) (total_bound (raised table.clock u.sender)) (get_or table.totals o (pos 0)) ≡ true
      old = rule_above (kind_in table.header o) (total_bound table.clock) (total_bound (raised table.clock u.sender)) (get_or table.totals o (pos 0)) (let m = more in omega arith) (F.total_rule_lem o h)

  arrival_facts : Facts (after_arrival table u last')
  unfolding after_arrival
  arrival_facts = record {
    header_in_range = F.header_in_range;
    own_in_lem = F.own_in_lem;
    kind_range = F.kind_range;
    clock_length = length-set table.clock u.sender (suc (get_or table.clock u.sender 0)) ∙ F.clock_length;
    clock_words = every_set (λ (entry : ℕ). ltb entry entry_limit) table.clock u.sender (suc (get_or table.clock u.sender 0)) F.clock_words (lt-ltb (suc (get_or table.clock u.sender 0)) entry_limit B.next_fits);
    last_length = B.last_length;
    last_rule_lem = B.last_rule_lem;
    totals_length = totals_long;
    total_rule_lem = total_after;
    sorted = rows_sorted;
    within = B.room;
    row_facts = arrival_each (RowFacts (after_arrival table u last')) kind u table.rows
        (λ row m. facts_above table (raised table.clock u.sender) last' (totals_after kind u table.totals) (rows_after kind u table.rows) row up (F.row_facts row m)) new_tagged new_plain;
    one_row_lem = single_one_row (kind_in table.header) (rows_after kind u table.rows) (arrival_single (kind_in table.header) u table.rows F.sorted (one_row_single (kind_in table.header) table.rows F.one_row_lem));
  }

-- "L[k] at or below D with L[k][k] = D[k]": of another station than the sender; of the own one; and of the sender
last_elsewhere : (table : Table) (u : Operation) (last' : List Vector) (k : ℕ) (vector : Vector) → k ≢ u.sender → last_rule table k vector ≡ true → last_rule (after_arrival table u last') k vector ≡ true
unfolding last_rule after_arrival
last_elsewhere table u last' k vector d e = cases (eqb k table.header.own)
    (λ q. rw q (rw q at e))
    (λ q.
    let long = eqb (length vector) table.header.size in
    let under = at_most vector table.clock in
    let mine = eqb (get_or vector k 0) (get_or table.clock k 0) in
    let f : (long && (under && mine)) ≡ true = rw q at e in
    let g = and_right long (under && mine) f in
    rw (q, and_left long (under && mine) f, at_most_trans vector table.clock (raised table.clock u.sender) (and_left under mine g) (at_most_raised table.clock u.sender), get_or-set_other table.clock u.sender k (suc (get_or table.clock u.sender 0)) 0 d)
    (and_right under mine g))

last_own : (table : Table) (u : Operation) (last' : List Vector) (k : ℕ) (vector : Vector) → k ≡ table.header.own → last_rule table k vector ≡ true → last_rule (after_arrival table u last') k vector ≡ true
unfolding last_rule after_arrival
last_own table u last' k vector o e = let q = eq-eqb k table.header.own o in rw q (rw q at e)

last_sender : (table : Table) (u : Operation) (last' : List Vector) → u.sender ≢ table.header.own → length table.clock ≡ table.header.size → length u.vector ≡ table.header.size → Accepts table u last' → last_rule (after_arrival table u last') u.sender u.vector ≡ true
unfolding last_rule after_arrival
last_sender table u last' other l long A =
    rw (ne_eqb u.sender table.header.own other, eq-eqb (length u.vector) table.header.size long, A.under, raised_at table.clock u.sender (let h = A.sender_in in omega arith))
    (eq-eqb (get_or u.vector u.sender 0) (suc (get_or table.clock u.sender 0)) A.next)

value_of : (header : Header) (u : Operation) → operation_allowed header u ≡ true → value_allowed (kind_in header u.object) u.code u.value ≡ true
unfolding operation_allowed allowed
value_of header u e = and_right (code_allowed (kind_in header u.object) u.code) (value_allowed (kind_in header u.object) u.code u.value) e

-- "each call keeps the rules on any table that meets them": an accepted frame.
pub kept_by_frame : (table : Table) (frame : Frame) → is_table table ≡ true → refusal_of_frame table frame ≡ 0 → is_table (after_arrival table frame.operation (set table.last frame.operation.sender frame.operation.vector)) ≡ true
kept_by_frame table frame is e =
    let u = frame.operation in
    let last' = set table.last u.sender u.vector in
    let F = facts table is in
    let a = frame_accepted table frame e in
    let A = frame_accepts table frame is e in
    is_table_lem (after_arrival table u last') (arrival_facts table u last' F (record {
      accepts = A;
      value_allowed_lem = value_of table.header u a.allowed_operation;
      vector_length = a.entries;
      next_fits =
          let w = ltb-true (get_or u.vector u.sender 0) entry_limit (every_place (λ (entry : ℕ). ltb entry entry_limit) u.vector a.words u.sender (let l = a.entries in let h = a.sender_in in omega arith)) in
          let n = A.next in omega arith;
      room = a.room;
      last_length = length-set table.last u.sender u.vector ∙ F.last_length;
      last_rule_lem = λ k h. cases (eqb k u.sender)
          (λ q. let s = eqb-true k u.sender q in
          rw (s, get_or-set_same table.last u.sender u.vector [] (let l = F.last_length in let h = a.sender_in in omega arith)) (last_sender table u last' a.not_own F.clock_length a.entries A))
          (λ q. let d = eqb-false k u.sender q in
          rw (get_or-set_other table.last u.sender k u.vector [] d) (last_elsewhere table u last' k (get_or table.last k []) d (F.last_rule_lem k h)));
    }))

-- "each call keeps the rules": an accepted local operation.
pub kept_by_local : (table : Table) (local : Local) → is_table table ≡ true → refusal_of_local table local ≡ 0 → is_table (after_arrival table (issued_by table local) table.last) ≡ true
unfolding issued_by
kept_by_local table local is e =
    let u = issued_by table local in
    let F = facts table is in
    let a = local_accepted table local e in
    is_table_lem (after_arrival table u table.last) (arrival_facts table u table.last F (record {
      accepts = local_accepts table local is e;
      value_allowed_lem = value_of table.header u a.allowed_operation;
      vector_length = length-set table.clock table.header.own (suc (get_or table.clock table.header.own 0)) ∙ F.clock_length;
      next_fits =
          let w = ltb-true (get_or table.clock table.header.own 0) entry_limit (every_place (λ (entry : ℕ). ltb entry entry_limit) table.clock F.clock_words table.header.own (let l = F.clock_length in let h = F.own_in_lem in omega arith)) in
          let n = a.not_last in omega arith;
      room = a.room;
      last_length = F.last_length;
      last_rule_lem = λ k h. cases (eqb k table.header.own)
          (λ q. last_own table u table.last k (get_or table.last k []) (eqb-true k table.header.own q) (F.last_rule_lem k h))
          (λ q. last_elsewhere table u table.last k (get_or table.last k []) (eqb-false k table.header.own q) (F.last_rule_lem k h));
    }))

-- settling never adds rows
those_length : (p : Row → Bool) (rows : List Row) → length (those p rows) ≤ length rows
those_length p [] = omega arith
those_length p (row ∷ rows) = let h = those_length p rows in cases (p row) (λ q. rw q (omega arith)) (λ q. rw q (omega arith))

step_length : (kind : ℕ) (above below : List Row) (u : Operation) → length (step_at kind above u below) ≤ length (above ++ (unsettled_row u ∷ below))
unfolding step_at left_by
step_length kind above below u =
    let stays : Row → Bool = λ row. not (dropped_with kind u (above ++ below) row) in
    let a = those_length stays above in
    let b = those_length stays below in
    let c : length (cond (becomes_settled kind u (above ++ below)) (settled_row u ∷ []) []) ≤ 1 = cases (becomes_settled kind u (above ++ below)) (λ q. rw q (omega arith)) (λ q. rw q (omega arith)) in
    simp length-append (omega arith)

-- a settling call adds no row
pub settling_shortens : (table : Table) (limit : ℕ) → length (rows_settled table limit) ≤ length table.rows
unfolding rows_settled
settling_shortens table limit = steps_elim (λ (rows : List Row). length rows ≤ length table.rows) (kind_in table.header) (low table)
    (λ above below u stable is. let l = step_length (kind_in table.header u.object) above below u in omega arith) limit table.rows (omega arith)

-- "each call keeps the rules": one settling step, at an unsettled row.
pub kept_by_step : (table : Table) (above below : List Row) (u : Operation) → is_table (with_rows table (above ++ (unsettled_row u ∷ below))) ≡ true → is_table (with_rows table (step_at (kind_in table.header u.object) above u below)) ≡ true
unfolding last_rule total_rule
kept_by_step table above below u is =
    let kind = kind_in table.header u.object in
    let rows = above ++ (unsettled_row u ∷ below) in
    let rows' = step_at kind above u below in
    let F = facts (with_rows table rows) is in
    let mine = F.row_facts (unsettled_row u) (mem_mid above below (unsettled_row u)) in
    is_table_lem (with_rows table rows') (record {
      header_in_range = F.header_in_range;
      own_in_lem = F.own_in_lem;
      kind_range = F.kind_range;
      clock_length = F.clock_length;
      clock_words = F.clock_words;
      last_length = F.last_length;
      last_rule_lem = F.last_rule_lem;
      totals_length = F.totals_length;
      total_rule_lem = F.total_rule_lem;
      sorted = step_sorted kind above below u (λ stand. rw stand at (stored_codes kind u mine.is_storable (fails (settled_only kind) (λ s. false≢true (mine.settled_only_lem s))))) F.sorted;
      within = let l = step_length kind above below u in let w = F.within in omega arith;
      row_facts = λ row m. facts_above (with_rows table rows) table.clock table.last table.totals rows' row (at_most_refl table.clock) (step_facts (with_rows table rows) above below u F.row_facts row m);
      one_row_lem = single_one_row (kind_in table.header) rows' (step_single (kind_in table.header) kind above below u (one_row_single (kind_in table.header) rows F.one_row_lem));
    })

-- "each call keeps the rules": a settling call.
pub kept_by_settling : (table : Table) (limit : ℕ) → is_table table ≡ true → is_table (with_rows table (rows_settled table limit)) ≡ true
unfolding rows_settled
kept_by_settling table limit is = steps_elim (λ (rows : List Row). is_table (with_rows table rows) ≡ true) (kind_in table.header) (low table) (λ above below u _ h. kept_by_step table above below u h) limit table.rows is

-- "each call keeps the rules on any table that meets them, reachable or not"
pub kept : (event : Event) (station : Station) → is_table station.table ≡ true → is_table (after event station).table ≡ true
unfolding after receive issue settle outcome after_outcome after_settling
kept (receives frame) station is = cases (eqb (refusal_of_frame station.table frame) 0)
    (λ q. rw q (kept_by_frame station.table frame is (eqb-true (refusal_of_frame station.table frame) 0 q)))
    (λ q. rw q is)
kept (issues local) station is = cases (eqb (refusal_of_local station.table local) 0)
    (λ q. rw q (kept_by_local station.table local is (eqb-true (refusal_of_local station.table local) 0 q)))
    (λ q. rw q is)
kept (settles limit) station is = cases (eqb (refusal_of_settling limit) 0) (λ q. rw q (kept_by_settling station.table limit is)) (λ q. rw q is)

every_replicate : (p : ℕ → Bool) (n a : ℕ) → p a ≡ true → every p (replicate n a) ≡ true
every_replicate p zero a e = refl
every_replicate p (suc n) a e = and_both (p a) (every p (replicate n a)) e (every_replicate p n a e)

-- "all 0 at opening": a table meets the rules from its opening on.
pub opened_is_table : (header : Header) → in_range header ≡ true → is_table (opened header) ≡ true
unfolding opened zeros last_rule total_rule is_negative
opened_is_table header e =
    let h = header_facts header e in
    let zero_vector : Vector = replicate header.size 0 in
    is_table_lem (opened header) (record {
      header_in_range = e;
      own_in_lem = h.own_in_lem;
      kind_range = h.kind_range;
      clock_length = length-replicate header.size 0;
      clock_words = every_replicate (λ (entry : ℕ). ltb entry entry_limit) header.size 0 refl;
      last_length = length-replicate header.size zero_vector;
      last_rule_lem = λ k k_in. rw (get_or-replicate header.size k zero_vector [] k_in, eq_same zero_vector zero_vector refl, eq-eqb (length zero_vector) header.size (length-replicate header.size 0), at_most_refl zero_vector, eq-eqb (get_or zero_vector k 0) (get_or zero_vector k 0) refl)
          (alike (eqb k header.own));
      totals_length = length-replicate (length header.kinds) (pos 0);
      total_rule_lem = λ o o_in. rw (get_or-replicate (length header.kinds) o (pos 0) (pos 0) o_in) (within_any (is_counter (kind_in header o)) (eqb (kind_in header o) 1));
      sorted = tt;
      within = omega arith;
      row_facts = λ row m. elim m [ ];
      one_row_lem = refl;
    })
  where
    alike : (b : Bool) → cond b true true ≡ true
    alike true = refl
    alike false = refl

    bound : ℕ
    bound = total_bound (replicate header.size 0)

    within_any : (b c : Bool) → cond b (leb 0 bound && not (c && false)) true ≡ true
    within_any true c = and_both (leb 0 bound) (not (c && false)) (le-leb 0 bound (omega arith)) (fails_not (c && false) (and_fails c false (λ _. refl)))
    within_any false c = refl

-- "13 ... opening: group size, own station, object count, kind or capacity out of range, or space too small": an opening gives a table exactly
-- when its header is in range and the space is large enough; it is the table of "all 0 at opening", and meets the rules.
pub record Opens (space needed : ℕ) (header : Header) : Type 0 where
  pub fresh_when : in_range header ≡ true → needed ≤ space → open_table space needed header ≡ Opening.fresh (opened header)
  pub when_fresh : (table : Table) → open_table space needed header ≡ Opening.fresh table → (in_range header ≡ true) × (needed ≤ space)
  pub is_opened : (table : Table) → open_table space needed header ≡ Opening.fresh table → table ≡ opened header
  pub meets_rules : (table : Table) → open_table space needed header ≡ Opening.fresh table → is_table table ≡ true

-- "opening 1, 13": each opening does so.
pub opens : (space needed : ℕ) (header : Header) → Opens space needed header
unfolding open_table opening_refusals
opens space needed header = record {
  fresh_when = λ range wide. rw (range, le-ltb space needed wide);
  when_fresh = λ table e. let a = if_fresh table e in (a.0, a.1);
  is_opened = λ table e. (if_fresh table e).2;
  meets_rules = λ table e. let a = if_fresh table e in rw a.2 (opened_is_table header a.0);
}
  where
    bad : Bool
    bad = not (in_range header) || ltb space needed

    answer : Bool → Opening
    answer b = cond (eqb (cond b 13 0) 0) (Opening.fresh (opened header)) (Opening.refused (cond b 13 0))

    if_fresh : (table : Table) → answer bad ≡ Opening.fresh table → (in_range header ≡ true) × (needed ≤ space) × (table ≡ opened header)
    if_fresh table e = cases bad
        (λ q. let f : Opening.refused 13 ≡ Opening.fresh table = subst (λ (b : Bool). answer b ≡ Opening.fresh table) q e in let z : ◌≡◌ {A = ℕ} 0 1 = cc in absurd (omega arith))
        (λ q. let f : Opening.fresh (opened header) ≡ Opening.fresh table = subst (λ (b : Bool). answer b ≡ Opening.fresh table) q e in
        let same : table ≡ opened header = cc in
        (not-false (in_range header) (or_left_fails (not (in_range header)) (ltb space needed) q), ltb-false space needed (or_right_fails (not (in_range header)) (ltb space needed) q), same))

-- a sum of entries of 32 bits
sum_small : (vector : Vector) → every (λ (entry : ℕ). ltb entry entry_limit) vector ≡ true → sum_of_entries vector ≤ entry_limit * length vector
sum_small [] e = omega arith
sum_small (entry ∷ vector) e =
    let small = ltb-true entry entry_limit (and_left (ltb entry entry_limit) (every (λ (entry : ℕ). ltb entry entry_limit) vector) e) in
    let rest = sum_small vector (and_right (ltb entry entry_limit) (every (λ (entry : ℕ). ltb entry entry_limit) vector) e) in
    omega arith

-- "A total is a signed 64-bit number": in every table by the rules it fits one, on either side of zero.
pub total_fits : (table : Table) → is_table table ≡ true → (o : ℕ) → o < length table.header.kinds → nat_abs (get_or table.totals o (pos 0)) < 9223372036854775808
unfolding total_rule total_bound
total_fits table is o d =
    let F = facts table is in
    let kind = kind_in table.header o in
    let total = get_or table.totals o (pos 0) in
    let within = leb (nat_abs total) (total_bound table.clock) in
    let sign = not (eqb kind 1 && is_negative total) in
    let rule = F.total_rule_lem o d in
    let size = (header_facts table.header F.header_in_range).size_range.1 in
    let long = F.clock_length in
    let sum = sum_small table.clock F.clock_words in
    cases (is_counter kind)
    (λ q. let small = leb-true (nat_abs total) (greatest_amount * sum_of_entries table.clock) (and_left within sign (rw q at rule)) in omega arith)
    (λ q. let none = eqb-true (nat_abs total) 0 (rw q at rule) in omega arith)

all_kept : (events : List Event) (station : Station) → is_table station.table ≡ true → is_table (after_all events station).table ≡ true
unfolding after_all
all_kept [] station is = is
all_kept (event ∷ events) station is = all_kept events (after event station) (kept event station is)

-- "Table rules": every table that calls can reach from an opening meets them; an accepted opening gives that its header is in range (`opens`).
pub reached : (header : Header) (events : List Event) → in_range header ≡ true → is_table (reached_station header events).table ≡ true
unfolding reached_station
reached header events e = all_kept events (record { table = opened header; accepted = [] }) (opened_is_table header e)
