-- Settling: the reported number, when the call ends, and that no answer changes.
use mathlib.Core.Path.{◌≡◌, refl, sym, ◌∙◌, ap, subst, subst₂}
use mathlib.Core.Bool.{Bool, true, false, not, ◌&&◌, ◌||◌, cond, false≢true}
use mathlib.Core.Logic.{⊎_elim}
use mathlib.Core.List.{List, [], ◌∷◌, ◌++◌, Memᴰ, append-nil, append_assoc}
use Prim.Native.Nat.{ℕ, zero, suc, ◌+◌, ◌≤◌, ◌<◌}
use native.Mathlib.Omega.{arith}
use native.Mathlib.Nat.{le_of_suc-le-suc, not-suc-le-zero}
use lib.Dec.{eqb}
use lib.ListN.{length}
use Rattle.meaning.specs.Tests.{any, those}
use Rattle.meaning.specs.Order.{Vector}
use Rattle.meaning.specs.Operations.{Operation, adds, removes, is_counter, removes_stand, codes_of, code_allowed}
use Rattle.meaning.specs.Meaning.{on, add_of, remove_of}
use Rattle.meaning.specs.Rows.{Row, unsettled_row, settled_row, unsettled_count, remove_rows_count, is_in_by_rows, list_by_rows, count_by_rows}
use Rattle.meaning.specs.Arrival.{gets_row, same_value}
use Rattle.meaning.specs.Settling.{due, add_beside, remove_beside, becomes_settled, dropped_with, left_by, step_at, step_from, step_of, settled_rows, steps_taken}
use Rattle.meaning.specs.Table.{Table, kind_in, low, storable, settled_only, is_table}
use Rattle.meaning.specs.Questions.{Asked, by_rows}
use Rattle.meaning.specs.Calls.{with_rows, rows_settled, steps, ask}
use Rattle.meaning.proofs.Tests.{and_true, cases, clash, iff, and_right, and_both, and_fails, fails_not, or_cases, or_left, or_right, or_left_fails, or_right_fails, any_in, any_out, any_no, any_none, any_cong, any_or, any_mid, mem_mid, mem_into}
use Rattle.meaning.proofs.OneValue.{add_on, remove_on, add_untagged, remove_untagged}
use Rattle.meaning.proofs.RowLaws.{on_eq, on_self, step_back, step_elim, steps_elim}
use Rattle.meaning.proofs.Steps.{others, any_act, add_by, add_not_rem}
use Rattle.meaning.proofs.Lists.{rows_list_same}
use Rattle.meaning.proofs.Asking.{replies_alike}
use Rattle.meaning.proofs.TableFacts.{RowFacts, facts}

-- the count
count_append : (l m : List Row) → unsettled_count (l ++ m) ≡ unsettled_count l + unsettled_count m
count_append [] m = omega arith
count_append (x ∷ l) m = let h = count_append l m in omega arith

count_those : (p : Row → Bool) (l : List Row) → ((x : Row) → x.settled ≡ false → p x ≡ true) → unsettled_count (those p l) ≡ unsettled_count l
count_those p [] h = refl
count_those p (x ∷ l) h = let i = count_those p l h in cases (p x)
    (λ q. rw q (omega arith))
    (λ q. rw q (cases x.settled (λ f. rw f (omega arith)) (λ f. clash (p x) (h x f) q)))

-- settled rows only are dropped with another
count_left : (kind : ℕ) (u : Operation) (others l : List Row) → unsettled_count (left_by kind u others l) ≡ unsettled_count l
unfolding left_by dropped_with
count_left kind u others l = count_those (λ (x : Row). not (dropped_with kind u others x)) l (λ x f. rw f (fails_not (first && false) (and_fails first false (λ _. refl))))
  where
    first : Bool
    first = removes_stand kind && (eqb u.code 1 && not (add_beside u others))

count_step : (kind : ℕ) (above below : List Row) (u : Operation) → suc (unsettled_count (step_at kind above u below)) ≡ unsettled_count (above ++ (unsettled_row u ∷ below))
unfolding step_at
count_step kind above below u =
    let others = above ++ below in
    let c : unsettled_count (cond (becomes_settled kind u others) (settled_row u ∷ []) []) ≡ 0 = cases (becomes_settled kind u others) (λ q. rw q) (λ q. rw q) in
    rw (count_append, count_append, count_append, count_left, count_left) (omega arith)

-- a step where a row is due
count_due : (kind_of : ℕ → ℕ) (lo : Vector) (above rows : List Row) → any (due lo) rows ≡ true → suc (unsettled_count (step_from kind_of lo above rows)) ≡ unsettled_count (above ++ rows)
unfolding due
count_due kind_of lo above [] e = absurd (false≢true e)
count_due kind_of lo above (row ∷ rows) e = cases (due lo row)
    (λ q. rw q (on_due row.settled row.operation q))
    (λ q. rw q (count_due kind_of lo (above ++ (row ∷ [])) rows (rw q at e) ∙ ap unsettled_count (append_assoc above (row ∷ []) rows)))
  where
    on_due : (g : Bool) (u : Operation) → due lo (record { settled = g; operation = u }) ≡ true → suc (unsettled_count (step_at (kind_of u.object) above u rows)) ≡ unsettled_count (above ++ (record { settled = g; operation = u } ∷ rows))
    on_due true u q = absurd (false≢true q)
    on_due false u q = count_step (kind_of u.object) above rows u

-- "That number equals the fall in unsettled rows."
pub count_is_fall : (limit : ℕ) (kind_of : ℕ → ℕ) (lo : Vector) (rows : List Row) → steps_taken limit kind_of lo rows + unsettled_count (settled_rows limit kind_of lo rows) ≡ unsettled_count rows
count_is_fall zero kind_of lo rows = omega arith
count_is_fall (suc limit) kind_of lo rows = cases (any (due lo) rows)
    (λ q. let i = count_is_fall limit kind_of lo (step_of kind_of lo rows) in let d = count_due kind_of lo [] rows q in rw (q, steps_taken, settled_rows) (omega arith))
    (λ q. rw (q, steps_taken, settled_rows) (omega arith))

-- The same of a settling call: "reports how many steps it took. That number equals the fall in unsettled rows."
pub steps_are_fall : (table : Table) (limit : ℕ) → steps table limit + unsettled_count (rows_settled table limit) ≡ unsettled_count table.rows
unfolding steps rows_settled
steps_are_fall table limit = count_is_fall limit (kind_in table.header) (low table) table.rows

-- So many steps, one after the other.
abbrev pub step_times : ℕ → (ℕ → ℕ) → Vector → List Row → List Row
step_times zero kind_of lo rows = rows
step_times (suc n) kind_of lo rows = step_times n kind_of lo (step_of kind_of lo rows)

-- What a settling call does: it takes so many steps, each at a row that is due, no more than the limit, and fewer only where no row is due.
pub record Ends (limit : ℕ) (kind_of : ℕ → ℕ) (lo : Vector) (rows : List Row) : Type 0 where
  pub within : steps_taken limit kind_of lo rows ≤ limit
  pub none_left : steps_taken limit kind_of lo rows < limit → any (due lo) (settled_rows limit kind_of lo rows) ≡ false
  pub by_steps : settled_rows limit kind_of lo rows ≡ step_times (steps_taken limit kind_of lo rows) kind_of lo rows
  pub each_due : (n : ℕ) → n < steps_taken limit kind_of lo rows → any (due lo) (step_times n kind_of lo rows) ≡ true

-- "takes steps until the limit or until no stable unsettled row is left"
pub until_limit_or_none : (limit : ℕ) (kind_of : ℕ → ℕ) (lo : Vector) (rows : List Row) → Ends limit kind_of lo rows
until_limit_or_none zero kind_of lo rows = record { within = omega arith; none_left = λ h. absurd (omega arith); by_steps = refl; each_due = λ n h. absurd (not-suc-le-zero h) }
until_limit_or_none (suc limit) kind_of lo rows = cases (any (due lo) rows)
    (λ q.
    let i = until_limit_or_none limit kind_of lo (step_of kind_of lo rows) in
    let t : steps_taken (suc limit) kind_of lo rows ≡ suc (steps_taken limit kind_of lo (step_of kind_of lo rows)) = rw (q, steps_taken) in
    let s : settled_rows (suc limit) kind_of lo rows ≡ settled_rows limit kind_of lo (step_of kind_of lo rows) = rw (q, settled_rows) in
    record {
      within = let w = i.within in omega arith;
      none_left = λ h. ap (any (due lo)) s ∙ i.none_left (omega arith);
      by_steps = s ∙ i.by_steps ∙ ap (λ (n : ℕ). step_times n kind_of lo rows) (sym t);
      each_due = λ n h. at_each q i.each_due n (omega arith);
    })
    (λ q.
    let t : steps_taken (suc limit) kind_of lo rows ≡ 0 = rw (q, steps_taken) in
    let s : settled_rows (suc limit) kind_of lo rows ≡ rows = rw (q, settled_rows) in
    record {
      within = omega arith;
      none_left = λ _. ap (any (due lo)) s ∙ q;
      by_steps = s ∙ ap (λ (n : ℕ). step_times n kind_of lo rows) (sym t);
      each_due = λ n h. absurd (omega arith);
    })
  where
    at_each : any (due lo) rows ≡ true → ((n : ℕ) → n < steps_taken limit kind_of lo (step_of kind_of lo rows) → any (due lo) (step_times n kind_of lo (step_of kind_of lo rows)) ≡ true) → (n : ℕ) → n < suc (steps_taken limit kind_of lo (step_of kind_of lo rows)) → any (due lo) (step_times n kind_of lo rows) ≡ true
    at_each q f zero h = q
    at_each q f (suc n) h = f n (le_of_suc-le-suc h)

-- "One settling step takes the first unsettled row, in row order, that is stable."
pub step_at_first : (kind_of : ℕ → ℕ) (lo : Vector) (above passed below : List Row) (row : Row) → any (due lo) passed ≡ false → due lo row ≡ true →
    step_from kind_of lo above (passed ++ (row ∷ below)) ≡ step_at (kind_of row.operation.object) (above ++ passed) row.operation below
step_at_first kind_of lo above [] below row e q = rw q (ap (λ (rows : List Row). step_at (kind_of row.operation.object) rows row.operation below) (sym (append-nil above)))
step_at_first kind_of lo above (x ∷ passed) below row e q =
    rw (or_left_fails (due lo x) (any (due lo) passed) e)
    (step_at_first kind_of lo (above ++ (x ∷ [])) passed below row (or_right_fails (due lo x) (any (due lo) passed) e) q
    ∙ ap (λ (rows : List Row). step_at (kind_of row.operation.object) rows row.operation below) (append_assoc above (x ∷ []) passed))

-- "until no stable unsettled row is left": where none is, a step leaves all rows.
pub step_at_none : (kind_of : ℕ → ℕ) (lo : Vector) (above rows : List Row) → any (due lo) rows ≡ false → step_from kind_of lo above rows ≡ above ++ rows
step_at_none kind_of lo above [] e = sym (append-nil above)
step_at_none kind_of lo above (row ∷ rows) e =
    rw (or_left_fails (due lo row) (any (due lo) rows) e)
    (step_at_none kind_of lo (above ++ (row ∷ [])) rows (or_right_fails (due lo row) (any (due lo) rows) e) ∙ append_assoc above (row ∷ []) rows)

-- rows keep what the rules say of each
settled_facts : (table : Table) (u : Operation) → RowFacts table (unsettled_row u) → RowFacts table (settled_row u)
unfolding storable gets_row
settled_facts table u f = record {
  declared = f.declared;
  is_storable = f.is_storable;
  value_allowed_lem = f.value_allowed_lem;
  settled_only_lem = λ _. refl;
  without_tag = λ _. refl;
  sender_in = λ s. absurd (false≢true (sym s));
  vector_length = λ s. absurd (false≢true (sym s));
  below_clock = λ s. absurd (false≢true (sym s));
  numbered = λ s. absurd (false≢true (sym s));
}

-- What the rules say of each row.
abbrev pub EachRow : Table → List Row → Type 0
EachRow table rows = (row : Row) → Memᴰ row rows → RowFacts table row

-- "each call keeps the rules": a step keeps what they say of each row.
pub step_facts : (table : Table) (above below : List Row) (u : Operation) → EachRow table (above ++ (unsettled_row u ∷ below)) → EachRow table (step_at (kind_in table.header u.object) above u below)
step_facts table above below u f row m = ⊎_elim (f row) (λ e. rw e (settled_facts table u (f (unsettled_row u) (mem_mid above below (unsettled_row u))))) (step_back (kind_in table.header u.object) above below u m)

-- of the codes 1, 2 and 3 that a kind allows and stores: an add; a write; in kinds 6 and 9 an add or a remove
only_add : (a b c d : Bool) → ((a || (b || d)) && (not c && not (b && true))) ≡ true → (d ≡ true → c ≡ true) → (a || false) ≡ true
only_add true b c d s h = refl
only_add false true true d s h = s
only_add false true false d s h = s
only_add false false c true s h = rw (h refl) at s
only_add false false c false s h = s

only_write : (a b c : Bool) → ((a || (c || false)) && (not c && not (b && false))) ≡ true → (a || false) ≡ true
only_write true b c s = refl
only_write false b true s = s
only_write false b false s = s

add_or_remove : (a b c d : Bool) → ((a || (b || d)) && (not c && not (b && false))) ≡ true → (d ≡ true → c ≡ true) → (a || b) ≡ true
add_or_remove true b c d s h = refl
add_or_remove false true c d s h = refl
add_or_remove false false c true s h = rw (h refl) at s
add_or_remove false false c false s h = s

or_nil : (a : Bool) → (a || false) ≡ true → a ≡ true
or_nil true e = refl
or_nil false e = e

-- The codes of stored rows of kinds 5 to 9: "a clear gets none in any kind, a remove or disable gets none in kinds 5 and 8".
pub stored_codes : (kind : ℕ) (u : Operation) → storable kind u ≡ true → settled_only kind ≡ false → (eqb u.code adds || (removes_stand kind && eqb u.code removes)) ≡ true
unfolding storable code_allowed codes_of gets_row is_counter removes_stand settled_only
stored_codes zero u s h = absurd (false≢true s)
stored_codes (suc zero) u s h = absurd (false≢true s)
stored_codes (suc (suc zero)) u s h = absurd (false≢true s)
stored_codes (suc (suc (suc zero))) u s h = absurd (false≢true (sym h))
stored_codes (suc (suc (suc (suc zero)))) u s h = absurd (false≢true (sym h))
stored_codes (suc (suc (suc (suc (suc zero))))) u s h = only_add (eqb u.code 1) (eqb u.code 2) (eqb u.code 3) false s (λ e. absurd (false≢true e))
stored_codes (suc (suc (suc (suc (suc (suc zero)))))) u s h = add_or_remove (eqb u.code 1) (eqb u.code 2) (eqb u.code 3) false s (λ e. absurd (false≢true e))
stored_codes (suc (suc (suc (suc (suc (suc (suc zero))))))) u s h = only_write (eqb u.code 1) (eqb u.code 2) (eqb u.code 3) s
stored_codes (suc (suc (suc (suc (suc (suc (suc (suc zero)))))))) u s h = only_add (eqb u.code 1) (eqb u.code 2) (eqb u.code 3) (eqb u.code 3 || false) s (or_nil (eqb u.code 3))
stored_codes (suc (suc (suc (suc (suc (suc (suc (suc (suc zero))))))))) u s h = add_or_remove (eqb u.code 1) (eqb u.code 2) (eqb u.code 3) (eqb u.code 3 || false) s (or_nil (eqb u.code 3))
stored_codes (suc (suc (suc (suc (suc (suc (suc (suc (suc (suc n)))))))))) u s h = absurd (false≢true (and_right (not (is_counter (suc (suc (suc (suc (suc (suc (suc (suc (suc (suc n)))))))))))) false s))

-- a step on an add, and on a remove, in kinds 6 and 9: a and b tell whether the other rows have adds and removes, d of those that stay
on_add : (a b d : Bool) → (a ≡ true → d ≡ b) → (b ≡ false → d ≡ false) → (((not (a || b) && true) || a) && not (true && ((not (a || b) && false) || d))) ≡ ((true || a) && not (true && (false || b)))
on_add true b d f g = ap not (f refl)
on_add false true d f g = refl
on_add false false d f g = ap not (g refl)

on_remove : (a b : Bool) → ((((a && not b) && false) || a) && not (true && (((a && not b) && true) || b))) ≡ ((false || a) && not (true && (true || b)))
on_remove true true = refl
on_remove true false = refl
on_remove false b = refl

module _ (kind : ℕ) (u : Operation) (above below : List Row) where
  abbrev beside : List Row
  beside = above ++ below

  abbrev stays : Row → Bool
  stays row = not (dropped_with kind u beside row)

  abbrev AnswerKept : ℕ → ℕ → ℕ → Type 0
  AnswerKept k o v = is_in_by_rows k o v (step_at kind above u below) ≡ is_in_by_rows k o v (above ++ (unsettled_row u ∷ below))

  -- a step on another value keeps the answer
  kept_elsewhere : (k o v : ℕ) → on o v u ≡ false → AnswerKept k o v
  unfolding is_in_by_rows
  kept_elsewhere k o v n = rw (
    others k kind o v u above below (λ (row : Row). add_of o v row.operation) (λ row. add_on o v row.operation) n,
    others k kind o v u above below (λ (row : Row). remove_of o v row.operation) (λ row. remove_on o v row.operation) n,
  )

  abbrev add : Row → Bool
  add row = add_of u.object u.value row.operation

  abbrev remove : Row → Bool
  remove row = remove_of u.object u.value row.operation

  add_only : (row : Row) → eqb row.operation.code 1 ≡ false → add row ≡ false
  unfolding add_of
  add_only row c = and_fails (on u.object u.value row.operation) (eqb row.operation.code 1) (λ _. c)

  -- kinds 5, 7 and 8, whose rows are all adds
  kept_of_adds : removes_stand kind ≡ false → settled_only kind ≡ false →
      ((row : Row) → Memᴰ row (above ++ (unsettled_row u ∷ below)) → on u.object u.value row.operation ≡ true → add row ≡ true) →
      AnswerKept kind u.object u.value
  unfolding is_in_by_rows remove_rows_count settled_only becomes_settled same_value dropped_with
  kept_of_adds stand only adding =
      let was : any add (above ++ (unsettled_row u ∷ below)) ≡ true = any_in add (mem_mid above below (unsettled_row u)) (adding (unsettled_row u) (mem_mid above below (unsettled_row u)) (on_self u)) in
      let is : any add (step_at kind above u below) ≡ true = any_act kind u above below add ∙ cases (any (same_value u) beside)
      (λ q. let s = any_out (same_value u) beside q in
      or_right (becomes_settled kind u beside && add (settled_row u))
      (any_in (λ (row : Row). add row && stays row) s.1 (and_both (add s.0) (stays s.0) (adding s.0 (mem_into above below (unsettled_row u) s.1) s.2) (rw stand))))
      (λ q. or_left (any (λ (row : Row). add row && stays row) beside) (and_both (becomes_settled kind u beside) (add (settled_row u))
      (rw (stand, q))
      (add_untagged u.object u.value u ∙ adding (unsettled_row u) (mem_mid above below (unsettled_row u)) (on_self u)))) in
      rw (or_right_fails (eqb kind 3) (eqb kind 4) only, stand, was, is)

  -- an add is not dropped with another row
  adds_stay : any (λ (row : Row). add row && stays row) beside ≡ any add beside
  unfolding dropped_with
  adds_stay = any_cong (λ (row : Row). add row && stays row) add beside (λ row _. go row.settled (add row) (removes_stand kind && (eqb u.code 1 && not (add_beside u beside))) (remove row) (add_not_rem u.object u.value row.operation))
    where
      go : (f a s b : Bool) → (a ≡ true → b ≡ false) → (a && not (s && (f && b))) ≡ a
      go f false s b h = refl
      go true true true b h = ap not (h refl)
      go false true true b h = refl
      go f true false b h = refl

  removes_stay : (removes_stand kind && (eqb u.code 1 && not (add_beside u beside))) ≡ false → any (λ (row : Row). remove row && stays row) beside ≡ any remove beside
  unfolding dropped_with
  removes_stay e = any_cong (λ (row : Row). remove row && stays row) remove beside (λ row _. rw e (and_true (remove row)))

  removes_none : any remove beside ≡ false → any (λ (row : Row). remove row && stays row) beside ≡ false
  removes_none e = any_none (λ (row : Row). remove row && stays row) beside (λ row m. rw (any_no remove beside e row m))

  -- kinds 6 and 9, whose rows are adds and removes
  module _ (stand : removes_stand kind ≡ true)
      (coded : (row : Row) → Memᴰ row (above ++ (unsettled_row u ∷ below)) → on u.object u.value row.operation ≡ true → (add row || remove row) ≡ true) where
    same_add_or_remove : any (same_value u) beside ≡ (any add beside || any remove beside)
    unfolding same_value
    same_add_or_remove =
        any_cong (same_value u) (λ (row : Row). add row || remove row) beside (λ row m. iff (same_value u row) (add row || remove row)
        (coded row (mem_into above below (unsettled_row u) m))
        (λ e. ⊎_elim (add_on u.object u.value row.operation) (remove_on u.object u.value row.operation) (or_cases (add row) (remove row) e)))
        ∙ any_or add remove beside

    settles_add : eqb u.code 1 ≡ true → becomes_settled kind u beside ≡ not (any add beside || any remove beside)
    unfolding becomes_settled
    settles_add c = rw (stand, c, same_add_or_remove)

    settles_remove : eqb u.code 1 ≡ false → becomes_settled kind u beside ≡ (any add beside && not (any remove beside))
    unfolding becomes_settled add_beside remove_beside
    settles_remove c = rw (stand, c)

    counted : remove_rows_count kind ≡ true
    unfolding remove_rows_count
    counted = or_right (eqb kind 4) stand

    kept_of_standing : AnswerKept kind u.object u.value
    unfolding is_in_by_rows add_beside
    kept_of_standing =
        rw (any_act kind u above below add, any_act kind u above below remove, any_mid add above below (unsettled_row u), any_mid remove above below (unsettled_row u), adds_stay, add_untagged, remove_untagged, counted)
        (cases (eqb u.code 1)
        (λ c.
        let a : add (unsettled_row u) ≡ true = add_by u.object u.value u (on_self u) c in
        rw (settles_add c, a, add_not_rem u.object u.value u a)
        (on_add (any add beside) (any remove beside) (any (λ (row : Row). remove row && stays row) beside) (λ e. removes_stay (rw (stand, c, e))) removes_none))
        (λ c.
        let a : add (unsettled_row u) ≡ false = add_only (unsettled_row u) c in
        let b : remove (unsettled_row u) ≡ true = ⊎_elim (λ h. clash (add (unsettled_row u)) h a) (λ h. h) (or_cases (add (unsettled_row u)) (remove (unsettled_row u)) (coded (unsettled_row u) (mem_mid above below (unsettled_row u)) (on_self u))) in
        rw (settles_remove c, a, b, removes_stay (rw (stand, c)))
        (on_remove (any add beside) (any remove beside))))

-- The step on the row of u keeps the answer on the value v of the object o.
abbrev pub StepKeeps : Table → List Row → List Row → Operation → ℕ → ℕ → Type 0
StepKeeps table above below u o v =
    is_in_by_rows (kind_in table.header o) o v (step_at (kind_in table.header u.object) above u below) ≡ is_in_by_rows (kind_in table.header o) o v (above ++ (unsettled_row u ∷ below))

module _ (table : Table) (above below : List Row) (u : Operation) (each : EachRow table (above ++ (unsettled_row u ∷ below))) where
  abbrev here : RowFacts table (unsettled_row u)
  here = each (unsettled_row u) (mem_mid above below (unsettled_row u))

  abbrev kind : ℕ
  kind = kind_in table.header u.object

  -- a step on one value is a step on every other
  by_value : (o v : ℕ) → (u.object ≡ o → StepKeeps table above below u u.object u.value) → StepKeeps table above below u o v
  by_value o v f = cases (on o v u)
      (λ p. let e = on_eq o v u p in subst₂ (StepKeeps table above below u) e.0 e.1 (f e.0))
      (λ p. kept_elsewhere kind u above below (kind_in table.header o) o v p)

  codes : (row : Row) → Memᴰ row (above ++ (unsettled_row u ∷ below)) → on u.object u.value row.operation ≡ true → settled_only kind ≡ false → (eqb row.operation.code adds || (removes_stand kind && eqb row.operation.code removes)) ≡ true
  codes row m p only = stored_codes kind row.operation (subst (λ (o : ℕ). storable (kind_in table.header o) row.operation ≡ true) (on_eq u.object u.value row.operation p).0 (each row m).is_storable) only

  -- "kinds 3 and 4 settled only": no step is at one of their rows.
  pub step_in_settled_only : (o v : ℕ) → settled_only (kind_in table.header o) ≡ true → StepKeeps table above below u o v
  step_in_settled_only o v only = by_value o v (λ e. absurd (false≢true (here.settled_only_lem (rw e only))))

  -- "In 5, 7 and 8 it is dropped if another row of the same object and value exists, else it becomes settled": every row there is an add.
  pub step_in_adds : (o v : ℕ) → settled_only (kind_in table.header o) ≡ false → removes_stand (kind_in table.header o) ≡ false → StepKeeps table above below u o v
  step_in_adds o v only stand = by_value o v (λ e.
      let stand' : removes_stand kind ≡ false = rw e stand in
      let only' : settled_only kind ≡ false = rw e only in
      kept_of_adds kind u above below stand' only' (λ row m p. add_by u.object u.value row.operation p (or_nil (eqb row.operation.code 1) (rw stand' at (codes row m p only')))))

  -- "In 6 and 9": what the step drops or settles leaves the answer of adds and removes together.
  pub step_in_standing : (o v : ℕ) → settled_only (kind_in table.header o) ≡ false → removes_stand (kind_in table.header o) ≡ true → StepKeeps table above below u o v
  unfolding add_of remove_of
  step_in_standing o v only stand = by_value o v (λ e.
      let stand' : removes_stand kind ≡ true = rw e stand in
      kept_of_standing kind u above below stand' (λ row m p. rw p (rw stand' at (codes row m p (rw e only)))))

  -- "a step changes no answer": at any unsettled row, whatever the kind.
  pub step_at_keeps : (o v : ℕ) → StepKeeps table above below u o v
  step_at_keeps o v = cases (settled_only (kind_in table.header o)) (step_in_settled_only o v)
      (λ only. cases (removes_stand (kind_in table.header o)) (step_in_standing o v only) (step_in_adds o v only))

-- "a step changes no answer in any table by the rules"
pub step_keeps_answers : (table : Table) → is_table table ≡ true → (o v : ℕ) →
    is_in_by_rows (kind_in table.header o) o v (step_of (kind_in table.header) (low table) table.rows) ≡ is_in_by_rows (kind_in table.header o) o v table.rows
step_keeps_answers table e o v = step_elim (λ (rows : List Row). is_in_by_rows (kind_in table.header o) o v rows ≡ is_in_by_rows (kind_in table.header o) o v table.rows) (kind_in table.header) (low table) [] table.rows refl
    (λ above below u _ e'.
    step_at_keeps table above below u (subst (EachRow table) e' (facts table e).row_facts) o v
    ∙ ap (is_in_by_rows (kind_in table.header o) o v) (sym e'))

-- "a step changes no answer": nor does a settling call, whatever its limit.
pub settling_keeps_answers : (table : Table) → is_table table ≡ true → (limit o v : ℕ) →
    is_in_by_rows (kind_in table.header o) o v (rows_settled table limit) ≡ is_in_by_rows (kind_in table.header o) o v table.rows
unfolding rows_settled
settling_keeps_answers table e limit o v =
    (steps_elim (λ (rows : List Row). EachRow table rows × (is_in_by_rows (kind_in table.header o) o v rows ≡ is_in_by_rows (kind_in table.header o) o v table.rows)) (kind_in table.header) (low table)
    (λ above below u _ h. (step_facts table above below u h.0, step_at_keeps table above below u h.0 o v ∙ h.1))
    limit table.rows ((facts table e).row_facts, refl)).1

-- "a step changes no answer": after a settling call every question, total, flag, list, count and holding, gets the reply that it got before, refusals included.
pub settling_keeps_replies : (table : Table) → is_table table ≡ true → (limit room : ℕ) (asked : Asked) → ask (with_rows table (rows_settled table limit)) room asked ≡ ask table room asked
unfolding ask by_rows count_by_rows
settling_keeps_replies table e limit room asked = replies_alike table.header (by_rows (with_rows table (rows_settled table limit))) (by_rows table) room asked (λ _. record {
  totals = λ _. refl;
  ins = λ _. settling_keeps_answers table e limit o;
  lists = λ _. lists;
  counts = λ _. ap length lists;
})
  where
    o : ℕ
    o = asked.object

    lists : list_by_rows (kind_in table.header o) o (rows_settled table limit) ≡ list_by_rows (kind_in table.header o) o table.rows
    lists = rows_list_same (kind_in table.header o) o (rows_settled table limit) table.rows (settling_keeps_answers table e limit o)
