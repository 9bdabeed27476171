-- In a table by the rules the rows beside a row decide its step.
use mathlib.Core.Path.{◌≡◌, refl, sym, ◌∙◌, ap, subst}
use mathlib.Core.Bool.{Bool, true, false, not, ◌&&◌, ◌||◌, cond, false≢true}
use mathlib.Core.Logic.{◌⊎◌, inl, inr, ⊎_elim}
use mathlib.Core.List.{List, [], ◌∷◌, ◌++◌, Memᴰ}
use Prim.Native.Nat.{ℕ}
use native.Mathlib.Omega.{arith}
use lib.Dec.{eqb}
use borrow.Author.Tests.{eqb-true, eq-eqb}
use Rattle.meaning.specs.Tests.{any, those}
use Rattle.meaning.specs.Operations.{Operation, adds, removes, removes_stand}
use Rattle.meaning.specs.Meaning.{on, add_of, remove_of}
use Rattle.meaning.specs.Rows.{Row, unsettled_row, settled_row, lower_row}
use Rattle.meaning.specs.Arrival.{same_value}
use Rattle.meaning.specs.Settling.{add_beside, remove_beside, becomes_settled, dropped_with, left_by, step_at}
use Rattle.meaning.proofs.Tests.{iff, cases, clash, fails, and_left, and_right, and_both, not_holds, fails_not, any_in, any_out, any_none, any_cong, any_append, or_cases, or_left_fails, or_right_fails}
use Rattle.meaning.proofs.Ascending.{Sorted, asc_left, asc_right, asc_cross}
use Rattle.meaning.proofs.RowLaws.{on_eq, on_self}
use Rattle.meaning.proofs.RowOrder.{code_rises, settled_once, settled_first, behind_same, above_same}
use Rattle.settling_step.specs.Standing.{Standing}
use Rattle.settling_step.specs.declared.Step.{Step}
use Rattle.settling_step.specs.declared.Step.TheVariants.{Keeps, Settles, Drops, DropsBoth}
use Rattle.settling_step.specs.Stepping.{pick, step_among, beside, beside_next, beside_last, remove_decided, add_decided, decided}

-- a list that is not empty, with its last row in sight
record Ended (u : Operation) (rows : List Row) : Type 0 where
  front : List Row
  last : Row
  is : rows ≡ front ++ (last ∷ [])
  neighbour : beside_last u rows ≡ beside u last

ended : (u : Operation) (row : Row) (rows : List Row) → Ended u (row ∷ rows)
unfolding beside_last
ended u row [] = record { front = []; last = row; is = refl; neighbour = refl }
ended u row (next ∷ rest) = let e = ended u next rest in record { front = row ∷ e.front; last = e.last; is = ap (λ (l : List Row). row ∷ l) e.is; neighbour = e.neighbour }

-- rows without those that a test names, where it names none
those_all : (p : Row → Bool) (l : List Row) → any p l ≡ false → those (λ (row : Row). not (p row)) l ≡ l
those_all p [] e = refl
those_all p (x ∷ l) e = rw (or_left_fails (p x) (any p l) e) (ap (λ (m : List Row). x ∷ m) (those_all p l (or_right_fails (p x) (any p l) e)))

-- what a step says of its two tests
abbrev is_settles : Step → Bool
is_settles Keeps = false
is_settles Settles = true
is_settles Drops = false
is_settles DropsBoth = false

abbrev is_both : Step → Bool
is_both Keeps = false
is_both Settles = false
is_both Drops = false
is_both DropsBoth = true

settles_when : (b d : Bool) → is_settles (pick b Settles (pick d DropsBoth Drops)) ≡ b
settles_when true d = refl
settles_when false true = refl
settles_when false false = refl

both_when : (b d : Bool) → is_both (pick b Settles (pick d DropsBoth Drops)) ≡ (not b && d)
both_when true d = refl
both_when false true = refl
both_when false false = refl

module _ (kind : ℕ) (u : Operation) (above below : List Row) (S : Sorted (above ++ (unsettled_row u ∷ below)))
    (C : (r : Row) → Memᴰ r (above ++ (unsettled_row u ∷ below)) → same_value u r ≡ true → (eqb r.operation.code adds || (removes_stand kind && eqb r.operation.code removes)) ≡ true)
    (W : (r : Row) → Memᴰ r (above ++ (unsettled_row u ∷ below)) → r.settled ≡ true → r ≡ settled_row r.operation) where
  abbrev O : List Row
  O = above ++ below

  abbrev here : List Row
  here = unsettled_row u ∷ below

  in_above : {r : Row} → Memᴰ r above → Memᴰ r (above ++ here)
  in_above m = mathlib.Core.List.Memᴰ.append_left here m

  in_below : {r : Row} → Memᴰ r below → Memᴰ r (above ++ here)
  in_below m = mathlib.Core.List.Memᴰ.append_right above (mathlib.Core.List.Memᴰ.tail m)

  higher : (r : Row) → Memᴰ r above → lower_row r (unsettled_row u) ≡ true
  higher r m = asc_cross lower_row above here S r (unsettled_row u) m (mathlib.Core.List.Memᴰ.head refl)

  lower : (r : Row) → Memᴰ r below → lower_row (unsettled_row u) r ≡ true
  lower r m = (asc_right lower_row above here S).0 r m

  same_is : (r : Row) → same_value u r ≡ on u.object u.value r.operation
  unfolding same_value
  same_is r = refl

  own : on u.object u.value u ≡ true
  own = on_self u

  -- codes are adds or removes
  code_of : (r : Row) → Memᴰ r (above ++ here) → same_value u r ≡ true → (r.operation.code ≡ 1) ⊎ (r.operation.code ≡ 2)
  code_of r m p = ⊎_elim (λ h. inl (eqb-true r.operation.code 1 h)) (λ h. inr (eqb-true r.operation.code 2 (and_right (removes_stand kind) (eqb r.operation.code 2) h)))
      (or_cases (eqb r.operation.code 1) (removes_stand kind && eqb r.operation.code 2) (C r m p))

  add_same : (r : Row) → add_of u.object u.value r.operation ≡ (same_value u r && eqb r.operation.code 1)
  unfolding add_of same_value
  add_same r = refl

  remove_same : (r : Row) → remove_of u.object u.value r.operation ≡ (same_value u r && eqb r.operation.code 2)
  unfolding remove_of same_value
  remove_same r = refl

  -- the neighbours tell whether rows of the value are there at all
  above_tells : any (same_value u) above ≡ (beside_last u above).same
  unfolding beside_last beside
  above_tells = go above refl
    where
      go : (l : List Row) → above ≡ l → any (same_value u) l ≡ (beside_last u l).same
      go [] e = refl
      go (x ∷ l) e =
          let v = ended u x l in
          ap (any (same_value u)) v.is ∙ above_same (unsettled_row u) v.front below v.last (subst (λ (m : List Row). Sorted (m ++ here)) (e ∙ v.is) S) ∙ ap (λ (n : Standing). n.same) (sym v.neighbour)

  below_tells : any (same_value u) below ≡ (beside_next u below).same
  unfolding beside_next beside
  below_tells = go below refl
    where
      go : (l : List Row) → below ≡ l → any (same_value u) l ≡ (beside_next u l).same
      go [] e = refl
      go (next ∷ rest) e = behind_same (unsettled_row u) next rest (subst (λ (m : List Row). Sorted (unsettled_row u ∷ m)) e (asc_right lower_row above here S))

  -- the rows above an add are adds
  above_adds : u.code ≡ 1 → add_beside u above ≡ (beside_last u above).same
  unfolding add_beside
  above_adds c = any_cong (λ (r : Row). add_of u.object u.value r.operation) (same_value u) above
      (λ r m. add_same r ∙ iff (same_value u r && eqb r.operation.code 1) (same_value u r) (and_left (same_value u r) (eqb r.operation.code 1))
      (λ p. and_both (same_value u r) (eqb r.operation.code 1) p (eq-eqb r.operation.code 1
      (let k = code_rises u.object u.value r (unsettled_row u) (higher r m) (sym (same_is r) ∙ p) own in ⊎_elim (λ e. e) (λ e. absurd (omega arith)) (code_of r (in_above m) p)))))
      ∙ above_tells

  -- the first of the rows below decides whether adds are among them
  below_adds : add_beside u below ≡ ((beside_next u below).same && (beside_next u below).adds)
  unfolding add_beside beside_next beside
  below_adds = go below refl
    where
      go : (l : List Row) → below ≡ l → any (λ (r : Row). add_of u.object u.value r.operation) l ≡ ((beside_next u l).same && (beside_next u l).adds)
      go [] e = refl
      go (next ∷ rest) e =
          let sorted = subst (λ (m : List Row). Sorted (unsettled_row u ∷ m)) e (asc_right lower_row above here S) in
          iff (any (λ (r : Row). add_of u.object u.value r.operation) (next ∷ rest)) (same_value u next && eqb next.operation.code 1)
          (λ h. let s = any_out (λ (r : Row). add_of u.object u.value r.operation) (next ∷ rest) h in
          let added = sym (add_same s.0) ∙ s.2 in
          let q = and_left (same_value u s.0) (eqb s.0.operation.code 1) added in
          let d = eqb-true s.0.operation.code 1 (and_right (same_value u s.0) (eqb s.0.operation.code 1) added) in
          let p = sym (behind_same (unsettled_row u) next rest sorted) ∙ any_in (same_value u) s.1 q in
          and_both (same_value u next) (eqb next.operation.code 1) p (eq-eqb next.operation.code 1
          (⊎_elim (λ f. ap (λ (r : Row). r.operation.code) (sym f) ∙ d)
          (λ m. let k = code_rises u.object u.value next s.0 (sorted.1.0 s.0 m) (sym (same_is next) ∙ p) (sym (same_is s.0) ∙ q) in
          ⊎_elim (λ f. f) (λ f. absurd (omega arith)) (code_of next (in_below (subst (λ (k : List Row). Memᴰ next k) (sym e) (mathlib.Core.List.Memᴰ.head refl))) p)) (mathlib.Core.List.Memᴰ.cases_cons s.1))))
          (λ h. any_in (λ (r : Row). add_of u.object u.value r.operation) {l = next ∷ rest} (mathlib.Core.List.Memᴰ.head refl) (add_same next ∙ h))

  both : (f : Row → Bool) → any f O ≡ (any f above || any f below)
  both f = any_append f above below

  -- a remove "becomes settled if the other rows of that value are one or more adds and nothing else"
  none_below : (beside_next u below).same ≡ false → (f : Row → Bool) → ((r : Row) → f r ≡ true → same_value u r ≡ true) → any f below ≡ false
  none_below n f g = fails (any f below) (λ h. let s = any_out f below h in clash (any (same_value u) below) (any_in (same_value u) s.1 (g s.0 s.2)) (below_tells ∙ n))

  add_is_same : (r : Row) → add_of u.object u.value r.operation ≡ true → same_value u r ≡ true
  add_is_same r h = and_left (same_value u r) (eqb r.operation.code 1) (sym (add_same r) ∙ h)

  remove_is_same : (r : Row) → remove_of u.object u.value r.operation ≡ true → same_value u r ≡ true
  remove_is_same r h = and_left (same_value u r) (eqb r.operation.code 2) (sym (remove_same r) ∙ h)

  remove_by : (r : Row) → same_value u r ≡ true → r.operation.code ≡ 2 → remove_of u.object u.value r.operation ≡ true
  remove_by r p e = remove_same r ∙ and_both (same_value u r) (eqb r.operation.code 2) p (eq-eqb r.operation.code 2 e)

  add_by : (r : Row) → same_value u r ≡ true → r.operation.code ≡ 1 → add_of u.object u.value r.operation ≡ true
  add_by r p e = add_same r ∙ and_both (same_value u r) (eqb r.operation.code 1) p (eq-eqb r.operation.code 1 e)

  -- where a remove stands first below, it is a remove beside u
  next_removes : u.code ≡ 2 → remove_beside u O ≡ false → (beside_next u below).same ≡ false
  unfolding remove_beside
  next_removes c n = fails (beside_next u below).same (λ h.
      let s = any_out (same_value u) below (below_tells ∙ h) in
      let k = code_rises u.object u.value (unsettled_row u) s.0 (lower s.0 s.1) own (sym (same_is s.0) ∙ s.2) in
      let e : s.0.operation.code ≡ 2 = ⊎_elim (λ f. absurd (omega arith)) (λ f. f) (code_of s.0 (in_below s.1) s.2) in
      clash (any (λ (r : Row). remove_of u.object u.value r.operation) O) (any_in (λ (r : Row). remove_of u.object u.value r.operation) (mathlib.Core.List.Memᴰ.append_right above s.1) (remove_by s.0 s.2 e)) n)

  -- the last of the rows above
  record Last : Type 0 where
    row : Row
    member : Memᴰ row above
    is : beside_last u above ≡ beside u row
    others : (r : Row) → Memᴰ r above → (r ≡ row) ⊎ (lower_row r row ≡ true)

  last_of : (beside_last u above).same ≡ true → Last
  unfolding beside_last
  last_of h = go above refl
    where
      go : (l : List Row) → above ≡ l → Last
      go [] e = absurd (false≢true (subst (λ (l : List Row). (beside_last u l).same ≡ true) e h))
      go (x ∷ l) e =
          let v = ended u x l in
          let whole : above ≡ v.front ++ (v.last ∷ []) = e ∙ v.is in
          record {
            row = v.last;
            member = subst (λ (m : List Row). Memᴰ v.last m) (sym whole) (mathlib.Core.List.Memᴰ.append_right v.front (mathlib.Core.List.Memᴰ.head refl));
            is = ap (beside_last u) e ∙ v.neighbour;
            others = λ r m. ⊎_elim
                (λ n. inr (asc_cross lower_row v.front (v.last ∷ []) (subst Sorted whole (asc_left lower_row above here S)) r v.last n (mathlib.Core.List.Memᴰ.head refl)))
                (λ n. ⊎_elim inl (λ k. elim k [ ]) (mathlib.Core.List.Memᴰ.cases_cons n))
                (mathlib.Core.List.Memᴰ.append_cases v.front (subst (λ (m : List Row). Memᴰ r m) whole m));
          }

  abbrev is_add : Row → Bool
  is_add r = add_of u.object u.value r.operation

  abbrev is_remove : Row → Bool
  is_remove r = remove_of u.object u.value r.operation

  -- adds and no removes beside u: the last row above adds, and the next is of another value
  settles_by : u.code ≡ 2 → any is_add O ≡ true → any is_remove O ≡ false → (not (beside_next u below).same && ((beside_last u above).same && (beside_last u above).adds)) ≡ true
  unfolding remove_beside beside
  settles_by c a n =
      let next : (beside_next u below).same ≡ false = next_removes c n in
      let added : any is_add above ≡ true = ⊎_elim (λ h. h) (λ h. clash (any is_add below) h (none_below next is_add add_is_same)) (or_cases (any is_add above) (any is_add below) (sym (both is_add) ∙ a)) in
      let s = any_out is_add above added in
      let p : (beside_last u above).same ≡ true = sym above_tells ∙ any_in (same_value u) s.1 (add_is_same s.0 s.2) in
      let l = last_of p in
      let same : same_value u l.row ≡ true = ap (λ (b : Standing). b.same) (sym l.is) ∙ p in
      let one : l.row.operation.code ≡ 1 = ⊎_elim (λ e. e) (λ e. clash (any is_remove O) (any_in is_remove (mathlib.Core.List.Memᴰ.append_left below l.member) (remove_by l.row same e)) n) (code_of l.row (in_above l.member) same) in
      rw (next, p) (ap (λ (b : Standing). b.adds) l.is ∙ eq-eqb l.row.operation.code 1 one)

  by_settles : (beside_next u below).same ≡ false → (beside_last u above).same ≡ true → (beside_last u above).adds ≡ true → (any is_add O ≡ true) × (any is_remove O ≡ false)
  unfolding beside
  by_settles next p d =
      let l = last_of p in
      let same : same_value u l.row ≡ true = ap (λ (b : Standing). b.same) (sym l.is) ∙ p in
      let one : l.row.operation.code ≡ 1 = eqb-true l.row.operation.code 1 (ap (λ (b : Standing). b.adds) (sym l.is) ∙ d) in (
        any_in is_add (mathlib.Core.List.Memᴰ.append_left below l.member) (add_by l.row same one),
        both is_remove ∙ rw (none_below next is_remove remove_is_same) (fails (any is_remove above || false) (λ h. ⊎_elim
            (λ h. let s = any_out is_remove above h in
            let q = remove_is_same s.0 s.2 in
            let two : s.0.operation.code ≡ 2 = eqb-true s.0.operation.code 2 (and_right (same_value u s.0) (eqb s.0.operation.code 2) (sym (remove_same s.0) ∙ s.2)) in
            ⊎_elim (λ e. let f : s.0.operation.code ≡ l.row.operation.code = ap (λ (r : Row). r.operation.code) e in omega arith)
            (λ k. let f = code_rises u.object u.value s.0 l.row k (sym (same_is s.0) ∙ q) (sym (same_is l.row) ∙ same) in omega arith)
            (l.others s.0 s.1))
            (λ h. false≢true h) (or_cases (any is_remove above) false h))),
      )

  removes_settle : u.code ≡ 2 → (any is_add O && not (any is_remove O)) ≡ (not (beside_next u below).same && ((beside_last u above).same && (beside_last u above).adds))
  removes_settle c = iff (any is_add O && not (any is_remove O)) (not (beside_next u below).same && ((beside_last u above).same && (beside_last u above).adds))
      (λ h. settles_by c (and_left (any is_add O) (not (any is_remove O)) h) (not_holds (any is_remove O) (and_right (any is_add O) (not (any is_remove O)) h)))
      (λ h. let p = and_right (not (beside_next u below).same) ((beside_last u above).same && (beside_last u above).adds) h in
      let r = by_settles (not_holds (beside_next u below).same (and_left (not (beside_next u below).same) ((beside_last u above).same && (beside_last u above).adds) h)) (and_left (beside_last u above).same (beside_last u above).adds p) (and_right (beside_last u above).same (beside_last u above).adds p) in
      and_both (any is_add O) (not (any is_remove O)) r.0 (fails_not (any is_remove O) r.1))

  -- where removes stand and u is an add with no other add of its value, what goes with it is a settled remove of its value
  abbrev goes_with : Row → Bool
  goes_with r = r.settled && is_remove r

  dropped_is : removes_stand kind ≡ true → u.code ≡ 1 → any is_add O ≡ false → (r : Row) → dropped_with kind u O r ≡ goes_with r
  unfolding dropped_with add_beside
  dropped_is s c n r = rw (s, c, n) refl

  dropped_none : (removes_stand kind && (eqb u.code 1 && not (any is_add O))) ≡ false → (l : List Row) → any (dropped_with kind u O) l ≡ false
  unfolding dropped_with add_beside
  dropped_none e l = any_none (dropped_with kind u O) l (λ r m. rw e refl)

  not_add : any is_add O ≡ false → (r : Row) → Memᴰ r below → same_value u r ≡ true → r.operation.code ≡ 2
  not_add n r m p = ⊎_elim (λ f. clash (any is_add O) (any_in is_add (mathlib.Core.List.Memᴰ.append_right above m) (add_by r p f)) n) (λ f. f) (code_of r (in_below m) p)

  -- it stands next, since settled rows come before unsettled ones
  next_goes : u.code ≡ 1 → any is_add O ≡ false → any goes_with below ≡ ((beside_next u below).same && (beside_next u below).settled)
  unfolding beside_next beside
  next_goes c n = go below refl
    where
      go : (l : List Row) → below ≡ l → any goes_with l ≡ ((beside_next u l).same && (beside_next u l).settled)
      go [] e = refl
      go (next ∷ rest) e = iff (any goes_with (next ∷ rest)) (same_value u next && next.settled) to from
        where
          sorted : Sorted (unsettled_row u ∷ next ∷ rest)
          sorted = subst (λ (m : List Row). Sorted (unsettled_row u ∷ m)) e (asc_right lower_row above here S)

          first : Memᴰ next below
          first = subst (λ (m : List Row). Memᴰ next m) (sym e) (mathlib.Core.List.Memᴰ.head refl)

          two : same_value u next ≡ true → next.operation.code ≡ 2
          two p = not_add n next first p

          to : any goes_with (next ∷ rest) ≡ true → (same_value u next && next.settled) ≡ true
          to h =
              let s = any_out goes_with (next ∷ rest) h in
              let g = and_right s.0.settled (is_remove s.0) s.2 in
              let q = remove_is_same s.0 g in
              let p : same_value u next ≡ true = sym (behind_same (unsettled_row u) next rest sorted) ∙ any_in (same_value u) s.1 q in
              let f = on_eq u.object u.value next.operation (sym (same_is next) ∙ p) in
              let k = on_eq u.object u.value s.0.operation (sym (same_is s.0) ∙ q) in
              let d : s.0.operation.code ≡ 2 = eqb-true s.0.operation.code 2 (and_right (same_value u s.0) (eqb s.0.operation.code 2) (sym (remove_same s.0) ∙ g)) in
              let t : s.0.settled ≡ true = and_left s.0.settled (is_remove s.0) s.2 in
              and_both (same_value u next) next.settled p (⊎_elim (λ z. ap (λ (r : Row). r.settled) (sym z) ∙ t)
              (λ m. settled_first next s.0 (sorted.1.0 s.0 m) (f.0 ∙ sym k.0) (f.1 ∙ sym k.1) (two p ∙ sym d) t) (mathlib.Core.List.Memᴰ.cases_cons s.1))

          from : (same_value u next && next.settled) ≡ true → any goes_with (next ∷ rest) ≡ true
          from h =
              let p = and_left (same_value u next) next.settled h in
              any_in goes_with {l = next ∷ rest} (mathlib.Core.List.Memᴰ.head refl) (and_both next.settled (is_remove next) (and_right (same_value u next) next.settled h) (remove_by next p (two p)))

  -- and it is the only one
  only_next : (next : Row) (rest : List Row) → below ≡ next ∷ rest → goes_with next ≡ true → any goes_with rest ≡ false
  only_next next rest e h = fails (any goes_with rest) (λ f.
      let s = any_out goes_with rest f in
      let sorted = subst (λ (m : List Row). Sorted (unsettled_row u ∷ m)) e (asc_right lower_row above here S) in
      let first : Memᴰ next below = subst (λ (m : List Row). Memᴰ next m) (sym e) (mathlib.Core.List.Memᴰ.head refl) in
      let second : Memᴰ s.0 below = subst (λ (m : List Row). Memᴰ s.0 m) (sym e) (mathlib.Core.List.Memᴰ.tail s.1) in
      let g = remove_is next (and_right next.settled (is_remove next) h) in
      let k = remove_is s.0 (and_right s.0.settled (is_remove s.0) s.2) in
      let a = W next (in_below first) (and_left next.settled (is_remove next) h) in
      let b = W s.0 (in_below second) (and_left s.0.settled (is_remove s.0) s.2) in
      settled_once next.operation s.0.operation
      (subst (λ (r : Row). lower_row r (settled_row s.0.operation) ≡ true) a (subst (λ (r : Row). lower_row next r ≡ true) b (sorted.1.0 s.0 s.1)))
      (g.0 ∙ sym k.0) (g.1 ∙ sym k.1) (g.2 ∙ sym k.2))
    where
      remove_is : (r : Row) → is_remove r ≡ true → (r.operation.object ≡ u.object) × (r.operation.value ≡ u.value) × (r.operation.code ≡ 2)
      remove_is r h =
          let f = on_eq u.object u.value r.operation (sym (same_is r) ∙ remove_is_same r h) in
          (f.0, f.1, eqb-true r.operation.code 2 (and_right (same_value u r) (eqb r.operation.code 2) (sym (remove_same r) ∙ h)))

  -- what goes with u stands below it
  none_above : any (dropped_with kind u O) above ≡ false
  unfolding dropped_with
  none_above = any_none (dropped_with kind u O) above (λ r m. fails (dropped_with kind u O r) (λ h.
      let first = removes_stand kind && (eqb u.code 1 && not (add_beside u O)) in
      let g = and_right r.settled (is_remove r) (and_right first (goes_with r) h) in
      let c : u.code ≡ 1 = eqb-true u.code 1 (and_left (eqb u.code 1) (not (add_beside u O)) (and_right (removes_stand kind) (eqb u.code 1 && not (add_beside u O)) (and_left first (goes_with r) h))) in
      let d : r.operation.code ≡ 2 = eqb-true r.operation.code 2 (and_right (same_value u r) (eqb r.operation.code 2) (sym (remove_same r) ∙ g)) in
      let k = code_rises u.object u.value r (unsettled_row u) (higher r m) (sym (same_is r) ∙ remove_is_same r g) own in omega arith))

  any_same : any (same_value u) O ≡ ((beside_last u above).same || (beside_next u below).same)
  any_same = both (same_value u) ∙ rw (above_tells, below_tells) refl

  any_add_lem : u.code ≡ 1 → any is_add O ≡ ((beside_last u above).same || ((beside_next u below).same && (beside_next u below).adds))
  unfolding add_beside
  any_add_lem c = both is_add ∙ rw (above_adds c, below_adds) refl

  others_drop : removes_stand kind ≡ true → eqb u.code 1 ≡ true → ((beside_last u above).same || (beside_next u below).same) ≡ true →
      any (dropped_with kind u O) below ≡ (not (beside_last u above).same && (not (beside_next u below).adds && (beside_next u below).settled))
  others_drop s a h = cases (beside_last u above).same
      (λ l. dropped_none (rw (s, a, any_add_lem c, l) refl) below ∙ rw l refl)
      (λ l. let p : (beside_next u below).same ≡ true = rw l at h in
      let e : any is_add O ≡ (beside_next u below).adds = any_add_lem c ∙ rw (l, p) refl in
      cases (beside_next u below).adds
      (λ d. dropped_none (rw (s, a, e, d) refl) below ∙ rw (l, d) refl)
      (λ d. any_cong (dropped_with kind u O) goes_with below (λ r m. dropped_is s c (e ∙ d) r) ∙ next_goes c (e ∙ d) ∙ rw (l, p, d) refl))
    where
      c : u.code ≡ 1
      c = eqb-true u.code 1 a

  self_in : Memᴰ (unsettled_row u) (above ++ here)
  self_in = mathlib.Core.List.Memᴰ.append_right above (mathlib.Core.List.Memᴰ.head refl)

  self_same : same_value u (unsettled_row u) ≡ true
  self_same = same_is (unsettled_row u) ∙ own

  -- the step that the document asks is the one that the neighbours decide
  pub decides : step_among kind u above below ≡ decided kind u.code (beside_last u above) (beside_next u below)
  unfolding step_among decided remove_decided add_decided becomes_settled add_beside remove_beside
  decides = cases (removes_stand kind)
      (λ s. cases (eqb u.code 1)
      (λ a. rw (s, a, any_same) (cases ((beside_last u above).same || (beside_next u below).same)
      (λ h. rw h (rw (others_drop s a h) refl))
      (λ h. rw h refl)))
      (λ a. let c : u.code ≡ 2 = ⊎_elim (λ e. clash (eqb u.code 1) (eq-eqb u.code 1 e) a) (λ e. e) (code_of (unsettled_row u) self_in self_same) in
      rw (s, a, removes_settle c, dropped_none (rw (s, a) refl) below) refl))
      (λ s. rw (s, any_same, dropped_none (rw s refl) below) refl)

  abbrev B : Bool
  B = becomes_settled kind u O

  abbrev D : Bool
  D = any (dropped_with kind u O) below

  dropped_same : (r : Row) → dropped_with kind u O r ≡ true → same_value u r ≡ true
  unfolding dropped_with
  dropped_same r h = remove_is_same r (and_right r.settled (is_remove r) (and_right (removes_stand kind && (eqb u.code 1 && not (add_beside u O))) (goes_with r) h))

  -- nothing goes with a row that becomes settled
  alone : B ≡ true → D ≡ false
  unfolding becomes_settled add_beside
  alone h = cases (removes_stand kind)
      (λ s. cases (eqb u.code 1)
      (λ a. let none : any (same_value u) O ≡ false = not_holds (any (same_value u) O) (rw (s, a) at h) in
      none_below (or_right_fails (beside_last u above).same (beside_next u below).same (sym any_same ∙ none)) (dropped_with kind u O) dropped_same)
      (λ a. dropped_none (rw (s, a) refl) below))
      (λ s. dropped_none (rw s refl) below)

  settled_when : (step : Step) → step ≡ step_among kind u above below → B ≡ is_settles step
  unfolding step_among
  settled_when step e = sym (ap is_settles e ∙ settles_when B D)

  both_then : (step : Step) → step ≡ step_among kind u above below → (not B && D) ≡ is_both step
  unfolding step_among
  both_then step e = sym (ap is_both e ∙ both_when B D)

  step_is : (m : List Row) → left_by kind u O below ≡ m → step_at kind above u below ≡ above ++ (cond B (settled_row u ∷ []) [] ++ m)
  unfolding step_at left_by
  step_is m e = rw (those_all (dropped_with kind u O) above none_above, e) refl

  below_left : D ≡ false → left_by kind u O below ≡ below
  unfolding left_by
  below_left e = those_all (dropped_with kind u O) below e

  -- what each step leaves
  pub settles_at : Settles ≡ step_among kind u above below → step_at kind above u below ≡ above ++ (settled_row u ∷ below)
  settles_at e = let b = settled_when Settles e in step_is below (below_left (alone b)) ∙ rw b refl

  pub drops_at : Drops ≡ step_among kind u above below → step_at kind above u below ≡ above ++ below
  drops_at e = let b = settled_when Drops e in step_is below (below_left (rw b at (both_then Drops e))) ∙ rw b refl

  pub both_at : DropsBoth ≡ step_among kind u above below → (next : Row) (rest : List Row) → below ≡ next ∷ rest → step_at kind above u below ≡ above ++ rest
  unfolding left_by dropped_with add_beside beside_next beside
  both_at e next rest f =
      let b = settled_when DropsBoth e in
      let d : D ≡ true = rw b at (both_then DropsBoth e) in
      let s = any_out (dropped_with kind u O) below d in
      let h = and_left (removes_stand kind && (eqb u.code 1 && not (any is_add O))) (goes_with s.0) s.2 in
      let stands = and_left (removes_stand kind) (eqb u.code 1 && not (any is_add O)) h in
      let g = and_right (removes_stand kind) (eqb u.code 1 && not (any is_add O)) h in
      let c : u.code ≡ 1 = eqb-true u.code 1 (and_left (eqb u.code 1) (not (any is_add O)) g) in
      let n : any is_add O ≡ false = not_holds (any is_add O) (and_right (eqb u.code 1) (not (any is_add O)) g) in
      let all : any goes_with below ≡ true = any_cong goes_with (dropped_with kind u O) below (λ r m. sym (dropped_is stands c n r)) ∙ d in
      let k : (same_value u next && next.settled) ≡ true = ap (λ (l : List Row). (beside_next u l).same && (beside_next u l).settled) (sym f) ∙ sym (next_goes c n) ∙ all in
      let p = and_left (same_value u next) next.settled k in
      let first : Memᴰ next below = subst (λ (m : List Row). Memᴰ next m) (sym f) (mathlib.Core.List.Memᴰ.head refl) in
      let goes : goes_with next ≡ true = and_both next.settled (is_remove next) (and_right (same_value u next) next.settled k) (remove_by next p (not_add n next first p)) in
      let none : any (dropped_with kind u O) rest ≡ false = any_cong (dropped_with kind u O) goes_with rest (λ r m. dropped_is stands c n r) ∙ only_next next rest f goes in
      let left : left_by kind u O below ≡ rest = ap (left_by kind u O) f ∙ rw (dropped_is stands c n next, goes) (those_all (dropped_with kind u O) rest none) in
      step_is rest left ∙ rw b refl

  pub both_some : DropsBoth ≡ step_among kind u above below → below ≡ [] → ⊥
  both_some e f =
      let b = settled_when DropsBoth e in
      let d : D ≡ true = rw b at (both_then DropsBoth e) in
      false≢true (sym (ap (any (dropped_with kind u O)) f) ∙ d)
