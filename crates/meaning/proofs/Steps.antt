-- A settling step, at one value of one object.
use mathlib.Core.Path.{◌≡◌, refl, sym, ◌∙◌, ap, subst₂}
use mathlib.Core.Bool.{Bool, true, false, not, ◌&&◌, ◌||◌, cond}
use mathlib.Core.Logic.{inl, inr, ⊎_elim}
use mathlib.Core.List.{List, [], ◌∷◌, ◌++◌, Memᴰ}
use Prim.Native.Nat.{ℕ}
use native.Mathlib.Omega.{arith}
use lib.Dec.{eqb}
use borrow.Author.Tests.{eqb-true, ne_eqb}
use Rattle.meaning.specs.Tests.{any}
use Rattle.meaning.specs.Operations.{Operation, removes_stand}
use Rattle.meaning.specs.Meaning.{on, add_of, remove_of}
use Rattle.meaning.specs.Rows.{Row, unsettled_row, settled_row}
use Rattle.meaning.specs.Arrival.{same_value}
use Rattle.meaning.specs.Settling.{add_beside, remove_beside, becomes_settled, dropped_with, left_by, step_at}
use Rattle.meaning.proofs.Tests.{cases, clash, iff, and_right, and_both, and_fails, fails, or_cases, any_in, any_out, any_cong, any_or, any_and, any_those, any_append, any_mid, mem_mid, mem_into}
use Rattle.meaning.proofs.OneValue.{remove_on, add_on, on_untagged, add_untagged, remove_untagged}
use Rattle.meaning.proofs.RowLaws.{on_eq, on_self, same_on, step_back, step_others, step_kept, step_settles, dropped_only_standing, dropped_same_value}
use Rattle.meaning.proofs.Survival
use Rattle.meaning.proofs.Standing

module _ (kc kk o v : ℕ) (w : Operation) (pre post : List Row) where
  swept : (r : Row) → (on o v w ≡ true → removes_stand kk ≡ false) → on o v r.operation ≡ true → dropped_with kk w (pre ++ post) r ≡ false
  swept r h p = cases (on o v w) (λ q. dropped_only_standing kk w (pre ++ post) r (h q)) (λ q. dropped_same_value o v kk w (pre ++ post) r p q)

  -- kinds 5, 7, 8
  pub add_stepped : (on o v w ≡ true → removes_stand kk ≡ false) → Survival.Stepped kc o v w (pre ++ (unsettled_row w ∷ post)) (step_at kk pre w post)
  unfolding becomes_settled same_value
  add_stepped h = record {
    was = mem_mid pre post (unsettled_row w);
    kept = λ r m p. step_kept kk pre post w m (swept r h p);
    back = λ r m p. step_back kk pre post w m;
    some = λ p. let e = on_eq o v w p in cases (any (same_value w) (pre ++ post))
        (λ a. let s = any_out (same_value w) (pre ++ post) a in
        let f = on_eq w.object w.value s.0.operation s.2 in
        let q : on o v s.0.operation ≡ true = same_on o v s.0.operation w f.0 f.1 ∙ p in
        (s.0, step_others kk pre post w s.1 (swept s.0 h q), q))
        (λ a. (settled_row w, step_settles kk pre post w (rw (h p, a)), on_untagged o v w ∙ p));
  }

  -- kinds 6, 9, another value
  pub others : (q : Row → Bool) → ((r : Row) → q r ≡ true → on o v r.operation ≡ true) → on o v w ≡ false → any q (step_at kk pre w post) ≡ any q (pre ++ (unsettled_row w ∷ post))
  others q qo n = iff (any q (step_at kk pre w post)) (any q (pre ++ (unsettled_row w ∷ post)))
      (λ e. let s = any_out q (step_at kk pre w post) e in ⊎_elim
      (λ m. any_in q m s.2)
      (λ f. clash (on o v w) (sym (on_untagged o v w) ∙ qo (settled_row w) (rw f at s.2)) n)
      (step_back kk pre post w s.1))
      (λ e. let s = any_out q (pre ++ (unsettled_row w ∷ post)) e in ⊎_elim
      (λ f. clash (on o v w) (qo (unsettled_row w) (rw f at s.2)) n)
      (λ m. any_in q m s.2)
      (step_kept kk pre post w s.1 (dropped_same_value o v kk w (pre ++ post) s.0 (qo s.0 s.2) n)))

  others_fit : (accepted : List Operation) → on o v w ≡ false → Standing.Fit o v accepted (pre ++ (unsettled_row w ∷ post)) → Standing.Fit o v accepted (step_at kk pre w post)
  unfolding Standing.Fit
  others_fit accepted n f =
      rw (
        others (λ (r : Row). not r.settled && add_of o v r.operation) (λ r e. add_on o v r.operation (and_right (not r.settled) (add_of o v r.operation) e)) n,
        others (λ (r : Row). not r.settled && remove_of o v r.operation) (λ r e. remove_on o v r.operation (and_right (not r.settled) (remove_of o v r.operation) e)) n,
        others (λ (r : Row). r.settled && add_of o v r.operation) (λ r e. add_on o v r.operation (and_right r.settled (add_of o v r.operation) e)) n,
        others (λ (r : Row). r.settled && remove_of o v r.operation) (λ r e. remove_on o v r.operation (and_right r.settled (remove_of o v r.operation) e)) n,
      ) f

  others_coded : ((r : Row) → Memᴰ r (pre ++ (unsettled_row w ∷ post)) → on o v r.operation ≡ true → Standing.puts o v r.operation ≡ true) → (x : Row) → Memᴰ x (pre ++ post) → on o v x.operation ≡ (add_of o v x.operation || remove_of o v x.operation)
  others_coded c x m = iff (on o v x.operation) (add_of o v x.operation || remove_of o v x.operation) (c x (mem_into pre post (unsettled_row w) m)) (Standing.puts_on o v x.operation)

-- laws of tests
shuffle : (a c b : Bool) → (a || (c || b)) ≡ (c || (a || b))
shuffle true true b = refl
shuffle true false b = refl
shuffle false c b = refl

pub and_false : (a : Bool) → (a && false) ≡ false
and_false true = refl
and_false false = refl

loose : (f q s r : Bool) → ((not f && q) && not (s && (f && r))) ≡ (not f && q)
loose true q s r = refl
loose false true true r = refl
loose false true false r = refl
loose false false s r = refl

apart : (f q s r : Bool) → (q ≡ true → r ≡ false) → ((f && q) && not (s && (f && r))) ≡ (f && q)
apart true true true r h = rw (h refl)
apart true true false r h = refl
apart true false s r h = refl
apart false q s r h = refl

inner : (f s r : Bool) → ((f && r) && not (s && (f && r))) ≡ ((f && r) && not s)
inner true true true = refl
inner true true false = refl
inner true false true = refl
inner true false false = refl
inner false s r = refl

pub add_not_rem : (o v : ℕ) (u : Operation) → add_of o v u ≡ true → remove_of o v u ≡ false
unfolding add_of remove_of
add_not_rem o v u p = and_fails (on o v u) (eqb u.code 2) (λ _. ne_eqb u.code 2 (λ e. let f : u.code ≡ 1 = eqb-true u.code 1 (and_right (on o v u) (eqb u.code 1) p) in let z : ◌≡◌ {A = ℕ} 1 2 = sym f ∙ e in omega arith))

pub add_by : (o v : ℕ) (u : Operation) → on o v u ≡ true → eqb u.code 1 ≡ true → add_of o v u ≡ true
unfolding add_of
add_by o v u p q = and_both (on o v u) (eqb u.code 1) p q

pub add_code : (o v : ℕ) (u : Operation) → add_of o v u ≡ true → eqb u.code 1 ≡ true
unfolding add_of
add_code o v u p = and_right (on o v u) (eqb u.code 1) p

-- the tests of the rows after a step
module _ (kk : ℕ) (w : Operation) (pre post : List Row) where
  abbrev pub O : List Row
  O = pre ++ post

  pub any_act : (p : Row → Bool) → any p (step_at kk pre w post) ≡ ((becomes_settled kk w O && p (settled_row w)) || any (λ (x : Row). p x && not (dropped_with kk w O x)) O)
  unfolding step_at left_by
  any_act p = rw (any_append, any_append, any_those, any_those, any_append, one (becomes_settled kk w O)) (shuffle (any (λ (x : Row). p x && not (dropped_with kk w O x)) pre) (becomes_settled kk w O && p (settled_row w)) (any (λ (x : Row). p x && not (dropped_with kk w O x)) post))
    where
      one : (b : Bool) → any p (cond b (settled_row w ∷ []) []) ≡ (b && p (settled_row w))
      one true = go (p (settled_row w))
        where
          go : (a : Bool) → (a || false) ≡ a
          go true = refl
          go false = refl
      one false = refl

  abbrev A : Operation → Bool
  A = add_of w.object w.value

  abbrev B : Operation → Bool
  B = remove_of w.object w.value

  -- whether the step sweeps a settled remove away
  abbrev S : Bool
  S = removes_stand kk && (eqb w.code 1 && not (add_beside w O))

  ub_act : (q : Operation → Bool) → Standing.ub q (step_at kk pre w post) ≡ Standing.ub q O
  unfolding dropped_with
  ub_act q = any_act (λ (r : Row). not r.settled && q r.operation)
      ∙ rw (and_false, any_cong (λ (x : Row). (not x.settled && q x.operation) && not (dropped_with kk w O x)) (λ (x : Row). not x.settled && q x.operation) O (λ x _. loose x.settled (q x.operation) S (B x.operation)))

  fb_add : Standing.fb A (step_at kk pre w post) ≡ ((becomes_settled kk w O && A w) || Standing.fb A O)
  unfolding dropped_with
  fb_add = any_act (λ (r : Row). r.settled && A r.operation)
      ∙ rw (add_untagged, any_cong (λ (x : Row). (x.settled && A x.operation) && not (dropped_with kk w O x)) (λ (x : Row). x.settled && A x.operation) O (λ x _. apart x.settled (A x.operation) S (B x.operation) (add_not_rem w.object w.value x.operation)))

  fb_rem : Standing.fb B (step_at kk pre w post) ≡ ((becomes_settled kk w O && B w) || (Standing.fb B O && not S))
  unfolding dropped_with
  fb_rem = any_act (λ (r : Row). r.settled && B r.operation)
      ∙ rw (remove_untagged, any_cong (λ (x : Row). (x.settled && B x.operation) && not (dropped_with kk w O x)) (λ (x : Row). (x.settled && B x.operation) && not S) O (λ x _. inner x.settled S (B x.operation)), any_and (λ (x : Row). x.settled && B x.operation) (not S) O)

  module _ (wk : removes_stand kk ≡ true) (coded : (x : Row) → Memᴰ x O → on w.object w.value x.operation ≡ (A x.operation || B x.operation)) where
    keep_add : eqb w.code 1 ≡ true → becomes_settled kk w O ≡ not ((Standing.ub A O || Standing.fb A O) || (Standing.ub B O || Standing.fb B O))
    unfolding becomes_settled same_value
    keep_add c = rw (wk, c, any_cong (λ (x : Row). on w.object w.value x.operation) (λ (x : Row). A x.operation || B x.operation) O coded, any_or (λ (x : Row). A x.operation) (λ (x : Row). B x.operation) O, Standing.split A O, Standing.split B O)

    keep_rem : eqb w.code 1 ≡ false → becomes_settled kk w O ≡ ((Standing.ub A O || Standing.fb A O) && not (Standing.ub B O || Standing.fb B O))
    unfolding becomes_settled add_beside remove_beside
    keep_rem c = rw (wk, c, Standing.split A O, Standing.split B O)

  own_fit : (kc : ℕ) → removes_stand kk ≡ true → Standing.puts w.object w.value w ≡ true → ((x : Row) → Memᴰ x O → on w.object w.value x.operation ≡ (A x.operation || B x.operation))
      → (accepted : List Operation) → Standing.Fit w.object w.value accepted (pre ++ (unsettled_row w ∷ post)) → Standing.Fit w.object w.value accepted (step_at kk pre w post)
  unfolding Standing.Fit add_beside
  own_fit kc wk pw coded accepted f = rw (ub_act A, ub_act B, fb_add, fb_rem) (cases (eqb w.code 1)
      (λ c.
      let a : A w ≡ true = add_by w.object w.value w (on_self w) c in
      let b : B w ≡ false = add_not_rem w.object w.value w a in
      rw (keep_add wk coded c, wk, c, a, b, Standing.split A O)
      (Standing.ok_add (Standing.ub A O) (Standing.ub B O) (Standing.fb A O) (Standing.fb B O) (Standing.lb w.object w.value A accepted) (Standing.lb w.object w.value B accepted) (rw (mid A, mid B, mid' A, mid' B, a, b) at f)))
      (λ c.
      let a : A w ≡ false = fails (A w) (λ h. clash (eqb w.code 1) (add_code w.object w.value w h) c) in
      let b : B w ≡ true = ⊎_elim (λ h. clash (A w) h a) (λ h. h) (or_cases (A w) (B w) pw) in
      rw (keep_rem wk coded c, wk, c, a, b)
      (Standing.ok_rem (Standing.ub A O) (Standing.ub B O) (Standing.fb A O) (Standing.fb B O) (Standing.lb w.object w.value A accepted) (Standing.lb w.object w.value B accepted) (rw (mid A, mid B, mid' A, mid' B, a, b) at f))))
    where
      mid : (q : Operation → Bool) → Standing.ub q (pre ++ (unsettled_row w ∷ post)) ≡ (q w || Standing.ub q O)
      mid q = any_mid (λ (r : Row). not r.settled && q r.operation) pre post (unsettled_row w)

      mid' : (q : Operation → Bool) → Standing.fb q (pre ++ (unsettled_row w ∷ post)) ≡ Standing.fb q O
      mid' q = any_mid (λ (r : Row). r.settled && q r.operation) pre post (unsettled_row w)

-- kinds 6, 9
module _ (kc kk o v : ℕ) (w : Operation) (pre post : List Row) where
  pub rem_stepped : (on o v w ≡ true → removes_stand kk ≡ true) → Standing.Stepped o v w (pre ++ (unsettled_row w ∷ post)) (step_at kk pre w post)
  unfolding dropped_with
  rem_stepped h = record {
    was = mem_mid pre post (unsettled_row w);
    kept = λ u m p. ⊎_elim (λ e. inl (ap (λ (r : Row). r.operation) e)) inr (step_kept kk pre post w m (and_false (removes_stand kk && (eqb w.code 1 && not (add_beside w (pre ++ post))))));
    back = λ r m p. step_back kk pre post w m;
    fits = λ accepted c f. cases (on o v w)
        (λ p. let e = on_eq o v w p in
        subst₂ (λ (a b : ℕ). ((r : Row) → Memᴰ r (pre ++ (unsettled_row w ∷ post)) → on a b r.operation ≡ true → Standing.puts a b r.operation ≡ true) → Standing.Fit a b accepted (pre ++ (unsettled_row w ∷ post)) → Standing.Fit a b accepted (step_at kk pre w post))
        e.0 e.1
        (λ c f. own_fit kk w pre post kc (h p) (c (unsettled_row w) (mem_mid pre post (unsettled_row w)) (on_self w)) (others_coded kc kk w.object w.value w pre post c) accepted f)
        c f)
        (λ p. others_fit kc kk o v w pre post accepted p f);
  }
