-- Kinds 3 and 4, at one value of one object: rows give the definition's answer.
use mathlib.Core.Path.{◌≡◌, refl, sym, ◌∙◌, ap, subst, subst₂}
use mathlib.Core.Bool.{Bool, true, false, not, ◌&&◌, ◌||◌, false≢true}
use mathlib.Core.Logic.{⊎_elim}
use mathlib.Core.List.{List, [], ◌∷◌, ◌++◌, Memᴰ}
use Prim.Native.Nat.{ℕ}
use native.Mathlib.Omega.{arith}
use lib.Dec.{eqb}
use borrow.Author.Tests.{eqb-true, eqb-false}
use Rattle.meaning.specs.Tests.{any, those}
use Rattle.meaning.specs.Operations.{Operation, is_counter, code_allowed}
use Rattle.meaning.specs.Meaning.{on, add_of, remove_of, in_two_phase_set}
use Rattle.meaning.specs.Rows.{Row, untagged, unsettled_row, settled_row, insert_row}
use Rattle.meaning.specs.Arrival.{same_value, with_row, settled_arrival, rows_after}
use Rattle.meaning.specs.Settling.{step_at}
use Rattle.meaning.proofs.Tests.{and_true, cases, clash, iff, and_both, fails, not_holds, or_cases, or_left, or_right, any_in, any_out, any_none, any_cong, any_or, those_out, mem_mid}
use Rattle.meaning.proofs.OneValue.{remove_on, add_on, on_untagged, add_untagged, remove_untagged}
use Rattle.meaning.proofs.RowLaws.{on_eq, on_self, same_on, ins_back, ins_new, ins_kept, put_back, settled_rows_lem, settled_back, settled_kept, other_back, other_kept, step_back, step_kept, dropped_same_value}
use Rattle.meaning.proofs.KindGroups.{Keeper, at_keeper, keeper_removes}
use Rattle.meaning.proofs.Steps.{and_false, add_by, add_code, add_not_rem}

-- kinds 3 and 4 arrive as settled rows
arrives_settled : (k : ℕ) (t : Operation) (rows : List Row) → Keeper k → rows_after k t rows ≡ settled_arrival t rows
unfolding is_counter
arrives_settled k t rows h = at_keeper (λ (j : ℕ). rows_after j t rows ≡ settled_arrival t rows) (settled_rows_lem 3 t rows refl refl) (settled_rows_lem 4 t rows refl refl) k h

not_own : (o v : ℕ) (u t : Operation) → on o v u ≡ true → on o v t ≡ false → on t.object t.value u ≡ false
not_own o v u t p n = fails (on t.object t.value u) (λ q. let e = on_eq t.object t.value u q in clash (on o v t) (sym (same_on o v u t e.0 e.1) ∙ p) n)

any_ins : (q : Row → Bool) (r : Row) (l : List Row) → any q (insert_row r l) ≡ (q r || any q l)
any_ins q r l = iff (any q (insert_row r l)) (q r || any q l)
    (λ e. let s = any_out q (insert_row r l) e in ⊎_elim (λ f. or_left (any q l) (rw f at s.2)) (λ m. or_right (q r) (any_in q m s.2)) (ins_back r l s.1))
    (λ e. ⊎_elim (λ h. any_in q (ins_new r l) h) (λ h. let s = any_out q l h in any_in q (ins_kept r s.1) s.2) (or_cases (q r) (any q l) e))

any_put : (q : Row → Bool) (b : Bool) (r : Row) (l : List Row) → any q (with_row b r l) ≡ ((b && q r) || any q l)
unfolding with_row
any_put q true r l = any_ins q r l
any_put q false r l = refl

module _ (k o v : ℕ) where
  pub record Inv (accepted : List Operation) (rows : List Row) : Type 0 where
    pub solid : (u : Operation) → Memᴰ (unsettled_row u) rows → on o v u ≡ true → ⊥
    pub coded : (r : Row) → Memᴰ r rows → on o v r.operation ≡ true → (add_of o v r.operation || remove_of o v r.operation) ≡ true
    pub rems : any (λ (r : Row). remove_of o v r.operation) rows ≡ any (remove_of o v) accepted
    pub adds : any (λ (r : Row). add_of o v r.operation) rows ≡ (any (add_of o v) accepted && not (any (remove_of o v) accepted))
    pub grows : k ≡ 3 → any (remove_of o v) accepted ≡ false

  pub empty_inv : Inv [] []
  empty_inv = record { solid = λ u m _. elim m [ ]; coded = λ r m _. elim m [ ]; rems = refl; adds = refl; grows = λ _. refl }

  -- rows of the value stay as they are
  pub record Same (rows rows' : List Row) : Type 0 where
    pub back : (r : Row) → Memᴰ r rows' → on o v r.operation ≡ true → Memᴰ r rows
    pub kept : (r : Row) → Memᴰ r rows → on o v r.operation ≡ true → Memᴰ r rows'

  same_any : (rows rows' : List Row) → Same rows rows' → (p : Operation → Bool) → ((u : Operation) → p u ≡ true → on o v u ≡ true) → any (λ (r : Row). p r.operation) rows' ≡ any (λ (r : Row). p r.operation) rows
  same_any rows rows' S p po = iff (any (λ (r : Row). p r.operation) rows') (any (λ (r : Row). p r.operation) rows)
      (λ e. let s = any_out (λ (r : Row). p r.operation) rows' e in any_in (λ (r : Row). p r.operation) (S.back s.0 s.1 (po s.0.operation s.2)) s.2)
      (λ e. let s = any_out (λ (r : Row). p r.operation) rows e in any_in (λ (r : Row). p r.operation) (S.kept s.0 s.1 (po s.0.operation s.2)) s.2)

  pub same_inv : (accepted : List Operation) (rows rows' : List Row) → Same rows rows' → Inv accepted rows → Inv accepted rows'
  same_inv accepted rows rows' S I = record {
    solid = λ u m p. I.solid u (S.back (unsettled_row u) m p) p;
    coded = λ r m p. I.coded r (S.back r m p) p;
    rems = same_any rows rows' S (remove_of o v) (remove_on o v) ∙ I.rems;
    adds = same_any rows rows' S (add_of o v) (add_on o v) ∙ I.adds;
    grows = I.grows;
  }

  -- an operation on another value or object
  pub log_inv : (t : Operation) (accepted : List Operation) (rows : List Row) → on o v t ≡ false → Inv accepted rows → Inv (t ∷ accepted) rows
  log_inv t accepted rows n I =
      let a : add_of o v t ≡ false = fails (add_of o v t) (λ h. clash (on o v t) (add_on o v t h) n) in
      let b : remove_of o v t ≡ false = fails (remove_of o v t) (λ h. clash (on o v t) (remove_on o v t h) n) in
      record { solid = I.solid; coded = I.coded; rems = rw b I.rems; adds = rw (a, b) I.adds; grows = λ e. rw b (I.grows e) }

  pub other_same : (ka : ℕ) (t : Operation) (rows : List Row) → on o v t ≡ false → (t.object ≡ o → Keeper ka) → Same rows (rows_after ka t rows)
  unfolding same_value
  other_same ka t rows n h = cases (eqb t.object o)
      (λ q. let e = arrives_settled ka t rows (h (eqb-true t.object o q)) in record {
        back = λ r m p. ⊎_elim (λ f. clash (on o v t) (sym (on_untagged o v t) ∙ subst (λ (x : Row). on o v x.operation ≡ true) f p) n) (λ x. x) (settled_back t rows (subst (Memᴰ r) e m));
        kept = λ r m p. subst (Memᴰ r) (sym e) (settled_kept t rows m (not_own o v r.operation t p n));
      })
      (λ q. record {
        back = λ r m p. other_back ka t rows m (λ f. eqb-false t.object o q (sym f ∙ (on_eq o v r.operation p).0));
        kept = λ r m p. other_kept ka t rows m (λ f. eqb-false t.object o q (sym f ∙ (on_eq o v r.operation p).0));
      })

  -- a settling step takes no row of the value
  pub step_same : (kk : ℕ) (pre post : List Row) (w : Operation) (accepted : List Operation) → Inv accepted (pre ++ (unsettled_row w ∷ post)) → Same (pre ++ (unsettled_row w ∷ post)) (step_at kk pre w post)
  step_same kk pre post w accepted I =
      let n : on o v w ≡ false = fails (on o v w) (λ p. I.solid w (mem_mid pre post (unsettled_row w)) p) in
      record {
        back = λ r m p. ⊎_elim (λ x. x) (λ e. clash (on o v w) (sym (on_untagged o v w) ∙ subst (λ (x : Row). on o v x.operation ≡ true) e p) n) (step_back kk pre post w m);
        kept = λ r m p. ⊎_elim (λ e. clash (on o v w) (subst (λ (x : Row). on o v x.operation ≡ true) e p) n) (λ x. x) (step_kept kk pre post w m (dropped_same_value o v kk w (pre ++ post) r p n));
      }

-- an operation on the value itself
law : (a b x y : Bool) → y ≡ b → x ≡ (a && not b) → ((not (x || y) && true) || x) ≡ not b
law a b x y p q = rw (p, q) (go a b)
  where
    go : (a b : Bool) → ((not ((a && not b) || b) && true) || (a && not b)) ≡ not b
    go true true = refl
    go true false = refl
    go false true = refl
    go false false = refl

module _ (k : ℕ) (kk : Keeper k) (t : Operation) (accepted : List Operation) (rows : List Row) (I : Inv k t.object t.value accepted rows) where
  abbrev o : ℕ
  o = t.object

  abbrev v : ℕ
  v = t.value

  abbrev ra : Bool
  ra = any (λ (r : Row). add_of o v r.operation) rows

  abbrev rr : Bool
  rr = any (λ (r : Row). remove_of o v r.operation) rows

  owns : any (λ (r : Row). on o v r.operation) rows ≡ (ra || rr)
  owns = any_cong (λ (r : Row). on o v r.operation) (λ (r : Row). add_of o v r.operation || remove_of o v r.operation) rows
      (λ r m. iff (on o v r.operation) (add_of o v r.operation || remove_of o v r.operation) (I.coded r m) (λ e. ⊎_elim (add_on o v r.operation) (remove_on o v r.operation) (or_cases (add_of o v r.operation) (remove_of o v r.operation) e)))
      ∙ any_or (λ (r : Row). add_of o v r.operation) (λ (r : Row). remove_of o v r.operation) rows

  own_add : eqb t.code 1 ≡ true → Inv k o v (t ∷ accepted) (with_row (not (any (λ (r : Row). on o v r.operation) rows)) (settled_row t) rows)
  own_add c =
      let a : add_of o v t ≡ true = add_by o v t (on_self t) c in
      let b : remove_of o v t ≡ false = add_not_rem o v t a in
      record {
        solid = λ u m p. ⊎_elim (λ e. absurd (false≢true (ap (λ (x : Row). x.settled) e.0))) (λ n. I.solid u n p) (put_back (not (any (λ (r : Row). on o v r.operation) rows)) (settled_row t) rows m);
        coded = λ r m p. ⊎_elim (λ e. subst (λ (x : Row). (add_of o v x.operation || remove_of o v x.operation) ≡ true) (sym e.0) (rw (add_untagged, a))) (λ n. I.coded r n p) (put_back (not (any (λ (r : Row). on o v r.operation) rows)) (settled_row t) rows m);
        rems = any_put (λ (r : Row). remove_of o v r.operation) (not (any (λ (r : Row). on o v r.operation) rows)) (settled_row t) rows ∙ rw (remove_untagged, b, and_false) I.rems;
        adds = any_put (λ (r : Row). add_of o v r.operation) (not (any (λ (r : Row). on o v r.operation) rows)) (settled_row t) rows ∙ rw (add_untagged, a, b, owns) (law (any (add_of o v) accepted) (any (remove_of o v) accepted) ra rr I.rems I.adds);
        grows = λ e. rw b (I.grows e);
      }

  own_rem : eqb t.code 1 ≡ false → code_allowed k t.code ≡ true → Inv k o v (t ∷ accepted) (insert_row (settled_row t) (those (λ (r : Row). not (on o v r.operation)) rows))
  unfolding remove_of
  own_rem c l =
      let g = keeper_removes k t.code kk l c in
      let a : add_of o v t ≡ false = fails (add_of o v t) (λ h. clash (eqb t.code 1) (add_code o v t h) c) in
      let b : remove_of o v t ≡ true = and_both (on o v t) (eqb t.code 2) (on_self t) g.0 in
      record {
        solid = λ u m p. ⊎_elim (λ e. absurd (false≢true (ap (λ (x : Row). x.settled) e))) (λ n. dropped (unsettled_row u) n p) (ins_back (settled_row t) (those (λ (r : Row). not (on o v r.operation)) rows) m);
        coded = λ r m p. ⊎_elim (λ e. subst (λ (x : Row). (add_of o v x.operation || remove_of o v x.operation) ≡ true) (sym e) (or_right (add_of o v (untagged t)) (remove_untagged o v t ∙ b))) (λ n. absurd (dropped r n p)) (ins_back (settled_row t) (those (λ (r : Row). not (on o v r.operation)) rows) m);
        rems = any_ins (λ (r : Row). remove_of o v r.operation) (settled_row t) (those (λ (r : Row). not (on o v r.operation)) rows) ∙ rw (remove_untagged o v t, b);
        adds = any_ins (λ (r : Row). add_of o v r.operation) (settled_row t) (those (λ (r : Row). not (on o v r.operation)) rows) ∙ rw (add_untagged o v t, a, b, and_false (any (add_of o v) accepted)) (any_none (λ (r : Row). add_of o v r.operation) (those (λ (r : Row). not (on o v r.operation)) rows) (λ r n. fails (add_of o v r.operation) (λ h. dropped r n (add_on o v r.operation h))));
        grows = λ e. let z : ◌≡◌ {A = ℕ} 3 4 = sym e ∙ g.1 in absurd (omega arith);
      }
    where
      dropped : (r : Row) → Memᴰ r (those (λ (r : Row). not (on o v r.operation)) rows) → on o v r.operation ≡ true → ⊥
      dropped r n p = clash (on o v r.operation) p (not_holds (on o v r.operation) (those_out (λ (r : Row). not (on o v r.operation)) rows n).1)

  own_inv : code_allowed k t.code ≡ true → Inv k o v (t ∷ accepted) (rows_after k t rows)
  unfolding settled_arrival same_value
  own_inv l = subst (Inv k o v (t ∷ accepted)) (sym (arrives_settled k t rows kk)) (cases (eqb t.code 1) (λ c. rw c (own_add c)) (λ c. rw c (own_rem c l)))

-- an arrival: ka is its object's kind
pub arrive_inv : (k ka o v : ℕ) (t : Operation) (accepted : List Operation) (rows : List Row) → Keeper k → (t.object ≡ o → ka ≡ k) → code_allowed ka t.code ≡ true → Inv k o v accepted rows → Inv k o v (t ∷ accepted) (rows_after ka t rows)
arrive_inv k ka o v t accepted rows kk e l I = cases (on o v t)
    (λ p. let q = on_eq o v t p in let f = e q.0 in
    subst₂ (λ (a b : ℕ). Inv k a b accepted rows → Inv k a b (t ∷ accepted) (rows_after ka t rows)) q.0 q.1
    (λ J. subst (λ (j : ℕ). Inv k t.object t.value (t ∷ accepted) (rows_after j t rows)) (sym f) (own_inv k kk t accepted rows J (rw f at l))) I)
    (λ n. log_inv k o v t accepted (rows_after ka t rows) n (same_inv k o v accepted rows (rows_after ka t rows) (other_same k o v ka t rows n (λ q. subst Keeper (sym (e q)) kk)) I))

pub answer : (k o v : ℕ) (accepted : List Operation) (rows : List Row) → Inv k o v accepted rows → (any (λ (r : Row). add_of o v r.operation) rows && not (any (λ (r : Row). remove_of o v r.operation) rows)) ≡ in_two_phase_set o v accepted
unfolding in_two_phase_set
answer k o v accepted rows I = rw (I.rems, I.adds) (go (any (add_of o v) accepted) (any (remove_of o v) accepted))
  where
    go : (a b : Bool) → ((a && not b) && not b) ≡ (a && not b)
    go true true = refl
    go true false = refl
    go false b = refl

pub answer3 : (o v : ℕ) (accepted : List Operation) (rows : List Row) → Inv 3 o v accepted rows → any (λ (r : Row). add_of o v r.operation) rows ≡ any (add_of o v) accepted
answer3 o v accepted rows I = I.adds ∙ rw (I.grows refl) (and_true (any (add_of o v) accepted))
