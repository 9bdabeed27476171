-- Kinds 6 and 9, at one value v of one object o: rows give the definition's answer.
use mathlib.Core.Path.{◌≡◌, refl, sym, ◌∙◌, ap}
use mathlib.Core.Bool.{Bool, true, false, not, ◌&&◌, ◌||◌, false≢true}
use mathlib.Core.Logic.{◌⊎◌, inl, inr, ⊎_elim}
use mathlib.Core.List.{List, [], ◌∷◌, Memᴰ}
use Prim.Native.Nat.{ℕ}
use Rattle.meaning.specs.Tests.{any}
use Rattle.meaning.specs.Operations.{Operation, before}
use Rattle.meaning.specs.Meaning.{on, add_of, remove_of, stands, in_by_standing}
use Rattle.meaning.specs.Rows.{Row, untagged, unsettled_row, settled_row}
use Rattle.meaning.proofs.Tests.{cases, clash, iff, and_left, and_right, and_both, and_fails, and_rest, fails, not_holds, fails_not, or_cases, or_left, or_right, any_in, any_out, any_no, any_none, on_cons, imp, agree, imp_at, agree_at, at6, Six, any_cong, any_or}
use Rattle.meaning.proofs.OneValue.{Fresh, before_self, add_on, remove_on, touches, on_touches, on_untagged, add_untagged, remove_untagged, gone, Arrived}

-- what rows and log tell of one value: unsettled adds, unsettled removes, settled adds, settled removes, standing adds, standing removes
unfoldable pub ok : Six
ok a b c d e f =
    imp c (not a && (not b && (not d && (e && not f))))
    && (imp d (a && (not b && (not c && f)))
    && (imp (not c && not d) (imp f (b || not a) && imp (not a && not b) (not (e && not f)))
    && (imp a e && imp b f)))

-- the answer
right : Six
unfolding ok
right a b c d e f = imp (ok a b c d e f) (agree ((a || c) && not (b || d)) (e && not f))

pub ok_right : (a b c d e f : Bool) → ok a b c d e f ≡ true → ((a || c) && not (b || d)) ≡ (e && not f)
unfolding right ok
ok_right a b c d e f p = agree_at ((a || c) && not (b || d)) (e && not f) (imp_at (ok a b c d e f) (agree ((a || c) && not (b || d)) (e && not f)) (at6 right refl a b c d e f) p)

-- with no unsettled row there is no settled remove
still : Six
unfolding ok
still a b c d e f = imp (ok false false c d e f) (not d)

pub ok_still : (c d e f : Bool) → ok false false c d e f ≡ true → d ≡ false
unfolding still ok
ok_still c d e f p = not_holds d (imp_at (ok false false c d e f) (not d) (at6 still refl true true c d e f) p)

-- after an arrival
pub ok_new : (a b : Bool) → ok a b false false a b ≡ true
unfolding ok
ok_new true true = refl
ok_new true false = refl
ok_new false true = refl
ok_new false false = refl

-- a step on an add, and on a remove: a to d tell of the other rows. The tests stand as the step leaves them
on_add : Six
unfolding ok
on_add a b c d e f = imp (ok (true || a) (false || b) c d e f)
    (ok a b ((not ((a || c) || (b || d)) && true) || c) ((not ((a || c) || (b || d)) && false) || (d && not (not (a || c)))) e f)

on_rem : Six
unfolding ok
on_rem a b c d e f = imp (ok (false || a) (true || b) c d e f)
    (ok a b ((((a || c) && not (b || d)) && false) || c) ((((a || c) && not (b || d)) && true) || (d && true)) e f)

pub ok_add : (a b c d e f : Bool) → ok (true || a) (false || b) c d e f ≡ true → ok a b ((not ((a || c) || (b || d)) && true) || c) ((not ((a || c) || (b || d)) && false) || (d && not (not (a || c)))) e f ≡ true
unfolding on_add ok
ok_add a b c d e f p = imp_at (ok (true || a) (false || b) c d e f) (ok a b ((not ((a || c) || (b || d)) && true) || c) ((not ((a || c) || (b || d)) && false) || (d && not (not (a || c)))) e f) (at6 on_add refl a b c d e f) p

pub ok_rem : (a b c d e f : Bool) → ok (false || a) (true || b) c d e f ≡ true → ok a b ((((a || c) && not (b || d)) && false) || c) ((((a || c) && not (b || d)) && true) || (d && true)) e f ≡ true
unfolding on_rem ok
ok_rem a b c d e f p = imp_at (ok (false || a) (true || b) c d e f) (ok a b ((((a || c) && not (b || d)) && false) || c) ((((a || c) && not (b || d)) && true) || (d && true)) e f) (at6 on_rem refl a b c d e f) p

-- the tests of the rows; p is add o v or rem o v
abbrev pub ub : (Operation → Bool) → List Row → Bool
ub p rows = any (λ (r : Row). not r.settled && p r.operation) rows

abbrev pub fb : (Operation → Bool) → List Row → Bool
fb p rows = any (λ (r : Row). r.settled && p r.operation) rows

pub split : (p : Operation → Bool) (rows : List Row) → any (λ (r : Row). p r.operation) rows ≡ (ub p rows || fb p rows)
split p rows = any_cong (λ (r : Row). p r.operation) (λ (r : Row). (not r.settled && p r.operation) || (r.settled && p r.operation)) rows (λ r _. go r.settled (p r.operation))
    ∙ any_or (λ (r : Row). not r.settled && p r.operation) (λ (r : Row). r.settled && p r.operation) rows
  where
    go : (f a : Bool) → a ≡ ((not f && a) || (f && a))
    go true a = refl
    go false true = refl
    go false false = refl

module _ (o v : ℕ) where
  -- u is of v, and has nothing later on v
  abbrev pub Free : List Operation → Operation → Type 0
  Free accepted u = (t : Operation) → Memᴰ t accepted → touches o v t ≡ true → before u t ≡ false

  abbrev pub puts : Operation → Bool
  puts u = add_of o v u || remove_of o v u

  pub puts_on : (u : Operation) → puts u ≡ true → on o v u ≡ true
  puts_on u p = ⊎_elim (add_on o v u) (remove_on o v u) (or_cases (add_of o v u) (remove_of o v u) p)

  pub record Stands (accepted : List Operation) (u : Operation) : Type 0 where
    pub in_log : Memᴰ u accepted
    pub free : Free accepted u

  abbrev pub lb : (Operation → Bool) → List Operation → Bool
  lb p accepted = any (λ (u : Operation). p u && stands o v accepted u) accepted

  unfoldable pub Fit : List Operation → List Row → Type 0
  Fit accepted rows = ok (ub (add_of o v) rows) (ub (remove_of o v) rows) (fb (add_of o v) rows) (fb (remove_of o v) rows) (lb (add_of o v) accepted) (lb (remove_of o v) accepted) ≡ true

  pub record Inv (st : Operation → Bool) (accepted : List Operation) (rows : List Row) : Type 0 where
    pub live : (u : Operation) → Memᴰ (unsettled_row u) rows → on o v u ≡ true → Stands accepted u
    pub cover : (u : Operation) → puts u ≡ true → Stands accepted u → Memᴰ (unsettled_row u) rows ⊎ (st u ≡ true)
    pub coded : (r : Row) → Memᴰ r rows → on o v r.operation ≡ true → puts r.operation ≡ true
    pub fit : Fit accepted rows

  -- the test of standing
  stands_t : (accepted : List Operation) (u : Operation) → Free accepted u → stands o v accepted u ≡ true
  unfolding stands
  stands_t accepted u f = fails_not (any (λ (t : Operation). before u t && touches o v t) accepted)
      (any_none (λ (t : Operation). before u t && touches o v t) accepted
      (λ t m. and_fails (before u t) (touches o v t) (λ b. fails (touches o v t) (λ q. clash (before u t) b (f t m q)))))

  t_stands : (accepted : List Operation) (u : Operation) → stands o v accepted u ≡ true → Free accepted u
  unfolding stands
  t_stands accepted u e t m q = fails (before u t) (λ b. clash (before u t && touches o v t) (and_both (before u t) (touches o v t) b q)
      (any_no (λ (t : Operation). before u t && touches o v t) accepted (not_holds (any (λ (t : Operation). before u t && touches o v t) accepted) e) t m))

  lb_in : (p : Operation → Bool) (accepted : List Operation) (u : Operation) → p u ≡ true → Stands accepted u → lb p accepted ≡ true
  lb_in p accepted u a s = any_in (λ (u : Operation). p u && stands o v accepted u) s.in_log (and_both (p u) (stands o v accepted u) a (stands_t accepted u s.free))

  lb_out : (p : Operation → Bool) (accepted : List Operation) → lb p accepted ≡ true → (u : Operation) × (p u ≡ true) × Stands accepted u
  lb_out p accepted e =
      let s = any_out (λ (u : Operation). p u && stands o v accepted u) accepted e in
      (s.0, and_left (p s.0) (stands o v accepted s.0) s.2, record { in_log = s.1; free = t_stands accepted s.0 (and_right (p s.0) (stands o v accepted s.0) s.2) })

  module _ (t : Operation) (accepted : List Operation) (st st' : Operation → Bool) (rows rows' : List Row) (F : Fresh t accepted st st') (A : Arrived o v (touches o v t) puts t rows rows') (I : Inv st accepted rows) where
    stands_on : (u : Operation) → Stands accepted u → (touches o v t ≡ true → before u t ≡ false) → Stands (t ∷ accepted) u
    stands_on u a f = record { in_log = Memᴰ.tail a.in_log; free = on_cons (λ (x : Operation). touches o v x ≡ true → before u x ≡ false) f a.free }

    arrive_live : (u : Operation) → Memᴰ (unsettled_row u) rows' → on o v u ≡ true → Stands (t ∷ accepted) u
    arrive_live u m p = ⊎_elim
        (λ c. let e : u ≡ t = ap (λ (r : Row). r.operation) c.0 in
        rw e (record { in_log = Memᴰ.head refl; free = on_cons (λ (x : Operation). touches o v x ≡ true → before t x ≡ false) (λ _. before_self t) (λ x m _. F.last x m) }))
        (λ c. stands_on u (I.live u c.0 p) (λ q. and_rest (touches o v t) (before u t) c.1 q))
        (A.back (unsettled_row u) m p)

    -- what stands has a row, or is an old stable operation that the arrival does not touch
    strong : (u : Operation) → puts u ≡ true → Stands (t ∷ accepted) u → Memᴰ (unsettled_row u) rows' ⊎ ((touches o v t ≡ false) × (st' u ≡ true))
    strong u p s = on_cons (λ (x : Operation). puts x ≡ true → Stands (t ∷ accepted) x → Memᴰ (unsettled_row x) rows' ⊎ ((touches o v t ≡ false) × (st' x ≡ true)))
        (λ q _. inl (A.new q))
        (λ x m q z. ⊎_elim
        (λ n. inl (A.kept (unsettled_row x) n (puts_on x q) (and_fails (touches o v t) (before x t) (z.free t (Memᴰ.head refl)))))
        (λ n. inr (fails (touches o v t) (λ c. clash (before x t) (F.after x m n) (z.free t (Memᴰ.head refl) c)), F.grow x m n))
        (I.cover x q (record { in_log = m; free = λ y n. z.free y (Memᴰ.tail n) })))
        u s.in_log p s

    arrive_coded : (r : Row) → Memᴰ r rows' → on o v r.operation ≡ true → puts r.operation ≡ true
    arrive_coded r m p = ⊎_elim (λ c. ap (λ (x : Row). puts x.operation) c.0 ∙ c.1) (λ c. I.coded r c.0 p) (A.back r m p)

    -- touched: no settled row is left, and the rows are what stands
    module _ (p : Operation → Bool) (pp : (u : Operation) → p u ≡ true → puts u ≡ true) where
      no_fixed : touches o v t ≡ true → fb p rows' ≡ false
      no_fixed c = any_none (λ (r : Row). r.settled && p r.operation) rows' (λ r m. and_fails r.settled (p r.operation) (λ f. fails (p r.operation) (λ q. ⊎_elim
          (λ d. clash true refl (sym f ∙ ap (λ (x : Row). x.settled) d.0))
          (λ d. clash (gone (touches o v t) t r) (and_both (touches o v t) (r.settled || before r.operation t) c (or_left (before r.operation t) f)) d.1)
          (A.back r m (puts_on r.operation (pp r.operation q))))))

      rows_stand : touches o v t ≡ true → ub p rows' ≡ lb p (t ∷ accepted)
      rows_stand c = iff (ub p rows') (lb p (t ∷ accepted))
          (λ e. let s = any_out (λ (r : Row). not r.settled && p r.operation) rows' e in of s.0.settled s.0.operation s.1 s.2)
          (λ e. let s = lb_out p (t ∷ accepted) e in ⊎_elim
          (λ m. any_in (λ (r : Row). not r.settled && p r.operation) m s.1)
          (λ d. clash (touches o v t) c d.0)
          (strong s.0 (pp s.0 s.1) s.2))
        where
          of : (f : Bool) (u : Operation) → Memᴰ (record { settled = f; operation = u }) rows' → (not f && p u) ≡ true → lb p (t ∷ accepted) ≡ true
          of true u m e = absurd (false≢true e)
          of false u m e = lb_in p (t ∷ accepted) u e (arrive_live u m (puts_on u (pp u e)))

      log_same : touches o v t ≡ false → lb p (t ∷ accepted) ≡ lb p accepted
      log_same c = iff (lb p (t ∷ accepted)) (lb p accepted)
          (λ e. let s = lb_out p (t ∷ accepted) e in on_cons (λ (x : Operation). p x ≡ true → Stands (t ∷ accepted) x → lb p accepted ≡ true)
          (λ q _. clash (touches o v t) (on_touches o v t (puts_on t (pp t q))) c)
          (λ x m q z. lb_in p accepted x q (record { in_log = m; free = λ y n. z.free y (Memᴰ.tail n) }))
          s.0 s.2.in_log s.1 s.2)
          (λ e. let s = lb_out p accepted e in lb_in p (t ∷ accepted) s.0 s.1 (stands_on s.0 s.2 (λ d. clash (touches o v t) d c)))

    rows_same : touches o v t ≡ false → (q : Row → Bool) → ((r : Row) → q r ≡ true → on o v r.operation ≡ true) → any q rows' ≡ any q rows
    rows_same c q qo = iff (any q rows') (any q rows)
        (λ e. let s = any_out q rows' e in ⊎_elim
        (λ d. clash (touches o v t) (on_touches o v t (puts_on t d.1)) c)
        (λ d. any_in q d.0 s.2)
        (A.back s.0 s.1 (qo s.0 s.2)))
        (λ e. let s = any_out q rows e in any_in q (A.kept s.0 s.1 (qo s.0 s.2) (and_fails (touches o v t) (s.0.settled || before s.0.operation t) (λ d. clash (touches o v t) d c))) s.2)

    touched : touches o v t ≡ true → Fit (t ∷ accepted) rows'
    unfolding Fit
    touched c =
        let a : (u : Operation) → add_of o v u ≡ true → puts u ≡ true = λ u. or_left (remove_of o v u) in
        let b : (u : Operation) → remove_of o v u ≡ true → puts u ≡ true = λ u. or_right (add_of o v u) in
        rw (no_fixed (add_of o v) a c, no_fixed (remove_of o v) b c, rows_stand (add_of o v) a c, rows_stand (remove_of o v) b c) (ok_new (lb (add_of o v) (t ∷ accepted)) (lb (remove_of o v) (t ∷ accepted)))

    untouched : touches o v t ≡ false → Fit (t ∷ accepted) rows'
    unfolding Fit
    untouched c =
        rw (
          rows_same c (λ (r : Row). not r.settled && add_of o v r.operation) (λ r e. add_on o v r.operation (and_right (not r.settled) (add_of o v r.operation) e)),
          rows_same c (λ (r : Row). not r.settled && remove_of o v r.operation) (λ r e. remove_on o v r.operation (and_right (not r.settled) (remove_of o v r.operation) e)),
          rows_same c (λ (r : Row). r.settled && add_of o v r.operation) (λ r e. add_on o v r.operation (and_right r.settled (add_of o v r.operation) e)),
          rows_same c (λ (r : Row). r.settled && remove_of o v r.operation) (λ r e. remove_on o v r.operation (and_right r.settled (remove_of o v r.operation) e)),
          log_same (add_of o v) (λ u. or_left (remove_of o v u)) c,
          log_same (remove_of o v) (λ u. or_right (add_of o v u)) c,
        ) I.fit

    pub arrive_inv : Inv st' (t ∷ accepted) rows'
    arrive_inv = record {
      live = arrive_live;
      cover = λ u p s. ⊎_elim inl (λ c. inr c.1) (strong u p s);
      coded = arrive_coded;
      fit = cases (touches o v t) touched untouched;
    }

  -- what one settling step, on the row of w, does to the rows of v
  pub record Stepped (w : Operation) (rows rows' : List Row) : Type 0 where
    pub was : Memᴰ (unsettled_row w) rows
    pub kept : (u : Operation) → Memᴰ (unsettled_row u) rows → on o v u ≡ true → (u ≡ w) ⊎ Memᴰ (unsettled_row u) rows'
    pub back : (r : Row) → Memᴰ r rows' → on o v r.operation ≡ true → Memᴰ r rows ⊎ (r ≡ settled_row w)
    pub fits : (accepted : List Operation) → ((r : Row) → Memᴰ r rows → on o v r.operation ≡ true → puts r.operation ≡ true) → Fit accepted rows → Fit accepted rows'

  module _ (w : Operation) (accepted : List Operation) (st : Operation → Bool) (due : st w ≡ true) (rows rows' : List Row) (S : Stepped w rows rows') (I : Inv st accepted rows) where
    pub step_inv : Inv st accepted rows'
    step_inv = record {
      live = λ u m p. ⊎_elim (λ n. I.live u n p) (λ e. absurd (false≢true (ap (λ (r : Row). r.settled) e))) (S.back (unsettled_row u) m p);
      cover = λ u p s. ⊎_elim
          (λ n. ⊎_elim (λ e. inr (rw e due)) inl (S.kept u n (puts_on u p)))
          inr (I.cover u p s);
      coded = λ r m p. ⊎_elim (λ n. I.coded r n p)
          (λ e. let f : r.operation ≡ untagged w = ap (λ (x : Row). x.operation) e in
          let q : on o v w ≡ true = sym (on_untagged o v w) ∙ (rw f at p) in
          rw (f, add_untagged, remove_untagged) (I.coded (unsettled_row w) S.was q))
          (S.back r m p);
      fit = S.fits accepted I.coded I.fit;
    }

  pub empty_inv : (st : Operation → Bool) → Inv st [] []
  unfolding Fit ok
  empty_inv st = record { live = λ u m _. elim m [ ]; cover = λ u _ s. elim s.in_log [ ]; coded = λ r m _. elim m [ ]; fit = refl }

  -- the answer from rows is the definition's
  pub answer : (st : Operation → Bool) (accepted : List Operation) (rows : List Row) → Inv st accepted rows → (any (λ (r : Row). add_of o v r.operation) rows && not (any (λ (r : Row). remove_of o v r.operation) rows)) ≡ in_by_standing o v accepted
  unfolding in_by_standing Fit
  answer st accepted rows I = rw (split (add_of o v) rows, split (remove_of o v) rows) (ok_right (ub (add_of o v) rows) (ub (remove_of o v) rows) (fb (add_of o v) rows) (fb (remove_of o v) rows) (lb (add_of o v) accepted) (lb (remove_of o v) accepted) I.fit)
