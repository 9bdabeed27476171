-- Kinds 5, 7 and 8, at one value v of one object o: rows give the definition's answer.
use mathlib.Core.Path.{◌≡◌, refl, sym, ◌∙◌, ap}
use mathlib.Core.Bool.{Bool, true, false, ◌&&◌, false≢true}
use mathlib.Core.Logic.{◌⊎◌, inl, inr, ⊎_elim}
use mathlib.Core.List.{List, [], ◌∷◌, Memᴰ}
use Prim.Native.Nat.{ℕ}
use Rattle.meaning.specs.Tests.{any}
use Rattle.meaning.specs.Operations.{Operation, before}
use Rattle.meaning.specs.Meaning.{on, add_of, ends, survives, in_by_survival}
use Rattle.meaning.specs.Rows.{Row, untagged, unsettled_row, settled_row}
use Rattle.meaning.specs.Arrival.{concerns}
use Rattle.meaning.proofs.Tests.{cases, clash, iff, and_left, and_right, and_both, and_fails, and_rest, fails, not_holds, fails_not, any_in, any_out, any_no, any_none, on_cons}
use Rattle.meaning.proofs.OneValue.{Fresh, below, before_below, before_self, below_before, below_self, ends_concerns, add_on, on_untagged, add_untagged, gone, Arrived}

module _ (k o v : ℕ) where
  -- u has no later killer
  abbrev pub Free : List Operation → Operation → Type 0
  Free accepted u = (t : Operation) → Memᴰ t accepted → ends k o v t ≡ true → before u t ≡ false

  pub record Alive (accepted : List Operation) (u : Operation) : Type 0 where
    pub in_log : Memᴰ u accepted
    pub adds : add_of o v u ≡ true
    pub free : Free accepted u

  -- some unsettled row of v is at or above u
  pub record Cover (rows : List Row) (u : Operation) : Type 0 where
    pub by : Operation
    pub is_row : Memᴰ (unsettled_row by) rows
    pub is_own : on o v by ≡ true
    pub above : below u by ≡ true

  abbrev pub Has : List Row → Type 0
  Has rows = (r : Row) × Memᴰ r rows × (on o v r.operation ≡ true)

  pub record Inv (st : Operation → Bool) (accepted : List Operation) (rows : List Row) : Type 0 where
    pub live : (u : Operation) → Memᴰ (unsettled_row u) rows → on o v u ≡ true → Alive accepted u
    pub cover : (u : Operation) → Alive accepted u → ((st u ≡ true) × Has rows) ⊎ Cover rows u
    pub root : (u : Operation) → Memᴰ (record { settled = true; operation = u }) rows → on o v u ≡ true → (add_of o v u ≡ true) × ((w : Operation) × Alive accepted w)

  abbrev pub Law : Operation → Type 0
  Law t = concerns k o v t ≡ true → ends k o v t ≡ false → add_of o v t ≡ true

  module _ (t : Operation) (accepted : List Operation) (st st' : Operation → Bool) (rows rows' : List Row) (F : Fresh t accepted st st') (law : Law t) (A : Arrived o v (concerns k o v t) (add_of o v) t rows rows') (I : Inv st accepted rows) where
    alive_t : add_of o v t ≡ true → Alive (t ∷ accepted) t
    alive_t a = record { in_log = Memᴰ.head refl; adds = a; free = on_cons (λ (x : Operation). ends k o v x ≡ true → before t x ≡ false) (λ _. before_self t) (λ x m _. F.last x m) }

    alive_on : (u : Operation) → Alive accepted u → (ends k o v t ≡ true → before u t ≡ false) → Alive (t ∷ accepted) u
    alive_on u a f = record { in_log = Memᴰ.tail a.in_log; adds = a.adds; free = on_cons (λ (x : Operation). ends k o v x ≡ true → before u x ≡ false) f a.free }

    alive_off : (u : Operation) → Memᴰ u accepted → Alive (t ∷ accepted) u → Alive accepted u
    alive_off u m a = record { in_log = m; adds = a.adds; free = λ x n. a.free x (Memᴰ.tail n) }

    covered : (u : Operation) → below u t ≡ true → add_of o v t ≡ true → Cover rows' u
    covered u b a = record { by = t; is_row = A.new a; is_own = add_on o v t a; above = b }

    -- an arrival that touches v, is after u and does not kill it: its row covers u
    cover_new : (u : Operation) → Alive (t ∷ accepted) u → before u t ≡ true → concerns k o v t ≡ true → Cover rows' u
    cover_new u a b c = covered u (before_below u t b) (law c (fails (ends k o v t) (λ q. clash (before u t) b (a.free t (Memᴰ.head refl) q))))

    arrive_live : (u : Operation) → Memᴰ (unsettled_row u) rows' → on o v u ≡ true → Alive (t ∷ accepted) u
    arrive_live u m p = ⊎_elim
        (λ c. let e : u ≡ t = ap (λ (r : Row). r.operation) c.0 in rw e (alive_t c.1))
        (λ c. alive_on u (I.live u c.0 p) (λ q. and_rest (concerns k o v t) (before u t) c.1 (ends_concerns k o v t q)))
        (A.back (unsettled_row u) m p)

    arrive_cover : (u : Operation) → Alive (t ∷ accepted) u → ((st' u ≡ true) × Has rows') ⊎ Cover rows' u
    arrive_cover u a = on_cons (λ (x : Operation). Alive (t ∷ accepted) x → ((st' x ≡ true) × Has rows') ⊎ Cover rows' x)
        (λ b. inr (covered t (below_self t) b.adds))
        (λ x m b. ⊎_elim
        (λ s. let later = F.after x m s.0 in cases (concerns k o v t)
        (λ c. inr (cover_new x b later c))
        (λ c. inl (F.grow x m s.0, (s.1.0, A.kept s.1.0 s.1.1 s.1.2 (rw c), s.1.2))))
        (λ w. cases (gone (concerns k o v t) t (unsettled_row w.by))
        (λ g. inr (cover_new x b (below_before x w.by t w.above (and_right (concerns k o v t) (before w.by t) g)) (and_left (concerns k o v t) (before w.by t) g)))
        (λ g. inr (record { by = w.by; is_row = A.kept (unsettled_row w.by) w.is_row w.is_own g; is_own = w.is_own; above = w.above })))
        (I.cover x (alive_off x m b)))
        u a.in_log a

    arrive_root : (u : Operation) → Memᴰ (record { settled = true; operation = u }) rows' → on o v u ≡ true → (add_of o v u ≡ true) × ((w : Operation) × Alive (t ∷ accepted) w)
    arrive_root u m p = ⊎_elim
        (λ c. absurd (false≢true (sym (ap (λ (r : Row). r.settled) c.0))))
        (λ c. let r = I.root u c.0 p in
        (r.0, (r.1.0, alive_on r.1.0 r.1.1 (λ q. clash true refl (sym (ends_concerns k o v t q) ∙ fails (concerns k o v t) (λ h. clash true refl (sym (and_both (concerns k o v t) true h refl) ∙ c.1)))))))
        (A.back (record { settled = true; operation = u }) m p)

    pub arrive_inv : Inv st' (t ∷ accepted) rows'
    arrive_inv = record { live = arrive_live; cover = arrive_cover; root = arrive_root }

  -- what one settling step, on the row of w, does to the rows of v
  pub record Stepped (w : Operation) (rows rows' : List Row) : Type 0 where
    pub was : Memᴰ (unsettled_row w) rows
    pub kept : (r : Row) → Memᴰ r rows → on o v r.operation ≡ true → (r ≡ unsettled_row w) ⊎ Memᴰ r rows'
    pub back : (r : Row) → Memᴰ r rows' → on o v r.operation ≡ true → Memᴰ r rows ⊎ (r ≡ settled_row w)
    pub some : on o v w ≡ true → Has rows'

  module _ (w : Operation) (accepted : List Operation) (st : Operation → Bool) (mono : (u : Operation) → below u w ≡ true → st u ≡ true) (rows rows' : List Row) (S : Stepped w rows rows') (I : Inv st accepted rows) where
    step_live : (u : Operation) → Memᴰ (unsettled_row u) rows' → on o v u ≡ true → Alive accepted u
    step_live u m p = ⊎_elim (λ n. I.live u n p) (λ e. absurd (false≢true (ap (λ (r : Row). r.settled) e))) (S.back (unsettled_row u) m p)

    step_has : Has rows → Has rows'
    step_has h = ⊎_elim (λ e. S.some (rw e at h.2)) (λ m. (h.0, m, h.2)) (S.kept h.0 h.1 h.2)

    step_cover : (u : Operation) → Alive accepted u → ((st u ≡ true) × Has rows') ⊎ Cover rows' u
    step_cover u a = ⊎_elim
        (λ s. inl (s.0, step_has s.1))
        (λ c. ⊎_elim
        (λ e. let f : c.by ≡ w = ap (λ (r : Row). r.operation) e in inl (mono u (rw f at c.above), S.some (rw f at c.is_own)))
        (λ m. inr (record { by = c.by; is_row = m; is_own = c.is_own; above = c.above }))
        (S.kept (unsettled_row c.by) c.is_row c.is_own))
        (I.cover u a)

    step_root : (u : Operation) → Memᴰ (record { settled = true; operation = u }) rows' → on o v u ≡ true → (add_of o v u ≡ true) × ((x : Operation) × Alive accepted x)
    step_root u m p = ⊎_elim
        (λ n. I.root u n p)
        (λ e. let f : u ≡ untagged w = ap (λ (r : Row). r.operation) e in
        let a = I.live w S.was (sym (on_untagged o v w) ∙ (rw f at p)) in
        (rw f (add_untagged o v w ∙ a.adds), (w, a)))
        (S.back (record { settled = true; operation = u }) m p)

    pub step_inv : Inv st accepted rows'
    step_inv = record { live = step_live; cover = step_cover; root = step_root }

  -- the answer from rows is the definition's
  module _ (st : Operation → Bool) (accepted : List Operation) (rows : List Row) (I : Inv st accepted rows) where
    shown : (u : Operation) → Alive accepted u → in_by_survival k o v accepted ≡ true
    unfolding in_by_survival survives
    shown u a = any_in (λ (u : Operation). add_of o v u && survives k o v accepted u) a.in_log
        (and_both (add_of o v u) (survives k o v accepted u) a.adds
        (fails_not (any (λ (t : Operation). before u t && ends k o v t) accepted)
        (any_none (λ (t : Operation). before u t && ends k o v t) accepted
        (λ t m. and_fails (before u t) (ends k o v t) (λ b. fails (ends k o v t) (λ q. clash (before u t) b (a.free t m q)))))))

    found : in_by_survival k o v accepted ≡ true → (u : Operation) × Alive accepted u
    unfolding in_by_survival survives
    found e =
        let s = any_out (λ (u : Operation). add_of o v u && survives k o v accepted u) accepted e in
        let u = s.0 in
        let n = not_holds (any (λ (t : Operation). before u t && ends k o v t) accepted) (and_right (add_of o v u) (survives k o v accepted u) s.2) in
        (u, record { in_log = s.1; adds = and_left (add_of o v u) (survives k o v accepted u) s.2; free = λ t m q. fails (before u t) (λ b. clash (before u t && ends k o v t) (and_both (before u t) (ends k o v t) b q) (any_no (λ (t : Operation). before u t && ends k o v t) accepted n t m)) })

    of_row : (f : Bool) (u : Operation) → Memᴰ (record { settled = f; operation = u }) rows → on o v u ≡ true → (add_of o v u ≡ true) × ((w : Operation) × Alive accepted w)
    of_row true u m p = I.root u m p
    of_row false u m p = let a = I.live u m p in (a.adds, (u, a))

    some_row : Has rows → any (λ (r : Row). add_of o v r.operation) rows ≡ true
    some_row h = any_in (λ (r : Row). add_of o v r.operation) h.1 (of_row h.0.settled h.0.operation h.1 h.2).0

    pub answer : any (λ (r : Row). add_of o v r.operation) rows ≡ in_by_survival k o v accepted
    answer = iff (any (λ (r : Row). add_of o v r.operation) rows) (in_by_survival k o v accepted)
        (λ e. let s = any_out (λ (r : Row). add_of o v r.operation) rows e in
        let a = of_row s.0.settled s.0.operation s.1 (add_on o v s.0.operation s.2) in
        shown a.1.0 a.1.1)
        (λ e. let s = found e in ⊎_elim (λ c. some_row c.1) (λ c. some_row (unsettled_row c.by, c.is_row, c.is_own)) (I.cover s.0 s.1))

  pub empty_inv : (st : Operation → Bool) → Inv st [] []
  empty_inv st = record { live = λ u m _. elim m [ ]; cover = λ u a. elim a.in_log [ ]; root = λ u m _. elim m [ ] }
