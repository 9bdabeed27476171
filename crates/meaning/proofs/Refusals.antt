-- Refusals: each number is given exactly when the document says, in its order and only then; and a refusal changes nothing.
use mathlib.Core.Path.{◌≡◌, refl, sym, ◌∙◌, ap, subst}
use mathlib.Core.Bool.{Bool, true, false, not, ◌&&◌, cond, false≢true}
use mathlib.Core.Logic.{◌≢◌, ◌↔◌}
use mathlib.Core.List.{List, [], ◌∷◌, map}
use Prim.Native.Nat.{ℕ, zero, suc, ◌<◌}
use native.Mathlib.Omega.{arith}
use native.Mathlib.Nat.{le_of_suc-le-suc, not-suc-le-zero}
use lib.Dec.{eqb}
use lib.ListN.{get_or, set, length}
use borrow.Author.Tests.{eqb-true, eqb-false, eq-eqb, ne_eqb}
use Rattle.meaning.specs.Tests.{any}
use Rattle.meaning.specs.Operations.{Operation}
use Rattle.meaning.specs.Table.{Header, Table, opened}
use Rattle.meaning.specs.Questions.{Asked, Source, by_rows, answer_from}
use Rattle.meaning.specs.Refusals.{Refusal, ◌when◌, first_of, Frame, Local, frame_refusals, arrival_refusals, refusal_of_frame, issued_by, issue_refusals, local_refusals, refusal_of_local, settling_refusals, refusal_of_settling, asked_refusals, question_refusals, opening_refusals}
use Rattle.meaning.specs.Calls.{Outcome, Settled, Reply, Opening, with_rows, after_arrival, outcome, receive, issue, rows_settled, steps, settle, reply_of, ask_of, ask, open_table}
use Rattle.meaning.specs.History.{Event, receives, issues, settles, Station, after_outcome, after_settling, after}
use Rattle.meaning.proofs.Tests.{cases, clash, and_left, and_right, or_left, or_right, not_holds}

-- The refusal at a place of a chain: its number, and whether its own test gives it. Past the end none is given.
abbrev pub number_at : List Refusal → ℕ → ℕ
number_at chain i = (get_or chain i (0 when false)).number

abbrev pub given_at : List Refusal → ℕ → Bool
given_at chain i = (get_or chain i (0 when false)).given

-- Whether a number is among those of a chain; and whether they are all different, and none is 0.
abbrev pub numbered : ℕ → List Refusal → Bool
numbered number chain = any (λ (refusal : Refusal). eqb number refusal.number) chain

abbrev pub distinct : List Refusal → Bool
distinct [] = true
distinct (refusal ∷ rest) = not (eqb refusal.number 0) && (not (numbered refusal.number rest) && distinct rest)

-- The first refusal that is given, and no other, has its number returned: each number is returned exactly when its test gives it and
-- no earlier test does, and 0 exactly when no test gives any.
pub record ExactlyWhen (chain : List Refusal) : Type 0 where
  pub given_when : (i : ℕ) → i < length chain → first_of chain ≡ number_at chain i → (given_at chain i ≡ true) × ((j : ℕ) → j < i → given_at chain j ≡ false)
  pub when_given : (i : ℕ) → given_at chain i ≡ true → ((j : ℕ) → j < i → given_at chain j ≡ false) → first_of chain ≡ number_at chain i
  pub none_when : first_of chain ≡ 0 → (i : ℕ) → given_at chain i ≡ false
  pub when_none : ((i : ℕ) → i < length chain → given_at chain i ≡ false) → first_of chain ≡ 0

-- The numbers of a chain, in the order in which they are tried, and when each is returned.
pub record Tried (numbers : List ℕ) (chain : List Refusal) : Type 0 where
  pub in_order_lem : map (λ (refusal : Refusal). refusal.number) chain ≡ numbers
  pub exactly : ExactlyWhen chain

numbered_at : (chain : List Refusal) (i : ℕ) → i < length chain → numbered (number_at chain i) chain ≡ true
numbered_at [] i h = absurd (not-suc-le-zero h)
numbered_at (refusal ∷ rest) zero h = or_left (numbered refusal.number rest) (eq-eqb refusal.number refusal.number refl)
numbered_at (refusal ∷ rest) (suc i) h = or_right (eqb (number_at rest i) refusal.number) (numbered_at rest i (le_of_suc-le-suc h))

first_numbered : (chain : List Refusal) → first_of chain ≢ 0 → numbered (first_of chain) chain ≡ true
first_numbered [] d = absurd (d refl)
first_numbered (refusal ∷ rest) d = cases refusal.given
    (λ q.
    let first : first_of (refusal ∷ rest) ≡ refusal.number = rw q in
    subst (λ (number : ℕ). numbered number (refusal ∷ rest) ≡ true) (sym first) (or_left (numbered refusal.number rest) (eq-eqb refusal.number refusal.number refl)))
    (λ q.
    let first : first_of (refusal ∷ rest) ≡ first_of rest = rw q in
    subst (λ (number : ℕ). numbered number (refusal ∷ rest) ≡ true) (sym first) (or_right (eqb (first_of rest) refusal.number) (first_numbered rest (λ z. d (first ∙ z)))))

-- the chain without its first
module _ (refusal : Refusal) (rest : List Refusal) (e : distinct (refusal ∷ rest) ≡ true) where
  not_zero : refusal.number ≢ 0
  not_zero = eqb-false refusal.number 0 (not_holds (eqb refusal.number 0) (and_left (not (eqb refusal.number 0)) (not (numbered refusal.number rest) && distinct rest) e))

  tail_distinct : (numbered refusal.number rest ≡ false) × (distinct rest ≡ true)
  tail_distinct =
      let h = and_right (not (eqb refusal.number 0)) (not (numbered refusal.number rest) && distinct rest) e in
      (not_holds (numbered refusal.number rest) (and_left (not (numbered refusal.number rest)) (distinct rest) h), and_right (not (numbered refusal.number rest)) (distinct rest) h)

pub exact : (chain : List Refusal) → distinct chain ≡ true → ExactlyWhen chain
exact [] e = record { given_when = λ i h. absurd (not-suc-le-zero h); when_given = λ i g. absurd (false≢true g); none_when = λ _ i. refl; when_none = λ _. refl }
exact (refusal ∷ rest) e = cases refusal.given
    (λ q.
    let at_first : first_of (refusal ∷ rest) ≡ refusal.number = rw q in
    record {
      given_when = on_given q at_first;
      when_given = on_place q at_first;
      none_when = λ f. absurd (not_zero refusal rest e (sym at_first ∙ f));
      when_none = λ f. clash refusal.given q (f 0 (omega arith));
    })
    (λ q.
    let at_rest : first_of (refusal ∷ rest) ≡ first_of rest = rw q in
    let less = tail_distinct refusal rest e in
    let more = exact rest less.1 in
    record {
      given_when = past_given q at_rest less.0 more;
      when_given = past_place q at_rest more;
      none_when = λ f. past_none q more (sym at_rest ∙ f);
      when_none = λ f. at_rest ∙ more.when_none (λ i h. f (suc i) (omega arith));
    })
  where
    on_given : refusal.given ≡ true → first_of (refusal ∷ rest) ≡ refusal.number → (i : ℕ) → i < suc (length rest) → first_of (refusal ∷ rest) ≡ number_at (refusal ∷ rest) i →
        (given_at (refusal ∷ rest) i ≡ true) × ((j : ℕ) → j < i → given_at (refusal ∷ rest) j ≡ false)
    on_given q f zero h n = (q, λ j k. absurd (not-suc-le-zero k))
    on_given q f (suc i) h n = clash (numbered refusal.number rest) (subst (λ (m : ℕ). numbered m rest ≡ true) (sym n ∙ f) (numbered_at rest i (le_of_suc-le-suc h))) (tail_distinct refusal rest e).0

    on_place : refusal.given ≡ true → first_of (refusal ∷ rest) ≡ refusal.number → (i : ℕ) → given_at (refusal ∷ rest) i ≡ true → ((j : ℕ) → j < i → given_at (refusal ∷ rest) j ≡ false) → first_of (refusal ∷ rest) ≡ number_at (refusal ∷ rest) i
    on_place q f zero g n = f
    on_place q f (suc i) g n = clash refusal.given q (n 0 (omega arith))

    past_given : refusal.given ≡ false → first_of (refusal ∷ rest) ≡ first_of rest → numbered refusal.number rest ≡ false → ExactlyWhen rest → (i : ℕ) → i < suc (length rest) → first_of (refusal ∷ rest) ≡ number_at (refusal ∷ rest) i →
        (given_at (refusal ∷ rest) i ≡ true) × ((j : ℕ) → j < i → given_at (refusal ∷ rest) j ≡ false)
    past_given q f d more zero h n =
        let same : first_of rest ≡ refusal.number = sym f ∙ n in
        clash (numbered refusal.number rest) (subst (λ (m : ℕ). numbered m rest ≡ true) same (first_numbered rest (λ z. not_zero refusal rest e (sym same ∙ z)))) d
    past_given q f d more (suc i) h n =
        let r = more.given_when i (le_of_suc-le-suc h) (sym f ∙ n) in
        (r.0, below)
      where
        below : (j : ℕ) → j < suc i → given_at (refusal ∷ rest) j ≡ false
        below zero k = q
        below (suc j) k = (more.given_when i (le_of_suc-le-suc h) (sym f ∙ n)).1 j (le_of_suc-le-suc k)

    past_place : refusal.given ≡ false → first_of (refusal ∷ rest) ≡ first_of rest → ExactlyWhen rest → (i : ℕ) → given_at (refusal ∷ rest) i ≡ true → ((j : ℕ) → j < i → given_at (refusal ∷ rest) j ≡ false) → first_of (refusal ∷ rest) ≡ number_at (refusal ∷ rest) i
    past_place q f more zero g n = clash refusal.given g q
    past_place q f more (suc i) g n = f ∙ more.when_given i g (λ j h. n (suc j) (omega arith))

    past_none : refusal.given ≡ false → ExactlyWhen rest → first_of rest ≡ 0 → (i : ℕ) → given_at (refusal ∷ rest) i ≡ false
    past_none q more f zero = q
    past_none q more f (suc i) = more.none_when f i

-- what a call returns: its refusal's number, exactly when that is not 0
returns : {A : Type 0} (refuse : ℕ → A) (go_on : A) → ((m n : ℕ) → refuse m ≡ refuse n → m ≡ n) → ((n : ℕ) → go_on ≡ refuse n → ⊥) →
    (refusal n : ℕ) → (cond (eqb refusal 0) go_on (refuse refusal) ≡ refuse n) ↔ ((refusal ≡ n) × (n ≢ 0))
returns refuse go_on same apart refusal n = (
  λ e. cases (eqb refusal 0)
      (λ q. absurd (apart n (rw q at e)))
      (λ q. let s = same refusal n (rw q at e) in (s, λ z. eqb-false refusal 0 q (s ∙ z))),
  λ h. rw (ne_eqb refusal 0 (λ z. h.1 (sym h.0 ∙ z))) (ap refuse h.0),
)

goes_on : {A : Type 0} (refuse : ℕ → A) (go_on : A) (refusal : ℕ) → refusal ≡ 0 → cond (eqb refusal 0) go_on (refuse refusal) ≡ go_on
goes_on refuse go_on refusal e = rw (eq-eqb refusal 0 e)

-- What a call returns: a refusal with its number exactly when the chain comes to that number, and its result when it comes to 0.
pub record Returns {A : Type 0} (refuse : ℕ → A) (result : A) (call : A) (refusal : ℕ) : Type 0 where
  pub refuses : (n : ℕ) → (call ≡ refuse n) ↔ ((refusal ≡ n) × (n ≢ 0))
  pub goes : refusal ≡ 0 → call ≡ result

returning : {A : Type 0} (refuse : ℕ → A) (result : A) → ((m n : ℕ) → refuse m ≡ refuse n → m ≡ n) → ((n : ℕ) → result ≡ refuse n → ⊥) →
    (refusal : ℕ) → Returns refuse result (cond (eqb refusal 0) result (refuse refusal)) refusal
returning refuse result same apart refusal = record { refuses = returns refuse result same apart refusal; goes = goes_on refuse result refusal }

-- What a question gets: 11 comes as the needed count.
pub record Replies (source : Source) (asked : Asked) (call : Reply) (refusal : ℕ) : Type 0 where
  pub refuses : (n : ℕ) → (call ≡ Reply.refused n) ↔ ((refusal ≡ n) × (n ≢ 0) × (n ≢ 11))
  pub counts : (n : ℕ) → (call ≡ Reply.too_long n) ↔ ((refusal ≡ 11) × (n ≡ length (source.list_at asked.object)))
  pub goes : refusal ≡ 0 → call ≡ Reply.answered (answer_from source asked)

-- Every call: "Refusal numbers, in the order they are tried", "Given exactly when", and "A refusal returns its number (11 also the
-- count)". A frame passes "1 to 7, 8", a local operation 3, 4, 9 and 8, a question 1, 3, 12 and 11, settling 1, opening 13; 14, the
-- shape of a line and the length of a space are tried where there are lines and spaces.
pub record Exact : Type 0 where
  pub frame : (table : Table) (frame : Frame) → Tried (1 ∷ 2 ∷ 3 ∷ 4 ∷ 5 ∷ 6 ∷ 7 ∷ 8 ∷ []) (arrival_refusals table frame)
  pub local : (table : Table) (local : Local) → Tried (3 ∷ 4 ∷ 9 ∷ 8 ∷ []) (local_refusals table local)
  pub question : (header : Header) (source : Source) (room : ℕ) (asked : Asked) → Tried (1 ∷ 3 ∷ 12 ∷ 11 ∷ []) (question_refusals header source room asked)
  pub settling : (limit : ℕ) → Tried (1 ∷ []) (settling_refusals limit)
  pub opening : (space needed : ℕ) (header : Header) → Tried (13 ∷ []) (opening_refusals space needed header)
  pub receiving : (table : Table) (frame : Frame) → let u = frame.operation in
      Returns Outcome.refused (Outcome.accepted u (after_arrival table u (set table.last u.sender u.vector))) (receive table frame) (first_of (arrival_refusals table frame))
  pub issuing : (table : Table) (local : Local) → let u = issued_by table local in
      Returns Outcome.refused (Outcome.accepted u (after_arrival table u table.last)) (issue table local) (first_of (local_refusals table local))
  pub settles : (table : Table) (limit : ℕ) →
      Returns Settled.refused (Settled.settled (steps table limit) (with_rows table (rows_settled table limit))) (settle table limit) (first_of (settling_refusals limit))
  pub opens : (space needed : ℕ) (header : Header) →
      Returns Opening.refused (Opening.fresh (opened header)) (open_table space needed header) (first_of (opening_refusals space needed header))
  pub asking : (table : Table) (room : ℕ) (asked : Asked) →
      Replies (by_rows table) asked (ask table room asked) (first_of (question_refusals table.header (by_rows table) room asked))

two_outcomes : (refusal : ℕ) (u : Operation) (table : Table) → Returns Outcome.refused (Outcome.accepted u table) (outcome refusal u table) refusal
unfolding outcome
two_outcomes refusal u table = returning Outcome.refused (Outcome.accepted u table) (λ m n e. cc) (λ n e. let z : ◌≡◌ {A = ℕ} 0 1 = cc in omega arith) refusal

replies : (source : Source) (asked : Asked) (refusal : ℕ) → Replies source asked (reply_of refusal source asked) refusal
unfolding reply_of
replies source asked refusal = record {
  refuses = λ n. (
    λ e. cases (eqb refusal 0)
        (λ q. let f : Reply.answered (answer_from source asked) ≡ Reply.refused n = rw q at e in let z : ◌≡◌ {A = ℕ} 0 1 = cc in absurd (omega arith))
        (λ q. cases (eqb refusal 11)
        (λ r. let f : Reply.too_long needed ≡ Reply.refused n = rw (q, r) at e in let z : ◌≡◌ {A = ℕ} 0 1 = cc in absurd (omega arith))
        (λ r. let f : Reply.refused refusal ≡ Reply.refused n = rw (q, r) at e in let s : refusal ≡ n = cc in (s, λ z. eqb-false refusal 0 q (s ∙ z), λ z. eqb-false refusal 11 r (s ∙ z)))),
    λ h. rw (ne_eqb refusal 0 (λ z. h.1 (sym h.0 ∙ z)), ne_eqb refusal 11 (λ z. h.2 (sym h.0 ∙ z))) (ap Reply.refused h.0),
  );
  counts = λ n. (
    λ e. cases (eqb refusal 0)
        (λ q. let f : Reply.answered (answer_from source asked) ≡ Reply.too_long n = rw q at e in let z : ◌≡◌ {A = ℕ} 0 1 = cc in absurd (omega arith))
        (λ q. cases (eqb refusal 11)
        (λ r. let f : Reply.too_long needed ≡ Reply.too_long n = rw (q, r) at e in let s : n ≡ needed = cc in (eqb-true refusal 11 r, s))
        (λ r. let f : Reply.refused refusal ≡ Reply.too_long n = rw (q, r) at e in let z : ◌≡◌ {A = ℕ} 0 1 = cc in absurd (omega arith))),
    λ h. rw h.0 (ap Reply.too_long (sym h.1)),
  );
  goes = λ e. rw (eq-eqb refusal 0 e);
}
  where
    needed : ℕ
    needed = length (source.list_at asked.object)

-- "Bad input gets exactly the refusal number that document 01 gives, in 01's order and only then".
pub exactly_when : Exact
unfolding arrival_refusals frame_refusals issue_refusals local_refusals asked_refusals question_refusals settling_refusals opening_refusals refusal_of_frame refusal_of_local refusal_of_settling receive issue settle open_table ask_of ask
exactly_when = record {
  frame = λ table frame. record { in_order_lem = refl; exactly = exact (arrival_refusals table frame) refl };
  local = λ table local. record { in_order_lem = refl; exactly = exact (local_refusals table local) refl };
  question = λ header source room asked. record { in_order_lem = refl; exactly = exact (question_refusals header source room asked) refl };
  settling = λ limit. record { in_order_lem = refl; exactly = exact (settling_refusals limit) refl };
  opening = λ space needed header. record { in_order_lem = refl; exactly = exact (opening_refusals space needed header) refl };
  receiving = λ table frame. let u = frame.operation in two_outcomes (first_of (arrival_refusals table frame)) u (after_arrival table u (set table.last u.sender u.vector));
  issuing = λ table local. let u = issued_by table local in two_outcomes (first_of (local_refusals table local)) u (after_arrival table u table.last);
  settles = λ table limit. returning Settled.refused (Settled.settled (steps table limit) (with_rows table (rows_settled table limit))) (λ m n e. cc) (λ n e. let z : ◌≡◌ {A = ℕ} 0 1 = cc in omega arith) (first_of (settling_refusals limit));
  opens = λ space needed header. returning Opening.refused (Opening.fresh (opened header)) (λ m n e. cc) (λ n e. let z : ◌≡◌ {A = ℕ} 0 1 = cc in omega arith) (first_of (opening_refusals space needed header));
  asking = λ table room asked. replies (by_rows table) asked (first_of (question_refusals table.header (by_rows table) room asked));
}

-- The refusal that a call meets.
unfoldable pub refusal_of : Event → Table → ℕ
refusal_of (receives frame) table = refusal_of_frame table frame
refusal_of (issues local) table = refusal_of_local table local
refusal_of (settles limit) table = refusal_of_settling limit

-- "a refusal changes no byte": a call that is refused leaves the table, and what it has accepted, as they were.
pub refused_changes_nothing : (event : Event) (station : Station) → refusal_of event station.table ≢ 0 → after event station ≡ station
unfolding refusal_of after receive issue settle outcome after_outcome after_settling
refused_changes_nothing (receives frame) station d = rw (ne_eqb (refusal_of_frame station.table frame) 0 d)
refused_changes_nothing (issues local) station d = rw (ne_eqb (refusal_of_local station.table local) 0 d)
refused_changes_nothing (settles limit) station d = rw (ne_eqb (refusal_of_settling limit) 0 d)
