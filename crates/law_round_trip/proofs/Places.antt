-- Which line of a form comes at which progress, and that all have come where rows are next.
use Rattle.std.specs.Prelude.{Result, Ok, Err}
use mathlib.Core.Path.{◌≡◌, refl, sym, ap, ◌∙◌}
use mathlib.Core.Bool.{Bool, true, false, cond, false≢true}
use mathlib.Core.List.{List, [], ◌∷◌}
use Prim.Native.Nat.{ℕ, zero, suc, ◌+◌, ◌-◌, ◌<◌}
use native.Mathlib.Omega.{arith}
use lib.Dec.{eqb, leb, ltb}
use lib.ListN.{get_or, length}
use borrow.Author.Tests.{eqb-true, ne_eqb, leb-true, leb-false, ltb-true, ltb-false}
use Rattle.meaning.specs.Operations.{is_counter}
use Rattle.meaning.specs.Table.{Header, in_range, kind_in, opened}
use Rattle.meaning.proofs.Tests.{cases}
use Rattle.meaning.proofs.TableFacts.{header_facts}
use Rattle.meaning.proofs.TableRules.{opened_is_table}
use Rattle.form_write.specs.Seeking.{counter_at, other_at}
use Rattle.form_load.specs.declared.Next.{Next}
use Rattle.form_load.specs.declared.Next.TheVariants as next
use Rattle.form_load.specs.Loading.{behind_lasts, next_after}
use Rattle.law_round_trip.proofs.Front.{counters, next_total_lem, others}
use Rattle.law_round_trip.proofs.LastsBack.{next_other}

-- the progress at which the line of another station comes, and that of a counter
abbrev pub last_place : Header → ℕ → ℕ
last_place header k = suc (suc (others header.own k))

abbrev pub total_place : Header → ℕ → ℕ
total_place header o = suc (header.size + counters header.kinds o)

abbrev station_of : Next → ℕ
station_of next.Clock = 0
station_of (next.Last station) = station.0
station_of (next.Total object) = 0
station_of next.Rows = 0
station_of next.Nothing = 0

abbrev object_of : Next → ℕ
object_of next.Clock = 0
object_of (next.Last station) = 0
object_of (next.Total object) = object
object_of next.Rows = 0
object_of next.Nothing = 0

abbrev is_last : Next → Bool
is_last next.Clock = false
is_last (next.Last station) = true
is_last (next.Total object) = false
is_last next.Rows = false
is_last next.Nothing = false

abbrev is_total : Next → Bool
is_total next.Clock = false
is_total (next.Last station) = false
is_total (next.Total object) = true
is_total next.Rows = false
is_total next.Nothing = false

abbrev is_clock : Next → Bool
is_clock next.Clock = true
is_clock (next.Last station) = false
is_clock (next.Total object) = false
is_clock next.Rows = false
is_clock next.Nothing = false

abbrev is_rows : Next → Bool
is_rows next.Clock = false
is_rows (next.Last station) = false
is_rows (next.Total object) = false
is_rows next.Rows = true
is_rows next.Nothing = false

no_clock : (found : Result ℕ ℕ) → is_clock (behind_lasts found) ≡ true → ⊥
unfolding behind_lasts
no_clock (Ok object) e = false≢true e
no_clock (Err zero) e = false≢true e
no_clock (Err (suc more)) e = false≢true e

no_last : (found : Result ℕ ℕ) → is_last (behind_lasts found) ≡ true → ⊥
unfolding behind_lasts
no_last (Ok object) e = false≢true e
no_last (Err zero) e = false≢true e
no_last (Err (suc more)) e = false≢true e

-- the own station is passed over
other_not_own : (own ahead : ℕ) → other_at own ahead ≡ own → ⊥
unfolding other_at
other_not_own own ahead e = cases (ltb ahead own)
    (λ q. omega (arith, ltb-true ahead own q, rw q at e))
    (λ q. omega (arith, ltb-false ahead own q, rw q at e))

-- where rows are next every counter is passed
passed_all : (kinds : List ℕ) (object n : ℕ) → behind_lasts (counter_at kinds object n) ≡ next.Rows → (i : ℕ) → i < length kinds → is_counter (get_or kinds i 0) ≡ true → counters kinds i < n
unfolding counter_at behind_lasts
passed_all [] object n e i b q = absurd (omega arith)
passed_all (kind ∷ kinds) object n e i b q = by (is_counter kind) refl n (λ m. passed_all kinds (suc object) m) e i b q
  where
    by : (c : Bool) → is_counter kind ≡ c → (n : ℕ)
        → ((m : ℕ) → behind_lasts (counter_at kinds (suc object) m) ≡ next.Rows → (i : ℕ) → i < length kinds → is_counter (get_or kinds i 0) ≡ true → counters kinds i < m)
        → behind_lasts (cond c (cond (eqb n 0) (Ok object) (counter_at kinds (suc object) (n - 1))) (counter_at kinds (suc object) n)) ≡ next.Rows
        → (i : ℕ) → i < suc (length kinds) → is_counter (get_or (kind ∷ kinds) i 0) ≡ true → counters (kind ∷ kinds) i < n
    by true s zero rest e i b q = absurd (false≢true (ap is_rows e))
    by true s (suc n) rest e zero b q = omega arith
    by true s (suc n) rest e (suc i) b q =
        let one : suc n - 1 ≡ n = omega arith in
        let ahead : counters kinds i < n = rest n (rw (ne_eqb (suc n) 0 (λ z. absurd (omega arith)), one) at e) i (omega arith) q in
        rw s (omega arith)
    by false s n rest e zero b q = absurd (false≢true (sym s ∙ q))
    by false s n rest e (suc i) b q = rw s (rest n e i (omega arith) q)

module _ (header : Header) (range : in_range header ≡ true) (p : ℕ) where
  abbrev coming : Next
  coming = next_after header.size header.own header.kinds p

  last_comes : (k : ℕ) → k < header.size → (k ≡ header.own → ⊥) → last_place header k ≡ p → coming ≡ next.Last (record { 0 = k })
  last_comes k b n e = ap (next_after header.size header.own header.kinds) (sym e) ∙ next_other header range k b n

  total_comes : (o : ℕ) → o < length header.kinds → is_counter (get_or header.kinds o 0) ≡ true → total_place header o ≡ p → coming ≡ next.Total o
  unfolding opened kind_in
  total_comes o b q e = ap (next_after header.size header.own header.kinds) (sym e) ∙ next_total_lem (opened header) (opened_is_table header range) [] o b q

  -- at a progress comes one line: what was to come before the next line came before this one too
  module _ (k : ℕ) (c : coming ≡ next.Last (record { 0 = k })) where
    pub last_before : (i : ℕ) → i < header.size → (i ≡ header.own → ⊥) → (i ≡ k → ⊥) → last_place header i < suc p → last_place header i < p
    last_before i b n other h = let late : last_place header i ≡ p → ⊥ = λ e. other (ap station_of (sym (last_comes i b n e) ∙ c)) in omega (arith, h, late)

    pub no_total_before : (o : ℕ) → o < length header.kinds → is_counter (get_or header.kinds o 0) ≡ true → total_place header o < suc p → total_place header o < p
    no_total_before o b q h = let late : total_place header o ≡ p → ⊥ = λ e. false≢true (ap is_total (sym c ∙ total_comes o b q e)) in omega (arith, h, late)

  module _ (o : ℕ) (c : coming ≡ next.Total o) where
    pub total_before : (i : ℕ) → i < length header.kinds → is_counter (get_or header.kinds i 0) ≡ true → (i ≡ o → ⊥) → total_place header i < suc p → total_place header i < p
    total_before i b q other h = let late : total_place header i ≡ p → ⊥ = λ e. other (ap object_of (sym (total_comes i b q e) ∙ c)) in omega (arith, h, late)

    pub no_last_before : (k : ℕ) → k < header.size → (k ≡ header.own → ⊥) → last_place header k < suc p → last_place header k < p
    no_last_before k b n h = let late : last_place header k ≡ p → ⊥ = λ e. false≢true (ap is_total (sym (last_comes k b n e) ∙ c)) in omega (arith, h, late)

  pub clock_first : coming ≡ next.Clock → p ≡ 1
  unfolding next_after
  clock_first c = cases (eqb p 1) (λ q. eqb-true p 1 q)
      (λ d. cases (eqb p 0)
      (λ z. absurd (false≢true (ap is_clock (rw z at c))))
      (λ d₀. cases (leb p header.size)
      (λ w. absurd (false≢true (ap is_clock (rw (d₀, d, w) at c))))
      (λ w. absurd (no_clock (counter_at header.kinds 0 (p - suc header.size)) (ap is_clock (rw (d₀, d, w) at c))))))

  pub last_other : (k : ℕ) → coming ≡ next.Last (record { 0 = k }) → k ≡ header.own → ⊥
  unfolding next_after
  last_other k c e = cases (eqb p 0)
      (λ z. false≢true (ap is_last (rw z at c)))
      (λ d₀. cases (eqb p 1)
      (λ z. false≢true (ap is_last (rw (d₀, z) at c)))
      (λ d. cases (leb p header.size)
      (λ w. other_not_own header.own (p - 2) (ap station_of (rw (d₀, d, w) at c) ∙ e))
      (λ w. no_last (counter_at header.kinds 0 (p - suc header.size)) (ap is_last (rw (d₀, d, w) at c)))))

  module _ (c : coming ≡ next.Rows) where
    behind : (header.size < p) × (behind_lasts (counter_at header.kinds 0 (p - suc header.size)) ≡ next.Rows)
    unfolding next_after
    behind = cases (eqb p 0)
        (λ z. absurd (false≢true (ap is_rows (rw z at c))))
        (λ d₀. cases (eqb p 1)
        (λ z. absurd (false≢true (ap is_rows (rw (d₀, z) at c))))
        (λ d. cases (leb p header.size)
        (λ w. absurd (false≢true (ap is_rows (rw (d₀, d, w) at c))))
        (λ w. (leb-false p header.size w, rw (d₀, d, w) at c))))

    -- every other station's line has come, and every counter's
    pub lasts_there : (k : ℕ) → k < header.size → (k ≡ header.own → ⊥) → last_place header k < p
    lasts_there k b n =
        let own_in_lem = (header_facts header range).own_in_lem in
        let beyond = behind.0 in
        cases (leb k header.own) (λ e. rw e (omega (arith, leb-true k header.own e, n))) (λ e. rw e (omega (arith, leb-false k header.own e)))

    pub totals_there : (o : ℕ) → o < length header.kinds → is_counter (get_or header.kinds o 0) ≡ true → total_place header o < p
    totals_there o b q = omega (arith, behind.0, passed_all header.kinds 0 (p - suc header.size) behind.1 o b q)
