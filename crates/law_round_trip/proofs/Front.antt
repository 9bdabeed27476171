-- The lines of a form ahead of its rows, given to the space that its opening line left.
use Rattle.std.specs.Prelude.{Ok}
use mathlib.Core.Path.{◌≡◌, refl, sym, ap₂, ◌∙◌, subst}
use mathlib.Core.Bool.{Bool, true, false, not, ◌&&◌, cond}
use mathlib.Core.List.{List, [], ◌∷◌, map}
use Prim.Native.Nat.{ℕ, zero, suc, ◌+◌, ◌-◌, ◌≤◌, ◌<◌}
use native.Mathlib.Omega.{arith}
use lib.Dec.{eqb, leb}
use lib.IntN.{ℤ, pos, nat_abs}
use lib.ListN.{get_or, length, drop, replicate, length-replicate, get_or-replicate, drop_of_length-le}
use lib.Seq.{drop-cons}
use borrow.Author.Tests.{eq-eqb, eqb-true, eqb-false, ne_eqb, le-leb, lt-leb, lt-ltb, le-ltb, leb-true, leb-false}
use Rattle.meaning.specs.Order.{Vector, at_most, same}
use Rattle.meaning.specs.Operations.{is_counter}
use Rattle.meaning.specs.Rows.{Row}
use Rattle.meaning.specs.Table.{Table, is_table, kind_in, last_rule, total_rule, total_bound, opened, zeros}
use Rattle.meaning.proofs.Tests.{cases, and_left, and_right}
use Rattle.meaning.proofs.Vectors.{same_eq}
use Rattle.meaning.proofs.TableFacts.{Facts, HeaderFacts, facts, header_facts}
use Rattle.words_layout.specs.Layout.{total_words}
use Rattle.words_layout.proofs.Pieces.{Each, Wide}
use Rattle.words_layout.proofs.RowWords.{Shaped}
use Rattle.words_layout.proofs.Reading.{InRange, Well}
use Rattle.arrival.proofs.Kept.{well_table}
use Rattle.table_rules_clock.specs.ClockTests.{last_kept, total_kept}
use Rattle.line_hex.specs.Hex.{hex_line}
use Rattle.line_hex.specs.Numbers.{AllBytes}
use Rattle.line_read.specs.Types.{clock, last_vector, total, longest}
use Rattle.line_read.proofs.Spelling.{all_bytes_line_of}
use Rattle.line_decode.specs.Decoding.{bytes_of}
use Rattle.line_decode.proofs.Decoding.{bytes_back}
use Rattle.form_lines.specs.FormLines.{clock_line, last_line, total_line}
use Rattle.form_write.specs.Forms.{lines_of, last_lines, total_lines}
use Rattle.form_write.specs.Seeking.{counter_at, other_at}
use Rattle.form_write.proofs.Short.{clock_short, last_short, total_short}
use Rattle.form_write.proofs.ReadsBack.{clock_back, last_back, last_known, total_back}
use Rattle.form_load.specs.declared.Next.TheVariants as next
use Rattle.form_take.specs.declared.Loaded.TheVariants as loaded
use Rattle.form_load.specs.Loading.{behind_lasts, loaded_by, next_after}
use Rattle.law_round_trip.specs.Restoring.{TakesAll}
use Rattle.law_round_trip.proofs.Under.{Fresh, under}
use Rattle.law_round_trip.proofs.Steps.{clock_step, last_step, total_step}
use Rattle.law_round_trip.proofs.Mixed.{mixed, mixed_set, mixed_same, mixed_whole, length_mixed, each_mixed, first_taken_lem}
use Rattle.meaning.proofs.Agreement.{no_amount}

-- the lines are bytes
pub clock_bytes : (v : Vector) → AllBytes (clock_line v)
unfolding clock_line
clock_bytes v = all_bytes_line_of clock [] v

pub last_bytes : (k : ℕ) (v : Vector) → AllBytes (last_line k v)
unfolding last_line
last_bytes k v = all_bytes_line_of last_vector (k ∷ []) v

pub total_bytes : (o : ℕ) (z : ℤ) → AllBytes (total_line o z)
unfolding total_line
total_bytes o z = all_bytes_line_of total (o ∷ total_words z) []

wide_each : (n : ℕ) (l : List Vector) → Each (λ (v : Vector). length v ≡ n) l → Wide n l
wide_each n [] e = tt
wide_each n (v ∷ l) e = (e.0, wide_each n l e.1)

each_wide : (n : ℕ) (l : List Vector) → Wide n l → Each (λ (v : Vector). length v ≡ n) l
each_wide n [] e = tt
each_wide n (v ∷ l) e = (e.0, each_wide n l e.1)

each_replicate : {A : Type 0} (P : A → Type 0) (n : ℕ) (x : A) → P x → Each P (replicate n x)
each_replicate P zero x h = tt
each_replicate P (suc n) x h = (h, each_replicate P n x h)

-- how many other stations are before one
abbrev pub others : ℕ → ℕ → ℕ
others own k = cond (leb k own) k (k - 1)

other_back : (own k : ℕ) → (k ≡ own → ⊥) → other_at own (others own k) ≡ k
unfolding other_at
other_back own k n = cases (leb k own)
    (λ e. let less : k < own = omega (arith, leb-true k own e, n) in rw (e, lt-ltb k own less) refl)
    (λ e. let more : own < k = leb-false k own e in let last : suc (k - 1) ≡ k = omega arith in rw (e, le-ltb (k - 1) own (omega arith)) last)

-- how many counters are among the first so many objects
abbrev pub counters : List ℕ → ℕ → ℕ
counters [] k = 0
counters (kind ∷ kinds) zero = 0
counters (kind ∷ kinds) (suc k) = cond (is_counter kind) (suc (counters kinds k)) (counters kinds k)

no_counters : (kinds : List ℕ) → counters kinds 0 ≡ 0
no_counters [] = refl
no_counters (kind ∷ kinds) = refl

counters_next : (kinds : List ℕ) (k : ℕ) → k < length kinds → counters kinds (suc k) ≡ cond (is_counter (get_or kinds k 0)) (suc (counters kinds k)) (counters kinds k)
counters_next [] k h = absurd (omega arith)
counters_next (kind ∷ kinds) zero h = rw (no_counters kinds) refl
counters_next (kind ∷ kinds) (suc k) h = rw (counters_next kinds k (omega arith)) (by (is_counter kind) (is_counter (get_or kinds k 0)) (counters kinds k))
  where
    by : (a b : Bool) (n : ℕ) → cond a (suc (cond b (suc n) n)) (cond b (suc n) n) ≡ cond b (suc (cond a (suc n) n)) (cond a (suc n) n)
    by true true n = refl
    by true false n = refl
    by false true n = refl
    by false false n = refl

counter_found : (kinds : List ℕ) (o k : ℕ) → counter_at kinds o (counters kinds k) ≡ counter_at (drop k kinds) (o + k) 0
unfolding counter_at
counter_found [] o zero = refl
counter_found [] o (suc k) = refl
counter_found (kind ∷ kinds) o zero = let e : o + 0 ≡ o = omega arith in rw e refl
counter_found (kind ∷ kinds) o (suc k) =
    let e : o + suc k ≡ suc o + k = omega arith in
    rw e (cases (is_counter kind)
    (λ q. let less : suc (counters kinds k) - 1 ≡ counters kinds k = omega arith in rw (q, ne_eqb (suc (counters kinds k)) 0 (λ z. omega (arith, z)), less) (counter_found kinds (suc o) k))
    (λ q. rw q (counter_found kinds (suc o) k)))

module _ (t : Table) (is : is_table t ≡ true) (rest : List ℕ) where
  F : Facts t
  F = facts t is

  H : HeaderFacts t.header
  H = header_facts t.header F.header_in_range

  W : Well t
  W = well_table t is

  abbrev size : ℕ
  size = t.header.size

  abbrev own : ℕ
  own = t.header.own

  abbrev kinds : List ℕ
  kinds = t.header.kinds

  abbrev no_last : List Vector
  no_last = replicate size (zeros size)

  abbrev no_totals : List ℤ
  no_totals = replicate (length kinds) (pos 0)

  -- a table with this header
  abbrev pub parts : Vector → List Vector → List ℤ → List Row → Table
  parts clock last totals rows = record { header = t.header; clock = clock; last = last; totals = totals; rows = rows }

  pub fresh_parts : (clock : Vector) (last : List Vector) (totals : List ℤ) (rows : List Row) → length clock ≡ size → Each (λ (v : Vector). length v ≡ size) last → length last ≡ size → length totals ≡ length kinds → Each InRange totals → Each (Shaped size) rows → length rows ≤ t.header.capacity → Fresh (parts clock last totals rows)
  fresh_parts clock last totals rows c l n m r s k =
      record {
        well = record {
          fit = record { few_kinds = H.objects_range.1; few_totals = omega (arith, H.objects_range.1); clock_long = c; last_wide = wide_each size last l; last_many = n };
          one = m;
          range = r;
          shape = s;
        };
        sized = record { some = H.size_range.0; few = H.size_range.1; small = H.capacity_range.1; within = k };
        ranged = F.header_in_range;
      }

  zeros_long : length (zeros size) ≡ size
  unfolding zeros
  zeros_long = length-replicate size 0

  pub lasts_long : Each (λ (v : Vector). length v ≡ size) t.last
  lasts_long = each_wide size t.last W.fit.last_wide

  no_last_long : Each (λ (v : Vector). length v ≡ size) no_last
  no_last_long = each_replicate (λ (v : Vector). length v ≡ size) size (zeros size) zeros_long

  no_last_many : length no_last ≡ size
  no_last_many = length-replicate size (zeros size)

  no_totals_many : length no_totals ≡ length kinds
  no_totals_many = length-replicate (length kinds) (pos 0)

  no_totals_range : Each InRange no_totals
  no_totals_range = each_replicate InRange (length kinds) (pos 0) (omega arith)

  -- the states of a load, by what is there
  abbrev pub lasts_at : ℕ → Table
  lasts_at k = parts t.clock (mixed k t.last no_last) no_totals []

  abbrev totals_at_lem : ℕ → Table
  totals_at_lem k = parts t.clock t.last (mixed k t.totals no_totals) []

  fresh_lasts : (k : ℕ) → Fresh (lasts_at k)
  fresh_lasts k = fresh_parts t.clock (mixed k t.last no_last) no_totals [] F.clock_length
      (each_mixed (λ (v : Vector). length v ≡ size) t.last no_last k (F.last_length ∙ sym no_last_many) lasts_long no_last_long)
      (length_mixed t.last no_last k (F.last_length ∙ sym no_last_many) ∙ no_last_many) no_totals_many no_totals_range tt (omega arith)

  pub fresh_totals : (k : ℕ) → Fresh (totals_at_lem k)
  fresh_totals k = fresh_parts t.clock t.last (mixed k t.totals no_totals) [] F.clock_length lasts_long F.last_length
      (length_mixed t.totals no_totals k (F.totals_length ∙ sym no_totals_many) ∙ no_totals_many)
      (each_mixed InRange t.totals no_totals k (F.totals_length ∙ sym no_totals_many) W.range no_totals_range) tt (omega arith)

  pub fresh_opened : Fresh (opened t.header)
  unfolding opened
  fresh_opened = fresh_parts (zeros size) no_last no_totals [] zeros_long no_last_long no_last_many no_totals_many no_totals_range tt (omega arith)

  -- `50`
  pub clock_taken_lem : loaded_by (hex_line (clock_line t.clock)) (under 1 (opened t.header) rest) ≡ (Ok loaded.Taken, under 2 (lasts_at 0) rest)
  unfolding opened next_after
  clock_taken_lem = clock_step (opened t.header) fresh_opened rest 1 (hex_line (clock_line t.clock)) refl refl t.clock F.clock_length (rw heard (clock_back t is))
    where
      heard : bytes_of (hex_line (clock_line t.clock)) ≡ clock_line t.clock
      heard = bytes_back (clock_line t.clock) (replicate longest 0) (clock_bytes t.clock) (length-replicate {A = ℕ} longest 0) (omega (arith, clock_short t is))

  -- `51`, for each other station from one on
  abbrev not_own : ℕ → Bool
  not_own station = not (eqb station own)

  pub next_last : (k : ℕ) → k < size → (k ≡ own → ⊥) → next_after size own kinds (suc (suc (others own k))) ≡ next.Last (record { 0 = k })
  unfolding next_after
  next_last k b n =
      let few : suc (suc (others own k)) ≤ size = cases (leb k own) (λ e. rw e (omega (arith, H.own_in_lem, leb-true k own e, n))) (λ e. rw e (omega (arith, leb-false k own e))) in
      let back : suc (suc (others own k)) - 2 ≡ others own k = omega arith in
      rw (ne_eqb (suc (suc (others own k))) 0 (λ z. omega (arith, z)), ne_eqb (suc (suc (others own k))) 1 (λ z. omega (arith, z)), le-leb (suc (suc (others own k))) size few, back, other_back own k n) refl

  last_held : (k : ℕ) → k < size → (k ≡ own → ⊥) → last_kept own t.clock k (get_or t.last k []) ≡ true
  unfolding last_kept last_rule
  last_held k b n =
      let v = get_or t.last k [] in
      let long = eqb (length v) size in
      let below = at_most v t.clock in
      let known = eqb (get_or v k 0) (get_or t.clock k 0) in
      let rule : (long && (below && known)) ≡ true = rw (ne_eqb k own n) at (F.last_rule_lem k b) in
      let both = and_right long (below && known) rule in
      rw (ne_eqb k own n, and_right below known both) (and_left below known both)

  own_none : get_or t.last own [] ≡ get_or no_last own []
  unfolding last_rule
  own_none =
      let rule : same (get_or t.last own []) (zeros size) ≡ true = rw (eq-eqb own own refl) at (F.last_rule_lem own F.own_in_lem) in
      same_eq (get_or t.last own []) (zeros size) rule ∙ sym (get_or-replicate size own (zeros size) [] F.own_in_lem)

  abbrev pub behind_lasts_lem : List ℕ
  behind_lasts_lem = under (suc size) (totals_at_lem 0) rest

  lasts_done : (k : ℕ) → k ≡ size → under (suc (suc (others own k))) (lasts_at k) rest ≡ behind_lasts_lem
  lasts_done k e =
      let many : suc (suc (others own size)) ≡ suc size = rw (lt-leb size own H.own_in_lem) (omega (arith, H.size_range.0)) in
      rw (e, mixed_whole t.last no_last size F.last_length no_last_many, many) refl

  lasts_from : (n k : ℕ) → k + n ≡ size → TakesAll (map hex_line (lines_of not_own last_line k (drop k t.last))) (under (suc (suc (others own k))) (lasts_at k) rest) behind_lasts_lem
  lasts_from zero k e =
      let done : k ≡ size = omega arith in
      rw (drop_of_length-le t.last {i = k} (omega (arith, F.last_length))) (lasts_done k done)
  lasts_from (suc n) k e =
      let b : k < size = omega arith in
      let here : k < length t.last = omega (arith, F.last_length) in
      let there : k < length no_last = omega (arith, no_last_many) in
      rw (drop-cons t.last k [] here) (cases (eqb k own)
      (λ q. let same_k : k ≡ own = eqb-true k own q in
      let number : others own (suc k) ≡ others own k = rw same_k (rw (le-leb own own (omega arith), lt-leb (suc own) own (omega arith)) (omega arith)) in
      let table : mixed k t.last no_last ≡ mixed (suc k) t.last no_last = mixed_same t.last no_last [] k here there (rw same_k own_none) in
      rw q (subst (λ (w : List ℕ). TakesAll (map hex_line (lines_of not_own last_line (suc k) (drop (suc k) t.last))) w behind_lasts_lem)
      (ap₂ (λ (i : ℕ) (l : List Vector). under (suc (suc i)) (parts t.clock l no_totals []) rest) number (sym table))
      (lasts_from n (suc k) (omega arith))))
      (λ q. let other : k ≡ own → ⊥ = eqb-false k own q in
      let number : others own (suc k) ≡ suc (others own k) = cases (leb k own) (λ s. let less : k < own = omega (arith, leb-true k own s, other) in rw (s, le-leb (suc k) own less) refl) (λ s. let more = leb-false k own s in rw (s, lt-leb (suc k) own (omega arith)) (omega arith)) in
      let v = get_or t.last k [] in
      let line = hex_line (last_line k v) in
      let heard : bytes_of line ≡ last_line k v = bytes_back (last_line k v) (replicate longest 0) (last_bytes k v) (length-replicate {A = ℕ} longest 0) (omega (arith, last_short t is k b)) in
      let step = last_step (lasts_at k) (fresh_lasts k) rest (suc (suc (others own k))) line refl k b (next_last k b other) v (last_known t is k b).0 (last_held k b other) (rw heard (last_back t is k b)) in
      rw q (first_taken_lem line (map hex_line (lines_of not_own last_line (suc k) (drop (suc k) t.last))) (under (suc (suc (others own k))) (lasts_at k) rest) (under (suc (suc (others own (suc k)))) (lasts_at (suc k)) rest) behind_lasts_lem
      (step ∙ ap₂ (λ (i : ℕ) (l : List Vector). (Ok loaded.Taken, under (suc (suc i)) (parts t.clock l no_totals []) rest)) (sym number) (mixed_set t.last no_last [] k here there))
      (lasts_from n (suc k) (omega arith)))))

  pub lasts_taken : TakesAll (map hex_line (last_lines t)) (under 2 (lasts_at 0) rest) behind_lasts_lem
  unfolding last_lines
  lasts_taken = let none : others own 0 ≡ 0 = rw (le-leb 0 own (omega arith)) refl in (rw none at (lasts_from size 0 (omega arith)))

  -- `52`, for each counter from one on
  abbrev pub counted : ℕ → ℕ
  counted k = suc (size + counters kinds k)

  abbrev is_counter_lem : ℕ → Bool
  is_counter_lem object = is_counter (kind_in t.header object)

  after_lasts : (k : ℕ) → next_after size own kinds (counted k) ≡ behind_lasts (counter_at (drop k kinds) k 0)
  unfolding next_after
  after_lasts k =
      let p = counted k in
      let some = H.size_range.0 in
      let left : p - suc size ≡ counters kinds k = omega arith in
      let place : 0 + k ≡ k = omega arith in
      rw (ne_eqb p 0 (λ z. omega (arith, z)), ne_eqb p 1 (λ z. omega (arith, z, some)), lt-leb p size (omega arith), left, counter_found kinds 0 k, place) refl

  pub next_total_lem : (k : ℕ) → k < length kinds → is_counter_lem k ≡ true → next_after size own kinds (counted k) ≡ next.Total k
  unfolding counter_at behind_lasts kind_in
  next_total_lem k b q = after_lasts k ∙ rw (drop-cons kinds k 0 b, q) refl

  pub next_rows : next_after size own kinds (counted (length kinds)) ≡ next.Rows
  unfolding counter_at behind_lasts
  next_rows = after_lasts (length kinds) ∙ rw (drop_of_length-le kinds {i = length kinds} (omega arith)) refl

  step_counted : (k : ℕ) → is_counter_lem k ≡ true → cond (is_counter (get_or kinds k 0)) (suc (counters kinds k)) (counters kinds k) ≡ suc (counters kinds k)
  unfolding kind_in
  step_counted k q = rw q refl

  step_passed : (k : ℕ) → is_counter_lem k ≡ false → cond (is_counter (get_or kinds k 0)) (suc (counters kinds k)) (counters kinds k) ≡ counters kinds k
  unfolding kind_in
  step_passed k q = rw q refl

  total_held : (k : ℕ) → k < length kinds → total_kept (total_bound t.clock) (get_or kinds k 0) (get_or t.totals k (pos 0)) ≡ true
  unfolding total_kept total_rule kind_in
  total_held k b = F.total_rule_lem k b

  other_none : (k : ℕ) → k < length kinds → is_counter_lem k ≡ false → get_or t.totals k (pos 0) ≡ get_or no_totals k (pos 0)
  unfolding total_rule
  other_none k b q =
      let z = get_or t.totals k (pos 0) in
      let rule : eqb (nat_abs z) 0 ≡ true = rw q at (F.total_rule_lem k b) in
      no_amount z (eqb-true (nat_abs z) 0 rule) ∙ sym (get_or-replicate (length kinds) k (pos 0) (pos 0) b)

  each_range : (l : List ℤ) → Each InRange l → (k : ℕ) → k < length l → InRange (get_or l k (pos 0))
  each_range [] e k b = absurd (omega arith)
  each_range (z ∷ l) e zero b = e.0
  each_range (z ∷ l) e (suc k) b = each_range l e.1 k (omega arith)

  abbrev pub behind_totals_lem : List ℕ
  behind_totals_lem = under (counted (length kinds)) (parts t.clock t.last t.totals []) rest

  totals_from : (n k : ℕ) → k + n ≡ length kinds → TakesAll (map hex_line (lines_of is_counter_lem total_line k (drop k t.totals))) (under (counted k) (totals_at_lem k) rest) behind_totals_lem
  totals_from zero k e =
      let done : k ≡ length kinds = omega arith in
      rw (drop_of_length-le t.totals {i = k} (omega (arith, F.totals_length)), done, mixed_whole t.totals no_totals (length kinds) F.totals_length no_totals_many) refl
  totals_from (suc n) k e =
      let b : k < length kinds = omega arith in
      let here : k < length t.totals = omega (arith, F.totals_length) in
      let there : k < length no_totals = omega (arith, no_totals_many) in
      let rest_lines = map hex_line (lines_of is_counter_lem total_line (suc k) (drop (suc k) t.totals)) in
      rw (drop-cons t.totals k (pos 0) here) (cases (is_counter_lem k)
      (λ q. let number : counters kinds (suc k) ≡ suc (counters kinds k) = counters_next kinds k b ∙ step_counted k q in
      let progress : counted (suc k) ≡ suc (counted k) = omega (arith, number) in
      let z = get_or t.totals k (pos 0) in
      let line = hex_line (total_line k z) in
      let heard : bytes_of line ≡ total_line k z = bytes_back (total_line k z) (replicate longest 0) (total_bytes k z) (length-replicate {A = ℕ} longest 0) (omega (arith, total_short t is k z)) in
      let step = total_step (totals_at_lem k) (fresh_totals k) rest (counted k) line refl k b (next_total_lem k b q) z (each_range t.totals W.range k here) (total_held k b) (rw heard (total_back t is k z b)) in
      rw q (first_taken_lem line rest_lines (under (counted k) (totals_at_lem k) rest) (under (counted (suc k)) (totals_at_lem (suc k)) rest) behind_totals_lem
      (step ∙ ap₂ (λ (i : ℕ) (l : List ℤ). (Ok loaded.Taken, under i (parts t.clock t.last l []) rest)) (sym progress) (mixed_set t.totals no_totals (pos 0) k here there))
      (totals_from n (suc k) (omega arith))))
      (λ q. let number : counters kinds (suc k) ≡ counters kinds k = counters_next kinds k b ∙ step_passed k q in
      rw q (subst (λ (w : List ℕ). TakesAll rest_lines w behind_totals_lem)
      (ap₂ (λ (i : ℕ) (l : List ℤ). under (suc (size + i)) (parts t.clock t.last l []) rest) number (sym (mixed_same t.totals no_totals (pos 0) k here there (other_none k b q))))
      (totals_from n (suc k) (omega arith)))))

  pub totals_taken : TakesAll (map hex_line (total_lines t)) behind_lasts_lem behind_totals_lem
  unfolding total_lines
  totals_taken =
      let start : size + counters kinds 0 ≡ size = rw (no_counters kinds) (omega arith) in
      (rw start at (totals_from (length kinds) 0 (omega arith)))
