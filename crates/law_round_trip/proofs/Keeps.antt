-- What a load has taken so far keeps its table rules: a last vector, a total and a row each from its own line on.
use mathlib.Core.Path.{◌≡◌, refl, sym, ap, ◌∙◌, subst}
use mathlib.Core.Bool.{Bool, true, ◌&&◌, and-false, false≢true}
use mathlib.Core.List.{List, [], ◌∷◌, ◌++◌, map}
use Prim.Native.Nat.{ℕ, zero, suc, ◌-◌, ◌≤◌, ◌<◌}
use native.Mathlib.Nat.{zero-add}
use native.Mathlib.Omega.{arith}
use lib.Dec.{eqb, ltb}
use lib.IntN.{ℤ, pos}
use lib.ListN.{get_or, length, replicate, set, get_or-replicate, length-map}
use lib.Seq.{get_or-set_same, get_or-set_other}
use borrow.Author.Tests.{eq-eqb, eqb-true, eqb-false, le-leb}
use Rattle.meaning.specs.Tests.{every}
use Rattle.meaning.specs.Order.{Vector, entry_limit, at_most}
use Rattle.meaning.specs.Operations.{grow_counter, is_counter}
use Rattle.meaning.specs.Rows.{Row, in_order}
use Rattle.meaning.specs.Table.{Header, Table, clock_rule, in_range, is_negative, is_table, kind_in, last_rule, lasts_rule, one_row_a_value, opened, row_rule, table_rules, total_bound, total_rule, totals_rule, zeros}
use Rattle.meaning.specs.Calls.{with_rows}
use Rattle.meaning.proofs.Tests.{and_both, and_left, and_right, at_every, cases}
use Rattle.meaning.proofs.Vectors.{at_most_refl, eq_same}
use Rattle.meaning.proofs.Ascending.{sorted_order}
use Rattle.meaning.proofs.TableFacts.{facts}
use Rattle.meaning.proofs.TableRules.{opened_is_table}
use Rattle.words_layout.specs.Layout.{row_of, row_words, with_clock, with_last, with_totals}
use Rattle.words_layout.proofs.Pieces.{Each, Wide}
use Rattle.words_layout.proofs.RowWords.{Shaped, length_row, row_read_lem}
use Rattle.words_layout.proofs.Reading.{short}
use Rattle.table_rules_rows.specs.RowTests.{chained, follows, row_kept}
use Rattle.table_rules_rows.proofs.RowMeaning.{are_zeros, kept_rule, zeros_are}
use Rattle.table_rules_rows.proofs.Ordering.{chain_one_row, chain_sorted}
use Rattle.table_rules_clock.specs.ClockTests.{last_kept, total_kept}
use Rattle.form_load.specs.declared.Next.TheVariants as next
use Rattle.form_load.specs.Loading.{next_after}
use Rattle.law_round_trip.proofs.Under.{Fresh}
use Rattle.law_round_trip.proofs.RoundTrip.{map_append, readable, rows_back}
use Rattle.law_round_trip.proofs.RowBack.{RowRules}
use Rattle.law_round_trip.proofs.Places.{clock_first, last_before, last_place, lasts_there, no_last_before, no_total_before, total_before, total_place, totals_there}

-- The own station has no line, nor has an object that is no counter: their rules hold from the opening on.
pub record Keeps (p : ℕ) (t : Table) : Type 0 where
  pub fresh : Fresh t
  pub small : every (λ (entry : ℕ). ltb entry entry_limit) t.clock ≡ true
  pub lasts : (k : ℕ) → k < t.header.size → ((k ≡ t.header.own → ⊥) → last_place t.header k < p) → last_kept t.header.own t.clock k (get_or t.last k []) ≡ true
  pub totals : (o : ℕ) → o < length t.header.kinds → (is_counter (get_or t.header.kinds o 0) ≡ true → total_place t.header o < p) → total_kept (total_bound t.clock) (get_or t.header.kinds o 0) (get_or t.totals o (pos 0)) ≡ true
  pub each : every (row_kept t.header.kinds t.clock) (map (row_words t.header.size) t.rows) ≡ true
  pub order : chained (follows t.header.kinds) (map (row_words t.header.size) t.rows) ≡ true

-- a total of 0 keeps its rule in every kind
pub zero_kept : (bound kind : ℕ) → total_kept bound kind (pos 0) ≡ true
unfolding total_kept is_negative
zero_kept bound kind = cases (is_counter kind)
    (λ q. rw (q, le-leb 0 bound (omega arith), and-false (eqb kind grow_counter)) refl)
    (λ q. rw q refl)

-- `10`
pub keeps_opened : (header : Header) → in_range header ≡ true → Fresh (opened header) → Keeps 1 (opened header)
unfolding opened zeros last_kept
keeps_opened header range F =
    let is = opened_is_table header range in
    let none : Vector = replicate header.size 0 in
    record {
      fresh = F;
      small = (facts (opened header) is).clock_words;
      lasts = λ k b f. cases (eqb k header.own)
          (λ q. rw (get_or-replicate header.size k none [] b, q) (are_zeros header.size))
          (λ q. rw (get_or-replicate header.size k none [] b, q, eq-eqb (get_or none k 0) (get_or none k 0) refl) (at_most_refl none));
      totals = λ o b f. rw (get_or-replicate (length header.kinds) o (pos 0) (pos 0) b) (zero_kept (total_bound none) (get_or header.kinds o 0));
      each = refl;
      order = refl;
    }

-- a row more
every_behind : {A : Type 0} (p : A → Bool) (l : List A) (x : A) → every p l ≡ true → p x ≡ true → every p (l ++ (x ∷ [])) ≡ true
every_behind p [] x e h = and_both (p x) true h refl
every_behind p (y ∷ l) x e h = and_both (p y) (every p (l ++ (x ∷ []))) (and_left (p y) (every p l) e) (every_behind p l x (and_right (p y) (every p l) e) h)

chained_behind : (test : List ℕ → List ℕ → Bool) (l : List (List ℕ)) (r : List ℕ) → chained test l ≡ true → (0 < length l → test (get_or l (length l - 1) []) r ≡ true) → chained test (l ++ (r ∷ [])) ≡ true
chained_behind test [] r e h = refl
chained_behind test (a ∷ []) r e h = and_both (test a r) true (h (omega arith)) refl
chained_behind test (a ∷ b ∷ l) r e h =
    let place : suc (suc (length l)) - 1 ≡ suc (suc (length l) - 1) = omega arith in
    and_both (test a b) (chained test (b ∷ (l ++ (r ∷ [])))) (and_left (test a b) (chained test (b ∷ l)) e)
    (chained_behind test (b ∷ l) r (and_right (test a b) (chained test (b ∷ l)) e) (λ some. rw place at (h (omega arith))))

no_rows : {A : Type 0} (rows : List A) → length rows ≡ 0 → rows ≡ []
no_rows [] e = refl
no_rows (r ∷ rows) e = absurd (omega arith)

module _ (p : ℕ) (t : Table) (K : Keeps p t) where
  abbrev size : ℕ
  size = t.header.size

  abbrev own : ℕ
  own = t.header.own

  abbrev kinds : List ℕ
  kinds = t.header.kinds

  -- `50`
  pub keeps_clock : next_after size own kinds p ≡ next.Clock → length t.rows ≡ 0 → (v : Vector) → every (λ (entry : ℕ). ltb entry entry_limit) v ≡ true → Fresh (with_clock t v) → Keeps (suc p) (with_clock t v)
  unfolding last_kept total_kept
  keeps_clock c none v small F =
      let first : p ≡ 1 = clock_first t.header F.ranged p c in
      let bare : t.rows ≡ [] = no_rows t.rows none in
      record {
        fresh = F;
        small = small;
        lasts = λ k b f. cases (eqb k own)
            (λ q. rw q (rw q at (K.lasts k b (λ n. absurd (n (eqb-true k own q))))))
            (λ q. absurd (omega (arith, f (eqb-false k own q))));
        totals = λ o b f. cases (is_counter (get_or kinds o 0))
            (λ q. absurd (omega (arith, f q, F.sized.some)))
            (λ q. rw q (rw q at (K.totals o b (λ e. absurd (false≢true (sym q ∙ e))))));
        each = subst (λ (rows : List Row). every (row_kept kinds v) (map (row_words size) rows) ≡ true) (sym bare) refl;
        order = K.order;
      }

  -- `51`
  pub keeps_last : (k : ℕ) → k < size → next_after size own kinds p ≡ next.Last (record { 0 = k }) → (v : Vector) → last_kept own t.clock k v ≡ true → Fresh (with_last t (set t.last k v)) → Keeps (suc p) (with_last t (set t.last k v))
  keeps_last k within c v kept F = record {
    fresh = F;
    small = K.small;
    lasts = λ i b f. cases (eqb i k)
        (λ q. rw (eqb-true i k q) (rw (get_or-set_same t.last k v [] (omega (arith, K.fresh.well.fit.last_many))) kept))
        (λ q. rw (get_or-set_other t.last k i v [] (eqb-false i k q)) (K.lasts i b (λ n. last_before t.header F.ranged p k c i b n (eqb-false i k q) (f n))));
    totals = λ o b f. K.totals o b (λ q. no_total_before t.header F.ranged p k c o b q (f q));
    each = K.each;
    order = K.order;
  }

  -- `52`
  pub keeps_total : (o : ℕ) → o < length kinds → next_after size own kinds p ≡ next.Total o → (z : ℤ) → total_kept (total_bound t.clock) (get_or kinds o 0) z ≡ true → Fresh (with_totals t (set t.totals o z)) → Keeps (suc p) (with_totals t (set t.totals o z))
  keeps_total o within c z kept F = record {
    fresh = F;
    small = K.small;
    lasts = λ k b f. K.lasts k b (λ n. no_last_before t.header F.ranged p o c k b n (f n));
    totals = λ i b f. cases (eqb i o)
        (λ q. rw (eqb-true i o q) (rw (get_or-set_same t.totals o z (pos 0) (omega (arith, K.fresh.well.one))) kept))
        (λ q. rw (get_or-set_other t.totals o i z (pos 0) (eqb-false i o q)) (K.totals i b (λ n. total_before t.header F.ranged p o c i b n (eqb-false i o q) (f n))));
    each = K.each;
    order = K.order;
  }

  abbrev written : List (List ℕ)
  written = map (row_words size) t.rows

  -- `53`
  pub keeps_row : (r : Row) → RowRules t r → Fresh (with_rows t (t.rows ++ (r ∷ []))) → Keeps p (with_rows t (t.rows ++ (r ∷ [])))
  keeps_row r kept F =
      let more : map (row_words size) (t.rows ++ (r ∷ [])) ≡ written ++ (row_words size r ∷ []) = map_append (row_words size) t.rows (r ∷ []) in
      let many : length written ≡ length t.rows = length-map t.rows (row_words size) in
      record {
        fresh = F;
        small = K.small;
        lasts = K.lasts;
        totals = K.totals;
        each = rw more (every_behind (row_kept kinds t.clock) written (row_words size r) K.each kept.0);
        order = rw more (chained_behind (follows kinds) written (row_words size r) K.order (λ some. rw many (kept.1 (omega (arith, many)))));
      }

-- all lines ahead of the closing line are there: each rule in the words of the table rules
last_ruled : (t : Table) (k : ℕ) (v : Vector) → length v ≡ t.header.size → last_kept t.header.own t.clock k v ≡ true → last_rule t k v ≡ true
unfolding last_rule last_kept zeros
last_ruled t k v long e = cases (eqb k t.header.own)
    (λ q. rw q (eq_same v (replicate t.header.size 0) (zeros_are v (rw q at e) ∙ ap (λ (n : ℕ). replicate n 0) long)))
    (λ q. let known = eqb (get_or v k 0) (get_or t.clock k 0) in
    let below = at_most v t.clock in
    let both : (known && below) ≡ true = rw q at e in
    rw (q, eq-eqb (length v) t.header.size long, and_right known below both) (and_left known below both))

wide_at : (w : ℕ) (l : List Vector) → Wide w l → (k : ℕ) → k < length l → length (get_or l k []) ≡ w
wide_at w [] h k b = absurd (omega arith)
wide_at w (v ∷ l) h zero b = h.0
wide_at w (v ∷ l) h (suc k) b = wide_at w l h.1 k (omega arith)

rows_ruled : (t : Table) (rows : List Row) → Each (Shaped t.header.size) rows → Each (λ (r : Row). length r.operation.vector ≤ t.header.size) rows → every (row_kept t.header.kinds t.clock) (map (row_words t.header.size) rows) ≡ true → every (row_rule t) rows ≡ true
rows_ruled t [] s few e = refl
rows_ruled t (r ∷ rows) s few e =
    let kept = row_kept t.header.kinds t.clock (row_words t.header.size r) in
    let rest = every (row_kept t.header.kinds t.clock) (map (row_words t.header.size) rows) in
    and_both (row_rule t r) (every (row_rule t) rows)
    (subst (λ (x : Row). row_rule t x ≡ true) (row_read_lem t.header.size r s.0) (kept_rule t (row_words t.header.size r) (length_row t.header.size r few.0) (and_left kept rest e)))
    (rows_ruled t rows s.1 few.1 (and_right kept rest e))

module _ (p : ℕ) (t : Table) (K : Keeps p t) (c : next_after t.header.size t.header.own t.header.kinds p ≡ next.Rows) where
  F : Fresh t
  F = K.fresh

  clock_holds : clock_rule t ≡ true
  unfolding clock_rule
  clock_holds = rw (eq-eqb (length t.clock) t.header.size F.well.fit.clock_long) K.small

  lasts_hold : lasts_rule t ≡ true
  unfolding lasts_rule
  lasts_hold =
      let many = F.well.fit.last_many in
      rw (eq-eqb (length t.last) t.header.size many) (at_every (last_rule t) 0 t.last [] (λ k b.
      let within : k < t.header.size = omega arith in
      rw zero-add (last_ruled t k (get_or t.last k []) (wide_at t.header.size t.last F.well.fit.last_wide k b) (K.lasts k within (λ n. lasts_there t.header F.ranged p c k within n)))))

  totals_hold : totals_rule t ≡ true
  unfolding totals_rule total_rule total_kept kind_in
  totals_hold =
      let many = F.well.one in
      rw (eq-eqb (length t.totals) (length t.header.kinds) many) (at_every (total_rule t) 0 t.totals (pos 0) (λ o b.
      let within : o < length t.header.kinds = omega arith in
      rw zero-add (K.totals o within (λ q. totals_there t.header F.ranged p c o within q))))

  abbrev words : List (List ℕ)
  words = map (row_words t.header.size) t.rows

  back : map row_of words ≡ t.rows
  back = rows_back t.header.size t.rows F.well.shape

  ordered : in_order t.rows ≡ true
  ordered = subst (λ (rows : List Row). in_order rows ≡ true) back (sorted_order (map row_of words) (chain_sorted t.header.size t.header.kinds words (readable t.header.size t.rows F.well.shape) K.order))

  one_row_lem : one_row_a_value (kind_in t.header) t.rows ≡ true
  unfolding kind_in
  one_row_lem = subst (λ (rows : List Row). one_row_a_value (λ (o : ℕ). get_or t.header.kinds o 0) rows ≡ true) back (chain_one_row t.header.size t.header.kinds words (readable t.header.size t.rows F.well.shape) K.order)

  pub table_there : is_table t ≡ true
  unfolding is_table table_rules
  table_there =
      rw (F.ranged, clock_holds, lasts_hold, totals_hold, ordered, le-leb (length t.rows) t.header.capacity F.sized.within, rows_ruled t t.rows F.well.shape (short t.header.size t.rows F.well.shape) K.each, one_row_lem) refl
