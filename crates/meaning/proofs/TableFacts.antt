-- The table rules as facts: what a table that meets them is known to be, and that those facts are all that the rules ask.
use mathlib.Core.Path.{◌≡◌, sym, ◌∙◌, ap, subst}
use mathlib.Core.Bool.{Bool, true, false, not, ◌&&◌, ◌||◌, false≢true}
use mathlib.Core.Logic.{⊎_elim, ◌≢◌}
use mathlib.Core.List.{List, [], ◌∷◌, Memᴰ}
use Prim.Native.Nat.{ℕ, zero, suc, ◌<◌, ◌≤◌}
use native.Mathlib.Omega.{arith}
use native.Mathlib.Nat.{le_of_suc-le-suc, not-suc-le-zero, zero-add}
use lib.Dec.{leb, ltb, eqb}
use lib.IntN.{pos}
use lib.ListN.{get_or, length}
use borrow.Author.Tests.{ltb-true, leb-true, eqb-true, lt-ltb, le-leb, eq-eqb, ne_eqb}
use Rattle.meaning.specs.Tests.{every, every_at, between}
use Rattle.meaning.specs.Order.{Vector, entry_limit, at_most, same, others_of, low_of}
use Rattle.meaning.specs.Operations.{Operation, number_of, is_counter, is_flag, clears, value_allowed, value_limit, greatest_amount}
use Rattle.meaning.specs.Rows.{Row, settled_row, in_order}
use Rattle.meaning.specs.Table.{Header, Table, kind_in, low, header_rules, in_range, clock_rule, last_rule, lasts_rule, total_rule, totals_rule, storable, settled_only, tag_rule, row_rule, one_row_a_value, table_rules, is_table, greatest_size, greatest_capacity, most_objects, greatest_kind}
use Rattle.meaning.proofs.Tests.{cases, and_left, and_right, and_both, fails_not, not_holds, or_cases, or_left, or_right, every_out, every_in, every_at_lem, at_every, rule_at_lem, between_out}
use Rattle.meaning.proofs.Vectors.{at_most_trans, same_eq, eq_same, low_under, others_mem, others_first}
use Rattle.meaning.proofs.Ascending.{Sorted, order_sorted, sorted_order}

-- What the rules say of one row: "object declared, code storable in its kind (kinds 3 and 4 settled only ...), value 0 in flags; an
-- unsettled row's sender in the group, its vector at or below D and its number at least 1; settled rows without a tag".
pub record RowFacts (table : Table) (row : Row) : Type 0 where
  pub declared : row.operation.object < length table.header.kinds
  pub is_storable : storable (kind_in table.header row.operation.object) row.operation ≡ true
  pub value_allowed_lem : value_allowed (kind_in table.header row.operation.object) row.operation.code row.operation.value ≡ true
  pub settled_only_lem : settled_only (kind_in table.header row.operation.object) ≡ true → row.settled ≡ true
  pub without_tag : row.settled ≡ true → row ≡ settled_row row.operation
  pub sender_in : row.settled ≡ false → row.operation.sender < table.header.size
  pub vector_length : row.settled ≡ false → length row.operation.vector ≡ table.header.size
  pub below_clock : row.settled ≡ false → at_most row.operation.vector table.clock ≡ true
  pub numbered : row.settled ≡ false → 1 ≤ number_of row.operation

-- What the rules say of a table.
pub record Facts (table : Table) : Type 0 where
  pub header_in_range : in_range table.header ≡ true
  pub own_in_lem : table.header.own < table.header.size
  pub kind_range : (o : ℕ) → o < length table.header.kinds → (1 ≤ kind_in table.header o) × (kind_in table.header o ≤ greatest_kind)
  pub clock_length : length table.clock ≡ table.header.size
  pub clock_words : every (λ (entry : ℕ). ltb entry entry_limit) table.clock ≡ true
  pub last_length : length table.last ≡ table.header.size
  pub last_rule_lem : (k : ℕ) → k < table.header.size → last_rule table k (get_or table.last k []) ≡ true
  pub totals_length : length table.totals ≡ length table.header.kinds
  pub total_rule_lem : (o : ℕ) → o < length table.header.kinds → total_rule table o (get_or table.totals o (pos 0)) ≡ true
  pub sorted : Sorted table.rows
  pub within : length table.rows ≤ table.header.capacity
  pub row_facts : (row : Row) → Memᴰ row table.rows → RowFacts table row
  pub one_row_lem : one_row_a_value (kind_in table.header) table.rows ≡ true

-- rows
untagged_row : (g : Bool) (o c v s : ℕ) (vector : Vector) → g ≡ true → s ≡ 0 → vector ≡ [] →
    let u : Operation = record { object = o; code = c; value = v; sender = s; vector = vector } in
    let row : Row = record { settled = g; operation = u } in
    row ≡ settled_row u
untagged_row g o c v s vector p q r = rw (p, q, r)

tag_facts : (table : Table) (row : Row) → tag_rule table row ≡ true →
    (row.settled ≡ true → row ≡ settled_row row.operation)
    × (row.settled ≡ false →
    (row.operation.sender < table.header.size) × (length row.operation.vector ≡ table.header.size) × (at_most row.operation.vector table.clock ≡ true) × (1 ≤ number_of row.operation))
unfolding tag_rule
tag_facts table row e =
    let u = row.operation in
    let below = at_most u.vector table.clock in
    let long = eqb (length u.vector) table.header.size in
    let there = ltb u.sender table.header.size in
    let some = leb 1 (number_of u) in (
      λ s. let h : (eqb u.sender 0 && same u.vector []) ≡ true = rw s at e in
          untagged_row row.settled u.object u.code u.value u.sender u.vector s
          (eqb-true u.sender 0 (and_left (eqb u.sender 0) (same u.vector []) h))
          (same_eq u.vector [] (and_right (eqb u.sender 0) (same u.vector []) h)),
      λ s. let h : (there && (long && (below && some))) ≡ true = rw s at e in
          let h1 = and_right there (long && (below && some)) h in
          let h2 = and_right long (below && some) h1 in (
            ltb-true u.sender table.header.size (and_left there (long && (below && some)) h),
            eqb-true (length u.vector) table.header.size (and_left long (below && some) h1),
            and_left below some h2,
            leb-true 1 (number_of u) (and_right below some h2),
          ),
    )

row_out : (table : Table) (row : Row) → row_rule table row ≡ true → RowFacts table row
unfolding row_rule
row_out table row e =
    let u = row.operation in
    let kind = kind_in table.header u.object in
    let here = ltb u.object (length table.header.kinds) in
    let stored = storable kind u in
    let valued = value_allowed kind u.code u.value in
    let only = row.settled || not (settled_only kind) in
    let tag = tag_rule table row in
    let h1 = and_right here ((stored && valued) && (only && tag)) e in
    let h2 = and_left (stored && valued) (only && tag) h1 in
    let h3 = and_right (stored && valued) (only && tag) h1 in
    let facts = tag_facts table row (and_right only tag h3) in
    record {
      declared = ltb-true u.object (length table.header.kinds) (and_left here ((stored && valued) && (only && tag)) e);
      is_storable = and_left stored valued h2;
      value_allowed_lem = and_right stored valued h2;
      settled_only_lem = λ s. ⊎_elim (λ g. g) (λ n. absurd (false≢true (sym (not_holds (settled_only kind) n) ∙ s))) (or_cases row.settled (not (settled_only kind)) (and_left only tag h3));
      without_tag = facts.0;
      sender_in = λ s. (facts.1 s).0;
      vector_length = λ s. (facts.1 s).1;
      below_clock = λ s. (facts.1 s).2;
      numbered = λ s. (facts.1 s).3;
    }

row_in : (table : Table) (row : Row) → RowFacts table row → row_rule table row ≡ true
unfolding row_rule tag_rule
row_in table row f =
    let u = row.operation in
    let kind = kind_in table.header u.object in
    let only : (row.settled || not (settled_only kind)) ≡ true = cases (settled_only kind) (λ q. or_left (not (settled_only kind)) (f.settled_only_lem q)) (λ q. or_right row.settled (fails_not (settled_only kind) q)) in
    let tag : tag_rule table row ≡ true = cases row.settled
    (λ s. rw s (and_both (eqb u.sender 0) (same u.vector [])
    (eq-eqb u.sender 0 (ap (λ (r : Row). r.operation.sender) (f.without_tag s)))
    (eq_same u.vector [] (ap (λ (r : Row). r.operation.vector) (f.without_tag s)))))
    (λ s. rw (s, lt-ltb u.sender table.header.size (f.sender_in s), eq-eqb (length u.vector) table.header.size (f.vector_length s), f.below_clock s) (le-leb 1 (number_of u) (f.numbered s))) in
    rw (lt-ltb u.object (length table.header.kinds) f.declared, f.is_storable, f.value_allowed_lem, only) tag

-- the entry at a place of a list of which every entry meets a test
pub every_place : (p : ℕ → Bool) (l : List ℕ) → every p l ≡ true → (i : ℕ) → i < length l → p (get_or l i 0) ≡ true
every_place p [] e i h = absurd (not-suc-le-zero h)
every_place p (y ∷ l) e zero h = and_left (p y) (every p l) e
every_place p (y ∷ l) e (suc i) h = every_place p l (and_right (p y) (every p l) e) i (le_of_suc-le-suc h)

-- "group size, own station, object count, kind or capacity" in range.
pub record HeaderFacts (header : Header) : Type 0 where
  pub size_range : (1 ≤ header.size) × (header.size ≤ greatest_size)
  pub own_in_lem : header.own < header.size
  pub objects_range : (1 ≤ length header.kinds) × (length header.kinds ≤ most_objects)
  pub kind_range : (o : ℕ) → o < length header.kinds → (1 ≤ kind_in header o) × (kind_in header o ≤ greatest_kind)
  pub capacity_range : (1 ≤ header.capacity) × (header.capacity ≤ greatest_capacity header.size)

-- "header in opening's ranges"
pub header_facts : (header : Header) → in_range header ≡ true → HeaderFacts header
unfolding in_range header_rules kind_in
header_facts header e =
    let rule = rule_at_lem (header_rules header) e in
    record {
      size_range = between_out 1 greatest_size header.size (rule 0);
      own_in_lem = ltb-true header.own header.size (rule 1);
      objects_range = between_out 1 most_objects (length header.kinds) (rule 2);
      kind_range = λ o h. between_out 1 greatest_kind (get_or header.kinds o 0) (every_place (between 1 greatest_kind) header.kinds (rule 3) o h);
      capacity_range = between_out 1 (greatest_capacity header.size) header.capacity (rule 4);
    }

-- "Table rules: header in opening's ranges; L[k] at or below D with L[k][k] = D[k]; ...": each rule, as a fact of a table that meets them.
pub facts : (table : Table) → is_table table ≡ true → Facts table
unfolding is_table table_rules clock_rule lasts_rule totals_rule
facts table e =
    let rule = rule_at_lem (table_rules table) e in
    let header = header_facts table.header (rule 0) in
    let size = table.header.size in
    let words = every (λ (entry : ℕ). ltb entry entry_limit) table.clock in
    let lasts = every_at (last_rule table) 0 table.last in
    let sums = every_at (total_rule table) 0 table.totals in
    let objects = length table.header.kinds in
    let long = eqb-true (length table.last) size (and_left (eqb (length table.last) size) lasts (rule 2)) in
    let wide = eqb-true (length table.totals) objects (and_left (eqb (length table.totals) objects) sums (rule 3)) in
    record {
      header_in_range = rule 0;
      own_in_lem = header.own_in_lem;
      kind_range = header.kind_range;
      clock_length = eqb-true (length table.clock) size (and_left (eqb (length table.clock) size) words (rule 1));
      clock_words = and_right (eqb (length table.clock) size) words (rule 1);
      last_length = long;
      last_rule_lem = λ k h. rw zero-add at (every_at_lem (last_rule table) 0 table.last [] (and_right (eqb (length table.last) size) lasts (rule 2)) k (omega arith));
      totals_length = wide;
      total_rule_lem = λ o h. rw zero-add at (every_at_lem (total_rule table) 0 table.totals (pos 0) (and_right (eqb (length table.totals) objects) sums (rule 3)) o (omega arith));
      sorted = order_sorted table.rows (rule 4);
      within = leb-true (length table.rows) table.header.capacity (rule 5);
      row_facts = λ row m. row_out table row (every_out (row_rule table) table.rows (rule 6) row m);
      one_row_lem = rule 7;
    }

rules_hold : (table : Table) → in_range table.header ≡ true → clock_rule table ≡ true → lasts_rule table ≡ true → totals_rule table ≡ true → in_order table.rows ≡ true →
    leb (length table.rows) table.header.capacity ≡ true → every (row_rule table) table.rows ≡ true → one_row_a_value (kind_in table.header) table.rows ≡ true → is_table table ≡ true
unfolding is_table table_rules
rules_hold table a b c d e f g h = rw (a, b, c, d, e, f, g, h)

-- "Table rules: ...": the facts are all that the rules ask.
pub is_table_lem : (table : Table) → Facts table → is_table table ≡ true
unfolding clock_rule lasts_rule totals_rule
is_table_lem table f =
    let size = table.header.size in
    let objects = length table.header.kinds in
    rules_hold table f.header_in_range
    (and_both (eqb (length table.clock) size) (every (λ (entry : ℕ). ltb entry entry_limit) table.clock) (eq-eqb (length table.clock) size f.clock_length) f.clock_words)
    (and_both (eqb (length table.last) size) (every_at (last_rule table) 0 table.last) (eq-eqb (length table.last) size f.last_length)
    (at_every (last_rule table) 0 table.last [] (λ k h. rw zero-add (f.last_rule_lem k (let e = f.last_length in omega arith)))))
    (and_both (eqb (length table.totals) objects) (every_at (total_rule table) 0 table.totals) (eq-eqb (length table.totals) objects f.totals_length)
    (at_every (total_rule table) 0 table.totals (pos 0) (λ o h. rw zero-add (f.total_rule_lem o (let e = f.totals_length in omega arith)))))
    (sorted_order table.rows f.sorted)
    (le-leb (length table.rows) table.header.capacity f.within)
    (every_in (row_rule table) table.rows (λ row m. row_in table row (f.row_facts row m)))
    f.one_row_lem

-- "L[k] at or below D"
pub last_below : (table : Table) → is_table table ≡ true → (k : ℕ) → k < table.header.size → k ≢ table.header.own → at_most (get_or table.last k []) table.clock ≡ true
unfolding last_rule
last_below table is k h d =
    let vector = get_or table.last k [] in
    let long = eqb (length vector) table.header.size in
    let below = at_most vector table.clock in
    let heard = eqb (get_or vector k 0) (get_or table.clock k 0) in
    let rule : (long && (below && heard)) ≡ true = rw (ne_eqb k table.header.own d) at ((facts table is).last_rule_lem k h) in
    and_left below heard (and_right long (below && heard) rule)

-- "Low, entry by entry, is the least of L[k] over the other stations k. With N = 1, Low is D": so what is at or below Low is at or below D.
pub low_below : (table : Table) → is_table table ≡ true → (vector : Vector) → at_most vector (low table) ≡ true → at_most vector table.clock ≡ true
unfolding low
low_below table is vector e =
    let F = facts table is in
    let own = table.header.own in
    ⊎_elim
    (λ none. subst (λ (others : List Vector). at_most vector (low_of table.clock others) ≡ true) none e)
    (λ other. at_most_trans vector (get_or table.last other.0 []) table.clock
    (low_under vector table.clock (others_of own table.last) e (others_mem own other.0 table.last other.2 other.1))
    (last_below table is other.0 (let l = F.last_length in let h = other.1 in omega arith) other.2))
    (others_first own table.last)

-- "Other values are any 32-bit number"
value_small : (kind code value : ℕ) → value_allowed kind code value ≡ true → value < value_limit
unfolding value_allowed
value_small kind code value h = cases (is_counter kind)
    (λ q. omega (arith, (between_out 1 greatest_amount value (rw q at h)).1))
    (λ q. let h1 = rw q at h in cases (is_flag kind || eqb code clears)
    (λ p. omega (arith, eqb-true value 0 (rw p at h1)))
    (λ p. ltb-true value value_limit (rw p at h1)))

pub row_small : (table : Table) → is_table table ≡ true → (row : Row) → Memᴰ row table.rows → row.operation.value < value_limit
row_small table h row m = value_small (kind_in table.header row.operation.object) row.operation.code row.operation.value ((facts table h).row_facts row m).value_allowed_lem
