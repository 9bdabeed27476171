-- The lines of totals of a form that loads, by the table that is left in the end.
use Rattle.std.specs.Prelude.{Ok, Err}
use mathlib.Core.Path.{◌≡◌, refl, sym, ap, ap₂, ◌∙◌}
use mathlib.Core.Bool.{Bool, true, false}
use mathlib.Core.List.{List, [], ◌∷◌, ◌++◌, map}
use Prim.Native.Nat.{ℕ, zero, suc, ◌+◌, ◌-◌, ◌≤◌, ◌<◌}
use native.Mathlib.Omega.{arith}
use lib.IntN.{ℤ, pos}
use lib.ListN.{get_or, length, drop, set, drop_of_length-le}
use lib.Seq.{drop-cons, get_or-set_same, get_or-set_other}
use borrow.Author.Tests.{ne_eqb, lt-leb}
use Rattle.meaning.specs.Operations.{is_counter}
use Rattle.meaning.specs.Rows.{Row}
use Rattle.meaning.specs.Table.{Table}
use Rattle.meaning.specs.Calls.{with_rows}
use Rattle.meaning.proofs.Tests.{cases}
use Rattle.words_layout.specs.Layout.{holds_table, table_of, with_totals}
use Rattle.line_hex.specs.Hex.{hex_line}
use Rattle.form_lines.specs.FormLines.{closing_line, row_line, total_line}
use Rattle.form_write.specs.Forms.{lines_of, row_lines}
use Rattle.form_write.specs.Seeking.{counter_at}
use Rattle.form_load.specs.declared.Next.TheVariants as next
use Rattle.form_load.specs.Loading.{behind_lasts, next_after}
use Rattle.law_round_trip.specs.Restoring.{Loads}
use Rattle.law_round_trip.proofs.Under.{Fresh, under}
use Rattle.law_round_trip.proofs.StepsBack.{goes_on, total_back}
use Rattle.law_round_trip.proofs.RowsBack.{rows_from_lem}

-- so many objects have their totals, and the lines say the rest
pub record TotalsEnd (k : ℕ) (t : Table) (lines : List (List ℕ)) (after : List ℕ) : Type 0 where
  pub held : holds_table after ≡ true
  pub header_is : (table_of after).header ≡ t.header
  pub clock_is : (table_of after).clock ≡ t.clock
  pub last_is : (table_of after).last ≡ t.last
  pub many : length (table_of after).totals ≡ length t.header.kinds
  pub before : (i : ℕ) → i < k → get_or (table_of after).totals i (pos 0) ≡ get_or t.totals i (pos 0)
  pub lines_are : lines ≡ map hex_line (lines_of (λ (object : ℕ). is_counter (get_or t.header.kinds object 0)) total_line k (drop k (table_of after).totals) ++ row_lines (table_of after))

-- the line of one place, and those behind it
module _ {A : Type 0} (test : ℕ → Bool) (line : ℕ → A → List ℕ) (l : List A) (d : A) (k : ℕ) (b : k < length l) where
  pub lines_other : test k ≡ false → lines_of test line (suc k) (drop (suc k) l) ≡ lines_of test line k (drop k l)
  lines_other e = rw (drop-cons l k d b, e) refl

  pub lines_there : test k ≡ true → line k (get_or l k d) ∷ lines_of test line (suc k) (drop (suc k) l) ≡ lines_of test line k (drop k l)
  lines_there e = rw (drop-cons l k d b, e) refl

-- a counter is sought among the kinds that are left
abbrev pub Seeks : List ℕ → ℕ → ℕ → Type 0
Seeks kinds k j = (i : ℕ) → counter_at kinds 0 (i + j) ≡ counter_at (drop k kinds) k i

passes_other : (kinds : List ℕ) (k j : ℕ) → k < length kinds → is_counter (get_or kinds k 0) ≡ false → Seeks kinds k j → Seeks kinds (suc k) j
unfolding counter_at
passes_other kinds k j b e S i = S i ∙ rw (drop-cons kinds k 0 b, e) refl

passes_counter : (kinds : List ℕ) (k j : ℕ) → k < length kinds → is_counter (get_or kinds k 0) ≡ true → Seeks kinds k j → Seeks kinds (suc k) (suc j)
unfolding counter_at
passes_counter kinds k j b e S i =
    let more : i + suc j ≡ suc i + j = omega arith in
    let less : suc i - 1 ≡ i = omega arith in
    rw more (S (suc i) ∙ rw (drop-cons kinds k 0 b, e, ne_eqb (suc i) 0 (λ z. omega (arith, z)), less) refl)

finds_counter : (kinds : List ℕ) (k j : ℕ) → k < length kinds → is_counter (get_or kinds k 0) ≡ true → Seeks kinds k j → counter_at kinds 0 j ≡ Ok k
unfolding counter_at
finds_counter kinds k j b e S = let same : 0 + j ≡ j = omega arith in (rw same at (S 0)) ∙ rw (drop-cons kinds k 0 b, e) refl

finds_none : (kinds : List ℕ) (k j : ℕ) → length kinds ≤ k → Seeks kinds k j → counter_at kinds 0 j ≡ Err 0
unfolding counter_at
finds_none kinds k j b S = let same : 0 + j ≡ j = omega arith in (rw same at (S 0)) ∙ rw (drop_of_length-le kinds {i = k} b) refl

-- what comes next behind the last vectors
next_behind : (size own : ℕ) (kinds : List ℕ) (p j : ℕ) → 1 ≤ size → p ≡ suc size + j → next_after size own kinds p ≡ behind_lasts (counter_at kinds 0 j)
unfolding next_after
next_behind size own kinds p j some e =
    let left : p - suc size ≡ j = omega arith in
    rw (ne_eqb p 0 (λ z. omega arith), ne_eqb p 1 (λ z. omega arith), lt-leb p size (omega arith), left) refl

totals_done : (k p j : ℕ) (lines : List (List ℕ)) (t : Table) → Fresh t → (rest after : List ℕ) → k ≡ length t.header.kinds → p ≡ suc t.header.size + j → t.rows ≡ [] → Seeks t.header.kinds k j → Loads lines (under p t rest) after → TotalsEnd k t lines after
unfolding behind_lasts row_lines
totals_done k p j lines t F rest after e q none S h =
    let c : next_after t.header.size t.header.own t.header.kinds p ≡ next.Rows = next_behind t.header.size t.header.own t.header.kinds p j F.sized.some q ∙ ap behind_lasts (finds_none t.header.kinds k j (omega arith) S) in
    let E = rows_from_lem lines t F rest p after c h in
    let u = with_rows t (t.rows ++ E.more) in
    record {
      held = E.held;
      header_is = ap (λ (x : Table). x.header) E.table_is;
      clock_is = ap (λ (x : Table). x.clock) E.table_is;
      last_is = ap (λ (x : Table). x.last) E.table_is;
      many = ap (λ (x : Table). length x.totals) E.table_is ∙ F.well.one;
      before = λ i b. ap (λ (x : Table). get_or x.totals i (pos 0)) E.table_is;
      lines_are = E.lines_are
          ∙ ap (λ (rows : List Row). map hex_line (map (row_line t.header.size) rows ++ (closing_line (length (t.rows ++ E.more)) ∷ []))) (ap (λ (rows : List Row). rows ++ E.more) (sym none))
          ∙ ap (λ (l : List ℤ). map hex_line (lines_of (λ (object : ℕ). is_counter (get_or t.header.kinds object 0)) total_line k l ++ row_lines u)) (sym (drop_of_length-le t.totals {i = k} (omega (arith, F.well.one))))
          ∙ ap (λ (x : Table). map hex_line (lines_of (λ (object : ℕ). is_counter (get_or t.header.kinds object 0)) total_line k (drop k x.totals) ++ row_lines x)) (sym E.table_is);
    }

pub totals_from : (n k p j : ℕ) (lines : List (List ℕ)) (t : Table) → Fresh t → (rest after : List ℕ) → k + n ≡ length t.header.kinds → p ≡ suc t.header.size + j → t.rows ≡ [] → Seeks t.header.kinds k j → Loads lines (under p t rest) after → TotalsEnd k t lines after
unfolding behind_lasts
totals_from zero k p j lines t F rest after e q none S h = totals_done k p j lines t F rest after (omega arith) q none S h
totals_from (suc n) k p j [] t F rest after e q none S h = absurd h
totals_from (suc n) k p j (line ∷ lines) t F rest after e q none S h = cases (is_counter (get_or t.header.kinds k 0))
    (λ counter. let kinds = t.header.kinds in
    let c : next_after t.header.size t.header.own kinds p ≡ next.Total k = next_behind t.header.size t.header.own kinds p j F.sized.some q ∙ ap behind_lasts (finds_counter kinds k j (omega arith) counter S) in
    let G = goes_on line lines (under p t rest) (total_line k) (λ (z : ℤ). with_totals t (set t.totals k z)) (suc p) rest after (total_back t F rest p line (ap length none) k (omega arith) c) h in
    let z : ℤ = G.what in
    let E = totals_from n (suc k) (suc p) (suc j) lines (with_totals t (set t.totals k z)) G.fresh rest after (omega arith) (omega arith) none (passes_counter kinds k j (omega arith) counter S) G.more in
    let totals = (table_of after).totals in
    let here : get_or totals k (pos 0) ≡ z = E.before k (omega arith) ∙ get_or-set_same t.totals k z (pos 0) (omega (arith, F.well.one)) in
    record {
      held = E.held;
      header_is = E.header_is;
      clock_is = E.clock_is;
      last_is = E.last_is;
      many = E.many;
      before = λ i b. E.before i (omega arith) ∙ get_or-set_other t.totals k i z (pos 0) (λ w. omega arith);
      lines_are = ap₂ (λ (l : List ℕ) (ls : List (List ℕ)). l ∷ ls) (G.line_is ∙ ap (λ (a : ℤ). hex_line (total_line k a)) (sym here)) E.lines_are
          ∙ ap (λ (ls : List (List ℕ)). map hex_line (ls ++ row_lines (table_of after))) (lines_there (λ (object : ℕ). is_counter (get_or kinds object 0)) total_line totals (pos 0) k (omega (arith, E.many)) counter);
    })
    (λ other. let E = totals_from n (suc k) p j (line ∷ lines) t F rest after (omega arith) q none (passes_other t.header.kinds k j (omega arith) other S) h in
    record {
      held = E.held;
      header_is = E.header_is;
      clock_is = E.clock_is;
      last_is = E.last_is;
      many = E.many;
      before = λ i b. E.before i (omega arith);
      lines_are = E.lines_are ∙ ap (λ (ls : List (List ℕ)). map hex_line (ls ++ row_lines (table_of after))) (lines_other (λ (object : ℕ). is_counter (get_or t.header.kinds object 0)) total_line (table_of after).totals (pos 0) k (omega (arith, E.many)) other);
    })
