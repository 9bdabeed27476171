-- The lines of last vectors of a form that loads, by the table that is left in the end.
use mathlib.Core.Path.{◌≡◌, refl, sym, ap, ap₂, ◌∙◌}
use mathlib.Core.Bool.{true, not}
use mathlib.Core.List.{List, [], ◌∷◌, ◌++◌, map}
use Prim.Native.Nat.{ℕ, zero, suc, ◌+◌, ◌<◌}
use native.Mathlib.Omega.{arith}
use lib.Dec.{eqb, leb}
use lib.ListN.{get_or, length, drop, set, drop_of_length-le}
use lib.Seq.{get_or-set_same, get_or-set_other}
use borrow.Author.Tests.{eqb-true, eqb-false, le-leb, lt-leb, leb-true, leb-false}
use Rattle.meaning.specs.Order.{Vector}
use Rattle.meaning.specs.Operations.{is_counter}
use Rattle.meaning.specs.Table.{Header, Table, in_range, kind_in, opened}
use Rattle.meaning.proofs.Tests.{cases}
use Rattle.meaning.proofs.TableRules.{opened_is_table}
use Rattle.meaning.proofs.TableFacts.{header_facts}
use Rattle.words_layout.specs.Layout.{holds_table, table_of, with_last}
use Rattle.line_hex.specs.Hex.{hex_line}
use Rattle.form_lines.specs.FormLines.{last_line, total_line}
use Rattle.form_write.specs.Forms.{lines_of, row_lines, total_lines}
use Rattle.form_load.specs.declared.Next.TheVariants as next
use Rattle.form_load.specs.Loading.{next_after}
use Rattle.law_round_trip.specs.Restoring.{Loads}
use Rattle.law_round_trip.proofs.Under.{Fresh, under}
use Rattle.law_round_trip.proofs.Front.{next_last, others}
use Rattle.law_round_trip.proofs.StepsBack.{goes_on, last_back}
use Rattle.law_round_trip.proofs.TotalsBack.{lines_other, lines_there, totals_from}

-- so many stations have their last vectors, and the lines say the rest
pub record LastsEnd (k : ℕ) (t : Table) (lines : List (List ℕ)) (after : List ℕ) : Type 0 where
  pub held : holds_table after ≡ true
  pub header_is : (table_of after).header ≡ t.header
  pub clock_is : (table_of after).clock ≡ t.clock
  pub many : length (table_of after).last ≡ t.header.size
  pub before : (i : ℕ) → i < k → get_or (table_of after).last i [] ≡ get_or t.last i []
  pub lines_are : lines ≡ map hex_line (lines_of (λ (station : ℕ). not (eqb station t.header.own)) last_line k (drop k (table_of after).last) ++ (total_lines (table_of after) ++ row_lines (table_of after)))

pub next_other : (header : Header) → in_range header ≡ true → (k : ℕ) → k < header.size → (k ≡ header.own → ⊥) → next_after header.size header.own header.kinds (suc (suc (others header.own k))) ≡ next.Last (record { 0 = k })
unfolding opened
next_other header range k b n = next_last (opened header) (opened_is_table header range) [] k b n

-- one more station
others_own : (own k : ℕ) → k ≡ own → others own (suc k) ≡ others own k
others_own own k e = rw e (rw (le-leb own own (omega arith), lt-leb (suc own) own (omega arith)) (omega arith))

others_more : (own k : ℕ) → (k ≡ own → ⊥) → others own (suc k) ≡ suc (others own k)
others_more own k n = cases (leb k own)
    (λ s. let less : k < own = omega (arith, leb-true k own s, n) in rw (s, le-leb (suc k) own less) refl)
    (λ s. let more = leb-false k own s in rw (s, lt-leb (suc k) own (omega arith)) (omega arith))

lasts_done : (k p : ℕ) (lines : List (List ℕ)) (t : Table) → Fresh t → (rest after : List ℕ) → k ≡ t.header.size → p ≡ suc t.header.size + 0 → t.rows ≡ [] → Loads lines (under p t rest) after → LastsEnd k t lines after
unfolding total_lines kind_in
lasts_done k p lines t F rest after e q none h =
    let kinds = t.header.kinds in
    let own = t.header.own in
    let E = totals_from (length kinds) 0 p 0 lines t F rest after (omega arith) q none (λ i. let same : i + 0 ≡ i = omega arith in rw same refl) h in
    record {
      held = E.held;
      header_is = E.header_is;
      clock_is = E.clock_is;
      many = ap length E.last_is ∙ F.well.fit.last_many;
      before = λ i b. ap (λ (l : List Vector). get_or l i []) E.last_is;
      lines_are = E.lines_are
          ∙ ap (λ (header : Header). map hex_line (lines_of (λ (object : ℕ). is_counter (get_or header.kinds object 0)) total_line 0 (table_of after).totals ++ row_lines (table_of after))) (sym E.header_is)
          ∙ ap (λ (l : List Vector). map hex_line (lines_of (λ (station : ℕ). not (eqb station own)) last_line k l ++ (total_lines (table_of after) ++ row_lines (table_of after)))) (sym (drop_of_length-le (table_of after).last {i = k} (omega (arith, ap length E.last_is, F.well.fit.last_many))));
    }

pub lasts_from : (n k p : ℕ) (lines : List (List ℕ)) (t : Table) → Fresh t → (rest after : List ℕ) → k + n ≡ t.header.size → p ≡ suc (suc (others t.header.own k)) → t.rows ≡ [] → Loads lines (under p t rest) after → LastsEnd k t lines after
lasts_from zero k p lines t F rest after e q none h =
    let H = header_facts t.header F.ranged in
    let done : k ≡ t.header.size = omega arith in
    let last : p ≡ suc t.header.size + 0 = q ∙ rw (done, lt-leb t.header.size t.header.own H.own_in_lem) (omega (arith, F.sized.some)) in
    lasts_done k p lines t F rest after done last none h
lasts_from (suc n) k p [] t F rest after e q none h = absurd h
lasts_from (suc n) k p (line ∷ lines) t F rest after e q none h =
    let own = t.header.own in
    cases (eqb k own)
    (λ is. let E = lasts_from n (suc k) p (line ∷ lines) t F rest after (omega arith) (q ∙ ap (λ (i : ℕ). suc (suc i)) (sym (others_own own k (eqb-true k own is)))) none h in
    record {
      held = E.held;
      header_is = E.header_is;
      clock_is = E.clock_is;
      many = E.many;
      before = λ i b. E.before i (omega arith);
      lines_are = E.lines_are ∙ ap (λ (ls : List (List ℕ)). map hex_line (ls ++ (total_lines (table_of after) ++ row_lines (table_of after)))) (lines_other (λ (station : ℕ). not (eqb station own)) last_line (table_of after).last [] k (omega (arith, E.many)) (ap not is));
    })
    (λ other. let n_own : k ≡ own → ⊥ = eqb-false k own other in
    let c : next_after t.header.size own t.header.kinds p ≡ next.Last (record { 0 = k }) = rw q (next_other t.header F.ranged k (omega arith) n_own) in
    let G = goes_on line lines (under p t rest) (last_line k) (λ (v : Vector). with_last t (set t.last k v)) (suc p) rest after (last_back t F rest p line (ap length none) k (omega arith) c) h in
    let v : Vector = G.what in
    let E = lasts_from n (suc k) (suc p) lines (with_last t (set t.last k v)) G.fresh rest after (omega arith) (ap suc q ∙ ap (λ (i : ℕ). suc (suc i)) (sym (others_more own k n_own))) none G.more in
    let here : get_or (table_of after).last k [] ≡ v = E.before k (omega arith) ∙ get_or-set_same t.last k v [] (omega (arith, F.well.fit.last_many)) in
    record {
      held = E.held;
      header_is = E.header_is;
      clock_is = E.clock_is;
      many = E.many;
      before = λ i b. E.before i (omega arith) ∙ get_or-set_other t.last k i v [] (λ w. omega arith);
      lines_are = ap₂ (λ (l : List ℕ) (ls : List (List ℕ)). l ∷ ls) (G.line_is ∙ ap (λ (a : Vector). hex_line (last_line k a)) (sym here)) E.lines_are
          ∙ ap (λ (ls : List (List ℕ)). map hex_line (ls ++ (total_lines (table_of after) ++ row_lines (table_of after)))) (lines_there (λ (station : ℕ). not (eqb station own)) last_line (table_of after).last [] k (omega (arith, E.many)) (ap not other));
    })
