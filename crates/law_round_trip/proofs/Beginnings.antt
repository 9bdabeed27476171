-- A load takes its lines exactly as long as they are the beginning of a form: a line with which they begin none is refused at once.
use Rattle.std.specs.Prelude.{Result, Ok, Err}
use mathlib.Core.Path.{◌≡◌, refl, sym, ap, ap₂, ◌∙◌, subst}
use mathlib.Core.Bool.{true, false, ◌&&◌, false≢true}
use mathlib.Core.Logic.{◌⊎◌, inl, inr, ⊎_elim}
use mathlib.Core.List.{List, [], ◌∷◌, ◌++◌, append_assoc}
use Prim.Native.Nat.{ℕ, zero, suc, ◌+◌, ◌-◌, ◌≤◌, ◌<◌}
use native.Mathlib.Omega.{arith}
use lib.Dec.{leb, ltb}
use lib.IntN.{pos}
use lib.ListN.{drop, get_or, length, length-append, length-replicate, replicate, set}
use borrow.Author.Tests.{eq-eqb, eqb-true, leb-true, ne_eqb}
use Rattle.meaning.specs.Tests.{every}
use Rattle.meaning.specs.Order.{Vector, entry_limit, same}
use Rattle.meaning.specs.Table.{Header, Table, is_table, opened, total_bound, zeros, greatest_size}
use Rattle.meaning.proofs.Tests.{and_left, and_right}
use Rattle.meaning.proofs.Vectors.{at_most_refl}
use Rattle.meaning.proofs.TableFacts.{facts}
use Rattle.meaning.proofs.TableRules.{opened_is_table}
use Rattle.words_layout.specs.Layout.{capacity_in, holds_table, is_spelt, rewritten, size_in, space_for, table_of, with_clock, with_last, with_totals, words_of}
use Rattle.words_layout.proofs.Changing.{words_long}
use Rattle.table_rules_clock.specs.ClockTests.{last_kept, total_kept}
use Rattle.line_hex.specs.Hex.{hex_line}
use Rattle.line_hex.specs.Numbers.{AllBytes}
use Rattle.line_shape.specs.Shapes.{Fitting, length_of}
use Rattle.line_shape.specs.Reading as shapes
use Rattle.line_read.specs.Types.{last_vector, longest, longest_vector_line}
use Rattle.line_read.proofs.Lengths.{line_length}
use Rattle.line_read.specs.SavedNamed.{is_last, last_read}
use Rattle.line_read.proofs.SavedNamed.{last_reads_back}
use Rattle.line_decode.specs.Decoding.{bytes_of}
use Rattle.line_decode.proofs.Decoding.{bytes_back}
use Rattle.form_lines.specs.FormLines.{clock_line, closing_line, last_line, total_line}
use Rattle.form_write.proofs.Short.{clock_short, total_short}
use Rattle.form_write.proofs.ReadsBack.{below_every, clock_back, fit_each, total_back}
use Rattle.form_take.specs.declared.Loaded.{Loaded}
use Rattle.form_take.specs.declared.Loaded.TheVariants as loaded
use Rattle.form_take.specs.Taking.{spoilt}
use Rattle.form_load.specs.declared.Next.{Next}
use Rattle.form_load.specs.declared.Next.TheVariants as next
use Rattle.form_load.specs.Loading.{loaded_by, next_after, under_load, waits}
use Rattle.form_load.proofs.Nexts.{load_early}
use Rattle.form_load.proofs.Outcomes.{wrong_line_zeroes}
use Rattle.form_load.proofs.Going.{taken_goes_on}
use Rattle.law_round_trip.specs.Restoring.{BeginsForm, ByItsForm, IsForm, Loads, TakesAll}
use Rattle.law_round_trip.proofs.Under.{Fresh, under, object_in, progress_is, station_in, waiting}
use Rattle.law_round_trip.proofs.Steps.{clock_step, last_step, total_step}
use Rattle.law_round_trip.proofs.Mixed.{first_taken_lem, then_closed, then_taken}
use Rattle.law_round_trip.proofs.Front.{clock_bytes, last_bytes, total_bytes}
use Rattle.law_round_trip.proofs.StepsBack.{fresh_clock, fresh_last, fresh_total, is_taken, refused}
use Rattle.law_round_trip.proofs.RoundTrip.{closing_at, round_trip}
use Rattle.law_round_trip.proofs.OpeningBack.{opening_back}
use Rattle.law_round_trip.proofs.OneForm.{form_that_loads}
use Rattle.law_round_trip.proofs.Places.{last_other}
use Rattle.law_round_trip.proofs.Keeps.{Keeps, keeps_clock, keeps_last, keeps_total, table_there, zero_kept}
use Rattle.law_round_trip.proofs.EachRule.{SoFar, all_taken, closed_in}

heard : (line : List ℕ) → AllBytes line → length line ≤ longest_vector_line → bytes_of (hex_line line) ≡ line
heard line all short = bytes_back line (replicate longest 0) all (length-replicate {A = ℕ} longest 0) (omega arith)

-- a line that is taken: D of zeros, D again as a last vector, a total of 0
last_short : (k : ℕ) (v : Vector) → length v ≤ greatest_size → length (last_line k v) ≤ longest_vector_line
unfolding last_line length_of
last_short k v few = omega (arith, line_length last_vector (k ∷ []) v refl)

last_read_lem : (size k : ℕ) (v : Vector) → length v ≡ size → size ≤ greatest_size → k < size → every (λ (entry : ℕ). ltb entry entry_limit) v ≡ true → (is_last size (last_line k v) ≡ true) × (last_read size (last_line k v) ≡ record { station = k; vector = shapes.padded greatest_size v })
unfolding last_line Fitting
last_read_lem size k v long few b small = rw (sym long) (last_reads_back v (omega arith) k (omega arith, (omega arith, fit_each 4 v (below_every v small))))

-- one line more
pub record OneMore (p : ℕ) (t : Table) (rest : List ℕ) : Type 0 where
  pub line : List ℕ
  pub table : Table
  pub header_is : table.header ≡ t.header
  pub keeps : Keeps (suc p) table
  pub taken : loaded_by line (under p t rest) ≡ (Ok loaded.Taken, under (suc p) table rest)

module _ (p : ℕ) (t : Table) (rest : List ℕ) (K : Keeps p t) (u : under_load (under p t rest) ≡ true) where
  F : Fresh t
  F = K.fresh

  abbrev words : List ℕ
  words = under p t rest

  abbrev size : ℕ
  size = t.header.size

  abbrev coming : Next
  coming = next_after size t.header.own t.header.kinds p

  is_opened : is_table (opened t.header) ≡ true
  is_opened = opened_is_table t.header F.ranged

  more_clock : coming ≡ next.Clock → OneMore p t rest
  unfolding waits opened zeros
  more_clock c =
      let v : Vector = replicate size 0 in
      let long : length v ≡ size = length-replicate size 0 in
      let none : length t.rows ≡ 0 = eqb-true (length t.rows) 0 (waiting t F rest p u next.Clock c) in
      let there : bytes_of (hex_line (clock_line v)) ≡ clock_line v = heard (clock_line v) (clock_bytes v) (clock_short (opened t.header) is_opened) in
      record {
        line = hex_line (clock_line v);
        table = with_clock t v;
        header_is = refl;
        keeps = keeps_clock p t K c none v (facts (opened t.header) is_opened).clock_words (fresh_clock t F v long);
        taken = clock_step t F rest p (hex_line (clock_line v)) none c v long (rw there (clock_back (opened t.header) is_opened));
      }

  more_last : (k : ℕ) → coming ≡ next.Last (record { 0 = k }) → OneMore p t rest
  unfolding waits last_kept
  more_last k c =
      let v = t.clock in
      let long : length v ≡ size = F.well.fit.clock_long in
      let few : size ≤ greatest_size = F.sized.few in
      let none : length t.rows ≡ 0 = eqb-true (length t.rows) 0 (waiting t F rest p u (next.Last (record { 0 = k })) c) in
      let within : k < size = station_in t F rest p u k c in
      let kept : last_kept t.header.own v k v ≡ true = rw (ne_eqb k t.header.own (last_other t.header F.ranged p k c), eq-eqb (get_or v k 0) (get_or v k 0) refl) (at_most_refl v) in
      let there : bytes_of (hex_line (last_line k v)) ≡ last_line k v = heard (last_line k v) (last_bytes k v) (last_short k v (omega arith)) in
      record {
        line = hex_line (last_line k v);
        table = with_last t (set t.last k v);
        header_is = refl;
        keeps = keeps_last p t K k within c v kept (fresh_last t F k v long);
        taken = last_step t F rest p (hex_line (last_line k v)) none k within c v long kept (rw there (last_read_lem size k v long few within K.small));
      }

  more_total : (o : ℕ) → coming ≡ next.Total o → OneMore p t rest
  unfolding waits opened
  more_total o c =
      let none : length t.rows ≡ 0 = eqb-true (length t.rows) 0 (waiting t F rest p u (next.Total o) c) in
      let within : o < length t.header.kinds = object_in t F rest p u o c in
      let kept : total_kept (total_bound t.clock) (get_or t.header.kinds o 0) (pos 0) ≡ true = zero_kept (total_bound t.clock) (get_or t.header.kinds o 0) in
      let there : bytes_of (hex_line (total_line o (pos 0))) ≡ total_line o (pos 0) = heard (total_line o (pos 0)) (total_bytes o (pos 0)) (total_short (opened t.header) is_opened o (pos 0)) in
      record {
        line = hex_line (total_line o (pos 0));
        table = with_totals t (set t.totals o (pos 0));
        header_is = refl;
        keeps = keeps_total p t K o within c (pos 0) kept (fresh_total t F o (pos 0) (omega arith));
        taken = total_step t F rest p (hex_line (total_line o (pos 0))) none o within c (pos 0) (omega arith) kept (rw there (total_back (opened t.header) is_opened o (pos 0) within));
      }

  more : (n : Next) → coming ≡ n → (coming ≡ next.Rows) ⊎ OneMore p t rest
  unfolding waits
  more next.Clock c = inr (more_clock c)
  more (next.Last station) c = inr (more_last station.0 c)
  more (next.Total object) c = inr (more_total object c)
  more next.Rows c = inl c
  more next.Nothing c = absurd (false≢true (waiting t F rest p u next.Nothing c))

-- the lines up to a closing one
record Goes (words : List ℕ) (all : ℕ) : Type 0 where
  lines : List (List ℕ)
  line : List ℕ
  mid : List ℕ
  after : List ℕ
  takes : TakesAll lines words mid
  closes : loaded_by line mid ≡ (Ok loaded.Table, after)
  long : length after ≡ all

-- no load has come further than the lines ahead of the rows
goes : (n p : ℕ) (t : Table) (rest : List ℕ) → Keeps p t → under_load (under p t rest) ≡ true → p + n ≡ 50 → Goes (under p t rest) (space_for t.header.size t.header.capacity + length rest)
goes zero p t rest K u e = absurd (omega (arith, load_early (under p t rest) u, progress_is t K.fresh rest p))
goes (suc n) p t rest K u e = ⊎_elim
    (λ c. let is = table_there p t K c in
    record {
      lines = [];
      line = hex_line (closing_line (length t.rows));
      mid = under p t rest;
      after = words_of t ++ rest;
      takes = refl;
      closes = closing_at t is rest p c;
      long = length-append (words_of t) rest ∙ rw (words_long t K.fresh.well K.fresh.sized) refl;
    })
    (λ M. let G = goes n (suc p) M.table rest M.keeps (taken_goes_on M.line (under p t rest) (under (suc p) M.table rest) M.taken) (omega arith) in
    record {
      lines = M.line ∷ G.lines;
      line = G.line;
      mid = G.mid;
      after = G.after;
      takes = first_taken_lem M.line G.lines (under p t rest) (under (suc p) M.table rest) G.mid M.taken G.takes;
      closes = G.closes;
      long = G.long ∙ ap (λ (h : Header). space_for h.size h.capacity + length rest) M.header_is;
    })
    (more p t rest K u (next_after t.header.size t.header.own t.header.kinds p) refl)

so_far_goes : (n : ℕ) (words : List ℕ) → under_load words ≡ true → SoFar n words → Goes words n
so_far_goes n words u S =
    let there : List ℕ = under S.progress S.table S.rest in
    let u' : under_load there ≡ true = subst (λ (w : List ℕ). under_load w ≡ true) S.words_are u in
    let left : S.progress + (50 - S.progress) ≡ 50 = omega (arith, load_early there u', progress_is S.table S.keeps.fresh S.rest S.progress) in
    subst (λ (w : List ℕ). Goes w n) (sym S.words_are) (subst (Goes there) S.long (goes (50 - S.progress) S.progress S.table S.rest S.keeps u' left))

-- a form that loads in so many words
is_form : (lines : List (List ℕ)) (space after : List ℕ) → under_load space ≡ false → Loads lines space after → length after ≡ length space → IsForm (length space) lines
unfolding holds_table is_spelt table_of
is_form lines space after idle l long =
    let A = form_that_loads lines space after idle l in
    let fits = leb (space_for (size_in after) (capacity_in after)) (length after) in
    let spelt = same after (rewritten after (table_of after)) in
    record {
      table = table_of after;
      by_rules = and_right (fits && spelt) (is_table (table_of after)) A.0;
      room = omega (arith, long, leb-true (space_for (size_in after) (capacity_in after)) (length after) (and_left fits spelt (and_left (fits && spelt) (is_table (table_of after)) A.0)));
      lines_are = A.1;
    }

-- at least one line is to come
begins_of : (n : ℕ) (lines more : List (List ℕ)) (line : List ℕ) → IsForm n ((lines ++ more) ++ (line ∷ [])) → BeginsForm n lines
begins_of n lines [] line f = record { next = line; more = []; form = subst (IsForm n) (append_assoc lines [] (line ∷ [])) f }
begins_of n lines (next ∷ more) line f = record { next = next; more = more ++ (line ∷ []); form = subst (IsForm n) (append_assoc lines (next ∷ more) (line ∷ [])) f }

taken_begins : (first : List ℕ) (lines : List (List ℕ)) (space words : List ℕ) → under_load space ≡ false → TakesAll (first ∷ lines) space words → BeginsForm (length space) (first ∷ lines)
taken_begins first lines space words idle taken =
    let A = all_taken first lines space words idle taken in
    let G = so_far_goes (length space) words A.0 A.1 in
    let front = (first ∷ lines) ++ G.lines in
    begins_of (length space) (first ∷ lines) G.lines G.line
    (is_form (front ++ (G.line ∷ [])) space G.after idle (then_closed front G.line space G.mid G.after (then_taken (first ∷ lines) G.lines space words G.mid taken G.takes) G.closes) G.long)

-- the lines of a form up to one
fronts : (a : List (List ℕ)) (x : List ℕ) (b : List (List ℕ)) (words after : List ℕ) → Loads (a ++ (x ∷ b)) words after → (mid : List ℕ) × TakesAll a words mid × Loads (x ∷ b) mid after
fronts [] x b words after l = (words, refl, l)
fronts (line ∷ []) x b words after l = ((loaded_by line words).1, (l.0, refl), l.1)
fronts (line ∷ second ∷ a) x b words after l = let r = fronts (second ∷ a) x b (loaded_by line words).1 after l.1 in (r.0, (l.0, r.1), r.2)

-- what lines leave is one
takes_one : (lines : List (List ℕ)) (words a b : List ℕ) → TakesAll lines words a → TakesAll lines words b → a ≡ b
takes_one [] words a b e f = sym e ∙ f
takes_one (line ∷ lines) words a b e f = takes_one lines (loaded_by line words).1 a b e.1 f.1

form_loads : (space : List ℕ) (lines : List (List ℕ)) → under_load space ≡ false → IsForm (length space) lines → (after : List ℕ) × Loads lines space after
form_loads space lines idle f =
    let t = f.table in
    let after = words_of t ++ drop (space_for t.header.size t.header.capacity) space in
    (after, subst (λ (ls : List (List ℕ)). Loads ls space after) (sym f.lines_are) (round_trip t f.by_rules space idle f.room))

-- a line behind others, the first of all among them
some_taken : (lines : List (List ℕ)) (line space words : List ℕ) → under_load space ≡ false → TakesAll (lines ++ (line ∷ [])) space words → BeginsForm (length space) (lines ++ (line ∷ []))
some_taken [] line space words idle h = taken_begins line [] space words idle h
some_taken (first ∷ lines) line space words idle h = taken_begins first (lines ++ (line ∷ [])) space words idle h

no_first_closes : {A : Type 0} (o : Result Loaded ℕ) → (refused o ≡ true) ⊎ A → (A → o ≡ Ok loaded.Taken) → o ≡ Ok loaded.Table → ⊥
no_first_closes o (inl e) k h = false≢true (sym (ap refused h) ∙ e)
no_first_closes o (inr a) k h = false≢true (ap is_taken (sym h ∙ k a))

some_closed : (lines : List (List ℕ)) (line space words : List ℕ) → under_load space ≡ false → TakesAll lines space words → (loaded_by line words).0 ≡ Ok loaded.Table → length (loaded_by line words).1 ≡ length space
some_closed [] line space words idle e h =
    absurd (no_first_closes (loaded_by line space).0 (opening_back line space idle) (λ T. ap (λ (o : Result Loaded ℕ × List ℕ). o.0) T.next_is) (ap (λ (w : List ℕ). (loaded_by line w).0) e ∙ h))
some_closed (first ∷ lines) line space words idle taken h = closed_in first lines space words line idle taken h

-- 15 is for "a saved line that is misplaced, misshapen or breaks a table rule": behind lines that were all taken by a space with no load under way, a line
-- is taken exactly when some table by the rules saves a form that begins with them all, and closes the load exactly when some table saves them all.
pub each_rule_at_its_line : (lines : List (List ℕ)) (space words line : List ℕ) → under_load space ≡ false → TakesAll lines space words → ByItsForm space lines line words
each_rule_at_its_line lines space words line idle taken =
    let next = (loaded_by line words).1 in
    record {
      taken_begins = λ h. some_taken lines line space next idle (then_taken lines (line ∷ []) space words next taken (h, refl));
      begins_taken = λ B. let L = form_loads space ((lines ++ (line ∷ [])) ++ (B.next ∷ B.more)) idle B.form in
          let P = fronts lines line (B.next ∷ B.more) space L.0 (subst (λ (ls : List (List ℕ)). Loads ls space L.0) (append_assoc lines (line ∷ []) (B.next ∷ B.more)) L.1) in
          ap (λ (w : List ℕ). (loaded_by line w).0) (takes_one lines space words P.0 taken P.1) ∙ P.2.0;
      closes_form = λ h. is_form (lines ++ (line ∷ [])) space next idle (then_closed lines line space words next taken (ap (λ (o : Result Loaded ℕ). (o, next)) h)) (some_closed lines line space words idle taken h);
      form_closes = λ f. let L = form_loads space (lines ++ (line ∷ [])) idle f in
          let P = fronts lines line [] space L.0 L.1 in
          ap (λ (w : List ℕ). (loaded_by line w).0) (takes_one lines space words P.0 taken P.1) ∙ ap (λ (o : Result Loaded ℕ × List ℕ). o.0) P.2;
    }

-- And the number is 15, with zeros in every word, where the lines with that one behind them are no form and begin none.
pub wrong_at_once : (first : List ℕ) (lines : List (List ℕ)) (space words line : List ℕ) → under_load space ≡ false → TakesAll (first ∷ lines) space words
    → (BeginsForm (length space) ((first ∷ lines) ++ (line ∷ [])) → ⊥) → (IsForm (length space) ((first ∷ lines) ++ (line ∷ [])) → ⊥) → loaded_by line words ≡ spoilt words
unfolding spoilt
wrong_at_once first lines space words line idle taken none no_form = by (loaded_by line words) refl
  where
    E : ByItsForm space (first ∷ lines) line words
    E = each_rule_at_its_line (first ∷ lines) space words line idle taken

    by : (o : Result Loaded ℕ × List ℕ) → loaded_by line words ≡ o → o ≡ spoilt words
    by (Err number, x) e =
        let Z = wrong_line_zeroes line words number x (all_taken first lines space words idle taken).0 e in
        ap₂ (λ (n : ℕ) (w : List ℕ). (Err n, w)) Z.0 Z.1
    by (Ok loaded.Taken, x) e = absurd (none (E.taken_begins (ap (λ (p : Result Loaded ℕ × List ℕ). p.0) e)))
    by (Ok loaded.Table, x) e = absurd (no_form (E.closes_form (ap (λ (p : Result Loaded ℕ × List ℕ). p.0) e)))
