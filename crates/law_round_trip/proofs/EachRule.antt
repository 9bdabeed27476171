-- 15 is for "a saved line that ... breaks a table rule": each rule is asked at the line that can break it, and when the closing line comes none is left.
use Rattle.std.specs.Prelude.{Result, Ok}
use mathlib.Core.Path.{◌≡◌, refl, sym, ap, ◌∙◌, subst}
use mathlib.Core.Bool.{true, false, false≢true}
use mathlib.Core.Logic.{◌⊎◌, inl, inr}
use mathlib.Core.List.{List, [], ◌∷◌, ◌++◌}
use Prim.Native.Nat.{ℕ, suc, ◌+◌, ◌<◌}
use native.Mathlib.Omega.{arith}
use lib.Dec.{ltb}
use lib.IntN.{ℤ}
use lib.ListN.{get_or, length, length-append, length-drop, set}
use borrow.Author.Tests.{eqb-true}
use Rattle.meaning.specs.Tests.{every}
use Rattle.meaning.specs.Order.{Vector, entry_limit}
use Rattle.meaning.specs.Rows.{Row}
use Rattle.meaning.specs.Table.{Header, Table, is_table, opened, total_bound}
use Rattle.meaning.specs.Calls.{with_rows}
use Rattle.meaning.proofs.Tests.{cases}
use Rattle.words_layout.specs.Layout.{count_in, holds_table, space_for, with_clock, with_last, with_totals, words_of}
use Rattle.table_rules_clock.specs.ClockTests.{last_kept, total_kept}
use Rattle.words_layout.proofs.Changing.{words_long}
use Rattle.arrival.proofs.Kept.{laid_held}
use Rattle.line_read.specs.Types.{is_line_of, head_of, row}
use Rattle.line_read.specs.SavedNamed.{closing_read, is_closing, is_row}
use Rattle.line_read.proofs.SavedNamed.{closing_only_spelling}
use Rattle.line_decode.specs.Decoding.{bytes_of}
use Rattle.form_lines.specs.FormLines.{clock_line, closing_line, last_line, row_line, total_line}
use Rattle.form_take.specs.declared.Loaded.{Loaded}
use Rattle.form_take.specs.declared.Loaded.TheVariants as loaded
use Rattle.form_load.specs.declared.Next.{Next}
use Rattle.form_load.specs.declared.Next.TheVariants as next
use Rattle.form_load.specs.Loading.{loaded_by, next_after, next_in, under_load, waits}
use Rattle.form_load.proofs.Going.{taken_goes_on}
use Rattle.law_round_trip.specs.Restoring.{load_over, TakesAll}
use Rattle.law_round_trip.proofs.Setting.{set_set}
use Rattle.law_round_trip.proofs.Under.{Fresh, under, count_is, next_is, object_in, station_in, waiting}
use Rattle.law_round_trip.proofs.RoundTrip.{closing_first, no_shape}
use Rattle.law_round_trip.proofs.RowLines.{close_step}
use Rattle.line_decode.proofs.Decoding.{decoded_bytes}
use Rattle.law_round_trip.proofs.StepsBack.{Took, clock_back, is_taken, last_back, refused, total_back}
use Rattle.law_round_trip.proofs.RowBack.{Closed, RowRules, close_back, row_back}
use Rattle.law_round_trip.proofs.OpeningBack.{kept, opening_back}
use Rattle.law_round_trip.proofs.Keeps.{Keeps, keeps_clock, keeps_last, keeps_opened, keeps_row, keeps_total, table_there}

-- so many words of a load in which every line taken kept its rules
pub record SoFar (n : ℕ) (words : List ℕ) : Type 0 where
  pub progress : ℕ
  pub table : Table
  pub rest : List ℕ
  pub words_are : words ≡ under progress table rest
  pub long : space_for table.header.size table.header.capacity + length rest ≡ n
  pub keeps : Keeps progress table

-- what a line gets there: it is refused, or taken and keeps its rules, or closes the form in as many words
abbrev Outcome : ℕ → List ℕ → List ℕ → Type 0
Outcome n line words =
    (refused (loaded_by line words).0 ≡ true)
    ⊎ ((((loaded_by line words).0 ≡ Ok loaded.Taken) × SoFar n (loaded_by line words).1) ⊎ (((loaded_by line words).0 ≡ Ok loaded.Table) × (length (loaded_by line words).1 ≡ n)))

module _ (all : ℕ) (line : List ℕ) (p : ℕ) (t : Table) (rest : List ℕ) (long : space_for t.header.size t.header.capacity + length rest ≡ all) (K : Keeps p t) (u : under_load (under p t rest) ≡ true) where
  F : Fresh t
  F = K.fresh

  abbrev words : List ℕ
  words = under p t rest

  abbrev coming : Next
  coming = next_after t.header.size t.header.own t.header.kinds p

  -- the line that comes next, with what it makes of the record
  from : {A : Type 0} (spell : A → List ℕ) (make : A → Table) (keeps : A → Type 0) (q : ℕ) → ((a : A) → (make a).header ≡ t.header) → ((a : A) → keeps a → Fresh (make a) → Keeps q (make a))
      → (refused (loaded_by line words).0 ≡ true) ⊎ Took line words spell make keeps q rest → Outcome all line words
  from spell make keeps q same k (inl e) = inl e
  from spell make keeps q same k (inr T) =
      inr (inl (
        ap (λ (o : Result Loaded ℕ × List ℕ). o.0) T.next_is,
        record {
          progress = q;
          table = make T.what;
          rest = rest;
          words_are = ap (λ (o : Result Loaded ℕ × List ℕ). o.1) T.next_is;
          long = ap (λ (h : Header). space_for h.size h.capacity + length rest) (same T.what) ∙ long;
          keeps = k T.what T.kept T.fresh;
        },
      ))

  by_clock : coming ≡ next.Clock → Outcome all line words
  unfolding waits
  by_clock c =
      let none : length t.rows ≡ 0 = eqb-true (length t.rows) 0 (waiting t F rest p u next.Clock c) in
      from clock_line (with_clock t) (λ (v : Vector). every (λ (entry : ℕ). ltb entry entry_limit) v ≡ true) (suc p) (λ v. refl) (keeps_clock p t K c none) (clock_back t F rest p line none c)

  by_last : (k : ℕ) → coming ≡ next.Last (record { 0 = k }) → Outcome all line words
  unfolding waits
  by_last k c =
      let none : length t.rows ≡ 0 = eqb-true (length t.rows) 0 (waiting t F rest p u (next.Last (record { 0 = k })) c) in
      let within : k < t.header.size = station_in t F rest p u k c in
      from (last_line k) (λ (v : Vector). with_last t (set t.last k v)) (λ (v : Vector). last_kept t.header.own t.clock k v ≡ true) (suc p) (λ v. refl) (keeps_last p t K k within c) (last_back t F rest p line none k within c)

  by_total : (o : ℕ) → coming ≡ next.Total o → Outcome all line words
  unfolding waits
  by_total o c =
      let none : length t.rows ≡ 0 = eqb-true (length t.rows) 0 (waiting t F rest p u (next.Total o) c) in
      let within : o < length t.header.kinds = object_in t F rest p u o c in
      from (total_line o) (λ (z : ℤ). with_totals t (set t.totals o z)) (λ (z : ℤ). total_kept (total_bound t.clock) (get_or t.header.kinds o 0) z ≡ true) (suc p) (λ z. refl) (keeps_total p t K o within c) (total_back t F rest p line none o within c)

  by_closing : (refused (loaded_by line words).0 ≡ true) ⊎ Closed line t rest p → Outcome all line words
  by_closing (inl e) = inl e
  by_closing (inr C) =
      inr (inr (
        ap (λ (o : Result Loaded ℕ × List ℕ). o.0) C.next_is,
        ap (λ (o : Result Loaded ℕ × List ℕ). length o.1) C.next_is ∙ length-append (words_of t) rest ∙ ap (λ (k : ℕ). k + length rest) (words_long t F.well F.sized) ∙ long,
      ))

  by_row : coming ≡ next.Rows → Outcome all line words
  by_row c = cases (is_row t.header.size (bytes_of line))
      (λ ok. from (row_line t.header.size) (λ (r : Row). with_rows t (t.rows ++ (r ∷ []))) (RowRules t) p (λ r. refl) (keeps_row p t K) (row_back t F rest p line c ok))
      (λ other. by_closing (close_back t F rest p line c other))

  by_next : (n : Next) → coming ≡ n → Outcome all line words
  unfolding waits
  by_next next.Clock c = by_clock c
  by_next (next.Last station) c = by_last station.0 c
  by_next (next.Total object) c = by_total object c
  by_next next.Rows c = by_row c
  by_next next.Nothing c = absurd (false≢true (waiting t F rest p u next.Nothing c))

outcome : (n : ℕ) (line words : List ℕ) → under_load words ≡ true → SoFar n words → Outcome n line words
outcome n line words u S =
    subst (Outcome n line) (sym S.words_are)
    (by_next n line S.progress S.table S.rest S.long S.keeps (subst (λ (w : List ℕ). under_load w ≡ true) S.words_are u)
    (next_after S.table.header.size S.table.header.own S.table.header.kinds S.progress) refl)

taken_so_far : (n : ℕ) (line words : List ℕ) → Outcome n line words → (loaded_by line words).0 ≡ Ok loaded.Taken → SoFar n (loaded_by line words).1
taken_so_far n line words (inl e) h = absurd (false≢true (sym (ap refused h) ∙ e))
taken_so_far n line words (inr (inl T)) h = T.1
taken_so_far n line words (inr (inr C)) h = absurd (false≢true (ap is_taken (sym C.0 ∙ h)))

closed_long : (n : ℕ) (line words : List ℕ) → Outcome n line words → (loaded_by line words).0 ≡ Ok loaded.Table → length (loaded_by line words).1 ≡ n
closed_long n line words (inl e) h = absurd (false≢true (sym (ap refused h) ∙ e))
closed_long n line words (inr (inl T)) h = absurd (false≢true (ap is_taken (sym h ∙ T.0)))
closed_long n line words (inr (inr C)) h = C.1

-- the lines behind the opening line
behind_opening : (n : ℕ) (lines : List (List ℕ)) (words after : List ℕ) → under_load words ≡ true → SoFar n words → TakesAll lines words after → (under_load after ≡ true) × SoFar n after
behind_opening n [] words after u S h = (subst (λ (w : List ℕ). under_load w ≡ true) h u, subst (SoFar n) h S)
behind_opening n (line ∷ lines) words after u S h =
    let next = (loaded_by line words).1 in
    behind_opening n lines next after (taken_goes_on line words next (ap (λ (o : Result Loaded ℕ). (o, next)) h.0)) (taken_so_far n line words (outcome n line words u S) h.0) h.1

took_it : {A : Type 0} (o : Result Loaded ℕ) → o ≡ Ok loaded.Taken → (refused o ≡ true) ⊎ A → A
took_it o h (inl e) = absurd (false≢true (sym (ap refused h) ∙ e))
took_it o h (inr T) = T

opened_so_far : (line space : List ℕ) → under_load space ≡ false → (loaded_by line space).0 ≡ Ok loaded.Taken → SoFar (length space) (loaded_by line space).1
unfolding opened
opened_so_far line space idle h =
    let T = took_it (loaded_by line space).0 h (opening_back line space idle) in
    let needed = space_for T.what.size T.what.capacity in
    record {
      progress = 1;
      table = opened T.what;
      rest = kept line space idle;
      words_are = ap (λ (o : Result Loaded ℕ × List ℕ). o.1) T.next_is;
      long = ap (λ (l : List ℕ). needed + length l) T.kept.1 ∙ omega (arith, length-drop needed space, T.kept.2);
      keeps = keeps_opened T.what T.kept.0 T.fresh;
    }

-- From an opening line on, whatever the space held: every line taken kept its rules, and a load is under way.
pub all_taken : (first : List ℕ) (lines : List (List ℕ)) (space words : List ℕ) → under_load space ≡ false → TakesAll (first ∷ lines) space words → (under_load words ≡ true) × SoFar (length space) words
all_taken first lines space words idle taken =
    let next = (loaded_by first space).1 in
    behind_opening (length space) lines next words (taken_goes_on first space next (ap (λ (o : Result Loaded ℕ). (o, next)) taken.0)) (opened_so_far first space idle taken.0) taken.1

module _ (n : ℕ) (words : List ℕ) (S : SoFar n words) (rows : next_in words ≡ next.Rows) where
  abbrev u : Table
  u = S.table

  abbrev plain : List ℕ
  plain = words_of u ++ S.rest

  fresh : Fresh u
  fresh = S.keeps.fresh

  come : next_after u.header.size u.header.own u.header.kinds S.progress ≡ next.Rows
  come = sym (next_is u fresh S.rest S.progress) ∙ ap next_in (sym S.words_are) ∙ rows

  is_table_lem : is_table u ≡ true
  is_table_lem = table_there S.progress u S.keeps come

  whole : load_over words ≡ plain
  unfolding words_of
  whole = ap load_over S.words_are ∙ set_set plain 6 S.progress 0

  table_held : holds_table (load_over words) ≡ true
  table_held = rw whole (laid_held u is_table_lem S.rest)

  closes : (line : List ℕ) → is_closing (bytes_of line) ≡ true → (closing_read (bytes_of line)).rows ≡ count_in words → loaded_by line words ≡ (Ok loaded.Table, load_over words)
  unfolding is_row is_line_of closing_line
  closes line ok count =
      let f = closing_read (bytes_of line) in
      let many : f.rows ≡ length u.rows = count ∙ ap count_in S.words_are ∙ count_is u fresh S.rest S.progress in
      let spelt : closing_line f.rows ≡ bytes_of line = closing_only_spelling (bytes_of line) (decoded_bytes line) ok in
      let no_row : is_row u.header.size (bytes_of line) ≡ false = subst (λ (bytes : List ℕ). is_row u.header.size bytes ≡ false) spelt (no_shape (head_of row) u.header.size (closing_line f.rows) (closing_first f.rows)) in
      ap (loaded_by line) S.words_are
      ∙ close_step u fresh S.rest S.progress line come no_row (ok, ap (λ (n : ℕ). record { rows = n }) many) is_table_lem
      ∙ ap (λ (w : List ℕ). (Ok loaded.Table, w)) (sym whole)

-- so many words are left by a line that closes the form
pub closed_in : (first : List ℕ) (lines : List (List ℕ)) (space words line : List ℕ) → under_load space ≡ false → TakesAll (first ∷ lines) space words → (loaded_by line words).0 ≡ Ok loaded.Table → length (loaded_by line words).1 ≡ length space
closed_in first lines space words line idle taken h =
    let A = all_taken first lines space words idle taken in
    closed_long (length space) line words (outcome (length space) line words A.0 A.1) h

-- Once rows are next, the words are a table by the rules but for the load's own word: no rule is left to the closing line.
pub table_before_closing : (first : List ℕ) (lines : List (List ℕ)) (space words : List ℕ) → under_load space ≡ false → TakesAll (first ∷ lines) space words → next_in words ≡ next.Rows → holds_table (load_over words) ≡ true
table_before_closing first lines space words idle taken rows = table_held (length space) words (all_taken first lines space words idle taken).1 rows

-- So a closing line in its place is refused for its count alone.
pub rules_kept : (first : List ℕ) (lines : List (List ℕ)) (space words line : List ℕ) → under_load space ≡ false → TakesAll (first ∷ lines) space words → next_in words ≡ next.Rows
    → is_closing (bytes_of line) ≡ true → (closing_read (bytes_of line)).rows ≡ count_in words → loaded_by line words ≡ (Ok loaded.Table, load_over words)
rules_kept first lines space words line idle taken rows = closes (length space) words (all_taken first lines space words idle taken).1 rows line
