-- What a line said that a space under load took.
use Rattle.std.specs.Prelude.{Result, Ok, Err}
use mathlib.Core.Path.{◌≡◌, refl, sym, ap, ap₂, ◌∙◌, subst}
use mathlib.Core.Bool.{Bool, true, false, ◌&&◌, false≢true}
use mathlib.Core.Logic.{◌⊎◌, inl, inr}
use mathlib.Core.List.{List, [], ◌∷◌, ◌++◌}
use Prim.Native.Nat.{ℕ, zero, suc, ◌+◌, ◌*◌, ◌/◌, ◌%◌, ◌<◌}
use native.Mathlib.Omega.{arith}
use lib.Dec.{eqb, ltb}
use lib.IntN.{ℤ}
use lib.ListN.{get_or, length, take, set, length-set, length-append}
use lib.Seq.{length-take-le}
use borrow.Author.Tests.{eq-eqb, eqb-true, ltb-true, ltb-false}
use Rattle.meaning.specs.Tests.{every}
use Rattle.meaning.specs.Order.{Vector, entry_limit}
use Rattle.meaning.specs.Rows.{Row}
use Rattle.meaning.specs.Table.{Table, total_bound}
use Rattle.meaning.specs.Calls.{with_rows}
use Rattle.meaning.proofs.Tests.{cases, and_left, and_right}
use Rattle.words_layout.specs.Words.{complement, of_complement, word_limit, two_word_limit}
use Rattle.words_layout.specs.Layout.{words_of, with_clock, with_last, with_totals, total_of_words}
use Rattle.words_layout.proofs.Pieces.{Each}
use Rattle.words_layout.proofs.RowWords.{Shaped, high_of, low_of}
use Rattle.words_layout.proofs.Reading.{InRange}
use Rattle.words_layout.proofs.Spelling.{code_read}
use Rattle.words_layout.proofs.Changing.{wide_set}
use Rattle.table_rules_clock.specs.ClockTests.{last_kept, total_kept}
use Rattle.line_hex.specs.Hex.{hex_line}
use Rattle.line_read.specs.Types.{clock, last_vector, total, line_of}
use Rattle.line_read.specs.SavedNamed.{is_total, is_last, is_clock, clock_read, last_read, total_read}
use Rattle.line_read.proofs.SavedNamed.{clock_only_spelling, last_only_spelling, total_only_spelling}
use Rattle.line_read.proofs.Vectors.{clock_vector, last_vector_lem}
use Rattle.line_decode.specs.Decoding.{bytes_of}
use Rattle.form_lines.specs.FormLines.{clock_line, last_line, total_line}
use Rattle.form_take.specs.declared.Loaded.{Loaded}
use Rattle.form_take.specs.declared.Loaded.TheVariants as loaded
use Rattle.form_load.specs.declared.Next.TheVariants as next
use Rattle.form_take.specs.Taking.{clock_taken, last_taken, spoilt, total_taken}
use Rattle.form_load.specs.Loading.{loaded_by, next_after, taken_as, waits}
use Rattle.law_round_trip.specs.Restoring.{Loads}
use Rattle.law_round_trip.proofs.Under.{Fresh, under, size_is, own_is, kinds_are, clock_is, taken_by_lem}
use Rattle.law_round_trip.proofs.Steps.{clock_step, last_step, total_step}
use Rattle.line_decode.proofs.Decoding.{decoded_bytes}
use Rattle.law_round_trip.proofs.Decoded.{high_small, line_said, low_small, vector_padded, vector_small}

abbrev pub refused : Result Loaded ℕ → Bool
refused (Err number) = true
refused (Ok loaded.Taken) = false
refused (Ok loaded.Table) = false

abbrev pub is_taken : Result Loaded ℕ → Bool
is_taken (Ok loaded.Taken) = true
is_taken (Err number) = false
is_taken (Ok loaded.Table) = false

-- a line that was taken: what it says, its spelling, the record that it makes, and the rules that it keeps
pub record Took {A : Type 0} (line words : List ℕ) (spell : A → List ℕ) (make : A → Table) (keeps : A → Type 0) (p : ℕ) (rest : List ℕ) : Type 0 where
  pub what : A
  pub line_is : line ≡ hex_line (spell what)
  pub fresh : Fresh (make what)
  pub kept : keeps what
  pub next_is : loaded_by line words ≡ (Ok loaded.Taken, under p (make what) rest)

-- the same, with the lines behind it
pub record Gone {A : Type 0} (line : List ℕ) (lines : List (List ℕ)) (spell : A → List ℕ) (make : A → Table) (p : ℕ) (rest after : List ℕ) : Type 0 where
  pub what : A
  pub line_is : line ≡ hex_line (spell what)
  pub fresh : Fresh (make what)
  pub more : Loads lines (under p (make what) rest) after

-- a line of a form that loads is not refused
pub goes_on : {A : Type 0} {keeps : A → Type 0} (line : List ℕ) (lines : List (List ℕ)) (words : List ℕ) (spell : A → List ℕ) (make : A → Table) (p : ℕ) (rest after : List ℕ)
    → (refused (loaded_by line words).0 ≡ true) ⊎ Took line words spell make keeps p rest → Loads (line ∷ lines) words after → Gone line lines spell make p rest after
goes_on line [] words spell make p rest after (inl e) h = absurd (false≢true (sym (ap (λ (o : Result Loaded ℕ × List ℕ). refused o.0) h) ∙ e))
goes_on line (second ∷ lines) words spell make p rest after (inl e) h = absurd (false≢true (sym (ap refused h.0) ∙ e))
goes_on line [] words spell make p rest after (inr T) h = absurd (false≢true (ap (λ (o : Result Loaded ℕ × List ℕ). is_taken o.0) (sym h ∙ T.next_is)))
goes_on line (second ∷ lines) words spell make p rest after (inr T) h = record {
  what = T.what;
  line_is = T.line_is;
  fresh = T.fresh;
  more = subst (λ (w : List ℕ). Loads (second ∷ lines) w after) (ap (λ (o : Result Loaded ℕ × List ℕ). o.1) T.next_is) h.1;
}

-- a part of a fresh record changed
each_set : {A : Type 0} (P : A → Type 0) (l : List A) (k : ℕ) (x : A) → P x → Each P l → Each P (set l k x)
each_set P [] k x h e = tt
each_set P (y ∷ l) zero x h e = (h, e.1)
each_set P (y ∷ l) (suc k) x h e = (e.0, each_set P l k x h e.1)

each_behind : {A : Type 0} (P : A → Type 0) (l : List A) (x : A) → P x → Each P l → Each P (l ++ (x ∷ []))
each_behind P [] x h e = (h, tt)
each_behind P (y ∷ l) x h e = (e.0, each_behind P l x h e.1)

module _ (t : Table) (F : Fresh t) where
  pub fresh_clock : (v : Vector) → length v ≡ t.header.size → Fresh (with_clock t v)
  fresh_clock v e = record {
    well = record {
      fit = record { few_kinds = F.well.fit.few_kinds; few_totals = F.well.fit.few_totals; clock_long = e; last_wide = F.well.fit.last_wide; last_many = F.well.fit.last_many };
      one = F.well.one;
      range = F.well.range;
      shape = F.well.shape;
    };
    sized = record { some = F.sized.some; few = F.sized.few; small = F.sized.small; within = F.sized.within };
    ranged = F.ranged;
  }

  pub fresh_last : (k : ℕ) (v : Vector) → length v ≡ t.header.size → Fresh (with_last t (set t.last k v))
  fresh_last k v e = record {
    well = record {
      fit = record { few_kinds = F.well.fit.few_kinds; few_totals = F.well.fit.few_totals; clock_long = F.well.fit.clock_long; last_wide = wide_set t.header.size t.last k v e F.well.fit.last_wide; last_many = length-set t.last k v ∙ F.well.fit.last_many };
      one = F.well.one;
      range = F.well.range;
      shape = F.well.shape;
    };
    sized = record { some = F.sized.some; few = F.sized.few; small = F.sized.small; within = F.sized.within };
    ranged = F.ranged;
  }

  pub fresh_total : (o : ℕ) (z : ℤ) → InRange z → Fresh (with_totals t (set t.totals o z))
  fresh_total o z r = record {
    well = record {
      fit = record { few_kinds = F.well.fit.few_kinds; few_totals = omega (arith, length-set t.totals o z, F.well.fit.few_totals); clock_long = F.well.fit.clock_long; last_wide = F.well.fit.last_wide; last_many = F.well.fit.last_many };
      one = length-set t.totals o z ∙ F.well.one;
      range = each_set InRange t.totals o z r F.well.range;
      shape = F.well.shape;
    };
    sized = record { some = F.sized.some; few = F.sized.few; small = F.sized.small; within = F.sized.within };
    ranged = F.ranged;
  }

  pub fresh_row : (r : Row) → Shaped t.header.size r → length t.rows < t.header.capacity → Fresh (with_rows t (t.rows ++ (r ∷ [])))
  fresh_row r s m = record {
    well = record {
      fit = record { few_kinds = F.well.fit.few_kinds; few_totals = F.well.fit.few_totals; clock_long = F.well.fit.clock_long; last_wide = F.well.fit.last_wide; last_many = F.well.fit.last_many };
      one = F.well.one;
      range = F.well.range;
      shape = each_behind (Shaped t.header.size) t.rows r s F.well.shape;
    };
    sized = record { some = F.sized.some; few = F.sized.few; small = F.sized.small; within = omega (arith, length-append t.rows (r ∷ [])) };
    ranged = F.ranged;
  }

-- two words say a total in range, and are its words
said_range : (n : ℕ) → n < two_word_limit → InRange (of_complement n)
unfolding of_complement
said_range n h = cases (ltb n 9223372036854775808)
    (λ e. rw e (ltb-true n 9223372036854775808 e))
    (λ e. rw e (omega (arith, ltb-false n 9223372036854775808 e)))

said_complement : (high low : ℕ) → high < word_limit → low < word_limit → complement (total_of_words (high ∷ low ∷ [])) ≡ high * word_limit + low
said_complement high low h l = code_read (high * word_limit + low) (omega arith)

module _ (t : Table) (F : Fresh t) (rest : List ℕ) (p : ℕ) (line : List ℕ) (none : length t.rows ≡ 0) where
  abbrev size : ℕ
  size = t.header.size

  abbrev words : List ℕ
  words = under p t rest

  abbrev bytes : List ℕ
  bytes = bytes_of line

  no_rows : eqb (length t.rows) 0 ≡ true
  no_rows = eq-eqb (length t.rows) 0 none

  -- `50`
  pub clock_back : next_after size t.header.own t.header.kinds p ≡ next.Clock → (refused (loaded_by line words).0 ≡ true) ⊎ Took line words clock_line (with_clock t) (λ (v : Vector). every (λ (entry : ℕ). ltb entry entry_limit) v ≡ true) (suc p) rest
  unfolding taken_as clock_taken waits clock_line is_clock clock_read spoilt
  clock_back c =
      let f = clock_read size bytes in
      let v : Vector = take size f.vector in
      let long : length v ≡ size = length-take-le size f.vector (omega (arith, clock_vector bytes size f refl, F.sized.few)) in
      cases (is_clock size bytes)
      (λ ok. inr (record {
        what = v;
        line_is = line_said clock [] v line (clock_only_spelling bytes (decoded_bytes line) size ok);
        fresh = fresh_clock t F v long;
        kept = vector_small clock size bytes (decoded_bytes line) ok;
        next_is = clock_step t F rest p line none c v long (ok, ap (λ (u : Vector). record { vector = u }) (vector_padded clock size bytes ok));
      }))
      (λ bad. inl (ap (λ (o : Result Loaded ℕ × List ℕ). refused o.0) (taken_by_lem t F rest p line next.Clock c no_rows) ∙ rw (size_is t F rest p, bad) refl))

  -- `51`
  pub last_back : (k : ℕ) → k < size → next_after size t.header.own t.header.kinds p ≡ next.Last (record { 0 = k }) → (refused (loaded_by line words).0 ≡ true) ⊎ Took line words (last_line k) (λ (v : Vector). with_last t (set t.last k v)) (λ (v : Vector). last_kept t.header.own t.clock k v ≡ true) (suc p) rest
  unfolding taken_as last_taken waits last_line is_last last_read spoilt words_of
  last_back k b c =
      let f = last_read size bytes in
      let v : Vector = take size f.vector in
      let long : length v ≡ size = length-take-le size f.vector (omega (arith, last_vector_lem bytes size f refl, F.sized.few)) in
      let kept = last_kept t.header.own t.clock k v in
      cases (is_last size bytes && (eqb f.station k && kept))
      (λ yes. let ok : is_last size bytes ≡ true = and_left (is_last size bytes) (eqb f.station k && kept) yes in
      let both = and_right (is_last size bytes) (eqb f.station k && kept) yes in
      let same : f.station ≡ k = eqb-true f.station k (and_left (eqb f.station k) kept both) in
      inr (record {
        what = v;
        line_is = line_said last_vector (f.station ∷ []) v line (last_only_spelling bytes (decoded_bytes line) size ok) ∙ ap (λ (i : ℕ). hex_line (line_of last_vector (i ∷ []) v)) same;
        fresh = fresh_last t F k v long;
        kept = and_right (eqb f.station k) kept both;
        next_is = last_step t F rest p line none k b c v long (and_right (eqb f.station k) kept both) (ok, ap₂ (λ (i : ℕ) (u : Vector). record { station = i; vector = u }) same (vector_padded last_vector size bytes ok));
      }))
      (λ bad. inl (ap (λ (o : Result Loaded ℕ × List ℕ). refused o.0) (taken_by_lem t F rest p line (next.Last (record { 0 = k })) c no_rows) ∙ rw (size_is t F rest p, own_is t F rest p, clock_is t F rest p, bad) refl))

  -- `52`
  pub total_back : (o : ℕ) → o < length t.header.kinds → next_after size t.header.own t.header.kinds p ≡ next.Total o → (refused (loaded_by line words).0 ≡ true) ⊎ Took line words (total_line o) (λ (z : ℤ). with_totals t (set t.totals o z)) (λ (z : ℤ). total_kept (total_bound t.clock) (get_or t.header.kinds o 0) z ≡ true) (suc p) rest
  unfolding taken_as total_taken waits total_line is_total total_read spoilt
  total_back o b c =
      let f = total_read bytes in
      let z = total_of_words (f.high ∷ f.low ∷ []) in
      let high : f.high < word_limit = high_small bytes (decoded_bytes line) in
      let low : f.low < word_limit = low_small bytes (decoded_bytes line) in
      let code : complement z ≡ f.high * word_limit + f.low = said_complement f.high f.low high low in
      let high_is : complement z / word_limit ≡ f.high = rw code (high_of f.high f.low low) in
      let low_is_lem : complement z % word_limit ≡ f.low = rw code (low_of f.high f.low low) in
      let range : InRange z = said_range (f.high * word_limit + f.low) (omega arith) in
      let kept = total_kept (total_bound t.clock) (get_or t.header.kinds o 0) z in
      cases (is_total bytes && (eqb f.object o && kept))
      (λ yes. let ok : is_total bytes ≡ true = and_left (is_total bytes) (eqb f.object o && kept) yes in
      let both = and_right (is_total bytes) (eqb f.object o && kept) yes in
      let same : f.object ≡ o = eqb-true f.object o (and_left (eqb f.object o) kept both) in
      inr (record {
        what = z;
        line_is = line_said total (f.object ∷ f.high ∷ f.low ∷ []) [] line (total_only_spelling bytes (decoded_bytes line) ok) ∙ rw (same, high_is, low_is_lem) refl;
        fresh = fresh_total t F o z range;
        kept = and_right (eqb f.object o) kept both;
        next_is = total_step t F rest p line none o b c z range (and_right (eqb f.object o) kept both) (ok, rw (same, high_is, low_is_lem) refl);
      }))
      (λ bad. inl (ap (λ (o : Result Loaded ℕ × List ℕ). refused o.0) (taken_by_lem t F rest p line (next.Total o) c no_rows) ∙ rw (kinds_are t F rest p, clock_is t F rest p, bad) refl))
