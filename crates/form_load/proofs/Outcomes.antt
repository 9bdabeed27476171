-- What a line and the end of a form can do to any words, forged ones included.
use Rattle.std.specs.Prelude.{Result, Ok, Err}
use mathlib.Core.Path.{◌≡◌, refl, sym, ap, ◌∙◌, subst}
use mathlib.Core.Bool.{Bool, true, false, ◌&&◌}
use mathlib.Core.List.{List, [], ◌∷◌}
use Prim.Native.Nat.{ℕ, ◌+◌, ◌*◌}
use lib.Dec.{eqb, leb}
use lib.ListN.{get_or, length, replicate, set, take}
use Rattle.meaning.specs.Table.{total_bound}
use Rattle.meaning.specs.Calls as meaning
use Rattle.meaning.proofs.Tests.{cases, clash, fails}
use Rattle.words_layout.specs.Layout.{count_in, holds_table, last_at, own_in, size_in, space_for, total_of_words, clock_at, totals_at}
use Rattle.table_rules.specs.TableTests.{clock_in, kinds_in}
use Rattle.table_rules.proofs.Holding.{table_headed}
use Rattle.table_rules_clock.specs.ClockTests.{last_kept, total_kept}
use Rattle.line_hex.specs.Choice.{pick}
use Rattle.line_read.specs.Named.{is_opening}
use Rattle.line_read.specs.declared.Row.{Row}
use Rattle.line_read.specs.SavedNamed.{clock_read, closing_read, is_clock, is_closing, is_last, is_row, is_total, last_read, row_read, total_read}
use Rattle.line_decode.specs.Decoding.{bytes_of, type_of}
use Rattle.line_decode.specs.LineKinds.{kind_of}
use Rattle.call_checked.specs.Called.{header_read, opened_as, opened_by}
use Rattle.form_row.specs.Joining.{joined, joins, row_said}
use Rattle.form_take.specs.declared.Loaded.{Loaded}
use Rattle.form_take.specs.declared.Loaded.TheVariants as loaded
use Rattle.form_take.specs.Taking.{clock_taken, closed, finished, last_taken, row_or_closing, row_taken, spoilt, took, total_taken}
use Rattle.line_hex.proofs.Picking.{passed, picked}
use Rattle.form_load.specs.declared.Next.{Next}
use Rattle.form_load.specs.declared.Next.TheVariants as next
use Rattle.form_load.specs.Loading.{begun, first_taken, load_ended, loaded_by, next_in, taken_as, under_load, waits}
use Rattle.form_load.proofs.Loads.{first_cases}
use Rattle.form_load.proofs.Nexts.{load_waits_lem, next_none}

-- under load: a wrong line gets 15 and leaves zeros, a table is one by the rules
abbrev Kept : List ℕ → Result Loaded ℕ × List ℕ → Type 0
Kept s (Err number, x) = (number ≡ 15) × (x ≡ replicate (length s) 0)
Kept s (Ok loaded.Taken, x) = Unit {0}
Kept s (Ok loaded.Table, x) = holds_table x ≡ true

module _ (s : List ℕ) where
  either : (b : Bool) (p q : Result Loaded ℕ × List ℕ) → Kept s p → Kept s q → Kept s (pick b p q)
  either true p q f g = f
  either false p q f g = g

  spoilt_kept : Kept s (spoilt s)
  unfolding spoilt
  spoilt_kept = (refl, refl)

  took_kept : (at : ℕ) (new : List ℕ) → Kept s (took s at new)
  unfolding took
  took_kept at new = tt

  joined_kept : (row : List ℕ) → Kept s (Ok loaded.Taken, joined s row)
  joined_kept row = tt

  finished_kept : Kept s (finished s)
  unfolding finished
  finished_kept = cases (holds_table (set s 6 0))
      (λ t. subst (Kept s) (sym (picked (holds_table (set s 6 0)) (Ok loaded.Table, set s 6 0) (spoilt s) t)) t)
      (λ t. subst (Kept s) (sym (passed (holds_table (set s 6 0)) (Ok loaded.Table, set s 6 0) (spoilt s) t)) spoilt_kept)

  took_or_spoilt : (b : Bool) (at : ℕ) (new : List ℕ) → Kept s (pick b (took s at new) (spoilt s))
  took_or_spoilt b at new = either b (took s at new) (spoilt s) (took_kept at new) spoilt_kept

  row_kept_lem : (f : Row) → Kept s (row_taken f s)
  unfolding row_taken
  row_kept_lem f = either (leb f.settled 1 && joins s (row_said (size_in s) f)) (Ok loaded.Taken, joined s (row_said (size_in s) f)) (spoilt s) (joined_kept (row_said (size_in s) f)) spoilt_kept

  closed_kept : (bytes : List ℕ) → Kept s (closed bytes s)
  unfolding closed
  closed_kept bytes = either (is_closing bytes && eqb (closing_read bytes).rows (count_in s)) (finished s) (spoilt s) finished_kept spoilt_kept

  line_kept : (n : Next) (bytes : List ℕ) → Kept s (taken_as n bytes s)
  unfolding taken_as clock_taken last_taken total_taken row_or_closing
  line_kept next.Clock bytes =
      let f = clock_read (size_in s) bytes in
      took_or_spoilt (is_clock (size_in s) bytes) clock_at (take (size_in s) f.vector)
  line_kept (next.Last station) bytes =
      let f = last_read (size_in s) bytes in
      let vector = take (size_in s) f.vector in
      took_or_spoilt (is_last (size_in s) bytes && (eqb f.station station.0 && last_kept (own_in s) (clock_in s) station.0 vector)) (last_at (size_in s) + station.0 * size_in s) vector
  line_kept (next.Total object) bytes =
      let f = total_read bytes in
      let total : List ℕ = f.high ∷ f.low ∷ [] in
      took_or_spoilt (is_total bytes && (eqb f.object object && total_kept (total_bound (clock_in s)) (get_or (kinds_in s) object 0) (total_of_words total))) (totals_at + object * 2) total
  line_kept next.Rows bytes =
      let f = row_read (size_in s) bytes in
      either (is_row (size_in s) bytes) (row_taken f s) (closed bytes s) (row_kept_lem f) (closed_kept bytes)
  line_kept next.Nothing bytes = spoilt_kept

-- no load under way: a refusal changes nothing, and no table comes
abbrev Left : List ℕ → Result Loaded ℕ × List ℕ → Type 0
Left s (Err number, x) = x ≡ s
Left s (Ok loaded.Taken, x) = Unit {0}
Left s (Ok loaded.Table, x) = ⊥

module _ (line s : List ℕ) where
  opened_left : (o : meaning.Opening) → Left s (begun (opened_as s o))
  unfolding begun opened_as
  opened_left (meaning.Opening.refused number) = refl
  opened_left (meaning.Opening.fresh table) = tt

  begun_left : Left s (begun (opened_by line s))
  unfolding opened_by begun
  begun_left = by (is_opening (bytes_of line)) (opened_as s (meaning.open_table (length s) (space_for (header_read (bytes_of line)).size (header_read (bytes_of line)).capacity) (header_read (bytes_of line))))
      (opened_left (meaning.open_table (length s) (space_for (header_read (bytes_of line)).size (header_read (bytes_of line)).capacity) (header_read (bytes_of line))))
    where
      by : (b : Bool) (p : Result (Unit {0}) ℕ × List ℕ) → Left s (begun p) → Left s (begun (pick b p (Err 1, s)))
      by true p h = h
      by false p h = refl

  first_left : Left s (first_taken line s)
  unfolding first_taken
  first_left = first_cases line s (λ _ taken. Left s taken) begun_left refl (λ _. refl) (kind_of (type_of line))

  under_kept : under_load s ≡ true → Kept s (loaded_by line s)
  unfolding loaded_by
  under_kept u = subst (Kept s) (sym (picked (under_load s) (taken_as (next_in s) (bytes_of line) s) (first_taken line s) u)) (line_kept s (next_in s) (bytes_of line))

  before_left : under_load s ≡ false → Left s (loaded_by line s)
  unfolding loaded_by
  before_left u = subst (Left s) (sym (passed (under_load s) (taken_as (next_in s) (bytes_of line) s) (first_taken line s) u)) first_left

  -- "In a load every wrong line ... gets 15 ... and zeroes the table space"
  pub wrong_line_zeroes : (number : ℕ) (x : List ℕ) → under_load s ≡ true → loaded_by line s ≡ (Err number, x) → (number ≡ 15) × (x ≡ replicate (length s) 0)
  wrong_line_zeroes number x u e = subst (Kept s) e (under_kept u)

  -- "if that gets 1 or 13, or a saved line comes when no load is under way (15), nothing is written"
  pub not_begun_changes_nothing : (number : ℕ) (x : List ℕ) → under_load s ≡ false → loaded_by line s ≡ (Err number, x) → x ≡ s
  not_begun_changes_nothing number x u e = subst (Left s) e (before_left u)

  -- whatever the words were, what a closing line makes of them is a table by the rules
  pub closes_to_table : (x : List ℕ) → loaded_by line s ≡ (Ok loaded.Table, x) → holds_table x ≡ true
  closes_to_table x e = cases (under_load s) (λ u. subst (Kept s) e (under_kept u)) (λ u. absurd (subst (Left s) e (before_left u)))

-- "A space under load is no table until its closing line"
pub under_load_no_table : (s : List ℕ) → under_load s ≡ true → holds_table s ≡ false
unfolding waits
under_load_no_table s u = fails (holds_table s) (λ h. clash (waits (next_in s) (count_in s)) (load_waits_lem s u) (sym (ap (λ (n : Next). waits n (count_in s)) (next_none s (table_headed s h).idle))))

-- "so does a form that ends too early"
pub half_ends_in_zeros : (s : List ℕ) → under_load s ≡ true → load_ended s ≡ (Err 15, replicate (length s) 0)
unfolding load_ended spoilt
half_ends_in_zeros s u =
    passed (holds_table s) (Ok loaded.Table, s) (pick (under_load s) (spoilt s) (Err 15, s)) (under_load_no_table s u)
    ∙ picked (under_load s) (spoilt s) (Err 15, s) u
