-- A line and the end of a form, way by way.
use Rattle.std.specs.Prelude.{Result, Ok, Err}
use mathlib.Core.Path.{◌≡◌, refl, sym, ap, ◌∙◌, subst}
use mathlib.Core.Bool.{Bool, true, false}
use mathlib.Core.List.{List, ◌++◌}
use Prim.Native.Nat.{ℕ, ◌<◌, ◌-◌}
use native.Mathlib.Omega.{arith}
use lib.ListN.{drop, length, set, take}
use Rattle.meaning.specs.Table.{Table}
use Rattle.meaning.specs.Calls as meaning
use Rattle.words_layout.specs.Layout.{holds_table, space_for, words_of}
use Rattle.line_hex.specs.Choice.{pick}
use Rattle.words_tags.specs.declared.Station.{Station}
use Rattle.line_read.specs.Named.{is_opening}
use Rattle.line_decode.specs.Decoding.{bytes_of, decoded_into, type_of}
use Rattle.line_decode.specs.LineKinds.{kind_of}
use Rattle.line_decode.specs.declared.LineKind.{LineKind}
use Rattle.line_decode.specs.declared.LineKind.TheVariants as kind
use Rattle.line_decode.proofs.Decoding.{heard_front}
use Rattle.call_checked.specs.Called.{header_read, opened_as, opened_by}
use Rattle.form_take.specs.declared.Loaded.{Loaded}
use Rattle.form_take.specs.declared.Loaded.TheVariants as loaded
use Rattle.form_take.specs.Taking.{clock_taken, last_taken, row_or_closing, spoilt, total_taken}
use Rattle.line_hex.proofs.Picking.{passed, picked}
use Rattle.form_load.specs.declared.Next.{Next}
use Rattle.form_load.specs.declared.Next.TheVariants as next
use Rattle.form_load.specs.Loading.{begun, first_as, first_taken, load_ended, loaded_by, next_in, taken_as, under_load}
use Rattle.line_read.specs.Types.{longest}

-- by what comes next
module _ (s bytes : List ℕ) (n : Next) (e : n ≡ next_in s) (r : Result Loaded ℕ) (x : List ℕ) where
  as_next : (k : Next) → n ≡ k → (r, x) ≡ taken_as k bytes s → (r, x) ≡ taken_as (next_in s) bytes s
  as_next k h g = g ∙ ap (λ (q : Next). taken_as q bytes s) (sym h ∙ e)

  pub takes_clock : n ≡ next.Clock → (r, x) ≡ clock_taken bytes s → (r, x) ≡ taken_as (next_in s) bytes s
  unfolding taken_as
  takes_clock h g = as_next next.Clock h g

  pub takes_last : (station : Station) → n ≡ next.Last station → (r, x) ≡ last_taken station.0 bytes s → (r, x) ≡ taken_as (next_in s) bytes s
  unfolding taken_as
  takes_last station h g = as_next (next.Last station) h g

  pub takes_total : (object : ℕ) → n ≡ next.Total object → (r, x) ≡ total_taken object bytes s → (r, x) ≡ taken_as (next_in s) bytes s
  unfolding taken_as
  takes_total object h g = as_next (next.Total object) h g

  pub takes_row : n ≡ next.Rows → (r, x) ≡ row_or_closing bytes s → (r, x) ≡ taken_as (next_in s) bytes s
  unfolding taken_as
  takes_row h g = as_next next.Rows h g

  pub takes_nothing : n ≡ next.Nothing → (r, x) ≡ spoilt s → (r, x) ≡ taken_as (next_in s) bytes s
  unfolding taken_as
  takes_nothing h g = as_next next.Nothing h g

pub takes_heard : (s line buffer : List ℕ) → length buffer ≡ longest → (n : ℕ) (y : List ℕ) → (n, y) ≡ decoded_into line buffer → (r : Result Loaded ℕ) (x : List ℕ) → (r, x) ≡ taken_as (next_in s) (take (n - 0) y) s → (r, x) ≡ taken_as (next_in s) (bytes_of line) s
takes_heard s line buffer long n y h r x g = g ∙ ap (λ (b : List ℕ). taken_as (next_in s) b s) (heard_front line buffer long n y h)

-- an opening lays a head of seven words
abbrev Headed : Result (Unit {0}) ℕ × List ℕ → Type 0
Headed (Err number, l) = Unit {0}
Headed (Ok u, l) = 6 < length l

fresh_headed : (table : Table) (rest : List ℕ) → 6 < length (words_of table ++ rest)
unfolding words_of
fresh_headed table rest = omega arith

opened_headed : (s : List ℕ) (o : meaning.Opening) → Headed (opened_as s o)
unfolding opened_as
opened_headed s (meaning.Opening.refused number) = tt
opened_headed s (meaning.Opening.fresh table) = fresh_headed table (drop (space_for table.header.size table.header.capacity) s)

begins_headed : (line s : List ℕ) → Headed (opened_by line s)
unfolding opened_by
begins_headed line s = by (is_opening (bytes_of line)) (opened_as s (meaning.open_table (length s) (space_for (header_read (bytes_of line)).size (header_read (bytes_of line)).capacity) (header_read (bytes_of line)))) (opened_headed s (meaning.open_table (length s) (space_for (header_read (bytes_of line)).size (header_read (bytes_of line)).capacity) (header_read (bytes_of line))))
  where
    by : (b : Bool) (p : Result (Unit {0}) ℕ × List ℕ) → Headed p → Headed (pick b p (Err 1, s))
    by true p h = h
    by false p h = tt

module _ (line s : List ℕ) (o : Result (Unit {0}) ℕ) (x : List ℕ) (e : (o, x) ≡ opened_by line s) where
  pub begin_room : o ≡ Ok tt → 6 < length x
  begin_room h = subst Headed (sym e ∙ ap (λ (q : Result (Unit {0}) ℕ). (q, x)) h) (begins_headed line s)

  pub begin_refused : (number : ℕ) → o ≡ Err number → (Err number, x) ≡ begun (opened_by line s)
  unfolding begun
  begin_refused number h = sym (ap (λ (q : Result (Unit {0}) ℕ). begun (q, x)) h) ∙ ap begun e

  pub begin_fresh : o ≡ Ok tt → (Ok loaded.Taken, set x 6 1) ≡ begun (opened_by line s)
  unfolding begun
  begin_fresh h = sym (ap (λ (q : Result (Unit {0}) ℕ). begun (q, x)) h) ∙ ap begun e

-- a line when no load is under way: an opening, a saved line, or another
module _ (line s : List ℕ) where
  pub first_cases : (C : LineKind → Result Loaded ℕ × List ℕ → Type 0) → C kind.Opening (begun (opened_by line s)) → C kind.Saved (Err 15, s) → ((k : LineKind) → C k (Err 1, s)) → (k : LineKind) → C k (first_as k line s)
  unfolding first_as
  first_cases C o v n kind.Opening = o
  first_cases C o v n kind.Operation = n kind.Operation
  first_cases C o v n kind.Issue = n kind.Issue
  first_cases C o v n kind.Settling = n kind.Settling
  first_cases C o v n kind.Question = n kind.Question
  first_cases C o v n kind.Printing = n kind.Printing
  first_cases C o v n kind.Saved = v
  first_cases C o v n kind.Unknown = n kind.Unknown

  module _ (k : LineKind) (e : k ≡ kind_of (type_of line)) where
    first_as_lem : (known : LineKind) → k ≡ known → first_as known line s ≡ first_taken line s
    unfolding first_taken
    first_as_lem known z = ap (λ (q : LineKind). first_as q line s) (sym z ∙ e)

    pub first_opening : k ≡ kind.Opening → (r : Result Loaded ℕ) (x : List ℕ) → (r, x) ≡ begun (opened_by line s) → (r, x) ≡ first_taken line s
    unfolding first_as
    first_opening z r x g = g ∙ first_as_lem kind.Opening z

    pub first_saved : k ≡ kind.Saved → (Err 15, s) ≡ first_taken line s
    unfolding first_as
    first_saved z = first_as_lem kind.Saved z

    pub first_other : (k ≡ kind.Opening → ⊥) → (k ≡ kind.Saved → ⊥) → (Err 1, s) ≡ first_taken line s
    first_other o v = first_cases (λ q taken. (q ≡ kind.Opening → ⊥) → (q ≡ kind.Saved → ⊥) → (Err 1, s) ≡ taken) (λ o _. absurd (o refl)) (λ _ v. absurd (v refl)) (λ q _ _. refl) k o v ∙ first_as_lem k refl

-- the next line, and the end
module _ (s : List ℕ) (u : Bool) (e : u ≡ under_load s) where
  pub is_under : u ≡ true → under_load s ≡ true
  is_under h = sym e ∙ h

  module _ (line : List ℕ) (r : Result Loaded ℕ) (x : List ℕ) where
    pub loads_next : u ≡ true → (r, x) ≡ taken_as (next_in s) (bytes_of line) s → (r, x) ≡ loaded_by line s
    unfolding loaded_by
    loads_next h g = g ∙ sym (picked (under_load s) (taken_as (next_in s) (bytes_of line) s) (first_taken line s) (sym e ∙ h))

    pub loads_first : u ≡ false → (r, x) ≡ first_taken line s → (r, x) ≡ loaded_by line s
    unfolding loaded_by
    loads_first h g = g ∙ sym (passed (under_load s) (taken_as (next_in s) (bytes_of line) s) (first_taken line s) (sym e ∙ h))

module _ (s : List ℕ) (t : Bool) (q : t ≡ holds_table s) where
  abbrev not_table : Result Loaded ℕ × List ℕ
  not_table = pick (under_load s) (spoilt s) (Err 15, s)

  pub ends_table : t ≡ true → (Ok loaded.Table, s) ≡ load_ended s
  unfolding load_ended
  ends_table h = sym (picked (holds_table s) (Ok loaded.Table, s) not_table (sym q ∙ h))

  module _ (f : t ≡ false) (u : Bool) (e : u ≡ under_load s) where
    ends_other : not_table ≡ load_ended s
    unfolding load_ended
    ends_other = sym (passed (holds_table s) (Ok loaded.Table, s) not_table (sym q ∙ f))

    pub ends_half : u ≡ true → (r : Result Loaded ℕ) (x : List ℕ) → (r, x) ≡ spoilt s → (r, x) ≡ load_ended s
    ends_half h r x g = g ∙ sym (picked (under_load s) (spoilt s) (Err 15, s) (sym e ∙ h)) ∙ ends_other

    pub ends_nothing : u ≡ false → (Err 15, s) ≡ load_ended s
    ends_nothing h = sym (passed (under_load s) (spoilt s) (Err 15, s) (sym e ∙ h)) ∙ ends_other
