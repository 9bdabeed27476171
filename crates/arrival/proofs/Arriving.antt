-- One change after another makes the table after the arrival.
use mathlib.Core.Path.{◌≡◌, refl, sym, ap, ◌∙◌}
use mathlib.Core.Bool.{Bool, true, false, not}
use mathlib.Core.List.{List, [], ◌∷◌}
use Prim.Native.Nat.{ℕ, suc, ◌+◌, ◌≤◌, ◌<◌}
use native.Mathlib.Numerals.{add-one}
use native.Mathlib.Omega.{arith}
use borrow.Author.Tests.{leb-true}
use mir.Val.{Fits}
use mir.Syntax.{w32}
use lib.Dec.{eqb}
use lib.IntN.{ℤ}
use lib.ListN.{length, get_or, drop, length-set, length-drop}
use lib.Seq.{length-take-le}
use Rattle.meaning.specs.Tests.{those}
use Rattle.meaning.specs.Order.{Vector, raised}
use Rattle.meaning.specs.Operations.{is_counter}
use Rattle.meaning.specs.Rows.{Row, settled_row, unsettled_row, insert_row, lower_row}
use Rattle.meaning.specs.Arrival.{rows_after, totals_after, amount_of}
use Rattle.meaning.specs.Table.{Table, kind_in}
use Rattle.meaning.specs.Calls.{with_rows, after_arrival}
use Rattle.meaning.proofs.Tests.{cases}
use Rattle.words_layout.specs.Layout.{Laid, table_of, rewritten, words_of, capacity_in, objects_in, with_clock, with_totals}
use Rattle.words_layout.proofs.Pieces.{Each, each_those}
use Rattle.words_layout.proofs.RowWords.{Shaped}
use Rattle.words_layout.proofs.Whole.{those_short}
use Rattle.words_layout.proofs.Reading.{Well}
use Rattle.words_layout.proofs.Changing.{Sized, well, sized, laid_rewritten, reread, and_then}
use Rattle.table_change.specs.TotalChange.{change}
use Rattle.table_drop.specs.Arriving.{operation_of, is_kept, goes, puts, row_for}
use Rattle.table_drop.specs.declared.Arrival.{Arrival}
use Rattle.table_change.specs.Changes.{Opened, rows_left, totals_changed, EntryBelowLimit}
use Rattle.table_change.proofs.Changing.{opened}
use Rattle.arrival.specs.Arrives.{Arrives, has_room, totals_with}
use Rattle.arrival.proofs.RowsAfter.{after_put, after_none, count_put, count_none}

-- a table with one part changed keeps its shape
pub well_rows : (t : Table) (rows : List Row) → Well t → Each (Shaped t.header.size) rows → Well (with_rows t rows)
well_rows t rows W h = record { fit = record { few_kinds = W.fit.few_kinds; few_totals = W.fit.few_totals; clock_long = W.fit.clock_long; last_wide = W.fit.last_wide; last_many = W.fit.last_many }; one = W.one; range = W.range; shape = h }

pub well_clock : (t : Table) (clock : Vector) → Well t → length clock ≡ length t.clock → Well (with_clock t clock)
well_clock t clock W e = record { fit = record { few_kinds = W.fit.few_kinds; few_totals = W.fit.few_totals; clock_long = e ∙ W.fit.clock_long; last_wide = W.fit.last_wide; last_many = W.fit.last_many }; one = W.one; range = W.range; shape = W.shape }

each_insert : (P : Row → Type 0) (new : Row) (rows : List Row) → P new → Each P rows → Each P (insert_row new rows)
each_insert P new [] p h = (p, tt)
each_insert P new (row ∷ rows) p h = cases (lower_row new row) (λ q. rw q (p, h)) (λ q. rw q (h.0, each_insert P new rows p h.1))

row_shaped : (n kind : ℕ) (a : Arrival) (v : Vector) → length v ≡ n → Shaped n (row_for kind (operation_of a v))
unfolding row_for
row_shaped n kind a v e = cases (is_kept kind) (λ q. rw q (record { long = refl })) (λ q. rw q (record { long = e }))

-- what was rewritten is open, with its numbers in hand
pub opened_again : (s s₁ : List ℕ) (t : Table) (n count : ℕ) → Well t → Sized t → s₁ ≡ rewritten s t → n ≡ t.header.size → count ≡ length t.rows → Opened s₁ n count
unfolding rewritten words_of
opened_again s s₁ t n count W Z e en ec = rw e (opened (rewritten s t) n count (laid_rewritten s t W Z) en ec)

-- what was rewritten spells the table
pub spells : (s s₁ : List ℕ) (t : Table) → Well t → s₁ ≡ rewritten s t → table_of s₁ ≡ t
spells s s₁ t W e = ap table_of e ∙ reread s t W

-- the row that the arrival's kind keeps of it
module _ (s s₁ : List ℕ) (a : Arrival) (v : Vector) (r : Bool) (e : r ≡ is_kept a.kind) where
  pub kept_settled : r ≡ true → s₁ ≡ rewritten s (with_rows (table_of s) (insert_row (settled_row (operation_of a [])) (table_of s).rows)) → s₁ ≡ rewritten s (with_rows (table_of s) (insert_row (row_for a.kind (operation_of a v)) (table_of s).rows))
  unfolding row_for
  kept_settled t f = rw (sym e ∙ t) f

  pub kept_unsettled : r ≡ false → s₁ ≡ rewritten s (with_rows (table_of s) (insert_row (unsettled_row (operation_of a v)) (table_of s).rows)) → s₁ ≡ rewritten s (with_rows (table_of s) (insert_row (row_for a.kind (operation_of a v)) (table_of s).rows))
  unfolding row_for
  kept_unsettled t f = rw (sym e ∙ t) f

-- the rows that stay, then the arrival's own
module _ (s s₁ : List ℕ) (n count : ℕ) (a : Arrival) (v : Vector) (O : Opened s n count) (long : length v ≡ n) (room : has_room a v (table_of s) ≡ true)
    (left : ℕ) (el : left ≡ length (rows_left a v (table_of s))) (e : s₁ ≡ rewritten s (with_rows (table_of s) (rows_left a v (table_of s)))) where
  abbrev before : Table
  before = table_of s

  abbrev dropped : Table
  dropped = with_rows before (rows_left a v before)

  abbrev after : List Row
  after = rows_after a.kind (operation_of a v) before.rows

  size_is : n ≡ before.header.size
  unfolding table_of
  size_is = O.size_is

  dropped_well : Well dropped
  unfolding rows_left
  dropped_well = well_rows before (rows_left a v before) (well s O.laid) (each_those (Shaped before.header.size) (λ (row : Row). not (goes a.kind (operation_of a v) row)) before.rows (well s O.laid).shape)

  fewer : length (rows_left a v before) ≤ length before.rows
  unfolding rows_left
  fewer = those_short (λ (row : Row). not (goes a.kind (operation_of a v) row)) before.rows

  dropped_sized : Sized dropped
  dropped_sized = let Z = sized s O.laid in record { some = Z.some; few = Z.few; small = Z.small; within = omega (arith, fewer, Z.within) }

  pub dropped_opened : Opened s₁ n left
  dropped_opened = opened_again s s₁ dropped n left dropped_well dropped_sized e size_is el

  table_is : table_of s₁ ≡ dropped
  table_is = spells s s₁ dropped dropped_well e

  capacity_is : capacity_in s₁ ≡ before.header.capacity
  unfolding table_of
  capacity_is = ap (λ (t : Table). t.header.capacity) table_is

  pub left_fits : Fits w32 (left + 1)
  left_fits = let small = dropped_opened.less in omega arith

  module _ (r : Bool) (f : r ≡ puts a.kind (operation_of a v) before.rows) where
    pub row_count : r ≡ true → left + 1 ≡ length after
    unfolding rows_left
    row_count t = rw (add-one left) (sym (count_put a.kind (operation_of a v) before.rows (sym f ∙ t) ∙ ap suc (sym el)))

    pub row_fits : r ≡ true → left < capacity_in s₁
    unfolding has_room
    row_fits t = let h = leb-true (length after) before.header.capacity room in let k = row_count t in let c = capacity_is in omega arith

    pub row_put : r ≡ true → (s₂ : List ℕ) → s₂ ≡ rewritten s₁ (with_rows (table_of s₁) (insert_row (row_for a.kind (operation_of a v)) (table_of s₁).rows)) → s₂ ≡ rewritten s (with_rows before after)
    unfolding rows_left
    row_put t s₂ g =
        and_then s s₁ s₂ dropped (λ (u : Table). with_rows u (insert_row (row_for a.kind (operation_of a v)) u.rows)) dropped_well dropped_sized e g
        ∙ ap (λ (rows : List Row). rewritten s (with_rows before rows)) (sym (after_put a.kind (operation_of a v) before.rows (sym f ∙ t)))

    pub none_count : r ≡ false → left ≡ length after
    unfolding rows_left
    none_count t = el ∙ sym (count_none a.kind (operation_of a v) before.rows (sym f ∙ t))

    pub none_put : r ≡ false → s₁ ≡ rewritten s (with_rows before after)
    unfolding rows_left
    none_put t = e ∙ ap (λ (rows : List Row). rewritten s (with_rows before rows)) (sym (after_none a.kind (operation_of a v) before.rows (sym f ∙ t)))

-- a counter's total, or none
module _ (s : List ℕ) (n count : ℕ) (a : Arrival) (O : Opened s n count) (r : Bool) (e : r ≡ is_counter a.kind) where
  pub total_none : r ≡ false → s ≡ rewritten s (with_totals (table_of s) (totals_with a (table_of s)))
  unfolding totals_with totals_after
  total_none f = rw (sym e ∙ f) O.laid.spelt

  module _ (t : r ≡ true) where
    totals_same : totals_changed a.object a.value.0 (eqb a.code 1) (table_of s) ≡ totals_with a (table_of s)
    unfolding totals_with totals_after totals_changed amount_of change
    totals_same = rw (sym e ∙ t) refl

    pub total_changed : (s₁ : List ℕ) (o : ℕ) → o ≡ a.object → s₁ ≡ rewritten s (with_totals (table_of s) (totals_changed o a.value.0 (eqb a.code 1) (table_of s))) → s₁ ≡ rewritten s (with_totals (table_of s) (totals_with a (table_of s)))
    total_changed s₁ o q f = f ∙ rw q (ap (λ (totals : List ℤ). rewritten s (with_totals (table_of s) totals)) totals_same)

-- the kinds are as many as the objects
pub kinds_count : (s : List ℕ) → Laid s → length (table_of s).header.kinds ≡ objects_in s
unfolding table_of
kinds_count s T = length-take-le (objects_in s) (drop 7 s) (simp length-drop (omega (arith, T.room, T.objects)))

-- the table after an arrival, its kind in hand
after_arrival_lem : (t : Table) (a : Arrival) (v : Vector) → a.kind ≡ kind_in t.header a.object →
    with_totals (with_clock (with_rows t (rows_after a.kind (operation_of a v) t.rows)) (raised t.clock a.sender.0)) (totals_after a.kind (operation_of a []) t.totals) ≡ after_arrival t (operation_of a v) t.last
unfolding after_arrival totals_after amount_of
after_arrival_lem t a v e = rw (sym e) refl

-- rows, then the clock, then the total
module _ (s s₁ : List ℕ) (n count : ℕ) (a : Arrival) (v : Vector) (A : Arrives s n count a v) (k : ℕ) (ek : k ≡ length (rows_after a.kind (operation_of a v) (table_of s).rows))
    (e : s₁ ≡ rewritten s (with_rows (table_of s) (rows_after a.kind (operation_of a v) (table_of s).rows))) where
  abbrev entry : Table
  entry = table_of s

  abbrev rows : List Row
  rows = rows_after a.kind (operation_of a v) entry.rows

  laid : Laid s
  laid = A.opened.laid

  entry_size : n ≡ entry.header.size
  unfolding table_of
  entry_size = A.opened.size_is

  rows_shaped : Each (Shaped entry.header.size) rows
  rows_shaped =
      let stay = each_those (Shaped entry.header.size) (λ (row : Row). not (goes a.kind (operation_of a v) row)) entry.rows (well s laid).shape in
      cases (puts a.kind (operation_of a v) entry.rows)
      (λ p. rw (after_put a.kind (operation_of a v) entry.rows p) (each_insert (Shaped entry.header.size) (row_for a.kind (operation_of a v)) (those (λ (row : Row). not (goes a.kind (operation_of a v) row)) entry.rows) (row_shaped entry.header.size a.kind a v (A.entries ∙ entry_size)) stay))
      (λ p. rw (after_none a.kind (operation_of a v) entry.rows p) stay)

  rows_well : Well (with_rows entry rows)
  rows_well = well_rows entry rows (well s laid) rows_shaped

  rows_sized : Sized (with_rows entry rows)
  unfolding has_room
  rows_sized = let Z = sized s laid in record { some = Z.some; few = Z.few; small = Z.small; within = leb-true (length rows) entry.header.capacity A.room }

  pub arrived_opened : Opened s₁ n k
  arrived_opened = opened_again s s₁ (with_rows entry rows) n k rows_well rows_sized e entry_size ek

  pub arrived_below : EntryBelowLimit (table_of s₁) a.sender.0
  arrived_below = rw (spells s s₁ (with_rows entry rows) rows_well e) A.rises

  module _ (s₂ : List ℕ) (f : s₂ ≡ rewritten s₁ (with_clock (table_of s₁) (raised (table_of s₁).clock a.sender.0))) where
    abbrev advanced : Table
    advanced = with_clock (with_rows entry rows) (raised entry.clock a.sender.0)

    clock_is : s₂ ≡ rewritten s advanced
    clock_is = and_then s s₁ s₂ (with_rows entry rows) (λ (t : Table). with_clock t (raised t.clock a.sender.0)) rows_well rows_sized e f

    advanced_well : Well advanced
    advanced_well = well_clock (with_rows entry rows) (raised entry.clock a.sender.0) rows_well (length-set entry.clock a.sender.0 (suc (get_or entry.clock a.sender.0 0)))

    advanced_sized : Sized advanced
    advanced_sized = let Z = rows_sized in record { some = Z.some; few = Z.few; small = Z.small; within = Z.within }

    pub advanced_opened : Opened s₂ n k
    advanced_opened = opened_again s s₂ advanced n k advanced_well advanced_sized clock_is entry_size ek

    pub advanced_declared : a.object < objects_in s₂
    advanced_declared = rw (sym (kinds_count s₂ advanced_opened.laid), spells s s₂ advanced advanced_well clock_is) A.declared

    pub arrived : (s₃ : List ℕ) → s₃ ≡ rewritten s₂ (with_totals (table_of s₂) (totals_with a (table_of s₂))) → s₃ ≡ rewritten s (after_arrival entry (operation_of a v) entry.last)
    unfolding totals_with
    arrived s₃ g =
        and_then s s₂ s₃ advanced (λ (t : Table). with_totals t (totals_with a t)) advanced_well advanced_sized clock_is g
        ∙ ap (rewritten s) (after_arrival_lem entry a v A.kind_is)
