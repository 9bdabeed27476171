-- A load goes on: a line that is taken, the opening line too, leaves a space under load.
use Rattle.std.specs.Prelude.{Result, Ok, Err}
use mathlib.Core.Path.{◌≡◌, refl, sym, ap, ◌∙◌, subst}
use mathlib.Core.Bool.{Bool, true, false, ◌&&◌, cond}
use mathlib.Core.List.{List, [], ◌∷◌, ◌++◌, append_assoc}
use Prim.Native.Nat.{ℕ, zero, suc, ◌+◌, ◌*◌, ◌≤◌, ◌<◌, ◌-◌}
use native.Mathlib.Omega.{arith}
use native.Mathlib.Nat.{suc-mul, mul-le-mul_right}
use borrow.Author.Tests.{eq-eqb, ne_eqb, eqb-true, eqb-false, le-leb, leb-true, leb-false}
use lib.Dec.{eqb, leb}
use lib.ListN.{get_or-append, drop, get_or, length, length-append, length-drop, length-replicate, length-set, replicate, set, take}
use lib.Seq.{drop_at, drop-set-lt, get_or-set_other, get_or-set_same, get_or-take, length-paste, length-take-le, paste, take-add, take-append-le, take-append_seam, take-take}
use Rattle.meaning.specs.Tests.{between, every}
use Rattle.meaning.specs.Operations.{is_counter}
use Rattle.meaning.proofs.Tests.{and_left, and_right, cases, rule_at_lem}
use Rattle.meaning.specs.Table.{Header, header_rules, in_range, opened, total_bound, greatest_size, most_objects}
use Rattle.meaning.specs.Refusals.{first_of, opening_refusals}
use Rattle.meaning.specs.Calls as meaning
use Rattle.meaning.proofs.TableFacts.{HeaderFacts, header_facts}
use Rattle.words_layout.specs.Layout.{capacity_in, count_in, holds_table, last_at, objects_in, own_in, size_in, space_for, table_mark, total_of_words, words_of, clock_at, totals_at}
use Rattle.table_opening.proofs.Laying.{fresh_words}
use Rattle.table_rules.specs.TableTests.{clock_in, kinds_in, sizes_kept}
use Rattle.table_rules.proofs.Heading.{Sizes, sizes_in, sizes_out}
use Rattle.table_rules_clock.specs.ClockTests.{last_kept, total_kept}
use Rattle.line_hex.specs.Choice.{pick}
use Rattle.line_read.specs.declared.Row.{Row}
use Rattle.line_read.specs.SavedNamed.{clock_read, closing_read, is_clock, is_closing, is_last, is_row, is_total, last_read, row_read, total_read}
use Rattle.line_read.proofs.Vectors.{clock_vector, last_vector_lem, row_vector}
use Rattle.line_read.specs.Named.{is_opening}
use Rattle.line_decode.specs.Decoding.{bytes_of, type_of}
use Rattle.line_decode.specs.LineKinds.{kind_of}
use Rattle.call_checked.specs.Called.{header_read, opened_as, opened_by}
use Rattle.call_checked.proofs.Opening.{open_ranges, open_room}
use Rattle.form_write.specs.Seeking.{counter_at}
use Rattle.form_row.specs.LoadHead.{LoadHead}
use Rattle.form_row.specs.Joining.{joined, joins, row_said}
use Rattle.form_row.proofs.Joining.{join_counts, join_room}
use Rattle.form_take.specs.declared.Loaded.{Loaded}
use Rattle.form_take.specs.declared.Loaded.TheVariants as loaded
use Rattle.form_take.specs.Taking.{clock_taken, closed, finished, last_taken, progress_in, row_or_closing, row_taken, spoilt, took, total_taken}
use Rattle.line_hex.proofs.Picking.{passed, picked}
use Rattle.form_load.specs.declared.Next.{Next}
use Rattle.form_load.specs.declared.Next.TheVariants as next
use Rattle.form_load.specs.Loading.{begun, behind_lasts, first_taken, head_loads, load_waits, loaded_by, next_after, next_in, taken_as, under_load, waits}
use Rattle.form_load.proofs.Loads.{first_cases}
use Rattle.form_load.proofs.Nexts.{load_head, load_object, load_station, load_waits_lem}

-- words in front of a place stay
module _ (s new : List ℕ) (at i a : ℕ) (far : totals_at ≤ at) (room : at + length new ≤ length s) where
  abbrev put : List ℕ
  put = paste s at new (length new)

  apart : put ≡ take at s ++ (take (length new) new ++ drop (at + length new) s)
  apart = append_assoc (take at s) (take (length new) new) (drop (at + length new) s)

  put_word : (k : ℕ) → k < totals_at → get_or put k 0 ≡ get_or s k 0
  put_word k h =
      let front : length (take at s) ≡ at = length-take-le at s (omega (arith, room)) in
      ap (λ (l : List ℕ). get_or l k 0) apart ∙ get_or-append (take at s) (take (length new) new ++ drop (at + length new) s) 0 k (omega (arith, front)) ∙ get_or-take at s k 0 (omega (arith, far))

  put_long : length put ≡ length s
  put_long = length-paste s at new (length new) room (omega arith)

  front_part : (l : List ℕ) (o : ℕ) → totals_at ≤ length l → o ≤ most_objects → drop 7 (take (7 + o) l) ≡ take o (drop 7 l)
  front_part l o h m =
      let seven : length (take 7 l) ≡ 7 = length-take-le 7 l (omega (arith, h)) in
      ap (drop 7) (take-add 7 o l) ∙ drop_at (take 7 l) (take o (drop 7 l)) 7 seven

  put_kinds : (o : ℕ) → o ≤ most_objects → take o (drop 7 put) ≡ take o (drop 7 s)
  put_kinds o m =
      let front : length (take at s) ≡ at = length-take-le at s (omega (arith, room)) in
      let same : take (7 + o) put ≡ take (7 + o) s = ap (take (7 + o)) apart ∙ take-append-le (7 + o) (take at s) (take (length new) new ++ drop (at + length new) s) (omega (arith, front, far)) ∙ take-take (7 + o) at s (omega (arith, far)) in
      sym (front_part put o (omega (arith, put_long, room, far)) m) ∙ ap (drop 7) same ∙ front_part s o (omega (arith, room, far)) m

  abbrev marked : List ℕ
  marked = set put i a

  pub marked_word : (k : ℕ) → k < totals_at → (k ≡ i → ⊥) → get_or marked k 0 ≡ get_or s k 0
  marked_word k h d = get_or-set_other put i k a 0 d ∙ put_word k h

  pub marked_there : i < totals_at → get_or marked i 0 ≡ a
  marked_there h = get_or-set_same put i a 0 (omega (arith, put_long, room, far))

  pub marked_long : length marked ≡ length s
  marked_long = length-set put i a ∙ put_long

  pub marked_kinds : i < 7 → (o : ℕ) → o ≤ most_objects → take o (drop 7 marked) ≡ take o (drop 7 s)
  marked_kinds h o m = ap (take o) (drop-set-lt 7 put i a h) ∙ put_kinds o m

-- the line behind one that was taken
abbrev Ready : Next → Type 0
Ready next.Clock = Unit {0}
Ready (next.Last station) = Unit {0}
Ready (next.Total object) = Unit {0}
Ready next.Rows = ⊥
Ready next.Nothing = ⊥

first_found : (kinds : List ℕ) (object : ℕ) → waits (behind_lasts (counter_at kinds object 0)) 0 ≡ true
unfolding counter_at behind_lasts waits
first_found [] object = refl
first_found (kind ∷ kinds) object = by (is_counter kind) (first_found kinds (suc object))
  where
    by : (b : Bool) → waits (behind_lasts (counter_at kinds (suc object) 0)) 0 ≡ true → waits (behind_lasts (cond b (cond (eqb 0 0) (Ok object) (counter_at kinds (suc object) (0 - 1))) (counter_at kinds (suc object) 0))) 0 ≡ true
    by true h = refl
    by false h = h

next_found : (kinds : List ℕ) (object ahead : ℕ) → Ready (behind_lasts (counter_at kinds object ahead)) → waits (behind_lasts (counter_at kinds object (suc ahead))) 0 ≡ true
unfolding counter_at behind_lasts waits
next_found [] object zero h = absurd h
next_found [] object (suc ahead) h = absurd h
next_found (kind ∷ kinds) object ahead h = by (is_counter kind) ahead (λ j r. next_found kinds (suc object) j r) h
  where
    by : (b : Bool) (j : ℕ) → ((i : ℕ) → Ready (behind_lasts (counter_at kinds (suc object) i)) → waits (behind_lasts (counter_at kinds (suc object) (suc i))) 0 ≡ true)
        → Ready (behind_lasts (cond b (cond (eqb j 0) (Ok object) (counter_at kinds (suc object) (j - 1))) (counter_at kinds (suc object) j)))
        → waits (behind_lasts (cond b (cond (eqb (suc j) 0) (Ok object) (counter_at kinds (suc object) (suc j - 1))) (counter_at kinds (suc object) (suc j)))) 0 ≡ true
    by true zero rest r = first_found kinds (suc object)
    by true (suc j) rest r =
        let one : suc j - 1 ≡ j = omega arith in
        let two : suc (suc j) - 1 ≡ suc j = omega arith in
        rw (ne_eqb (suc (suc j)) 0 (λ z. absurd (omega arith)), two) (rest j (rw (ne_eqb (suc j) 0 (λ z. absurd (omega arith)), one) at r))
    by false j rest r = rest j r

-- the line behind D, a last vector or a total
step : (size own : ℕ) (kinds : List ℕ) (p : ℕ) → 1 ≤ size → Ready (next_after size own kinds p) → waits (next_after size own kinds (suc p)) 0 ≡ true
unfolding next_after waits
step size own kinds p some r =
    cases (eqb p 0)
    (λ z. absurd (rw z at r))
    (λ d. rw (ne_eqb (suc p) 0 (λ z. absurd (omega arith)), ne_eqb (suc p) 1 (λ z. eqb-false p 0 d (omega arith)))
    (cases (leb (suc p) size)
    (λ w. rw w refl)
    (λ w. rw w (cases (leb p size)
    (λ v. let e : suc p - suc size ≡ 0 = omega (arith, leb-true p size v) in rw e (first_found kinds 0))
    (λ v.
    let e : suc p - suc size ≡ suc (p - suc size) = omega (arith, leb-false p size v) in
    let d₁ : eqb p 1 ≡ false = ne_eqb p 1 (λ z. absurd (omega (arith, leb-false p size v, some))) in
    rw e (next_found kinds 0 (p - suc size) (rw (d, d₁, v) at r)))))))

-- the rows come last
no_rows : (n : Next) (rows : ℕ) → Ready n → waits n rows ≡ true → rows ≡ 0
unfolding waits
no_rows next.Clock rows r w = eqb-true rows 0 w
no_rows (next.Last station) rows r w = eqb-true rows 0 w
no_rows (next.Total object) rows r w = eqb-true rows 0 w
no_rows next.Rows rows r w = absurd r
no_rows next.Nothing rows r w = absurd r

-- a space with the head and the kinds of one under load, in which something comes next
module _ (s : List ℕ) (u : under_load s ≡ true) where
  H : LoadHead s
  H = load_head s u

  head_holds : head_loads s ≡ true
  unfolding under_load
  head_holds = and_left (head_loads s) (load_waits s) u

  mark : get_or s 0 0 ≡ table_mark
  unfolding head_loads
  mark = eqb-true (get_or s 0 0) table_mark (and_left (eqb (get_or s 0 0) table_mark) (sizes_kept (size_in s) (own_in s) (capacity_in s) (objects_in s) (count_in s) && leb (space_for (size_in s) (capacity_in s)) (length s)) head_holds)

  sizes : Sizes (size_in s) (own_in s) (capacity_in s) (objects_in s) (count_in s)
  unfolding head_loads
  sizes = sizes_out (size_in s) (own_in s) (capacity_in s) (objects_in s) (count_in s) (and_left (sizes_kept (size_in s) (own_in s) (capacity_in s) (objects_in s) (count_in s)) (leb (space_for (size_in s) (capacity_in s)) (length s)) (and_right (eqb (get_or s 0 0) table_mark) (sizes_kept (size_in s) (own_in s) (capacity_in s) (objects_in s) (count_in s) && leb (space_for (size_in s) (capacity_in s)) (length s)) head_holds))

  kinds_known : every (between 1 9) (kinds_in s) ≡ true
  unfolding under_load load_waits
  kinds_known = and_left (every (between 1 9) (kinds_in s)) (waits (next_in s) (count_in s)) (and_right (head_loads s) (load_waits s) u)

  alike : (x : List ℕ) → ((k : ℕ) → k < 5 → get_or x k 0 ≡ get_or s k 0) → length x ≡ length s → take (get_or s 4 0) (drop 7 x) ≡ kinds_in s → count_in x ≤ capacity_in s
      → waits (next_after (size_in s) (own_in s) (kinds_in s) (get_or x 6 0)) (count_in x) ≡ true → under_load x ≡ true
  unfolding under_load head_loads load_waits next_in
  alike x same long kinds few w =
      let e0 : get_or x 0 0 ≡ get_or s 0 0 = same 0 (omega arith) in
      let e1 : get_or x 1 0 ≡ get_or s 1 0 = same 1 (omega arith) in
      let e2 : get_or x 2 0 ≡ get_or s 2 0 = same 2 (omega arith) in
      let e3 : get_or x 3 0 ≡ get_or s 3 0 = same 3 (omega arith) in
      let e4 : get_or x 4 0 ≡ get_or s 4 0 = same 4 (omega arith) in
      let Z : Sizes (size_in s) (own_in s) (capacity_in s) (objects_in s) (count_in x) = record { some = sizes.some; few = sizes.few; within_group = sizes.within_group; rooms = sizes.rooms; small = sizes.small; object = sizes.object; most = sizes.most; within = few } in
      rw (e0, e1, e2, e3, e4, long, kinds, eq-eqb (get_or s 0 0) table_mark mark, sizes_in (size_in s) (own_in s) (capacity_in s) (objects_in s) (count_in x) Z, le-leb (space_for (size_in s) (capacity_in s)) (length s) H.room, kinds_known) w

  -- D, a last vector or a total was taken
  took_on : Ready (next_in s) → (at : ℕ) (new : List ℕ) → totals_at ≤ at → at + length new ≤ length s → under_load (set (paste s at new (length new)) 6 (suc (progress_in s))) ≡ true
  unfolding next_in
  took_on r at new far room =
      let x : List ℕ = set (paste s at new (length new)) 6 (suc (progress_in s)) in
      let none : count_in s ≡ 0 = no_rows (next_in s) (count_in s) r (load_waits_lem s u) in
      let rows : get_or x 5 0 ≡ 0 = marked_word s new at 6 (suc (progress_in s)) far room 5 (omega arith) (λ z. absurd (omega arith)) ∙ none in
      let p : get_or x 6 0 ≡ suc (progress_in s) = marked_there s new at 6 (suc (progress_in s)) far room (omega arith) in
      alike x (λ k h. marked_word s new at 6 (suc (progress_in s)) far room k (omega arith) (λ z. absurd (omega arith)))
      (marked_long s new at 6 (suc (progress_in s)) far room)
      (marked_kinds s new at 6 (suc (progress_in s)) far room (omega arith) (get_or s 4 0) H.objects)
      (omega (arith, rows))
      (rw (rows, p) (step (size_in s) (own_in s) (kinds_in s) (progress_in s) H.some r))

  -- a row was taken
  joined_on : next_in s ≡ next.Rows → (at : ℕ) (row : List ℕ) → totals_at ≤ at → at + length row ≤ length s → count_in s < capacity_in s → under_load (set (paste s at row (length row)) 5 (suc (count_in s))) ≡ true
  unfolding next_in waits
  joined_on e at row far room h =
      let x : List ℕ = set (paste s at row (length row)) 5 (suc (count_in s)) in
      let rows : get_or x 5 0 ≡ suc (count_in s) = marked_there s row at 5 (suc (count_in s)) far room (omega arith) in
      let p : get_or x 6 0 ≡ progress_in s = marked_word s row at 5 (suc (count_in s)) far room 6 (omega arith) (λ z. absurd (omega arith)) in
      alike x (λ k h. marked_word s row at 5 (suc (count_in s)) far room k (omega arith) (λ z. absurd (omega arith)))
      (marked_long s row at 5 (suc (count_in s)) far room)
      (marked_kinds s row at 5 (suc (count_in s)) far room (omega arith) (get_or s 4 0) H.objects)
      (omega (arith, rows, h))
      (rw (rows, p) (ap (λ (n : Next). waits n (suc (count_in s))) e))

-- every line that is taken under load
abbrev GoesOn : Result Loaded ℕ × List ℕ → Type 0
GoesOn (Err number, x) = Unit {0}
GoesOn (Ok loaded.Taken, x) = under_load x ≡ true
GoesOn (Ok loaded.Table, x) = Unit {0}

module _ (s : List ℕ) (u : under_load s ≡ true) where
  either_on : (b : Bool) (p q : Result Loaded ℕ × List ℕ) → (b ≡ true → GoesOn p) → GoesOn q → GoesOn (pick b p q)
  either_on true p q f g = f refl
  either_on false p q f g = g

  spoilt_on : GoesOn (spoilt s)
  unfolding spoilt
  spoilt_on = tt

  finished_on : GoesOn (finished s)
  unfolding finished
  finished_on = either_on (holds_table (set s 6 0)) (Ok loaded.Table, set s 6 0) (spoilt s) (λ t. tt) spoilt_on

  took_or_on : Ready (next_in s) → (b : Bool) (at : ℕ) (new : List ℕ) → totals_at ≤ at → (b ≡ true → at + length new ≤ length s) → GoesOn (pick b (took s at new) (spoilt s))
  unfolding took
  took_or_on r b at new far room = either_on b (took s at new) (spoilt s) (λ t. took_on s u r at new far (room t)) spoilt_on

  row_on : next_in s ≡ next.Rows → (f : Row) → length f.vector ≡ greatest_size → GoesOn (row_taken f s)
  unfolding row_taken joined joins row_said
  row_on e f long =
      let row = row_said (size_in s) f in
      let H₀ : LoadHead s = load_head s u in
      let wide : length row ≡ 7 + size_in s = omega (arith, length-take-le (size_in s) f.vector (omega (arith, long, H₀.few))) in
      either_on (leb f.settled 1 && joins s row) (Ok loaded.Taken, joined s row) (spoilt s)
      (λ t.
      let room : count_in s < capacity_in s = join_counts s row (joins s row) refl (and_right (leb f.settled 1) (joins s row) t) in
      joined_on s u e (space_for (size_in s) (count_in s)) row (omega arith) (join_room s row (size_in s) (space_for (size_in s) (count_in s)) refl refl H₀ wide room) room)
      spoilt_on

  line_on_lem : (n : Next) → n ≡ next_in s → (bytes : List ℕ) → GoesOn (taken_as n bytes s)
  unfolding taken_as clock_taken last_taken total_taken row_or_closing closed
  line_on_lem next.Clock e bytes =
      let f = clock_read (size_in s) bytes in
      let H₀ : LoadHead s = load_head s u in
      took_or_on (subst Ready e tt) (is_clock (size_in s) bytes) clock_at (take (size_in s) f.vector) (omega arith)
      (λ t. omega (arith, H₀.room, length-take-le (size_in s) f.vector (omega (arith, clock_vector bytes (size_in s) f refl, H₀.few))))
  line_on_lem (next.Last station) e bytes =
      let f = last_read (size_in s) bytes in
      let H₀ : LoadHead s = load_head s u in
      let vector = take (size_in s) f.vector in
      let below : station.0 < size_in s = load_station s u (next.Last station) e station refl in
      let area : suc station.0 * size_in s ≤ size_in s * size_in s = mul-le-mul_right (size_in s) below in
      took_or_on (subst Ready e tt) (is_last (size_in s) bytes && (eqb f.station station.0 && last_kept (own_in s) (clock_in s) station.0 vector)) (last_at (size_in s) + station.0 * size_in s) vector (omega arith)
      (λ t. omega (arith, H₀.room, area, suc-mul station.0 (size_in s), length-take-le (size_in s) f.vector (omega (arith, last_vector_lem bytes (size_in s) f refl, H₀.few))))
  line_on_lem (next.Total object) e bytes =
      let f = total_read bytes in
      let total : List ℕ = f.high ∷ f.low ∷ [] in
      let H₀ : LoadHead s = load_head s u in
      let below : object < objects_in s = load_object s u (next.Total object) e object refl in
      took_or_on (subst Ready e tt) (is_total bytes && (eqb f.object object && total_kept (total_bound (clock_in s)) (get_or (kinds_in s) object 0) (total_of_words total))) (totals_at + object * 2) total (omega arith)
      (λ t. omega (arith, H₀.long, H₀.objects, below))
  line_on_lem next.Rows e bytes =
      let f = row_read (size_in s) bytes in
      either_on (is_row (size_in s) bytes) (row_taken f s) (closed bytes s) (λ t. row_on (sym e) f (row_vector bytes (size_in s) f refl))
      (either_on (is_closing bytes && eqb (closing_read bytes).rows (count_in s)) (finished s) (spoilt s) (λ t. finished_on) spoilt_on)
  line_on_lem next.Nothing e bytes = spoilt_on

-- an opening line that is taken
module _ (s : List ℕ) (header : Header) (range : in_range header ≡ true) (room : space_for header.size header.capacity ≤ length s) where
  F : HeaderFacts header
  F = header_facts header range

  abbrev behind : List ℕ
  behind = header.kinds ++ (replicate (space_for header.size header.capacity - 7 - length header.kinds) 0 ++ drop (space_for header.size header.capacity) s)

  abbrev begun_words : List ℕ
  begun_words = table_mark ∷ header.size ∷ header.own ∷ header.capacity ∷ length header.kinds ∷ 0 ∷ 1 ∷ behind

  begun_long : space_for header.size header.capacity ≤ length begun_words
  begun_long =
      let needed : ℕ = space_for header.size header.capacity in
      let zeros : List ℕ = replicate (needed - 7 - length header.kinds) 0 in
      omega (arith, room, F.objects_range.1, length-append header.kinds (zeros ++ drop needed s), length-append zeros (drop needed s), length-replicate {A = ℕ} (needed - 7 - length header.kinds) 0, length-drop needed s)

  kinds_ranged : every (between 1 9) header.kinds ≡ true
  unfolding in_range header_rules
  kinds_ranged = rule_at_lem (header_rules header) range 3

  begun_under : under_load begun_words ≡ true
  unfolding under_load head_loads load_waits next_in next_after waits
  begun_under =
      let Z : Sizes header.size header.own header.capacity (length header.kinds) 0 = record { some = F.size_range.0; few = F.size_range.1; within_group = F.own_in_lem; rooms = F.capacity_range.0; small = F.capacity_range.1; object = F.objects_range.0; most = F.objects_range.1; within = omega arith } in
      rw (sizes_in header.size header.own header.capacity (length header.kinds) 0 Z, le-leb (space_for header.size header.capacity) (length begun_words) begun_long, take-append_seam header.kinds (replicate (space_for header.size header.capacity - 7 - length header.kinds) 0 ++ drop (space_for header.size header.capacity) s), kinds_ranged) refl

  fresh_under : under_load (set (words_of (opened header) ++ drop (space_for header.size header.capacity) s) 6 1) ≡ true
  fresh_under = ap (λ (l : List ℕ). under_load (set l 6 1)) (fresh_words header (drop (space_for header.size header.capacity) s) F.objects_range.1) ∙ begun_under

module _ (line s : List ℕ) where
  abbrev header_of_lem : Header
  header_of_lem = header_read (bytes_of line)

  abbrev refusal : ℕ
  refusal = first_of (opening_refusals (length s) (space_for header_of_lem.size header_of_lem.capacity) header_of_lem)

  opened_on : GoesOn (begun (opened_as s (meaning.open_table (length s) (space_for header_of_lem.size header_of_lem.capacity) header_of_lem)))
  unfolding meaning.open_table opened_as begun opened
  opened_on = cases (eqb refusal 0)
      (λ z.
      let none : refusal ≡ 0 = eqb-true refusal 0 z in
      rw z (fresh_under s header_of_lem (open_ranges s (space_for header_of_lem.size header_of_lem.capacity) header_of_lem (sym none)) (open_room s (space_for header_of_lem.size header_of_lem.capacity) header_of_lem (sym none))))
      (λ z. rw z tt)

  begun_on : GoesOn (begun (opened_by line s))
  unfolding opened_by begun
  begun_on = by (is_opening (bytes_of line)) (opened_as s (meaning.open_table (length s) (space_for header_of_lem.size header_of_lem.capacity) header_of_lem)) opened_on
    where
      by : (b : Bool) (p : Result (Unit {0}) ℕ × List ℕ) → GoesOn (begun p) → GoesOn (begun (pick b p (Err 1, s)))
      by true p h = h
      by false p h = tt

  first_on : GoesOn (first_taken line s)
  unfolding first_taken
  first_on = first_cases line s (λ _ taken. GoesOn taken) begun_on tt (λ _. tt) (kind_of (type_of line))

  -- every line that is taken, an opening too
  pub taken_goes_on : (x : List ℕ) → loaded_by line s ≡ (Ok loaded.Taken, x) → under_load x ≡ true
  unfolding loaded_by
  taken_goes_on x e = subst GoesOn e (cases (under_load s)
      (λ u. subst GoesOn (sym (picked (under_load s) (taken_as (next_in s) (bytes_of line) s) (first_taken line s) u)) (line_on_lem s u (next_in s) refl (bytes_of line)))
      (λ u. subst GoesOn (sym (passed (under_load s) (taken_as (next_in s) (bytes_of line) s) (first_taken line s) u)) first_on))
