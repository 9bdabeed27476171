-- The refusals of a frame in a table's words, and what an accepted one leaves.
use mathlib.Core.Path.{◌≡◌, refl, sym, ap, ◌∙◌}
use mathlib.Core.Bool.{Bool, true, false, not, cond}
use mathlib.Core.List.{List}
use Prim.Native.Nat.{ℕ, ◌+◌, ◌-◌, ◌<◌}
use native.Mathlib.Omega.{arith}
use borrow.Author.Tests.{eqb-true, eq-eqb, ne_eqb, le-leb, ltb-true}
use lib.Dec.{eqb, ltb}
use lib.ListN.{length, get_or, take, drop, set, length-set, length-map}
use Rattle.meaning.specs.Tests.{every}
use Rattle.meaning.specs.Order.{Vector, entry_limit}
use Rattle.meaning.specs.Operations.{Operation}
use Rattle.meaning.specs.Operations as meant
use Rattle.refusal_number.specs.declared.Refusal as given
use Rattle.refusal_number.specs.Numbers.{number_of}
use Rattle.refusal_number.proofs.Numbers.{number_above}
use Rattle.meaning.specs.Arrival.{rows_after}
use Rattle.meaning.specs.Table.{Header, Table, kind_in}
use Rattle.meaning.specs.Refusals.{Refusal, first_of, Frame, frame_refusals, room_for, arrival_refusals, refusal_of_frame}
use Rattle.meaning.specs.Calls.{outcome, receive, after_arrival}
use Rattle.meaning.proofs.Tests.{cases}
use Rattle.meaning.proofs.Acceptance.{FrameAccepted, frame_accepted, next_number}
use Rattle.meaning.proofs.TableRules.{kept_by_frame}
use Rattle.meaning.proofs.TableFacts.{facts, every_place}
use Rattle.words_layout.specs.Words.{pieces}
use Rattle.words_layout.specs.Layout.{holds_table, table_of, rewritten, size_in, own_in, capacity_in, objects_in, count_in, rows_in, rows_at, row_of, with_last, clock_at}
use Rattle.words_layout.proofs.Pieces.{length_pieces}
use Rattle.words_layout.proofs.Reading.{Well, kinds_part, clock_part}
use Rattle.words_layout.proofs.Changing.{Sized, well, sized, wide_set, and_then}
use Rattle.table_drop.specs.Arriving.{operation_of}
use Rattle.table_drop.specs.declared.Arrival.{Arrival}
use Rattle.table_change.specs.Changes.{EntryBelowLimit}
use Rattle.table_change.proofs.Changing.{all_of}
use Rattle.table_rules.specs.Checked.{Checked}
use Rattle.arrival.specs.Arrives.{Arrives, arrival_from, has_room}
use Rattle.arrival.proofs.Arriving.{opened_again, spells}
use Rattle.arrival.proofs.Kept.{table_back, table_held}
use Rattle.arrival.proofs.Chain.{numbered, chain_then}
use Rattle.refusal_order.specs.Fields.{frame_from, header_from}
use Rattle.refusal_order.specs.declared.Header as opened
use Rattle.refusal_order.specs.declared.Sent.{Sent}
use Rattle.arrival_frame.specs.Receiving.{outcome_in, received_by}

-- what asks the header, D and L alone, from the words that are lent
pub early_is : (s : List ℕ) (n m : ℕ) (h : opened.Header) (f : Sent) (v : Vector) (r : ℕ) → n ≡ size_in s → m ≡ objects_in s → h.size ≡ size_in s → h.own.0 ≡ own_in s → h.capacity.0 ≡ capacity_in s →
    r ≡ first_of (frame_refusals (header_from h (take (7 + m - 7) (drop 7 s))) (take (clock_at + n - clock_at) (drop clock_at s)) (pieces h.size h.size (take (length s - (clock_at + n)) (drop (clock_at + n) s))) (frame_from f v)) →
    r ≡ first_of (frame_refusals (table_of s).header (table_of s).clock (table_of s).last (frame_from f v))
unfolding table_of
early_is s n m h f v r en em size own capacity e = e ∙ rw (size, own, capacity, kinds_part s m em, clock_part s n en, all_of s (clock_at + n), en) refl

-- what arrives of a frame
abbrev pub arrival_in : Table → Sent → Arrival
arrival_in table f = arrival_from (kind_in table.header f.object) f.object f.code f.value f.sender

room_same : (table : Table) (f : Sent) (v : Vector) → has_room (arrival_in table f) v table ≡ room_for table (frame_from f v).operation
unfolding has_room room_for
room_same table f v = refl

-- every number of the chain is one
numbered_chain : (header : Header) (clock : Vector) (last : List Vector) (frame : Frame) → every numbered (frame_refusals header clock last frame) ≡ true
unfolding numbered frame_refusals
numbered_chain header clock last frame = refl

-- 1 to 7, then 8
module _ (table : Table) (f : Sent) (v : Vector) where
  abbrev early : List Refusal
  early = frame_refusals table.header table.clock table.last (frame_from f v)

  abbrev number : ℕ
  number = refusal_of_frame table (frame_from f v)

  number_is : number ≡ cond (eqb (first_of early) 0) (cond (not (room_for table (frame_from f v).operation)) 8 0) (first_of early)
  unfolding refusal_of_frame arrival_refusals
  number_is = chain_then early (not (room_for table (frame_from f v).operation)) (numbered_chain table.header table.clock table.last (frame_from f v))

  pub number_early : (refusal : given.Refusal) → number_of refusal ≡ first_of early → number_of refusal ≡ number
  number_early refusal e = sym (number_is ∙ rw (sym e, ne_eqb (number_of refusal) 0 (number_above refusal)) refl)

  module _ (e : 0 ≡ first_of early) (a : Arrival) (ea : a ≡ arrival_in table f) (b : Bool) (g : b ≡ has_room a v table) where
    room_is : room_for table (frame_from f v).operation ≡ b
    room_is = sym (g ∙ ap (λ (x : Arrival). has_room x v table) ea ∙ room_same table f v)

    pub number_none : b ≡ true → 0 ≡ number
    number_none t = sym (number_is ∙ rw (sym e, room_is ∙ t) refl)

    pub number_full : b ≡ false → 8 ≡ number
    number_full t = sym (number_is ∙ rw (sym e, room_is ∙ t) refl)

-- the last vector written, the shape stays
well_last : (t : Table) (k : ℕ) (v : Vector) → Well t → length v ≡ t.header.size → Well (with_last t (set t.last k v))
well_last t k v W e = record {
  fit = record { few_kinds = W.fit.few_kinds; few_totals = W.fit.few_totals; clock_long = W.fit.clock_long; last_wide = wide_set t.header.size t.last k v e W.fit.last_wide; last_many = length-set t.last k v ∙ W.fit.last_many };
  one = W.one;
  range = W.range;
  shape = W.shape;
}

-- an accepted frame: its vector first, then its operation
module _ (s : List ℕ) (n : ℕ) (f : Sent) (v : Vector) (C : Checked s) (long : length v ≡ size_in s) (ok : refusal_of_frame (table_of s) (frame_from f v) ≡ 0) (en : n ≡ size_in s) where
  abbrev table : Table
  table = table_of s

  abbrev frame : Frame
  frame = frame_from f v

  size_is : table.header.size ≡ size_in s
  unfolding table_of
  size_is = refl

  A : FrameAccepted table frame
  A = frame_accepted table frame ok

  pub sender_below : f.sender.0 < n
  sender_below = let h = A.sender_in in let q = size_is in omega arith

  rises : EntryBelowLimit table f.sender.0
  unfolding meant.number_of
  rises =
      let next = next_number table frame (facts table C.by_rules).clock_length A in
      let word = ltb-true (get_or v f.sender.0 0) entry_limit (every_place (λ (entry : ℕ). ltb entry entry_limit) v A.words f.sender.0 (let h = A.sender_in in let l = A.entries in omega arith)) in
      omega arith

  rows_many : count_in s ≡ length table.rows
  unfolding table_of
  rows_many = sym (length-map (rows_in s) row_of ∙ length_pieces (7 + size_in s) (count_in s) (drop (rows_at (size_in s)) s))

  room : has_room (arrival_in table f) v table ≡ true
  unfolding room_for
  room = room_same table f v ∙ le-leb (length (rows_after (kind_in table.header f.object) frame.operation table.rows)) table.header.capacity A.room

  -- whichever station's last vector it is written as
  module _ (s₁ : List ℕ) (k : ℕ) (e : s₁ ≡ rewritten s (with_last (table_of s) (set (table_of s).last k v))) where
    abbrev heard : Table
    heard = with_last table (set table.last k v)

    heard_well : Well heard
    heard_well = well_last table k v (well s C.laid) (long ∙ sym size_is)

    heard_sized : Sized heard
    heard_sized = let Z = sized s C.laid in record { some = Z.some; few = Z.few; small = Z.small; within = Z.within }

    table_is : table_of s₁ ≡ heard
    table_is = spells s s₁ heard heard_well e

    arrives_as : Arrives s₁ n (count_in s) (arrival_in table f) v
    unfolding has_room
    arrives_as = record {
      opened = opened_again s s₁ heard n (count_in s) heard_well heard_sized e (en ∙ sym size_is) rows_many;
      entries = long ∙ sym en;
      declared = rw table_is A.declared_object;
      kind_is = rw table_is refl;
      sender_in = sender_below;
      rises = rw table_is rises;
      room = rw table_is room;
    }

    module _ (a : Arrival) (ea : a ≡ arrival_in table f) where
      pub frame_arrives : Arrives s₁ n (count_in s) a v
      frame_arrives = rw ea arrives_as

      pub frame_taken : k ≡ f.sender.0 → (s₂ : List ℕ) → s₂ ≡ rewritten s₁ (after_arrival (table_of s₁) (operation_of a v) (table_of s₁).last) → s₂ ≡ rewritten s (after_arrival table frame.operation (set table.last f.sender.0 v))
      unfolding after_arrival
      frame_taken q s₂ g =
          and_then s s₁ s₂ heard (λ (t : Table). after_arrival t (operation_of a v) t.last) heard_well heard_sized e g
          ∙ ap (λ (u : Operation). rewritten s (after_arrival heard u heard.last)) (ap (λ (x : Arrival). operation_of x v) ea)
          ∙ ap (λ (m : ℕ). rewritten s (after_arrival table frame.operation (set table.last m v))) q

-- the number and the words
module _ (s : List ℕ) (frame : Frame) where
  pub receive_refused : (refusal : given.Refusal) → number_of refusal ≡ refusal_of_frame (table_of s) frame → (number_of refusal, s) ≡ received_by s frame
  unfolding received_by receive outcome outcome_in
  receive_refused refusal e = rw (sym e, ne_eqb (number_of refusal) 0 (number_above refusal)) refl

  pub receive_taken : 0 ≡ refusal_of_frame (table_of s) frame → (s₁ : List ℕ) → s₁ ≡ rewritten s (after_arrival (table_of s) frame.operation (set (table_of s).last frame.operation.sender frame.operation.vector)) → (0, s₁) ≡ received_by s frame
  unfolding received_by receive outcome outcome_in
  receive_taken e s₁ f = rw (sym e, f) refl

-- the space holds a table afterwards, whatever the number
pub receive_keeps : (s : List ℕ) (frame : Frame) → Checked s → holds_table (received_by s frame).1 ≡ true
unfolding received_by receive outcome outcome_in
receive_keeps s frame C = cases (eqb (refusal_of_frame (table_of s) frame) 0)
    (λ q. rw q (table_held (after_arrival (table_of s) frame.operation (set (table_of s).last frame.operation.sender frame.operation.vector)) (kept_by_frame (table_of s) frame C.by_rules (eqb-true (refusal_of_frame (table_of s) frame) 0 q)) s))
    (λ q. rw q C.holds)

-- and it is the table after the frame
pub receive_reads : (s : List ℕ) (frame : Frame) → Checked s → refusal_of_frame (table_of s) frame ≡ 0 →
    table_of (received_by s frame).1 ≡ after_arrival (table_of s) frame.operation (set (table_of s).last frame.operation.sender frame.operation.vector)
unfolding received_by receive outcome outcome_in
receive_reads s frame C ok =
    let after = after_arrival (table_of s) frame.operation (set (table_of s).last frame.operation.sender frame.operation.vector) in
    rw (eq-eqb (refusal_of_frame (table_of s) frame) 0 ok) (table_back after (kept_by_frame (table_of s) frame C.by_rules ok) s)
