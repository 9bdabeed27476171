-- The refusals of a local operation in a table's words, its vector, and what an accepted one leaves.
use mathlib.Core.Path.{◌≡◌, refl, sym, ap, ◌∙◌}
use mathlib.Core.Bool.{Bool, true, false, not, cond}
use mathlib.Core.List.{List, [], ◌∷◌, ◌++◌, append-nil}
use Prim.Native.Nat.{ℕ, zero, suc, ◌+◌, ◌-◌, ◌≤◌, ◌<◌}
use native.Mathlib.Omega.{arith}
use borrow.Author.Tests.{eq-eqb, ne_eqb, eqb-false, le-leb, ltb-true}
use lib.Dec.{eqb, ltb}
use lib.ListN.{length, get_or, take, drop, set, replicate, length-set}
use lib.Seq.{paste, take_all, take_at}
use Rattle.meaning.specs.Tests.{every}
use Rattle.meaning.specs.Order.{Vector, entry_limit, raised}
use Rattle.meaning.specs.Operations.{Operation, allowed}
use Rattle.meaning.specs.Arrival.{rows_after}
use Rattle.meaning.specs.Table.{Header, Table, kind_in, greatest_size}
use Rattle.meaning.specs.Refusals.{first_of, Local, declared, issued_by, issue_refusals, room_for, local_refusals, refusal_of_local}
use Rattle.meaning.specs.Calls.{after_arrival}
use Rattle.meaning.proofs.Acceptance.{LocalAccepted, local_accepted}
use Rattle.meaning.proofs.TableRules.{kept_by_local}
use Rattle.meaning.proofs.TableFacts.{facts, every_place}
use Rattle.words_layout.specs.Words.{padded}
use Rattle.words_layout.specs.Layout.{holds_table, table_of, rewritten, size_in, own_in, capacity_in, objects_in, count_in, clock_at}
use Rattle.words_layout.proofs.Whole.{zeros_drop, fit}
use Rattle.words_layout.proofs.Reading.{kinds_part, clock_part}
use Rattle.words_tags.specs.declared.Station.{Station}
use Rattle.words_tags.specs.declared.Value.{Value}
use Rattle.table_drop.specs.Arriving.{operation_of}
use Rattle.table_drop.specs.declared.Arrival.{Arrival}
use Rattle.table_change.specs.Changes.{EntryBelowLimit}
use Rattle.table_change.proofs.Changing.{opened}
use Rattle.table_rules.specs.Checked.{Checked}
use Rattle.arrival.specs.Arrives.{Arrives, arrival_from, has_room}
use Rattle.arrival.proofs.Kept.{table_back, table_held}
use Rattle.arrival.proofs.Chain.{numbered, chain_then}
use Rattle.refusal_order.specs.Fields.{header_from, local_from}
use Rattle.refusal_order.specs.declared.Header as opened_as
use Rattle.refusal_number.specs.declared.Refusal as given
use Rattle.refusal_number.specs.Numbers.{number_of}
use Rattle.refusal_number.proofs.Numbers.{number_above}

-- what asks the header and D alone, from the words that are lent
pub early_is : (s : List ℕ) (n m : ℕ) (h : opened_as.Header) (object code value r : ℕ) → n ≡ size_in s → m ≡ objects_in s → h.size ≡ size_in s → h.own.0 ≡ own_in s → h.capacity.0 ≡ capacity_in s →
    r ≡ first_of (issue_refusals (header_from h (take (7 + m - 7) (drop 7 s))) (take (clock_at + n - clock_at) (drop clock_at s)) (local_from object code value)) →
    r ≡ first_of (issue_refusals (table_of s).header (table_of s).clock (local_from object code value))
unfolding table_of
early_is s n m h object code value r en em size own capacity e = e ∙ rw (size, own, capacity, kinds_part s m em, clock_part s n en) refl

numbered_chain : (header : Header) (clock : Vector) (local : Local) → every numbered (issue_refusals header clock local) ≡ true
unfolding numbered issue_refusals
numbered_chain header clock local = refl

-- 9 is not given where nothing is
third_not : (a b c : Bool) → cond {A = ℕ} a 3 (cond b 4 (cond c 9 0)) ≡ 0 → c ≡ false
third_not true b c e = absurd (omega arith)
third_not false true c e = absurd (omega arith)
third_not false false true e = absurd (omega arith)
third_not false false false e = refl

not_last : (header : Header) (clock : Vector) (local : Local) → first_of (issue_refusals header clock local) ≡ 0 → suc (get_or clock header.own 0) ≡ entry_limit → ⊥
unfolding issue_refusals
not_last header clock local e = eqb-false (suc (get_or clock header.own 0)) entry_limit (third_not (not (declared header local.object)) (not (allowed (kind_in header local.object) local.code local.value)) (eqb (suc (get_or clock header.own 0)) entry_limit) e)

-- the own entry can rise
module _ (s : List ℕ) (C : Checked s) where
  own_word : get_or (table_of s).clock (table_of s).header.own 0 < entry_limit
  own_word =
      let F = facts (table_of s) C.by_rules in
      ltb-true (get_or (table_of s).clock (table_of s).header.own 0) entry_limit (every_place (λ (entry : ℕ). ltb entry entry_limit) (table_of s).clock F.clock_words (table_of s).header.own (let l = F.clock_length in let h = F.own_in_lem in omega arith))

  own_rises : (suc (get_or (table_of s).clock (table_of s).header.own 0) ≡ entry_limit → ⊥) → EntryBelowLimit (table_of s) (own_in s)
  unfolding table_of
  own_rises d = let w = own_word in omega arith

  pub rises_early : (object code value : ℕ) → 0 ≡ first_of (issue_refusals (table_of s).header (table_of s).clock (local_from object code value)) → EntryBelowLimit (table_of s) (own_in s)
  rises_early object code value e = own_rises (not_last (table_of s).header (table_of s).clock (local_from object code value) (sym e))

  pub rises_accepted : (object code value : ℕ) → refusal_of_local (table_of s) (local_from object code value) ≡ 0 → EntryBelowLimit (table_of s) (own_in s)
  rises_accepted object code value ok = own_rises (local_accepted (table_of s) (local_from object code value) ok).not_last

-- an entry of the front
get_front : (v rest : List ℕ) (k : ℕ) → k < length v → get_or (v ++ rest) k 0 ≡ get_or v k 0
get_front [] rest k h = absurd (omega arith)
get_front (x ∷ v) rest zero h = refl
get_front (x ∷ v) rest (suc k) h = get_front v rest k (omega arith)

set_front : (v rest : List ℕ) (k x : ℕ) → k < length v → set (v ++ rest) k x ≡ set v k x ++ rest
set_front [] rest k x h = absurd (omega arith)
set_front (y ∷ v) rest zero x h = refl
set_front (y ∷ v) rest (suc k) x h = ap (λ (l : List ℕ). y ∷ l) (set_front v rest k x (omega arith))

raised_front : (v rest : List ℕ) (k : ℕ) → k < length v → raised (v ++ rest) k ≡ raised v k ++ rest
raised_front v rest k h = rw (get_front v rest k h) (set_front v rest k (suc (get_or v k 0)) h)

-- the array that begins with D, and then with the next vector
module _ (s : List ℕ) (C : Checked s) (n : ℕ) (en : n ≡ size_in s) where
  abbrev clock : Vector
  clock = (table_of s).clock

  abbrev part : List ℕ
  part = take (clock_at + n - clock_at) (drop clock_at s)

  clock_long : length clock ≡ size_in s
  unfolding table_of
  clock_long = (fit s C.laid).clock_long

  module _ (next : List ℕ) (e : next ≡ paste (replicate greatest_size 0) 0 part (length part)) where
    laid_out : next ≡ clock ++ replicate (greatest_size - length clock) 0
    laid_out =
        let f = C.few in
        let few : length clock ≤ greatest_size = rw clock_long f in
        let z : 0 + length clock ≡ length clock = omega arith in
        e ∙ rw (clock_part s n en, take_all (length clock) clock (omega arith), z) (ap (λ (l : List ℕ). clock ++ l) (ap (drop (length clock)) (sym (append-nil (replicate greatest_size 0))) ∙ zeros_drop greatest_size (length clock) [] few ∙ append-nil (replicate (greatest_size - length clock) 0)))

    pub next_below : EntryBelowLimit (table_of s) (own_in s) → get_or next (own_in s) 0 + 1 < entry_limit
    next_below h = rw (laid_out, get_front clock (replicate (greatest_size - length clock) 0) (own_in s) (let o = C.own in let l = clock_long in omega arith)) h

    pub next_made : (x : List ℕ) → x ≡ raised next (own_in s) → x ≡ padded greatest_size (raised clock (own_in s))
    next_made x g =
        let l = length-set clock (own_in s) (suc (get_or clock (own_in s) 0)) in
        g ∙ rw (laid_out, raised_front clock (replicate (greatest_size - length clock) 0) (own_in s) (let o = C.own in let l = clock_long in omega arith)) (rw l refl)

-- the part of the array that is the vector
module _ (s : List ℕ) (C : Checked s) (n : ℕ) (en : n ≡ size_in s) (next : List ℕ) (e : next ≡ padded greatest_size (raised (table_of s).clock (own_in s))) where
  pub raised_long : length (raised (table_of s).clock (own_in s)) ≡ n
  raised_long = length-set (table_of s).clock (own_in s) (suc (get_or (table_of s).clock (own_in s) 0)) ∙ clock_long s C n en ∙ sym en

  pub vector_is : take (n - 0) next ≡ raised (table_of s).clock (own_in s)
  vector_is = let q : n - 0 ≡ n = omega arith in rw (e, q) (take_at (raised (table_of s).clock (own_in s)) _ n raised_long)

  pub vector_long : length (take (n - 0) next) ≡ n
  vector_long = rw vector_is raised_long

  -- what arrives of a local operation
  module _ (object code : ℕ) (value : Value) (own : Station) (eo : own.0 ≡ own_in s) (a : Arrival) (ea : a ≡ arrival_from (kind_in (table_of s).header object) object code value own) where
    abbrev table : Table
    table = table_of s

    abbrev local : Local
    local = local_from object code value.0

    issued_is : operation_of a (take (n - 0) next) ≡ issued_by table local
    unfolding issued_by table_of
    issued_is = rw (ea, vector_is) (rw eo refl)

    room_same : has_room a (take (n - 0) next) table ≡ room_for table (issued_by table local)
    unfolding has_room room_for issued_by
    room_same = rw (issued_is, ea) refl

    -- 3, 4, 9, then 8
    module _ (f : 0 ≡ first_of (issue_refusals table.header table.clock local)) (b : Bool) (g : b ≡ has_room a (take (n - 0) next) table) where
      number_is : refusal_of_local table local ≡ cond (not b) 8 0
      unfolding refusal_of_local local_refusals
      number_is = chain_then (issue_refusals table.header table.clock local) (not (room_for table (issued_by table local))) (numbered_chain table.header table.clock local) ∙ rw (sym f, sym (g ∙ room_same)) refl

      pub number_none : b ≡ true → 0 ≡ refusal_of_local table local
      number_none t = sym (number_is ∙ rw t refl)

      pub number_full : b ≡ false → 8 ≡ refusal_of_local table local
      number_full t = sym (number_is ∙ rw t refl)

    -- an accepted one arrives
    module _ (ok : refusal_of_local table local ≡ 0) where
      A : LocalAccepted table local
      A = local_accepted table local ok

      pub local_arrives : Arrives s n (count_in s) a (take (n - 0) next)
      unfolding room_for issued_by table_of
      local_arrives = record {
        opened = opened s n (count_in s) C.laid en refl;
        entries = vector_long;
        declared = rw ea A.declared_object;
        kind_is = rw ea refl;
        sender_in = rw (ea, eo, en) C.own;
        rises = rw (ea, eo) (rises_accepted s C object code value.0 ok);
        room = room_same ∙ le-leb (length (rows_after (kind_in table.header object) (issued_by table local) table.rows)) table.header.capacity A.room;
      }

      pub local_taken : (s₁ : List ℕ) → s₁ ≡ rewritten s (after_arrival table (operation_of a (take (n - 0) next)) table.last) → s₁ ≡ rewritten s (after_arrival table (issued_by table local) table.last)
      local_taken s₁ h = h ∙ ap (λ (u : Operation). rewritten s (after_arrival table u table.last)) issued_is

pub number_early : (table : Table) (local : Local) (refusal : given.Refusal) → number_of refusal ≡ first_of (issue_refusals table.header table.clock local) → number_of refusal ≡ refusal_of_local table local
unfolding refusal_of_local local_refusals
number_early table local refusal f = sym (chain_then (issue_refusals table.header table.clock local) (not (room_for table (issued_by table local))) (numbered_chain table.header table.clock local) ∙ rw (sym f, ne_eqb (number_of refusal) 0 (number_above refusal)) refl)

-- the space holds a table after an accepted local operation, and it is the table after it
module _ (s : List ℕ) (C : Checked s) (local : Local) (ok : refusal_of_local (table_of s) local ≡ 0) where
  pub issue_keeps : holds_table (rewritten s (after_arrival (table_of s) (issued_by (table_of s) local) (table_of s).last)) ≡ true
  issue_keeps = table_held (after_arrival (table_of s) (issued_by (table_of s) local) (table_of s).last) (kept_by_local (table_of s) local C.by_rules ok) s

  pub issue_reads : table_of (rewritten s (after_arrival (table_of s) (issued_by (table_of s) local) (table_of s).last)) ≡ after_arrival (table_of s) (issued_by (table_of s) local) (table_of s).last
  issue_reads = table_back (after_arrival (table_of s) (issued_by (table_of s) local) (table_of s).last) (kept_by_local (table_of s) local C.by_rules ok) s
