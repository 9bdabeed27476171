-- What is accepted, and only that: a call is not refused exactly when each of these facts holds.
use mathlib.Core.Path.{◌≡◌}
use mathlib.Core.Bool.{true, false, not, ◌&&◌, cond}
use mathlib.Core.Logic.{◌≢◌, ◌↔◌}
use mathlib.Core.List.{[]}
use Prim.Native.Nat.{ℕ, suc, ◌<◌, ◌≤◌}
use native.Mathlib.Omega.{arith}
use lib.Dec.{leb, ltb, eqb}
use lib.ListN.{get_or, length, length-set}
use lib.Seq.{get_or-set_other}
use borrow.Author.Tests.{ltb-true, ltb-false, leb-true, leb-false, eqb-true, eqb-false, not-false, lt-ltb, le-ltb, le-leb, lt-leb, eq-eqb, ne_eqb}
use Rattle.meaning.specs.Tests.{every, between}
use Rattle.meaning.specs.Order.{Vector, entry_limit, at_most, raised}
use Rattle.meaning.specs.Operations.{Operation, number_of, value_limit}
use Rattle.meaning.specs.Arrival.{rows_after}
use Rattle.meaning.specs.Table.{Header, Table, kind_in}
use Rattle.meaning.specs.Questions.{Asked, Source, asks_total, asks_list, asks_holds, fits}
use Rattle.meaning.specs.Refusals.{first_of, Frame, Local, well_shaped, declared, operation_allowed, in_time, frame_refusals, room_for, arrival_refusals, refusal_of_frame, issued_by, issue_refusals, local_refusals, refusal_of_local, settling_refusals, refusal_of_settling, well_asked, list_too_long, asked_refusals, question_refusals, greatest_limit}
use Rattle.meaning.proofs.Tests.{cases, and_left, and_right, and_fails, and_rest, or_left_fails, or_right_fails, between_out, between_in}
use Rattle.meaning.proofs.Vectors.{at_most_at, at_most_by, raised_at}
use Rattle.meaning.proofs.Refusals.{exactly_when}

-- A frame that passes "1 to 7, 8".
pub record FrameAccepted (table : Table) (frame : Frame) : Type 0 where
  pub size_is : frame.size ≡ table.header.size
  pub entries : length frame.operation.vector ≡ table.header.size
  pub words : every (λ (entry : ℕ). ltb entry entry_limit) frame.operation.vector ≡ true
  pub sender_in : frame.operation.sender < table.header.size
  pub not_own : frame.operation.sender ≡ table.header.own → ⊥
  pub declared_object : frame.operation.object < length table.header.kinds
  pub allowed_operation : operation_allowed table.header frame.operation ≡ true
  pub in_time_lem : at_most frame.operation.vector (raised table.clock frame.operation.sender) ≡ true
  pub above : get_or table.clock frame.operation.sender 0 < number_of frame.operation
  pub not_falling : at_most (get_or table.last frame.operation.sender []) frame.operation.vector ≡ true
  pub room : length (rows_after (kind_in table.header frame.operation.object) frame.operation table.rows) ≤ table.header.capacity

-- "A frame passes 14, 1 to 7, 8": what an accepted one is known to be.
pub frame_accepted : (table : Table) (frame : Frame) → refusal_of_frame table frame ≡ 0 → FrameAccepted table frame
unfolding refusal_of_frame arrival_refusals frame_refusals well_shaped declared in_time room_for
frame_accepted table frame e =
    let u = frame.operation in
    let header = table.header in
    let none = (exactly_when.frame table frame).exactly.none_when e in
    let one = eqb frame.size header.size in
    let long = eqb (length u.vector) header.size in
    let small = every (λ (entry : ℕ). ltb entry entry_limit) u.vector in
    let there = ltb u.sender header.size in
    let shaped = not-false (one && (long && small)) (none 0) in
    let rest = and_right one (long && small) shaped in
    record {
      size_is = eqb-true frame.size header.size (and_left one (long && small) shaped);
      entries = eqb-true (length u.vector) header.size (and_left long small rest);
      words = and_right long small rest;
      sender_in = ltb-true u.sender header.size (not-false there (or_left_fails (not there) (eqb u.sender header.own) (none 1)));
      not_own = eqb-false u.sender header.own (or_right_fails (not there) (eqb u.sender header.own) (none 1));
      declared_object = ltb-true u.object (length header.kinds) (not-false (ltb u.object (length header.kinds)) (none 2));
      allowed_operation = not-false (operation_allowed header u) (none 3);
      above = leb-false (number_of u) (get_or table.clock u.sender 0) (none 4);
      in_time_lem = not-false (at_most u.vector (raised table.clock u.sender)) (none 5);
      not_falling = not-false (at_most (get_or table.last u.sender []) u.vector) (none 6);
      room = leb-true (length (rows_after (kind_in header u.object) u table.rows)) header.capacity (not-false (leb (length (rows_after (kind_in header u.object) u table.rows)) header.capacity) (none 7));
    }

frame_passes : (table : Table) (frame : Frame) → FrameAccepted table frame → refusal_of_frame table frame ≡ 0
unfolding refusal_of_frame arrival_refusals frame_refusals well_shaped declared in_time room_for
frame_passes table frame a =
    let u = frame.operation in
    let header = table.header in
    rw (
      eq-eqb frame.size header.size a.size_is,
      eq-eqb (length u.vector) header.size a.entries,
      a.words,
      lt-ltb u.sender header.size a.sender_in,
      ne_eqb u.sender header.own a.not_own,
      lt-ltb u.object (length header.kinds) a.declared_object,
      a.allowed_operation,
      lt-leb (number_of u) (get_or table.clock u.sender 0) a.above,
      a.in_time_lem,
      a.not_falling,
      le-leb (length (rows_after (kind_in header u.object) u table.rows)) header.capacity a.room,
    )

-- "Bad input gets exactly the refusal number ... and only then": a frame is accepted exactly when all of this holds.
pub frame_exactly : (table : Table) (frame : Frame) → (refusal_of_frame table frame ≡ 0) ↔ FrameAccepted table frame
frame_exactly table frame = (frame_accepted table frame, frame_passes table frame)

-- 6: "number above D[sender] + 1, or another entry above D": not given exactly where neither is so.
pub in_time_exactly : (clock : Vector) (u : Operation) → length u.vector ≡ length clock → u.sender < length clock →
    (in_time clock u ≡ true) ↔ ((number_of u ≤ suc (get_or clock u.sender 0)) × ((i : ℕ) → i ≢ u.sender → get_or u.vector i 0 ≤ get_or clock i 0))
unfolding in_time number_of
in_time_exactly clock u long there = (
  λ e. (
    let most = at_most_at u.vector (raised clock u.sender) e u.sender in let same = here in omega arith,
    λ i d. let most = at_most_at u.vector (raised clock u.sender) e i in let same = other i d in omega arith,
  ),
  λ h. at_most_by u.vector (raised clock u.sender) (let l = length-set clock u.sender (suc (get_or clock u.sender 0)) in omega arith) (λ i. cases (eqb i u.sender)
      (λ q. rw (eqb-true i u.sender q) (let n = h.0 in let same = here in omega arith))
      (λ q. let d = eqb-false i u.sender q in let n = h.1 i d in let same = other i d in omega arith)),
)
  where
    here : get_or (raised clock u.sender) u.sender 0 ≡ suc (get_or clock u.sender 0)
    here = raised_at clock u.sender there

    other : (i : ℕ) → i ≢ u.sender → get_or (raised clock u.sender) i 0 ≡ get_or clock i 0
    other i d = get_or-set_other clock u.sender i (suc (get_or clock u.sender 0)) 0 d

-- refusals 5 and 6 leave one number: the next
pub next_number : (table : Table) (frame : Frame) → length table.clock ≡ table.header.size → FrameAccepted table frame → number_of frame.operation ≡ suc (get_or table.clock frame.operation.sender 0)
unfolding number_of
next_number table frame long a =
    let u = frame.operation in
    let most = at_most_at u.vector (raised table.clock u.sender) a.in_time_lem u.sender in
    let here = raised_at table.clock u.sender (let h = a.sender_in in omega arith) in
    let more : get_or table.clock u.sender 0 < get_or u.vector u.sender 0 = a.above in
    omega arith

-- A local operation that passes 3, 4, 9 and 8.
pub record LocalAccepted (table : Table) (local : Local) : Type 0 where
  pub declared_object : local.object < length table.header.kinds
  pub allowed_operation : operation_allowed table.header (issued_by table local) ≡ true
  pub not_last : suc (get_or table.clock table.header.own 0) ≡ entry_limit → ⊥
  pub room : length (rows_after (kind_in table.header local.object) (issued_by table local) table.rows) ≤ table.header.capacity

-- "A local operation passes ... 3, 4, 9, 8": what an accepted one is known to be.
pub local_accepted : (table : Table) (local : Local) → refusal_of_local table local ≡ 0 → LocalAccepted table local
unfolding refusal_of_local local_refusals issue_refusals operation_allowed declared room_for issued_by
local_accepted table local e =
    let u = issued_by table local in
    let header = table.header in
    let none = (exactly_when.local table local).exactly.none_when e in
    let count = length (rows_after (kind_in header u.object) u table.rows) in
    record {
      declared_object = ltb-true u.object (length header.kinds) (not-false (ltb u.object (length header.kinds)) (none 0));
      allowed_operation = not-false (operation_allowed header u) (none 1);
      not_last = eqb-false (suc (get_or table.clock header.own 0)) entry_limit (none 2);
      room = leb-true count header.capacity (not-false (leb count header.capacity) (none 3));
    }

local_passes : (table : Table) (local : Local) → LocalAccepted table local → refusal_of_local table local ≡ 0
unfolding refusal_of_local local_refusals issue_refusals operation_allowed declared room_for issued_by
local_passes table local a =
    let u = issued_by table local in
    let header = table.header in
    rw (
      lt-ltb u.object (length header.kinds) a.declared_object,
      a.allowed_operation,
      ne_eqb (suc (get_or table.clock header.own 0)) entry_limit a.not_last,
      le-leb (length (rows_after (kind_in header u.object) u table.rows)) header.capacity a.room,
    )

-- "and only then": a local operation is accepted exactly when all of this holds.
pub local_exactly : (table : Table) (local : Local) → (refusal_of_local table local ≡ 0) ↔ LocalAccepted table local
local_exactly table local = (local_accepted table local, local_passes table local)

-- A question that passes 1, 3, 12 and 11: known, with "The value is 0 except in question 5", of a declared object, fitted to its kind, and a
-- list not longer than the list space.
pub record QuestionTaken (header : Header) (source : Source) (room : ℕ) (asked : Asked) : Type 0 where
  pub known : (asks_total ≤ asked.question) × (asked.question ≤ asks_holds)
  pub value_given : asked.question ≡ asks_holds → asked.value < value_limit
  pub no_value : (asked.question ≡ asks_holds → ⊥) → asked.value ≡ 0
  pub declared_object : asked.object < length header.kinds
  pub fitted : fits asked.question (kind_in header asked.object) ≡ true
  pub list_fits : asked.question ≡ asks_list → length (source.list_at asked.object) ≤ room

question_taken : (header : Header) (source : Source) (room : ℕ) (asked : Asked) → first_of (question_refusals header source room asked) ≡ 0 → QuestionTaken header source room asked
unfolding question_refusals asked_refusals well_asked declared list_too_long
question_taken header source room asked e =
    let question = asked.question in
    let value = asked.value in
    let needed = length (source.list_at asked.object) in
    let none = (exactly_when.question header source room asked).exactly.none_when e in
    let one = between asks_total asks_holds question in
    let carries = cond (eqb question asks_holds) (ltb value value_limit) (eqb value 0) in
    let well = not-false (one && carries) (none 0) in
    let right = and_right one carries well in
    record {
      known = between_out asks_total asks_holds question (and_left one carries well);
      value_given = λ q. ltb-true value value_limit (rw (eq-eqb question asks_holds q) at right);
      no_value = λ d. eqb-true value 0 (rw (ne_eqb question asks_holds d) at right);
      declared_object = ltb-true asked.object (length header.kinds) (not-false (ltb asked.object (length header.kinds)) (none 1));
      fitted = not-false (fits question (kind_in header asked.object)) (none 2);
      list_fits = λ q. ltb-false room needed (and_rest (eqb question asks_list) (ltb room needed) (none 3) (eq-eqb question asks_list q));
    }

question_passes : (header : Header) (source : Source) (room : ℕ) (asked : Asked) → QuestionTaken header source room asked → first_of (question_refusals header source room asked) ≡ 0
unfolding question_refusals asked_refusals well_asked declared list_too_long
question_passes header source room asked a =
    let question = asked.question in
    let value = asked.value in
    let needed = length (source.list_at asked.object) in
    let carries : cond (eqb question asks_holds) (ltb value value_limit) (eqb value 0) ≡ true = cases (eqb question asks_holds)
    (λ q. rw q (lt-ltb value value_limit (a.value_given (eqb-true question asks_holds q))))
    (λ q. rw q (eq-eqb value 0 (a.no_value (eqb-false question asks_holds q)))) in
    let short : (eqb question asks_list && ltb room needed) ≡ false = and_fails (eqb question asks_list) (ltb room needed) (λ q. le-ltb room needed (a.list_fits (eqb-true question asks_list q))) in
    rw (between_in asks_total asks_holds question a.known.0 a.known.1, carries, lt-ltb asked.object (length header.kinds) a.declared_object, a.fitted, short)

-- "and only then": a question is answered exactly when all of this holds.
pub question_exactly : (header : Header) (source : Source) (room : ℕ) (asked : Asked) → (first_of (question_refusals header source room asked) ≡ 0) ↔ QuestionTaken header source room asked
question_exactly header source room asked = (question_taken header source room asked, question_passes header source room asked)

-- "A settling call carries a limit, 0 to 65,535": it is refused exactly when the limit is higher.
pub settling_exactly : (limit : ℕ) → (refusal_of_settling limit ≡ 0) ↔ (limit ≤ greatest_limit)
unfolding refusal_of_settling settling_refusals
settling_exactly limit = (
  λ e. leb-true limit greatest_limit (not-false (leb limit greatest_limit) ((exactly_when.settling limit).exactly.none_when e 0)),
  λ h. rw (le-leb limit greatest_limit h),
)
