-- An accepted operation is after all that is stable, and before nothing that was accepted.
use mathlib.Core.Path.{◌≡◌}
use mathlib.Core.Bool.{true, false}
use mathlib.Core.List.{List, [], ◌∷◌, Memᴰ}
use Prim.Native.Nat.{ℕ, suc, ◌<◌}
use native.Mathlib.Omega.{arith}
use lib.Dec.{eqb}
use lib.ListN.{get_or, set, length}
use borrow.Author.Tests.{eqb-true}
use Rattle.meaning.specs.Order.{Vector, at_most, raised, others_of, low_of}
use Rattle.meaning.specs.Operations.{Operation, number_of, before, code_allowed, value_allowed, allowed}
use Rattle.meaning.specs.Settling.{stable_by}
use Rattle.meaning.specs.Table.{Table, kind_in, low, stable, is_table}
use Rattle.meaning.specs.Refusals.{Frame, Local, issued_by, refusal_of_frame, refusal_of_local, refusal_of_settling, operation_allowed}
use Rattle.meaning.specs.Calls.{with_rows, after_arrival, outcome, receive, issue, settle, rows_settled}
use Rattle.meaning.specs.History.{Event, receives, issues, settles, Station, after_outcome, after_settling, after}
use Rattle.meaning.proofs.Tests.{cases, and_left}
use Rattle.meaning.proofs.Vectors.{at_most_refl, at_most_trans, before_by, not_before, higher, at_most_at, at_most_raised, raised_at, low_under, low_i, low_up, others_mem}
use Rattle.meaning.proofs.OneValue.{Fresh}
use Rattle.meaning.proofs.Acceptance.{frame_accepted, next_number, local_accepted}
use Rattle.meaning.proofs.TableFacts.{facts}

-- what a frame and a local operation have in common once they are accepted; last' is L afterwards
pub record Accepts (table : Table) (u : Operation) (last' : List Vector) : Type 0 where
  pub declared : u.object < length table.header.kinds
  pub code_allowed_lem : code_allowed (kind_in table.header u.object) u.code ≡ true
  pub sender_in : u.sender < table.header.size
  pub next : get_or u.vector u.sender 0 ≡ suc (get_or table.clock u.sender 0)
  pub under : at_most u.vector (raised table.clock u.sender) ≡ true
  pub reach : (x : Vector) → at_most x table.clock ≡ true → at_most x (low table) ≡ true → at_most x u.vector ≡ true
  pub rise : (x : Vector) → at_most x table.clock ≡ true → at_most x (low table) ≡ true → at_most x (low_of (raised table.clock u.sender) (others_of table.header.own last')) ≡ true

pub frame_accepts : (table : Table) (frame : Frame) → is_table table ≡ true → refusal_of_frame table frame ≡ 0 → Accepts table frame.operation (set table.last frame.operation.sender frame.operation.vector)
unfolding low operation_allowed allowed number_of
frame_accepts table frame is e =
    let u = frame.operation in
    let F = facts table is in
    let a = frame_accepted table frame e in
    let kind = kind_in table.header u.object in
    let here = others_mem table.header.own u.sender table.last a.not_own (let l = F.last_length in let h = a.sender_in in omega arith) in
    let up : (x : Vector) → at_most x table.clock ≡ true → at_most x (raised table.clock u.sender) ≡ true = λ x c. at_most_trans x table.clock (raised table.clock u.sender) c (at_most_raised table.clock u.sender) in
    record {
      declared = a.declared_object;
      code_allowed_lem = and_left (code_allowed kind u.code) (value_allowed kind u.code u.value) a.allowed_operation;
      sender_in = a.sender_in;
      next = next_number table frame F.clock_length a;
      under = a.in_time_lem;
      reach = λ x _ h. at_most_trans x (get_or table.last u.sender []) u.vector (low_under x table.clock (others_of table.header.own table.last) h here) a.not_falling;
      rise = λ x c h. low_up x table.clock (raised table.clock u.sender) u.vector table.header.own u.sender table.last (up x c) a.not_falling h;
    }

pub local_accepts : (table : Table) (local : Local) → is_table table ≡ true → refusal_of_local table local ≡ 0 → Accepts table (issued_by table local) table.last
unfolding low operation_allowed allowed issued_by
local_accepts table local is e =
    let u = issued_by table local in
    let F = facts table is in
    let a = local_accepted table local e in
    let own = table.header.own in
    let kind = kind_in table.header u.object in
    let up : (x : Vector) → at_most x table.clock ≡ true → at_most x (raised table.clock own) ≡ true = λ x c. at_most_trans x table.clock (raised table.clock own) c (at_most_raised table.clock own) in
    record {
      declared = a.declared_object;
      code_allowed_lem = and_left (code_allowed kind u.code) (value_allowed kind u.code u.value) a.allowed_operation;
      sender_in = F.own_in_lem;
      next = raised_at table.clock own (let l = F.clock_length in let h = F.own_in_lem in omega arith);
      under = at_most_refl (raised table.clock own);
      reach = λ x c _. up x c;
      rise = λ x c h. low_i x (raised table.clock own) (others_of own table.last) (up x c) (λ y m. low_under x table.clock (others_of own table.last) h m);
    }

-- it is new
pub unseen : (table : Table) (accepted : List Operation) (u : Operation) (last' : List Vector) → ((x : Operation) → Memᴰ x accepted → at_most x.vector table.clock ≡ true) → Accepts table u last' → Memᴰ u accepted → ⊥
unseen table accepted u last' bound A m = let k = at_most_at u.vector table.clock (bound u m) u.sender in let n = A.next in omega arith

-- refusals 5 to 7: what makes the order of acceptance fit the order of operations
pub fresh : (table : Table) (accepted : List Operation) (u : Operation) (last' : List Vector) → ((x : Operation) → Memᴰ x accepted → at_most x.vector table.clock ≡ true) → Accepts table u last' → Fresh u accepted (stable table) (stable (after_arrival table u last'))
unfolding before stable stable_by low after_arrival
fresh table accepted u last' bound A = record {
  last = λ x m. not_before u.vector x.vector (above x m);
  after = λ x m s. before_by x.vector u.vector (A.reach x.vector (bound x m) s) (above x m);
  grow = λ x m s. A.rise x.vector (bound x m) s;
}
  where
    above : (x : Operation) → Memᴰ x accepted → at_most u.vector x.vector ≡ false
    above x m = higher u.vector x.vector u.sender (let k = at_most_at x.vector table.clock (bound x m) u.sender in let n = A.next in omega arith)

-- the station after an accepted operation, and after settling
abbrev pub arrived : Station → Operation → List Vector → Station
arrived station u last' = record { table = after_arrival station.table u last'; accepted = u ∷ station.accepted }

abbrev pub calmed : Station → ℕ → Station
calmed station limit = record { table = with_rows station.table (rows_settled station.table limit); accepted = station.accepted }

-- whatever happens, a station stays as it is, accepts an operation, or settles
pub event_elim : (P : Station → Type 0) (event : Event) (station : Station) → is_table station.table ≡ true → P station →
    ((u : Operation) (last' : List Vector) → Accepts station.table u last' → P (arrived station u last')) →
    ((limit : ℕ) → P (calmed station limit)) → P (after event station)
unfolding after receive issue settle outcome after_outcome after_settling
event_elim P (receives frame) station is stays arrives calms = cases (eqb (refusal_of_frame station.table frame) 0)
    (λ q. rw q (arrives frame.operation (set station.table.last frame.operation.sender frame.operation.vector) (frame_accepts station.table frame is (eqb-true (refusal_of_frame station.table frame) 0 q))))
    (λ q. rw q stays)
event_elim P (issues local) station is stays arrives calms = cases (eqb (refusal_of_local station.table local) 0)
    (λ q. rw q (arrives (issued_by station.table local) station.table.last (local_accepts station.table local is (eqb-true (refusal_of_local station.table local) 0 q))))
    (λ q. rw q stays)
event_elim P (settles limit) station is stays arrives calms = cases (eqb (refusal_of_settling limit) 0) (λ q. rw q (calms limit)) (λ q. rw q stays)
