-- The order of operations, for every N: a strict order with four outcomes, and what stability gives.
use mathlib.Core.Path.{◌≡◌, refl, ap, subst}
use mathlib.Core.Bool.{Bool, true, false, not, ◌&&◌, cond}
use mathlib.Core.List.{List, [], ◌∷◌}
use Prim.Native.Nat.{ℕ, ◌+◌, suc}
use native.Mathlib.Omega.{arith}
use lib.ListN.{set, length}
use Rattle.meaning.specs.Order.{Vector, at_most, same, before_by_vector, concurrent_by_vector}
use Rattle.meaning.specs.Operations.{Operation, before, concurrent}
use Rattle.meaning.specs.Settling.{stable_by}
use Rattle.meaning.specs.Table.{Table, low, stable, is_table}
use Rattle.meaning.specs.Refusals.{Frame, Local, issued_by, refusal_of_frame, refusal_of_local}
use Rattle.meaning.specs.Calls.{after_arrival}
use Rattle.meaning.specs.History.{Event, Station, after, after_all}
use Rattle.meaning.proofs.Tests.{clash, fails}
use Rattle.meaning.proofs.Vectors.{at_most_at, before_by, before_not, before_at_most, before_irreflexive, before_trans, higher, same_eq}
use Rattle.meaning.proofs.TableFacts.{low_below}
use Rattle.meaning.proofs.Arriving.{Accepts, frame_accepts, local_accepts, event_elim}
use Rattle.meaning.proofs.TableRules.{kept}

-- "Operation u is *before* t when every entry of u's vector is at most t's and the vectors differ": no operation is before itself,
pub irreflexive : (u : Operation) → before u u ≡ false
unfolding before
irreflexive u = before_irreflexive u.vector

-- "'Later' means the first is before the second": what is later than a later one is later,
pub transitive : (u t later : Operation) → before u t ≡ true → before t later ≡ true → before u later ≡ true
unfolding before
transitive u t later p q = before_trans u.vector t.vector later.vector p q

-- "Neither before the other, and different: *concurrent*": never are both before each other.
pub asymmetric : (u t : Operation) → before u t ≡ true → before t u ≡ false
unfolding before
asymmetric u t p = fails (before_by_vector t.vector u.vector) (λ q. clash (at_most t.vector u.vector) (before_at_most t.vector u.vector q) (before_not u.vector t.vector p))

-- How many of these tests hold.
abbrev pub how_many : List Bool → ℕ
how_many [] = 0
how_many (test ∷ tests) = cond test 1 0 + how_many tests

one : (a b c : Bool) → (a ≡ true → b ≡ false) → (a ≡ true → c ≡ false) → (b ≡ true → c ≡ false) → how_many (a ∷ b ∷ c ∷ ((not a && not b) && not c) ∷ []) ≡ 1
one true b c f g h = rw (f refl, g refl)
one false true c f g h = rw (h refl)
one false false true f g h = refl
one false false false f g h = refl

-- "Neither before the other, and different: *concurrent*": exactly one of before, after, same and concurrent holds.
pub exactly_one : (u t : Operation) → how_many (before u t ∷ before t u ∷ same u.vector t.vector ∷ concurrent u t ∷ []) ≡ 1
unfolding before concurrent concurrent_by_vector
exactly_one u t = one (before_by_vector u.vector t.vector) (before_by_vector t.vector u.vector) (same u.vector t.vector)
    (asymmetric u t)
    (λ p. fails (same u.vector t.vector) (λ q. clash (before_by_vector t.vector t.vector) (rw (same_eq u.vector t.vector q) at p) (before_irreflexive t.vector)))
    (λ p. fails (same u.vector t.vector) (λ q. clash (before_by_vector t.vector t.vector) (rw (same_eq u.vector t.vector q) at p) (before_irreflexive t.vector)))

-- an operation that is stable is before whatever is accepted next
before_accepted : (table : Table) (t : Operation) (last' : List Vector) → is_table table ≡ true → Accepts table t last' → (u : Operation) → stable table u ≡ true → before u t ≡ true
unfolding before stable stable_by
before_accepted table t last' is ac u s =
    let c = low_below table is u.vector s in
    before_by u.vector t.vector (ac.reach u.vector c s)
    (higher t.vector u.vector t.sender (let k = at_most_at u.vector table.clock c t.sender in let n = ac.next in omega arith))

-- "a stable operation is before every later arrival": the next frame,
pub stable_before_frame : (table : Table) (frame : Frame) → is_table table ≡ true → refusal_of_frame table frame ≡ 0 → (u : Operation) → stable table u ≡ true → before u frame.operation ≡ true
stable_before_frame table frame is e u s = before_accepted table frame.operation (set table.last frame.operation.sender frame.operation.vector) is (frame_accepts table frame is e) u s

-- "before every later arrival": the next local operation,
pub stable_before_local : (table : Table) (local : Local) → is_table table ≡ true → refusal_of_local table local ≡ 0 → (u : Operation) → stable table u ≡ true → before u (issued_by table local) ≡ true
stable_before_local table local is e u s = before_accepted table (issued_by table local) table.last is (local_accepts table local is e) u s

-- A table by the rules in which u is stable.
pub record StableIn (u : Operation) (station : Station) : Type 0 where
  pub is_table_lem : is_table station.table ≡ true
  pub is_stable : stable station.table u ≡ true

stays_after : (event : Event) (u : Operation) (station : Station) → StableIn u station → StableIn u (after event station)
unfolding stable stable_by low after_arrival
stays_after event u station h = record {
  is_table_lem = kept event station h.is_table_lem;
  is_stable = event_elim (λ (next : Station). stable next.table u ≡ true) event station h.is_table_lem h.is_stable
      (λ t last' ac. ac.rise u.vector (low_below station.table h.is_table_lem u.vector h.is_stable) h.is_stable)
      (λ limit. h.is_stable);
}

-- "An operation is *stable* when its whole vector is at or below Low": and stays so, whatever happens.
pub stays_stable : (events : List Event) (u : Operation) (station : Station) → StableIn u station → StableIn u (after_all events station)
unfolding after_all
stays_stable [] u station h = h
stays_stable (event ∷ events) u station h = stays_stable events u (after event station) (stays_after event u station h)

-- a list is not itself with one more
no_longer : {A : Type 0} (x : A) (l : List A) → l ≡ x ∷ l → ⊥
no_longer x l e = let n : length l ≡ suc (length l) = ap length e in omega arith

-- "a stable operation is before every later arrival": whatever has happened since, the operation t that the next call accepts is after it.
pub stable_before_later : (u : Operation) (station : Station) → is_table station.table ≡ true → stable station.table u ≡ true →
    (events : List Event) (event : Event) (t : Operation) → (after event (after_all events station)).accepted ≡ t ∷ (after_all events station).accepted → before u t ≡ true
stable_before_later u station is s events event t arrives =
    let now = after_all events station in
    let h = stays_stable events u station (record { is_table_lem = is; is_stable = s }) in
    event_elim (λ (next : Station). next.accepted ≡ t ∷ now.accepted → before u t ≡ true) event now h.is_table_lem
    (λ e. absurd (no_longer t now.accepted e))
    (λ x last' ac e. let same : x ≡ t = cc in subst (λ (y : Operation). before u y ≡ true) same (before_accepted now.table x last' h.is_table_lem ac u h.is_stable))
    (λ limit e. absurd (no_longer t now.accepted e))
    arrives
