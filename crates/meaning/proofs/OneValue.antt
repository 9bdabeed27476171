-- What the proofs on one value of one object share: the order on operations, and what an arrival brings.
use mathlib.Core.Path.{◌≡◌, refl}
use mathlib.Core.Bool.{Bool, true, false, ◌&&◌, ◌||◌, cond}
use mathlib.Core.Logic.{◌⊎◌}
use mathlib.Core.List.{List, Memᴰ}
use Prim.Native.Nat.{ℕ}
use lib.Dec.{eqb}
use Rattle.meaning.specs.Order.{at_most}
use Rattle.meaning.specs.Operations.{Operation, before}
use Rattle.meaning.specs.Meaning.{of, on, add_of, remove_of, clear_of, ends}
use Rattle.meaning.specs.Rows.{Row, unsettled_row, untagged}
use Rattle.meaning.specs.Arrival.{concerns}
use Rattle.meaning.proofs.Tests.{and_left, or_left}
use Rattle.meaning.proofs.Vectors.{before_at_most, before_irreflexive, at_most_before, at_most_refl}

abbrev pub below : Operation → Operation → Bool
below u t = at_most u.vector t.vector

pub before_below : (u t : Operation) → before u t ≡ true → below u t ≡ true
unfolding before
before_below u t p = before_at_most u.vector t.vector p

pub before_self : (u : Operation) → before u u ≡ false
unfolding before
before_self u = before_irreflexive u.vector

pub below_before : (u w t : Operation) → below u w ≡ true → before w t ≡ true → before u t ≡ true
unfolding before
below_before u w t p q = at_most_before u.vector w.vector t.vector p q

pub below_self : (u : Operation) → below u u ≡ true
below_self u = at_most_refl u.vector

-- t arrives where H was accepted: nothing accepted is later, what is stable is before it, and stays stable
pub record Fresh (t : Operation) (accepted : List Operation) (st st' : Operation → Bool) : Type 0 where
  pub last : (u : Operation) → Memᴰ u accepted → before t u ≡ false
  pub after : (u : Operation) → Memᴰ u accepted → st u ≡ true → before u t ≡ true
  pub grow : (u : Operation) → Memᴰ u accepted → st u ≡ true → st' u ≡ true

-- what ends an add of v, concerns v
pub ends_concerns : (k o v : ℕ) (t : Operation) → ends k o v t ≡ true → concerns k o v t ≡ true
unfolding ends concerns of on remove_of clear_of
ends_concerns k o v t p = go (eqb t.object o) (eqb k 7) (eqb t.code 3) (eqb t.code 2) (eqb t.value v) p
  where
    go : (a b c d e : Bool) → cond b a (((a && e) && d) || (a && c)) ≡ true → (a && (b || (c || e))) ≡ true
    go true true c d e p = refl
    go true false true d e p = refl
    go true false false d true p = refl
    go true false false d false p = p
    go false true c d e p = p
    go false false c d e p = p

pub add_on : (o v : ℕ) (u : Operation) → add_of o v u ≡ true → on o v u ≡ true
unfolding add_of
add_on o v u p = and_left (on o v u) (eqb u.code 1) p

pub remove_on : (o v : ℕ) (u : Operation) → remove_of o v u ≡ true → on o v u ≡ true
unfolding remove_of
remove_on o v u p = and_left (on o v u) (eqb u.code 2) p

-- what is later than a standing operation on v ends its standing
abbrev pub touches : ℕ → ℕ → Operation → Bool
touches o v t = on o v t || clear_of o t

pub concerns_touches : (k o v : ℕ) (t : Operation) → eqb k 7 ≡ false → concerns k o v t ≡ touches o v t
unfolding concerns on clear_of
concerns_touches k o v t p = rw p (go (eqb t.object o) (eqb t.code 3) (eqb t.value v))
  where
    go : (a c e : Bool) → (a && (c || e)) ≡ ((a && e) || (a && c))
    go true true true = refl
    go true true false = refl
    go true false true = refl
    go true false false = refl
    go false c e = refl

pub on_touches : (o v : ℕ) (u : Operation) → on o v u ≡ true → touches o v u ≡ true
on_touches o v u p = or_left (clear_of o u) p

pub on_untagged : (o v : ℕ) (u : Operation) → on o v (untagged u) ≡ on o v u
unfolding on
on_untagged o v u = refl

pub add_untagged : (o v : ℕ) (u : Operation) → add_of o v (untagged u) ≡ add_of o v u
unfolding on add_of
add_untagged o v u = refl

pub remove_untagged : (o v : ℕ) (u : Operation) → remove_of o v (untagged u) ≡ remove_of o v u
unfolding on remove_of
remove_untagged o v u = refl

-- the arrival t takes the row r, where it concerns the row's value
abbrev pub gone : Bool → Operation → Row → Bool
gone concerned t r = concerned && (r.settled || before r.operation t)

-- what the arrival t does to the rows of v, where puts says which operations get one
pub record Arrived (o v : ℕ) (concerned : Bool) (puts : Operation → Bool) (t : Operation) (rows rows' : List Row) : Type 0 where
  pub new : puts t ≡ true → Memᴰ (unsettled_row t) rows'
  pub kept : (r : Row) → Memᴰ r rows → on o v r.operation ≡ true → gone concerned t r ≡ false → Memᴰ r rows'
  pub back : (r : Row) → Memᴰ r rows' → on o v r.operation ≡ true → ((r ≡ unsettled_row t) × (puts t ≡ true)) ⊎ (Memᴰ r rows × (gone concerned t r ≡ false))
