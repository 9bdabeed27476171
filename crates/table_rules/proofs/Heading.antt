-- The head of a table, by its words.
use Prim.Native.Nat.{ℕ, ◌≤◌, ◌<◌}
use mathlib.Core.Path.{◌≡◌, refl, sym, ◌∙◌}
use mathlib.Core.Bool.{Bool, true, false, ◌&&◌}
use mathlib.Core.List.{List}
use native.Mathlib.Omega.{arith}
use borrow.Author.Tests.{eqb-true, eq-eqb, ltb-true, lt-ltb, leb-true, le-leb, lt-leb}
use lib.Dec.{leb, ltb, eqb}
use lib.ListN.{length, get_or}
use Rattle.meaning.specs.Tests.{between}
use Rattle.meaning.proofs.Tests.{and_left, and_right, between_out, between_in}
use Rattle.words_layout.specs.Layout.{table_mark, space_for, size_in, own_in, capacity_in, objects_in, count_in, clock_at}
use Rattle.table_rules.specs.TableTests.{sizes_kept, head_kept, Headed}
use Rattle.meaning.specs.Table.{greatest_size, greatest_capacity, most_objects}

-- the numbers of the head
pub record Sizes (size own capacity objects count : ℕ) : Type 0 where
  pub some : 1 ≤ size
  pub few : size ≤ greatest_size
  pub within_group : own < size
  pub rooms : 1 ≤ capacity
  pub small : capacity ≤ greatest_capacity size
  pub object : 1 ≤ objects
  pub most : objects ≤ most_objects
  pub within : count ≤ capacity

pub sizes_out : (size own capacity objects count : ℕ) → sizes_kept size own capacity objects count ≡ true → Sizes size own capacity objects count
unfolding sizes_kept
sizes_out size own capacity objects count e =
    let a = between 1 greatest_size size in
    let b = ltb own size in
    let c = between 1 (greatest_capacity size) capacity in
    let d = between 1 most_objects objects in
    let f = leb count capacity in
    let e1 = and_right a (b && (c && (d && f))) e in
    let e2 = and_right b (c && (d && f)) e1 in
    let e3 = and_right c (d && f) e2 in
    let sized = between_out 1 greatest_size size (and_left a (b && (c && (d && f))) e) in
    let roomy = between_out 1 (greatest_capacity size) capacity (and_left c (d && f) e2) in
    let many = between_out 1 most_objects objects (and_left d f e3) in
    record {
      some = sized.0;
      few = sized.1;
      within_group = ltb-true own size (and_left b (c && (d && f)) e1);
      rooms = roomy.0;
      small = roomy.1;
      object = many.0;
      most = many.1;
      within = leb-true count capacity (and_right d f e3);
    }

pub sizes_in : (size own capacity objects count : ℕ) → Sizes size own capacity objects count → sizes_kept size own capacity objects count ≡ true
unfolding sizes_kept
sizes_in size own capacity objects count Z =
    rw (between_in 1 greatest_size size Z.some Z.few, lt-ltb own size Z.within_group, between_in 1 (greatest_capacity size) capacity Z.rooms Z.small, between_in 1 most_objects objects Z.object Z.most) (le-leb count capacity Z.within)

-- the head
module _ (s : List ℕ) (r : Bool) (e : r ≡ sizes_kept (get_or s 1 0) (get_or s 2 0) (get_or s 3 0) (get_or s 4 0) (get_or s 5 0)) (h : r ≡ true) where
  pub head_few : get_or s 1 0 ≤ greatest_size
  head_few = (sizes_out (get_or s 1 0) (get_or s 2 0) (get_or s 3 0) (get_or s 4 0) (get_or s 5 0) (sym e ∙ h)).few

  pub head_small : get_or s 3 0 ≤ greatest_capacity (get_or s 1 0)
  head_small = (sizes_out (get_or s 1 0) (get_or s 2 0) (get_or s 3 0) (get_or s 4 0) (get_or s 5 0) (sym e ∙ h)).small

-- the room, at a size that equals the head's
pub room_there : (s : List ℕ) (n p : ℕ) → n ≡ get_or s 1 0 → p ≡ space_for n (get_or s 3 0) → leb p (length s) ≡ leb (space_for (get_or s 1 0) (get_or s 3 0)) (length s)
room_there s n p en q = rw (q, en) refl

pub head_short : (s : List ℕ) → length s < clock_at → false ≡ head_kept s
unfolding head_kept
head_short s h =
    let room = lt-leb (space_for (size_in s) (capacity_in s)) (length s) (omega arith) in
    go (eqb (get_or s 0 0) table_mark) (eqb (get_or s 6 0) 0) (sizes_kept (get_or s 1 0) (get_or s 2 0) (get_or s 3 0) (get_or s 4 0) (get_or s 5 0)) (leb (space_for (size_in s) (capacity_in s)) (length s)) room
  where
    go : (a b c d : Bool) → d ≡ false → false ≡ (a && (b && (c && d)))
    go true true true d e = sym e
    go true true false d e = refl
    go true false c d e = refl
    go false b c d e = refl

pub headed : (s : List ℕ) → head_kept s ≡ true → Headed s
unfolding head_kept
headed s e =
    let a = eqb (get_or s 0 0) table_mark in
    let b = eqb (get_or s 6 0) 0 in
    let c = sizes_kept (size_in s) (own_in s) (capacity_in s) (objects_in s) (count_in s) in
    let d = leb (space_for (size_in s) (capacity_in s)) (length s) in
    let e1 = and_right a (b && (c && d)) e in
    let e2 = and_right b (c && d) e1 in
    let Z = sizes_out (size_in s) (own_in s) (capacity_in s) (objects_in s) (count_in s) (and_left c d e2) in
    record {
      mark = eqb-true (get_or s 0 0) table_mark (and_left a (b && (c && d)) e);
      idle = eqb-true (get_or s 6 0) 0 (and_left b (c && d) e1);
      some = Z.some;
      few = Z.few;
      own = Z.within_group;
      rooms = Z.rooms;
      small = Z.small;
      object = Z.object;
      objects = Z.most;
      within = Z.within;
      room = leb-true (space_for (size_in s) (capacity_in s)) (length s) (and_right c d e2);
    }

pub is_headed : (s : List ℕ) → Headed s → head_kept s ≡ true
unfolding head_kept
is_headed s H =
    let Z : Sizes (size_in s) (own_in s) (capacity_in s) (objects_in s) (count_in s) = record { some = H.some; few = H.few; within_group = H.own; rooms = H.rooms; small = H.small; object = H.object; most = H.objects; within = H.within } in
    rw (eq-eqb (get_or s 0 0) table_mark H.mark, eq-eqb (get_or s 6 0) 0 H.idle, sizes_in (size_in s) (own_in s) (capacity_in s) (objects_in s) (count_in s) Z) (le-leb (space_for (size_in s) (capacity_in s)) (length s) H.room)
