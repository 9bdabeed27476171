-- A row: its words, whether it may join, and that it joins.
use mathlib.Core.Path.{◌≡◌, refl, sym, ap, ◌∙◌}
use mathlib.Core.Bool.{Bool, true, false, ◌&&◌}
use mathlib.Core.List.{List, [], ◌∷◌, ◌++◌}
use Prim.Native.Nat.{ℕ, suc, ◌+◌, ◌-◌, ◌*◌, ◌≤◌, ◌<◌}
use native.Mathlib.Omega.{arith}
use native.Mathlib.Nat.{suc-mul, mul-le-mul_right}
use borrow.Author.Tests.{eq-eqb, ne_eqb, le-ltb, lt-ltb, ltb-true}
use lib.Dec.{eqb, ltb}
use lib.ListN.{drop, get_or, length, replicate, set, take, take-append-drop}
use lib.Seq.{length-take-le, paste, take_all, take_at}
use Rattle.meaning.proofs.Tests.{and_left}
use Rattle.words_layout.specs.Layout.{capacity_in, count_in, space_for, clock_at, row_width}
use Rattle.table_rules.specs.TableTests.{clock_in, kinds_in}
use Rattle.table_rules_rows.specs.RowTests.{follows, row_kept}
use Rattle.table_rules_rows.proofs.Chaining.{by_keys}
use Rattle.line_hex.specs.Choice.{pick}
use Rattle.line_read.specs.declared.Row.{Row}
use Rattle.form_row.specs.LoadHead.{LoadHead}
use Rattle.form_row.specs.Joining.{joined, joins, last_row, row_said}
use Rattle.meaning.specs.Table.{greatest_size}

-- tests one after the other
pub second_fails : (a b c : Bool) → b ≡ false → (a && (b && c)) ≡ false
second_fails true b c e = rw e refl
second_fails false b c e = refl

-- a list and nothing behind it
pub no_more : (l : List ℕ) → l ++ [] ≡ l
no_more [] = refl
no_more (x ∷ l) = ap (λ (t : List ℕ). x ∷ t) (no_more l)

-- a part of the space, where its end equals what the head says
pub part_of : (s : List ℕ) (at n m : ℕ) → n ≡ m → take (at + n - at) (drop at s) ≡ take m (drop at s)
part_of s at n m e = let q : at + n - at ≡ m = omega arith in ap (λ (k : ℕ). take k (drop at s)) q

-- the words of a row
pub row_made : (f : Row) (size number : ℕ) (y x : List ℕ) → length f.vector ≡ greatest_size → number ≡ get_or (take (size - 0) f.vector) f.sender 0
    → y ≡ paste (replicate (row_width greatest_size) 0) 0 (f.object ∷ 0 ∷ f.value ∷ f.code ∷ (1 - f.settled) ∷ f.sender ∷ number ∷ []) 7
    → x ≡ paste y 7 f.vector (length f.vector) → x ≡ row_said size f ++ drop size f.vector
unfolding row_said
row_made f size number y x long e g h =
    let z : size - 0 ≡ size = omega arith in
    let whole : take greatest_size f.vector ++ [] ≡ take size f.vector ++ drop size f.vector = no_more (take greatest_size f.vector) ∙ take_all greatest_size f.vector (omega (arith, long)) ∙ sym (take-append-drop size f.vector) in
    h ∙ rw (long, g, whole, e, z) refl

module _ (f : Row) (n : ℕ) (row : List ℕ) (e : row ≡ row_said n f ++ drop n f.vector) (long : length f.vector ≡ greatest_size) (few : n ≤ greatest_size) where
  said_long : length (row_said n f) ≡ 7 + n
  unfolding row_said
  said_long = omega (arith, length-take-le n f.vector (omega (arith, long)))

  pub row_part : take (7 + n - 0) row ≡ row_said n f
  row_part = let z : 7 + n - 0 ≡ 7 + n = omega arith in rw (z, e) (take_at (row_said n f) (drop n f.vector) (7 + n) said_long)

-- whether a row may join
module _ (s row : List ℕ) where
  abbrev after_last : Bool
  after_last = pick (eqb (count_in s) 0) true (follows (kinds_in s) (last_row s) row)

  pub join_full : get_or s 3 0 ≤ get_or s 5 0 → false ≡ joins s row
  unfolding joins
  join_full h = rw (le-ltb (get_or s 5 0) (get_or s 3 0) h) refl

  module _ (o n : ℕ) (eo : o ≡ get_or s 4 0) (en : n ≡ get_or s 1 0) (t : Bool) (q : t ≡ row_kept (take (7 + o - 7) (drop 7 s)) (take (clock_at + n - clock_at) (drop clock_at s)) row) where
    kept : t ≡ row_kept (kinds_in s) (clock_in s) row
    kept = q ∙ rw (part_of s 7 o (get_or s 4 0) eo, part_of s clock_at n (get_or s 1 0) en) refl

    pub join_unruly : t ≡ false → false ≡ joins s row
    unfolding joins
    join_unruly b = sym (second_fails (ltb (count_in s) (capacity_in s)) (row_kept (kinds_in s) (clock_in s) row) after_last (sym kept ∙ b))

    module _ (room : get_or s 5 0 < get_or s 3 0) (b : t ≡ true) where
      pub join_first : get_or s 5 0 ≡ 0 → true ≡ joins s row
      unfolding joins
      join_first z = rw (lt-ltb (get_or s 5 0) (get_or s 3 0) room, sym kept ∙ b, eq-eqb (get_or s 5 0) 0 z) refl

      module _ (long : length row ≡ 7 + get_or s 1 0) (d : get_or s 5 0 ≡ 0 → ⊥) (last : ℕ) (el : last ≡ space_for n (get_or s 5 0 - 1)) where
        pub join_after : (r : Bool) → r ≡ follows (take (7 + o - 7) (drop 7 s)) (take (last + 7 - last) (drop last s)) (take (7 - 0) row) → r ≡ joins s row
        unfolding joins last_row
        join_after r g =
            let a : last + 7 - last ≡ 7 = omega arith in
            let there : last ≡ space_for (get_or s 1 0) (get_or s 5 0 - 1) = el ∙ rw en refl in
            let same : r ≡ follows (kinds_in s) (take (7 + get_or s 1 0) (drop last s)) (take (7 + get_or s 1 0) row) = g ∙ rw (part_of s 7 o (get_or s 4 0) eo, a) (by_keys (kinds_in s) (drop last s) row (7 + get_or s 1 0) (omega arith)) in
            same ∙ rw (lt-ltb (get_or s 5 0) (get_or s 3 0) room, sym kept ∙ b, ne_eqb (get_or s 5 0) 0 d, take_all (7 + get_or s 1 0) row (omega (arith, long)), there) refl

pub join_counts : (s row : List ℕ) (t : Bool) → t ≡ joins s row → t ≡ true → count_in s < capacity_in s
unfolding joins
join_counts s row t q b = ltb-true (count_in s) (capacity_in s) (and_left (ltb (count_in s) (capacity_in s)) _ (sym q ∙ b))

pub last_row_room : (s : List ℕ) → LoadHead s → (n : ℕ) → n ≡ get_or s 1 0 → (get_or s 5 0 ≡ 0 → ⊥) → (last : ℕ) → last ≡ space_for n (get_or s 5 0 - 1) → last + 7 ≤ length s
last_row_room s H n en d last el =
    let one : get_or s 5 0 ≡ suc (get_or s 5 0 - 1) = omega (arith, d) in
    let area : suc (get_or s 5 0 - 1) * (7 + get_or s 1 0) ≤ get_or s 3 0 * (7 + get_or s 1 0) = mul-le-mul_right (7 + get_or s 1 0) (let h : suc (get_or s 5 0 - 1) ≤ get_or s 3 0 = omega (arith, H.within) in h) in
    rw (el, en) (omega (arith, area, suc-mul (get_or s 5 0 - 1) (7 + get_or s 1 0), H.room))

-- a row joins
module _ (s row : List ℕ) (n at : ℕ) (en : n ≡ get_or s 1 0) (ea : at ≡ space_for n (get_or s 5 0)) where
  pub join_room : LoadHead s → length row ≡ 7 + get_or s 1 0 → get_or s 5 0 < get_or s 3 0 → at + length row ≤ length s
  join_room H long h =
      let below : suc (get_or s 5 0) ≤ get_or s 3 0 = h in
      let area = mul-le-mul_right (7 + get_or s 1 0) below in
      rw (ea, en, long) (omega (arith, area, suc-mul (get_or s 5 0) (7 + get_or s 1 0), H.room))

  pub row_joined : (x : List ℕ) → x ≡ paste s at row (length row) → set x 5 (get_or s 5 0 + 1) ≡ joined s row
  unfolding joined
  row_joined x e =
      let one : get_or s 5 0 + 1 ≡ suc (get_or s 5 0) = omega arith in
      rw (one, e, ea, en) refl
