-- Whether a row is put, and whether there is room for it.
use mathlib.Core.Path.{◌≡◌, refl, sym, ap, ◌∙◌}
use mathlib.Core.Bool.{Bool, true, false, not, ◌||◌}
use mathlib.Core.List.{List, [], ◌∷◌, map}
use Rattle.std.specs.Bool.{MatchBool}
use Rattle.std.specs.List.{AllWithin, HoldsAt}
use Prim.Native.Nat.{ℕ, zero, suc, ◌+◌, ◌-◌, ◌<◌}
use native.Mathlib.Omega.{arith}
use borrow.Author.Tests.{eq-eqb, ne_eqb}
use lib.Dec.{eqb, leb, ltb}
use lib.ListN.{length, take, drop}
use Rattle.meaning.specs.Tests.{any}
use Rattle.meaning.specs.Order.{Vector}
use Rattle.meaning.specs.Operations.{is_counter}
use Rattle.meaning.specs.Rows.{Row}
use Rattle.meaning.specs.Arrival.{gets_row, same_value}
use Rattle.words_layout.specs.Layout.{row_of, table_of, capacity_in, rows_at}
use Rattle.table_drop.specs.Arriving.{operation_of, is_kept, puts, staying}
use Rattle.table_drop.specs.declared.Arrival.{Arrival}
use Rattle.table_change.specs.Changes.{Opened, rows_left}
use Rattle.table_change.proofs.Changing.{all_of, left_count}
use Rattle.arrival.specs.Arrives.{has_value, has_room}
use Rattle.arrival.proofs.RowsAfter.{count_put, count_none}

-- what `any` answers, as the test of the list that a chain gives
module _ (test : List ℕ → Bool) where
  none_meets : (l : List (List ℕ)) → AllWithin (λ x. test x ≡ false) l 0 (length l) → any test l ≡ false
  none_meets [] h = refl
  none_meets (x ∷ l) h = let p : test x ≡ false = h 0 x (omega arith) (omega arith) in rw p (none_meets l (λ k d a b. h (suc k) d (omega arith) (omega arith)))

  one_meets : (l : List (List ℕ)) (k : ℕ) → k < length l → HoldsAt (λ x. test x ≡ true) l k → any test l ≡ true
  one_meets [] k a h = absurd (omega arith)
  one_meets (x ∷ l) zero a h = let p : test x ≡ true = h x in rw p refl
  one_meets (x ∷ l) (suc k) a h = let p : any test l ≡ true = one_meets l k (omega arith) h in elim (test x) as (λ b. (b || any test l) ≡ true) [ true ↦ refl | false ↦ p ]

  pub any_by_cases : (r : Bool) (l : List (List ℕ)) → MatchBool r ((k : ℕ) × (k < length l) × HoldsAt (λ x. test x ≡ true) l k) (AllWithin (λ x. test x ≡ false) l 0 (length l)) → r ≡ any test l
  any_by_cases true l h = sym (one_meets l h.0 h.1 h.2)
  any_by_cases false l h = sym (none_meets l h)

pub any_of_rows : (p : Row → Bool) (l : List (List ℕ)) → any (λ words. p (row_of words)) l ≡ any p (map row_of l)
any_of_rows p [] = refl
any_of_rows p (x ∷ l) = ap (λ (b : Bool). p (row_of x) || b) (any_of_rows p l)

-- whether a row is put, in any kind
module _ (s : List ℕ) (n count : ℕ) (a : Arrival) (v : Vector) (O : Opened s n count) (ic : Bool) (ec : ic ≡ is_counter a.kind) where
  abbrev put : Bool
  put = puts a.kind (operation_of a v) (table_of s).rows

  pub puts_counter : ic ≡ true → false ≡ put
  unfolding puts
  puts_counter t = rw (sym ec ∙ t) refl

  module _ (nc : ic ≡ false) (ik : Bool) (ek : ik ≡ is_kept a.kind) where
    pub puts_added : ik ≡ true → a.code ≡ 1 → (base : ℕ) → base ≡ rows_at n → (r : Bool) → r ≡ has_value a v (7 + n) count (take (length s - base) (drop base s)) → not r ≡ put
    unfolding puts has_value table_of
    puts_added t e base start r f =
        let g : r ≡ any (same_value (operation_of a v)) (table_of s).rows = f ∙ rw (all_of s base, start, O.size_is, O.count_is) refl in
        rw (sym ec ∙ nc, sym ek ∙ t, eq-eqb a.code 1 e) (ap not g)

    pub puts_other : ik ≡ true → (a.code ≡ 1 → ⊥) → not (eqb a.code 1) ≡ put
    unfolding puts
    puts_other t e = rw (sym ec ∙ nc, sym ek ∙ t, ne_eqb a.code 1 e) refl

    pub puts_tagged : ik ≡ false → (r : Bool) → r ≡ gets_row a.kind (operation_of a []) → r ≡ put
    unfolding puts gets_row
    puts_tagged t r f = rw (sym ec ∙ nc, sym ek ∙ t) f

-- room for the rows that are left, and for the one that is put
module _ (s : List ℕ) (n count : ℕ) (a : Arrival) (v : Vector) (O : Opened s n count) (base : ℕ) (start : base ≡ rows_at n) (left : ℕ) (e : left ≡ length (staying a v (7 + n) count (take (length s - base) (drop base s)))) (r : Bool) (f : r ≡ puts a.kind (operation_of a v) (table_of s).rows) where
  left_is : left ≡ length (rows_left a v (table_of s))
  left_is = left_count s n count a v O base start left e

  pub room_put : r ≡ true → ltb left (capacity_in s) ≡ has_room a v (table_of s)
  unfolding has_room table_of rows_left
  room_put t = rw (count_put a.kind (operation_of a v) (table_of s).rows (sym f ∙ t)) (ap (λ (m : ℕ). ltb m (capacity_in s)) left_is)

  pub room_none : r ≡ false → leb left (capacity_in s) ≡ has_room a v (table_of s)
  unfolding has_room table_of rows_left
  room_none t = rw (count_none a.kind (operation_of a v) (table_of s).rows (sym f ∙ t)) (ap (λ (m : ℕ). leb m (capacity_in s)) left_is)
