-- A record that keeps the table rules, written in a space: the space holds it, and it reads back.
use mathlib.Core.Path.{◌≡◌, refl, ap, ◌∙◌}
use mathlib.Core.Bool.{true, ◌&&◌}
use mathlib.Core.List.{List, [], ◌∷◌, ◌++◌, Memᴰ}
use Prim.Native.Nat.{ℕ, suc, ◌<◌}
use native.Mathlib.Omega.{arith}
use borrow.Author.Tests.{eqb-true, le-leb}
use lib.Dec.{eqb}
use lib.IntN.{ℤ, pos, negsuc, nat_abs}
use lib.ListN.{length, get_or, length-replicate}
use Rattle.meaning.specs.Order.{Vector, at_most}
use Rattle.meaning.specs.Rows.{Row}
use Rattle.meaning.specs.Table.{Table, zeros, last_rule, is_table}
use Rattle.meaning.proofs.Tests.{cases, and_left}
use Rattle.meaning.proofs.Vectors.{same_eq, eq_same}
use Rattle.meaning.proofs.TableFacts.{Facts, RowFacts, facts, header_facts}
use Rattle.meaning.proofs.TableRules.{total_fits}
use Rattle.words_layout.specs.Layout.{table_of, words_of, rewritten, beyond, space_for, size_in, capacity_in, is_spelt, holds_table}
use Rattle.words_layout.proofs.Pieces.{Wide, Each}
use Rattle.words_layout.proofs.RowWords.{Shaped}
use Rattle.words_layout.proofs.Reading.{InRange, Well, table_read}
use Rattle.words_layout.proofs.Changing.{Sized, laid_again}

wide_by : (n : ℕ) (l : List Vector) → ((k : ℕ) → k < length l → length (get_or l k []) ≡ n) → Wide n l
wide_by n [] h = tt
wide_by n (v ∷ l) h = (h 0 (omega arith), wide_by n l (λ k b. h (suc k) (omega arith)))

in_range_lem : (z : ℤ) → nat_abs z < 9223372036854775808 → InRange z
in_range_lem (pos n) h = h
in_range_lem (negsuc n) h = omega arith

range_by : (l : List ℤ) → ((k : ℕ) → k < length l → nat_abs (get_or l k (pos 0)) < 9223372036854775808) → Each InRange l
range_by [] h = tt
range_by (z ∷ l) h = (in_range_lem z (h 0 (omega arith)), range_by l (λ k b. h (suc k) (omega arith)))

each_by : (P : Row → Type 0) (rows : List Row) → ((row : Row) → Memᴰ row rows → P row) → Each P rows
each_by P [] h = tt
each_by P (row ∷ rows) h = (h row (Memᴰ.head refl), each_by P rows (λ x m. h x (Memᴰ.tail m)))

row_shaped : (table : Table) (row : Row) → RowFacts table row → Shaped table.header.size row
row_shaped table row F = cases row.settled
    (λ q. record { long = rw q (ap (λ (r : Row). length r.operation.vector) (F.without_tag q)) })
    (λ q. record { long = rw q (F.vector_length q) })

last_long : (table : Table) (k : ℕ) (vector : Vector) → last_rule table k vector ≡ true → length vector ≡ table.header.size
unfolding last_rule zeros
last_long table k vector e = cases (eqb k table.header.own)
    (λ q. ap length (same_eq vector (zeros table.header.size) (rw q at e)) ∙ length-replicate table.header.size 0)
    (λ q. eqb-true (length vector) table.header.size (and_left (eqb (length vector) table.header.size) (at_most vector table.clock && eqb (get_or vector k 0) (get_or table.clock k 0)) (rw q at e)))

module _ (t : Table) (is : is_table t ≡ true) where
  F : Facts t
  F = facts t is

  pub well_table : Well t
  well_table =
      let few = (header_facts t.header F.header_in_range).objects_range.1 in
      let many = F.totals_length in
      let lasts = F.last_length in
      record {
        fit = record {
          few_kinds = few;
          few_totals = omega arith;
          clock_long = F.clock_length;
          last_wide = wide_by t.header.size t.last (λ k b. last_long t k (get_or t.last k []) (F.last_rule_lem k (omega arith)));
          last_many = lasts;
        };
        one = many;
        range = range_by t.totals (λ k b. total_fits t is k (omega arith));
        shape = each_by (Shaped t.header.size) t.rows (λ row m. row_shaped t row (F.row_facts row m));
      }

  sized_table : Sized t
  sized_table = let H = header_facts t.header F.header_in_range in record { some = H.size_range.0; few = H.size_range.1; small = H.capacity_range.1; within = F.within }

  -- it reads back, whatever stands behind it
  pub laid_back : (x : List ℕ) → table_of (words_of t ++ x) ≡ t
  laid_back x = table_read t well_table x

  -- and 14 is not given to the space
  pub laid_held : (x : List ℕ) → holds_table (words_of t ++ x) ≡ true
  unfolding holds_table is_spelt
  laid_held x =
      let words = words_of t ++ x in
      let L = laid_again t x well_table sized_table in
      rw (le-leb (space_for (size_in words) (capacity_in words)) (length words) L.room, eq_same words (rewritten words (table_of words)) L.spelt, laid_back x) is

  -- the same of a table in the place of another
  pub table_back : (s : List ℕ) → table_of (rewritten s t) ≡ t
  unfolding rewritten
  table_back s = laid_back (beyond s)

  pub table_held : (s : List ℕ) → holds_table (rewritten s t) ≡ true
  unfolding rewritten
  table_held s = laid_held (beyond s)
