-- A space that holds a table is checked.
use mathlib.Core.Path.{◌≡◌}
use mathlib.Core.Bool.{true}
use mathlib.Core.List.{List}
use Prim.Native.Nat.{ℕ, ◌+◌, ◌*◌, ◌≤◌}
use native.Mathlib.Omega.{arith}
use native.Mathlib.Nat.{mul-le-mul, mul-le-mul_right}
use lib.Dec.{leb}
use lib.ListN.{length}
use Rattle.meaning.specs.Order.{same}
use Rattle.meaning.specs.Table.{is_table, greatest_size, greatest_capacity}
use Rattle.meaning.proofs.Tests.{and_left, and_right}
use Rattle.meaning.proofs.Vectors.{same_eq}
use Rattle.words_layout.specs.Layout.{is_spelt, holds_table, table_of, rewritten, space_for, size_in, capacity_in, count_in, row_width}
use Rattle.table_rules.specs.TableTests.{Headed}
use Rattle.table_rules.proofs.Holding.{table_headed}
use Rattle.table_rules.specs.Checked.{Checked}

module _ (s : List ℕ) (h : holds_table s ≡ true) where
  H : Headed s
  H = table_headed s h

  words_are : s ≡ rewritten s (table_of s)
  unfolding holds_table is_spelt
  words_are = same_eq s (rewritten s (table_of s)) (and_right (leb (space_for (size_in s) (capacity_in s)) (length s)) (same s (rewritten s (table_of s))) (and_left (is_spelt s) (is_table (table_of s)) h))

  ruled : is_table (table_of s) ≡ true
  unfolding holds_table
  ruled = and_right (is_spelt s) (is_table (table_of s)) h

  pub checked : Checked s
  checked =
      let w : 7 + size_in s ≤ row_width greatest_size = omega (arith, H.few) in
      let fewer : count_in s ≤ greatest_capacity (size_in s) = omega (arith, H.within, H.small) in
      let rows : count_in s * (7 + size_in s) ≤ capacity_in s * (7 + size_in s) = mul-le-mul_right (7 + size_in s) H.within in
      record {
        holds = h;
        laid = record { room = H.room; some = H.some; few = H.few; small = H.small; objects = H.objects; within = H.within; spelt = words_are };
        by_rules = ruled;
        some = H.some;
        few = H.few;
        own = H.own;
        small = H.small;
        objects = H.objects;
        within = H.within;
        long = omega (arith, H.room);
        square = mul-le-mul H.few H.few;
        area = mul-le-mul fewer w;
        room = omega (arith, H.room, rows);
      }
