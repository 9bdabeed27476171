-- A row's tag, by its words.
use Prim.Native.Nat.{ℕ, ◌-◌}
use mathlib.Core.Path.{◌≡◌, refl}
use mathlib.Core.Bool.{false}
use mathlib.Core.List.{List}
use native.Mathlib.Omega.{arith}
use borrow.Author.Tests.{ne_eqb}
use lib.ListN.{length, get_or, take, drop, length-drop}
use lib.Seq.{take_all}
use Rattle.table_rules_rows.specs.RowTests.{unsettled_kept}

-- the rest of a row, as the code lends it
pub rest_is : (row : List ℕ) (a : ℕ) → take (length row - a) (drop a row) ≡ drop a row
rest_is row a = take_all (length row - a) (drop a row) (simp length-drop (omega arith))

-- an unsettled row
pub unsettled_word_lem : (row clock : List ℕ) → (get_or row 4 0 ≡ 1 → ⊥) → false ≡ unsettled_kept clock row
unfolding unsettled_kept
unsettled_word_lem row clock h = rw (ne_eqb (get_or row 4 0) 1 h) refl
