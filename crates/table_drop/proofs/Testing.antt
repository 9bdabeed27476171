-- The words of a row's vector.
use Prim.Native.Nat.{ℕ, ◌-◌}
use mathlib.Core.Path.{◌≡◌}
use mathlib.Core.List.{List}
use native.Mathlib.Omega.{arith}
use lib.ListN.{length, take, drop, length-drop}
use lib.Seq.{take_all}

pub vector_of_row : (row : List ℕ) → take (length row - 7) (drop 7 row) ≡ drop 7 row
vector_of_row row = take_all (length row - 7) (drop 7 row) (simp length-drop (omega arith))
