-- A row of a saved form joins the rows that a space under load has taken.
use Rattle.std.specs.Prelude.{Bool, true, ◌&&◌, List, ◌∷◌, ℕ, suc, ◌-◌, eqb, ltb, drop, get_or, length, set, take}
use Rattle.std.proofs.Math.Seq.{paste}
use Rattle.words_layout.specs.Layout.{capacity_in, count_in, row_width, size_in, space_for}
use Rattle.table_rules.specs.TableTests.{clock_in, kinds_in}
use Rattle.table_rules_rows.specs.RowTests.{follows, row_kept}
use Rattle.line_hex.specs.Choice.{pick}
use Rattle.line_read.specs.declared.Row.{Row}

-- The words of the row that a `53` line says; "01 settled or 00".
unfoldable pub row_said : ℕ → Row → List ℕ
row_said size f =
    let vector = take size f.vector in
    f.object ∷ 0 ∷ f.value ∷ f.code ∷ (1 - f.settled) ∷ f.sender ∷ get_or vector f.sender 0 ∷ vector

-- The place of a row stands behind the words of a table with as many rows as are before it.
abbrev pub row_place : List ℕ → ℕ → ℕ
row_place words k = space_for (size_in words) k

-- The row that was taken last.
unfoldable pub last_row : List ℕ → List ℕ
last_row words = take (row_width (size_in words)) (drop (row_place words (count_in words - 1)) words)

-- A row may join: at most capacity, by its own rules, and in order behind the last.
unfoldable pub joins : List ℕ → List ℕ → Bool
joins words row =
    ltb (count_in words) (capacity_in words)
    && (row_kept (kinds_in words) (clock_in words) row
    && pick (eqb (count_in words) 0) true (follows (kinds_in words) (last_row words) row))

-- It joins behind the last, and is counted.
unfoldable pub joined : List ℕ → List ℕ → List ℕ
joined words row = set (paste words (row_place words (count_in words)) row (length row)) 5 (suc (count_in words))
