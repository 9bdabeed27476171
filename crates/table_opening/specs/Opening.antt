-- How a space begins with a head.
use Rattle.std.specs.Prelude.{List, ◌++◌, ℕ, ◌-◌, length, drop, replicate}
use Rattle.words_layout.specs.Layout.{kinds_at}

-- A head and kinds, zeros up to a place, and what lies beyond it.
unfoldable pub headed : List ℕ → List ℕ → ℕ → List ℕ → List ℕ
headed head kinds needed words =
    head ++ (kinds ++ (replicate (needed - kinds_at - length kinds) 0 ++ drop needed words))
