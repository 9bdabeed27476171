-- What a pass over rows in words leaves.
use Rattle.std.specs.Prelude.{List, ◌++◌, ℕ, ◌+◌, ◌-◌, drop, replicate, take}
use Rattle.meaning.specs.Order.{Vector}
use Rattle.meaning.specs.Rows.{Row}
use Rattle.meaning.specs.Settling.{settled_rows, steps_taken}
use Rattle.settling_step.specs.Held.{kind_at}

-- "takes steps until the limit or until no stable unsettled row is left": the rows then, and how many steps it took.
unfoldable pub rows_then : List ℕ → Vector → ℕ → List Row → List Row
rows_then kinds low limit rows = settled_rows limit (kind_at kinds) low rows

unfoldable pub steps_then : List ℕ → Vector → ℕ → List Row → ℕ
steps_then kinds low limit rows = steps_taken limit (kind_at kinds) low rows

-- Words with a run of them moved down to a place, and zeros where it left room.
unfoldable pub closed_up : List ℕ → ℕ → ℕ → ℕ → List ℕ
closed_up words from to run = take to words ++ (take run (drop from words) ++ (replicate (from - to) 0 ++ drop (from + run) words))

-- No place among lent words is as great.
abbrev pub place_limit : ℕ
place_limit = 9223372036854775808
