-- What the table rules say of the vectors that Low is the least of.
use Rattle.std.specs.Prelude.{Bool, List, ℕ}
use Rattle.meaning.specs.Tests.{every}
use Rattle.meaning.specs.Order.{Vector, at_most, others_of}

-- A vector is at or below the clock.
unfoldable pub is_below : Vector → Vector → Bool
is_below clock vector = at_most vector clock

-- "L[k] at or below D", for each other station.
unfoldable pub others_below : Vector → ℕ → List Vector → Bool
others_below clock own last = every (is_below clock) (others_of own last)
