-- What a place among the last vectors and among the totals stands for: the inner functions find it.
use Rattle.std.specs.Prelude.{cond, List, [], ◌∷◌, ℕ, suc, ◌-◌, Result, Ok, Err, eqb, ltb}
use Rattle.meaning.specs.Operations.{is_counter}

-- the other station behind so many others: the own one is passed over
unfoldable pub other_at : ℕ → ℕ → ℕ
other_at own ahead = cond (ltb ahead own) ahead (suc ahead)

-- the object of the counter behind so many others, the first kind being that of the object given; where there are not so many counters, how
-- many are left of the number when all are passed
unfoldable pub counter_at : List ℕ → ℕ → ℕ → Result ℕ ℕ
counter_at [] object ahead = Err ahead
counter_at (kind ∷ kinds) object ahead =
    cond (is_counter kind)
    (cond (eqb ahead 0) (Ok object) (counter_at kinds (suc object) (ahead - 1)))
    (counter_at kinds (suc object) ahead)
