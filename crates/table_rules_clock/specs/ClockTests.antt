-- The table rules of totals and of vectors, as tests of one of them.
use Rattle.std.specs.Prelude.{Bool, not, ◌&&◌, cond, List, ℕ, leb, eqb, ℤ, nat_abs, get_or}
use Rattle.meaning.specs.Order.{Vector, at_most}
use Rattle.meaning.specs.Operations.{is_counter, grow_counter}
use Rattle.meaning.specs.Table.{is_negative}
use Rattle.words_layout.specs.Words.{all_zero}
use Rattle.words_layout.specs.Layout.{total_of_words}

-- "totals within the bound above, not negative in kind 1"; an object that is no counter has total 0.
unfoldable pub total_kept : ℕ → ℕ → ℤ → Bool
total_kept bound kind total =
    cond (is_counter kind)
    (leb (nat_abs total) bound && not (eqb kind grow_counter && is_negative total))
    (eqb (nat_abs total) 0)

abbrev pub total_kept_at : ℕ → List ℕ → ℕ → List ℕ → Bool
total_kept_at bound kinds object words = total_kept bound (get_or kinds object 0) (total_of_words words)

-- "L[k] at or below D with L[k][k] = D[k]; own L ... 0"
unfoldable pub last_kept : ℕ → Vector → ℕ → Vector → Bool
last_kept own clock station vector =
    cond (eqb station own) (all_zero vector)
    (eqb (get_or vector station 0) (get_or clock station 0) && at_most vector clock)
