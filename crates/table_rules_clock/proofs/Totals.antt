-- Totals and vectors, each by itself.
use Prim.Native.Nat.{ℕ, ◌+◌, ◌*◌, ◌≤◌}
use mathlib.Core.Path.{◌≡◌, refl}
use lib.ListN.{length, drop}
use Rattle.meaning.specs.Order.{Vector, entry_limit}
use Rattle.meaning.specs.Operations.{greatest_amount}
use Rattle.meaning.specs.Table.{sum_of_entries, total_bound, greatest_size}

-- the sum: what is added and the sum of the rest make the sum of all
pub record Summed (clock : Vector) (sum i : ℕ) : Type 0 where
  pub few : length clock ≤ greatest_size
  pub within : i ≤ length clock
  pub bounded : sum ≤ i * entry_limit
  pub whole : sum + sum_of_entries (drop i clock) ≡ sum_of_entries clock

pub bound_there : (clock : Vector) (sum : ℕ) → sum ≡ sum_of_entries clock → greatest_amount * sum ≡ total_bound clock
unfolding total_bound
bound_there clock sum e = rw e refl
