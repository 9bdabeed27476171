-- The entrywise least of two vectors, made where the first stands.
use mathlib.Core.Path.{◌≡◌, refl, sym, ◌∙◌}
use mathlib.Core.List.{◌++◌, append_assoc, append-nil}
use Prim.Native.Nat.{ℕ, suc, ◌+◌, ◌≤◌, ◌<◌, min}
use native.Mathlib.Numerals.{add-one}
use native.Mathlib.Omega.{arith}
use lib.ListN.{length, get_or, take, drop, set, length-set, drop_of_length-le}
use lib.Seq.{drop-cons, take-suc-set, drop-set-lt, take_all}
use Rattle.meaning.specs.Order.{Vector, least}

-- i entries are done: they and the least of the rest make the least of the whole
pub record Lessened (low₀ t low : Vector) (i : ℕ) : Type 0 where
  pub within : i ≤ length low
  pub sized : length low ≡ length low₀
  pub paired : length low₀ ≡ length t
  pub whole : take i low ++ least (drop i low) (drop i t) ≡ least low₀ t

pub start : (low t : Vector) → length low ≡ length t → Lessened low t low 0
start low t e = record { within = omega arith; sized = refl; paired = e; whole = refl }

module _ (low₀ t low : Vector) (i : ℕ) (L : Lessened low₀ t low i) where
  pub turn : i < length low → (entry : ℕ) → entry ≡ min (get_or low i 0) (get_or t i 0) → Lessened low₀ t (set low i entry) (i + 1)
  turn h entry e = record {
    within = simp length-set (omega arith);
    sized = length-set low i entry ∙ L.sized;
    paired = L.paired;
    whole = rw (add-one i, take-suc-set low i entry h, drop-set-lt (suc i) low i entry (omega arith), append_assoc, e) (rw (drop-cons low i 0 h, drop-cons t i 0 (omega (arith, L.sized, L.paired))) at L.whole);
  }

  pub done : length low ≤ i → low ≡ least low₀ t
  done h = sym (append-nil low) ∙ (rw (take_all i low h, drop_of_length-le low {i = i} h) at L.whole)
