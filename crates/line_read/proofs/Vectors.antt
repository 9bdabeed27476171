-- A vector that was read has the length of its array.
use Prim.Native.Nat.{ℕ}
use mathlib.Core.Path.{◌≡◌, ap, ◌∙◌}
use mathlib.Core.List.{List}
use lib.ListN.{length}
use Rattle.line_shape.proofs.Taking.{length_vector}
use Rattle.line_read.specs.Types.{head_of, line_read, clock, last_vector, row}
use Rattle.line_read.specs.SavedNamed.{clock_read, last_read, row_read}
use Rattle.line_read.specs.declared.Clock.{Clock}
use Rattle.line_read.specs.declared.LastVector.{LastVector}
use Rattle.line_read.specs.declared.Row.{Row}
use Rattle.meaning.specs.Table.{greatest_size}

module _ (s : List ℕ) (stations : ℕ) where
  pub clock_vector : (r : Clock) → r ≡ clock_read stations s → length r.vector ≡ greatest_size
  unfolding clock_read line_read
  clock_vector r e = ap (λ (x : Clock). length x.vector) e ∙ length_vector s (head_of clock) clock.type_byte stations

  pub last_vector_lem : (r : LastVector) → r ≡ last_read stations s → length r.vector ≡ greatest_size
  unfolding last_read line_read
  last_vector_lem r e = ap (λ (x : LastVector). length x.vector) e ∙ length_vector s (head_of last_vector) last_vector.type_byte stations

  pub row_vector : (r : Row) → r ≡ row_read stations s → length r.vector ≡ greatest_size
  unfolding row_read line_read
  row_vector r e = ap (λ (x : Row). length x.vector) e ∙ length_vector s (head_of row) row.type_byte stations
