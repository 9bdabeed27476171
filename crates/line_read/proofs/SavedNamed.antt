-- The two laws of each line of a saved form, by the names of its fields.
use Prim.Native.Nat.{ℕ, ◌≤◌}
use mathlib.Core.Path.{◌≡◌, refl, ap}
use mathlib.Core.Bool.{true}
use mathlib.Core.List.{List, [], ◌∷◌}
use native.Mathlib.Omega.{arith}
use lib.ListN.{length, take}
use Rattle.line_hex.specs.Numbers.{AllBytes}
use Rattle.line_shape.specs.Reading.{padded}
use Rattle.line_shape.specs.Shapes.{Fitting}
use Rattle.line_read.specs.Types.{line_of, shape_of, clock, last_vector, total, row, closing}
use Rattle.line_read.proofs.Known.{known}
use Rattle.line_read.proofs.Taken.{line_only_spelling_named, line_reads_back}
use Rattle.line_read.specs.SavedNamed.{clock_of, clock_read, closing_of, closing_read, is_clock, is_closing, is_last, is_row, is_total, last_of, last_read, row_of, row_read, total_of, total_read}
use Rattle.meaning.specs.Table.{greatest_size}

module _ (vector : List ℕ) (few : length vector ≤ greatest_size) where
  pub clock_reads_back : Fitting (shape_of clock (length vector)) (clock.type_byte ∷ vector) → (is_clock (length vector) (line_of clock [] vector) ≡ true) × (clock_read (length vector) (line_of clock [] vector) ≡ record { vector = padded greatest_size vector })
  unfolding is_clock clock_read padded
  clock_reads_back fit = let back = (line_reads_back clock [] vector refl fit (known clock refl) refl few) in (back.0, ap clock_of back.1)

  pub last_reads_back : (station : ℕ) → Fitting (shape_of last_vector (length vector)) (last_vector.type_byte ∷ station ∷ vector)
      → (is_last (length vector) (line_of last_vector (station ∷ []) vector) ≡ true) × (last_read (length vector) (line_of last_vector (station ∷ []) vector) ≡ record { station = station; vector = padded greatest_size vector })
  unfolding is_last last_read padded
  last_reads_back station fit = let back = (line_reads_back last_vector (station ∷ []) vector refl fit (known last_vector refl) refl few) in (back.0, ap last_of back.1)

  pub row_reads_back : (object code settled sender value : ℕ) → Fitting (shape_of row (length vector)) (row.type_byte ∷ object ∷ code ∷ settled ∷ sender ∷ value ∷ vector)
      → (is_row (length vector) (line_of row (object ∷ code ∷ settled ∷ sender ∷ value ∷ []) vector) ≡ true) × (row_read (length vector) (line_of row (object ∷ code ∷ settled ∷ sender ∷ value ∷ []) vector) ≡ record { object = object; code = code; settled = settled; sender = sender; value = value; vector = padded greatest_size vector })
  unfolding is_row row_read padded
  row_reads_back object code settled sender value fit = let back = (line_reads_back row (object ∷ code ∷ settled ∷ sender ∷ value ∷ []) vector refl fit (known row refl) refl few) in (back.0, ap row_of back.1)

pub total_reads_back : (object high low : ℕ) → Fitting (shape_of total 0) (total.type_byte ∷ object ∷ high ∷ low ∷ [])
    → (is_total (line_of total (object ∷ high ∷ low ∷ []) []) ≡ true) × (total_read (line_of total (object ∷ high ∷ low ∷ []) []) ≡ record { object = object; high = high; low = low })
unfolding is_total total_read padded
total_reads_back object high low fit = let back = (line_reads_back total (object ∷ high ∷ low ∷ []) [] refl fit (known total refl) refl (omega arith)) in (back.0, ap total_of back.1)

pub closing_reads_back : (rows : ℕ) → Fitting (shape_of closing 0) (closing.type_byte ∷ rows ∷ []) → (is_closing (line_of closing (rows ∷ []) []) ≡ true) × (closing_read (line_of closing (rows ∷ []) []) ≡ record { rows = rows })
unfolding is_closing closing_read padded
closing_reads_back rows fit = let back = (line_reads_back closing (rows ∷ []) [] refl fit (known closing refl) refl (omega arith)) in (back.0, ap closing_of back.1)

module _ (bytes : List ℕ) (h : AllBytes bytes) where
  pub clock_only_spelling : (stations : ℕ) → is_clock stations bytes ≡ true → line_of clock [] (take stations (clock_read stations bytes).vector) ≡ bytes
  unfolding is_clock clock_read
  clock_only_spelling stations e = line_only_spelling_named clock (known clock refl) stations bytes refl h e

  pub last_only_spelling : (stations : ℕ) → is_last stations bytes ≡ true → line_of last_vector ((last_read stations bytes).station ∷ []) (take stations (last_read stations bytes).vector) ≡ bytes
  unfolding is_last last_read
  last_only_spelling stations e = line_only_spelling_named last_vector (known last_vector refl) stations bytes refl h e

  pub row_only_spelling : (stations : ℕ) → is_row stations bytes ≡ true
      → line_of row ((row_read stations bytes).object ∷ (row_read stations bytes).code ∷ (row_read stations bytes).settled ∷ (row_read stations bytes).sender ∷ (row_read stations bytes).value ∷ []) (take stations (row_read stations bytes).vector) ≡ bytes
  unfolding is_row row_read
  row_only_spelling stations e = line_only_spelling_named row (known row refl) stations bytes refl h e

  pub total_only_spelling : is_total bytes ≡ true → line_of total ((total_read bytes).object ∷ (total_read bytes).high ∷ (total_read bytes).low ∷ []) [] ≡ bytes
  unfolding is_total total_read
  total_only_spelling e = line_only_spelling_named total (known total refl) 0 bytes refl h e

  pub closing_only_spelling : is_closing bytes ≡ true → line_of closing ((closing_read bytes).rows ∷ []) [] ≡ bytes
  unfolding is_closing closing_read
  closing_only_spelling e = line_only_spelling_named closing (known closing refl) 0 bytes refl h e
