-- Writers and readers by their names: the characters that one writes are read by the other as the same fields, and characters that are read are those that would be written.
use Prim.Native.Nat.{ℕ, ◌≤◌}
use mathlib.Core.Path.{◌≡◌, refl, ap, ◌∙◌}
use mathlib.Core.Bool.{Bool, true}
use mathlib.Core.List.{List, [], ◌∷◌, ◌++◌}
use lib.ListN.{length, take, drop}
use lib.Seq.{take_at}
use Rattle.line_hex.specs.Decoding.{decoded}
use Rattle.line_hex.specs.Hex.{hex_line}
use Rattle.line_hex.specs.Numbers.{AllBytes}
use Rattle.std.proofs.Common.{Option, Ok, Some, None}
use Rattle.std.specs.Bool.{if◌then◌else◌}
use Rattle.line_hex.proofs.Spelling as hex
use Rattle.line_shape.specs.Reading.{padded}
use Rattle.line_shape.specs.Shapes.{Fitting}
use Rattle.line_read.specs.Types.{Line, line_of, shape_of, clock, closing, last_vector, opening, operation, row, total}
use Rattle.line_read.specs.Named.{is_opening, is_operation, opening_read, operation_read}
use Rattle.line_read.specs.declared.Opening.{Opening}
use Rattle.line_read.specs.declared.Operation.{Operation}
use Rattle.line_read.proofs.Named.{operation_only_spelling, operation_reads_back}
use Rattle.line_read.proofs.Taken.{opening_kinds_read_back, opening_only_spelling, opening_reads_back}
use Rattle.line_read.specs.SavedNamed.{clock_read, closing_read, is_clock, is_closing, is_last, is_row, is_total, last_read, row_read, total_read}
use Rattle.line_read.specs.declared.Clock.{Clock}
use Rattle.line_read.specs.declared.Closing.{Closing}
use Rattle.line_read.specs.declared.LastVector.{LastVector}
use Rattle.line_read.specs.declared.Row.{Row}
use Rattle.line_read.specs.declared.Total.{Total}
use Rattle.line_read.proofs.SavedNamed as saved
use Rattle.line_print.specs.Printed.{printed}
use Rattle.line_print.proofs.Spelling.{printed_line, printed_reads_back}
use Rattle.line_print.proofs.Joined.{taken}
use Rattle.meaning.specs.Table.{greatest_size}

-- characters that decode, and whose bytes a reader takes for a value
pub record ReadAs (A : Type 0) (reader : List ℕ → A) (value : A) (characters buffer : List ℕ) : Type 0 where
  pub count : ℕ
  pub told : (decoded characters buffer).0 ≡ Some count
  pub named : reader (taken count characters buffer) ≡ value

-- what is written of a line, into whatever space, is read as a value, through whatever buffer holds its bytes
abbrev pub ReadsBack : (A : Type 0) → (List ℕ → A) → A → Line → List ℕ → List ℕ → Type 0
ReadsBack A reader value line fields more =
    (space buffer : List ℕ) (n : ℕ) → (printed space line fields more).0 ≡ Ok n → length (line_of line fields more) ≤ length buffer → ReadAs A reader value (take n (printed space line fields more).1) buffer

-- what is written of a line, into whatever space, is these characters
abbrev pub OnlySpelling : Line → List ℕ → List ℕ → List ℕ → Type 0
OnlySpelling line fields more characters = (space : List ℕ) (n : ℕ) → (printed space line fields more).0 ≡ Ok n → take n (printed space line fields more).1 ≡ characters

-- what a reader answers: the fields of a line in its shape
abbrev pub answer : {A : Type 0} → (List ℕ → Bool) → (List ℕ → A) → List ℕ → Option A
answer is reader bytes = if is bytes then Some (reader bytes) else None

answered : {A : Type 0} (is : List ℕ → Bool) (reader : List ℕ → A) (bytes : List ℕ) (value : A) → (is bytes ≡ true) × (reader bytes ≡ value) → answer is reader bytes ≡ Some value
answered is reader bytes value says = rw (says.0, says.1) refl

-- both, once for every type of line and every reader

written_reads : (A : Type 0) (reader : List ℕ → A) (value : A) (line : Line) (fields more : List ℕ) → reader (line_of line fields more) ≡ value → ReadsBack A reader value line fields more
written_reads A reader value line fields more says space buffer n e room =
    let bytes : List ℕ = line_of line fields more in
    let whole : decoded (take n (printed space line fields more).1) buffer ≡ (Some (length bytes), bytes ++ drop (length bytes) buffer) = printed_reads_back space line fields more n buffer e room in
    let front : taken (length bytes) (take n (printed space line fields more).1) buffer ≡ bytes = ap (λ (p : _ × List ℕ). take (length bytes) p.1) whole ∙ take_at bytes (drop (length bytes) buffer) (length bytes) refl in
    record { count = length bytes; told = ap (λ (p : _ × List ℕ). p.0) whole; named = ap reader front ∙ says }

module _ (characters buffer : List ℕ) (count : ℕ) (told : (decoded characters buffer).0 ≡ Some count) where
  abbrev bytes : List ℕ
  bytes = taken count characters buffer

  are_bytes : AllBytes bytes
  are_bytes = hex.all_bytes_decoded characters buffer count told

  read_written : (line : Line) (fields more : List ℕ) → line_of line fields more ≡ bytes → OnlySpelling line fields more characters
  read_written line fields more says space n e = printed_line space line fields more n e ∙ ap hex_line says ∙ hex.decoded_only_spelling characters buffer count told

  pub clock_characters_only_spelling : (stations : ℕ) → is_clock stations bytes ≡ true → OnlySpelling clock [] (take stations (clock_read stations bytes).vector) characters
  clock_characters_only_spelling stations e = read_written clock _ _ (saved.clock_only_spelling bytes are_bytes stations e)

  pub last_characters_only_spelling : (stations : ℕ) → is_last stations bytes ≡ true → OnlySpelling last_vector ((last_read stations bytes).station ∷ []) (take stations (last_read stations bytes).vector) characters
  last_characters_only_spelling stations e = read_written last_vector _ _ (saved.last_only_spelling bytes are_bytes stations e)

  pub row_characters_only_spelling : (stations : ℕ) → is_row stations bytes ≡ true
      → OnlySpelling row ((row_read stations bytes).object ∷ (row_read stations bytes).code ∷ (row_read stations bytes).settled ∷ (row_read stations bytes).sender ∷ (row_read stations bytes).value ∷ []) (take stations (row_read stations bytes).vector) characters
  row_characters_only_spelling stations e = read_written row _ _ (saved.row_only_spelling bytes are_bytes stations e)

  pub total_characters_only_spelling : is_total bytes ≡ true → OnlySpelling total ((total_read bytes).object ∷ (total_read bytes).high ∷ (total_read bytes).low ∷ []) [] characters
  total_characters_only_spelling e = read_written total _ _ (saved.total_only_spelling bytes are_bytes e)

  pub closing_characters_only_spelling : is_closing bytes ≡ true → OnlySpelling closing ((closing_read bytes).rows ∷ []) [] characters
  closing_characters_only_spelling e = read_written closing _ _ (saved.closing_only_spelling bytes are_bytes e)

  pub opening_characters_only_spelling : is_opening bytes ≡ true
      → OnlySpelling opening ((opening_read bytes).stations ∷ (opening_read bytes).own ∷ (opening_read bytes).capacity ∷ (opening_read bytes).count ∷ []) (drop 6 bytes) characters
  opening_characters_only_spelling e = read_written opening _ _ (opening_only_spelling bytes are_bytes e)

  pub operation_characters_only_spelling : is_operation bytes ≡ true
      → OnlySpelling operation ((operation_read bytes).stations ∷ (operation_read bytes).sender ∷ (operation_read bytes).object ∷ (operation_read bytes).code ∷ (operation_read bytes).value ∷ []) (take (operation_read bytes).stations (operation_read bytes).vector) characters
  operation_characters_only_spelling e = read_written operation _ _ (operation_only_spelling bytes are_bytes e)

module _ (vector : List ℕ) (few : length vector ≤ greatest_size) where
  pub clock_characters_read_back : Fitting (shape_of clock (length vector)) (clock.type_byte ∷ vector) → ReadsBack (Option Clock) (answer (is_clock (length vector)) (clock_read (length vector))) (Some (record { vector = padded greatest_size vector })) clock [] vector
  clock_characters_read_back fit = written_reads (Option Clock) (answer (is_clock (length vector)) (clock_read (length vector))) _ clock [] vector (answered (is_clock (length vector)) (clock_read (length vector)) _ _ (saved.clock_reads_back vector few fit))

  pub last_characters_read_back : (station : ℕ) → Fitting (shape_of last_vector (length vector)) (last_vector.type_byte ∷ station ∷ vector)
      → ReadsBack (Option LastVector) (answer (is_last (length vector)) (last_read (length vector))) (Some (record { station = station; vector = padded greatest_size vector })) last_vector (station ∷ []) vector
  last_characters_read_back station fit = written_reads (Option LastVector) (answer (is_last (length vector)) (last_read (length vector))) _ last_vector (station ∷ []) vector (answered (is_last (length vector)) (last_read (length vector)) _ _ (saved.last_reads_back vector few station fit))

  pub row_characters_read_back : (object code settled sender value : ℕ) → Fitting (shape_of row (length vector)) (row.type_byte ∷ object ∷ code ∷ settled ∷ sender ∷ value ∷ vector)
      → ReadsBack (Option Row) (answer (is_row (length vector)) (row_read (length vector))) (Some (record { object = object; code = code; settled = settled; sender = sender; value = value; vector = padded greatest_size vector })) row (object ∷ code ∷ settled ∷ sender ∷ value ∷ []) vector
  row_characters_read_back object code settled sender value fit =
      written_reads (Option Row) (answer (is_row (length vector)) (row_read (length vector))) _ row (object ∷ code ∷ settled ∷ sender ∷ value ∷ []) vector (answered (is_row (length vector)) (row_read (length vector)) _ _ (saved.row_reads_back vector few object code settled sender value fit))

  pub operation_characters_read_back : (sender object code value : ℕ) → Fitting (shape_of operation (length vector)) (operation.type_byte ∷ length vector ∷ sender ∷ object ∷ code ∷ value ∷ vector)
      → ReadsBack (Option Operation) (answer is_operation operation_read) (Some (record { stations = length vector; sender = sender; object = object; code = code; value = value; vector = padded greatest_size vector })) operation (length vector ∷ sender ∷ object ∷ code ∷ value ∷ []) vector
  operation_characters_read_back sender object code value fit =
      written_reads (Option Operation) (answer is_operation operation_read) _ operation (length vector ∷ sender ∷ object ∷ code ∷ value ∷ []) vector (answered is_operation operation_read _ _ (operation_reads_back sender object code value vector few fit))

pub opening_characters_read_back : (stations own capacity : ℕ) (kinds : List ℕ) → Fitting (shape_of opening (length kinds)) (opening.type_byte ∷ stations ∷ own ∷ capacity ∷ length kinds ∷ kinds)
    → ReadsBack (Option Opening) (answer is_opening opening_read) (Some (record { stations = stations; own = own; capacity = capacity; count = length kinds })) opening (stations ∷ own ∷ capacity ∷ length kinds ∷ []) kinds
opening_characters_read_back stations own capacity kinds fit =
    written_reads (Option Opening) (answer is_opening opening_read) _ opening (stations ∷ own ∷ capacity ∷ length kinds ∷ []) kinds (answered is_opening opening_read _ _ (opening_reads_back stations own capacity kinds fit))

-- and its kinds, behind its six bytes
pub opening_kinds_characters_read_back : (stations own capacity : ℕ) (kinds : List ℕ) → Fitting (shape_of opening (length kinds)) (opening.type_byte ∷ stations ∷ own ∷ capacity ∷ length kinds ∷ kinds)
    → ReadsBack (List ℕ) (drop 6) kinds opening (stations ∷ own ∷ capacity ∷ length kinds ∷ []) kinds
opening_kinds_characters_read_back stations own capacity kinds fit =
    written_reads (List ℕ) (drop 6) kinds opening (stations ∷ own ∷ capacity ∷ length kinds ∷ []) kinds (opening_kinds_read_back stations own capacity kinds fit)

pub total_characters_read_back : (object high low : ℕ) → Fitting (shape_of total 0) (total.type_byte ∷ object ∷ high ∷ low ∷ [])
    → ReadsBack (Option Total) (answer is_total total_read) (Some (record { object = object; high = high; low = low })) total (object ∷ high ∷ low ∷ []) []
total_characters_read_back object high low fit = written_reads (Option Total) (answer is_total total_read) _ total (object ∷ high ∷ low ∷ []) [] (answered is_total total_read _ _ (saved.total_reads_back object high low fit))

pub closing_characters_read_back : (rows : ℕ) → Fitting (shape_of closing 0) (closing.type_byte ∷ rows ∷ []) → ReadsBack (Option Closing) (answer is_closing closing_read) (Some (record { rows = rows })) closing (rows ∷ []) []
closing_characters_read_back rows fit = written_reads (Option Closing) (answer is_closing closing_read) _ closing (rows ∷ []) [] (answered is_closing closing_read _ _ (saved.closing_reads_back rows fit))
