-- The two laws of each line that a station reads, by the names of its fields. An opening's are beside its kinds.
use Prim.Native.Nat.{ℕ, ◌≤◌}
use mathlib.Core.Path.{◌≡◌, refl, sym, ap, ◌∙◌}
use mathlib.Core.Bool.{true}
use mathlib.Core.List.{List, [], ◌∷◌, ◌++◌}
use native.Mathlib.Omega.{arith}
use borrow.Author.Tests.{leb-true}
use lib.Dec.{leb}
use lib.ListN.{length, get_or, take}
use lib.Seq.{length-take-le}
use Rattle.line_hex.specs.Numbers.{AllBytes}
use Rattle.line_hex.proofs.Digits.{and_left}
use Rattle.line_shape.specs.Reading.{fields_read, has_shape, is_shaped, padded, size_of}
use Rattle.line_shape.specs.Shapes.{Fitting, read}
use Rattle.line_read.specs.Types.{head_of, is_line_of, line_of, line_read, shape_of, operation, issue, settling, question, printing}
use Rattle.line_read.specs.Named.{is_issue, is_operation, is_question, is_settling, issue_of, issue_read, operation_of, operation_read, printing_read, question_of, question_read, settling_of, settling_read}
use Rattle.line_read.proofs.Spelling.{line_of_spelt, only_spelling}
use Rattle.line_read.proofs.Known.{known}
use Rattle.line_read.proofs.Readers.{operation_vector}
use Rattle.line_read.proofs.Taken.{head_reads_back, line_only_spelling_named, line_reads_back, second_field, written_is_of}
use Rattle.meaning.specs.Table.{greatest_size}

pub issue_reads_back : (object code value : ℕ) → Fitting (shape_of issue 0) (issue.type_byte ∷ object ∷ code ∷ value ∷ [])
    → (is_issue (line_of issue (object ∷ code ∷ value ∷ []) []) ≡ true) × (issue_read (line_of issue (object ∷ code ∷ value ∷ []) []) ≡ record { object = object; code = code; value = value })
unfolding is_issue issue_read padded
issue_reads_back object code value fit = let back = (line_reads_back issue (object ∷ code ∷ value ∷ []) [] refl fit (known issue refl) refl (omega arith)) in (back.0, ap issue_of back.1)

pub issue_only_spelling : (bytes : List ℕ) → AllBytes bytes → is_issue bytes ≡ true
    → line_of issue ((issue_read bytes).object ∷ (issue_read bytes).code ∷ (issue_read bytes).value ∷ []) [] ≡ bytes
unfolding is_issue issue_read
issue_only_spelling bytes h e = line_only_spelling_named issue (known issue refl) 0 bytes refl h e

pub settling_reads_back : (limit : ℕ) → Fitting (shape_of settling 0) (settling.type_byte ∷ limit ∷ []) → (is_settling (line_of settling (limit ∷ []) []) ≡ true) × (settling_read (line_of settling (limit ∷ []) []) ≡ record { limit = limit })
unfolding is_settling settling_read padded
settling_reads_back limit fit = let back = (line_reads_back settling (limit ∷ []) [] refl fit (known settling refl) refl (omega arith)) in (back.0, ap settling_of back.1)

pub settling_only_spelling : (bytes : List ℕ) → AllBytes bytes → is_settling bytes ≡ true → line_of settling ((settling_read bytes).limit ∷ []) [] ≡ bytes
unfolding is_settling settling_read
settling_only_spelling bytes h e = line_only_spelling_named settling (known settling refl) 0 bytes refl h e

pub question_reads_back : (object asked value : ℕ) → Fitting (shape_of question 0) (question.type_byte ∷ object ∷ asked ∷ value ∷ [])
    → (is_question (line_of question (object ∷ asked ∷ value ∷ []) []) ≡ true) × (question_read (line_of question (object ∷ asked ∷ value ∷ []) []) ≡ record { object = object; question = asked; value = value })
unfolding is_question question_read padded
question_reads_back object asked value fit = let back = (line_reads_back question (object ∷ asked ∷ value ∷ []) [] refl fit (known question refl) refl (omega arith)) in (back.0, ap question_of back.1)

pub question_only_spelling : (bytes : List ℕ) → AllBytes bytes → is_question bytes ≡ true
    → line_of question ((question_read bytes).object ∷ (question_read bytes).question ∷ (question_read bytes).value ∷ []) [] ≡ bytes
unfolding is_question question_read
question_only_spelling bytes h e = line_only_spelling_named question (known question refl) 0 bytes refl h e

pub printing_reads_back : printing_read (line_of printing [] []) ≡ true
unfolding printing_read Fitting
printing_reads_back = written_is_of printing [] [] refl (omega arith, tt) (known printing refl)

pub printing_only_spelling : (bytes : List ℕ) → AllBytes bytes → printing_read bytes ≡ true → line_of printing [] [] ≡ bytes
unfolding printing_read read
printing_only_spelling bytes h e = line_of_spelt printing [] [] refl ∙ only_spelling printing 0 bytes h e

-- an operation has as many entries as its own N says
module _ (sender object code value : ℕ) (vector : List ℕ) where
  abbrev operation_fields : List ℕ
  operation_fields = length vector ∷ sender ∷ object ∷ code ∷ value ∷ []

  pub operation_reads_back : length vector ≤ greatest_size → Fitting (shape_of operation (length vector)) (operation.type_byte ∷ (operation_fields ++ vector))
      → (is_operation (line_of operation operation_fields vector) ≡ true) × (operation_read (line_of operation operation_fields vector) ≡ record { stations = length vector; sender = sender; object = object; code = code; value = value; vector = padded greatest_size vector })
  unfolding is_operation operation_read padded
  operation_reads_back few fit =
      let many : get_or (line_of operation operation_fields vector) 1 0 ≡ length vector = sym (second_field _ (line_of operation operation_fields vector)) ∙ ap (λ (l : List ℕ). get_or l 1 0) (head_reads_back operation operation_fields vector refl fit) in
      let back = line_reads_back operation operation_fields vector refl fit (known operation refl) refl few in
      (rw many back.0, rw many (ap operation_of back.1))

-- the N of an operation that reads is its second byte, and no more than a vector's entries
module _ (bytes : List ℕ) where
  pub operation_stations : is_operation bytes ≡ true → (operation_read bytes).stations ≡ get_or bytes 1 0
  unfolding is_operation is_line_of operation_read line_read fields_read padded read
  operation_stations e = rw e (second_field (1 ∷ 1 ∷ 1 ∷ 4 ∷ []) bytes)

  pub operation_stations_few : is_operation bytes ≡ true → (operation_read bytes).stations ≤ greatest_size
  unfolding is_operation is_line_of is_shaped
  operation_stations_few e = rw (operation_stations e) (leb-true (get_or bytes 1 0) greatest_size (and_left (leb (get_or bytes 1 0) greatest_size) (has_shape operation.type_byte (size_of (head_of operation) (get_or bytes 1 0)) bytes) e))

  -- its entries are as many as its N says
  pub operation_vector_length : is_operation bytes ≡ true → length (take (operation_read bytes).stations (operation_read bytes).vector) ≡ (operation_read bytes).stations
  operation_vector_length e = length-take-le (operation_read bytes).stations (operation_read bytes).vector (omega (arith, operation_vector bytes (operation_read bytes) refl, operation_stations_few e))

pub operation_only_spelling : (bytes : List ℕ) → AllBytes bytes → is_operation bytes ≡ true
    → line_of operation ((operation_read bytes).stations ∷ (operation_read bytes).sender ∷ (operation_read bytes).object ∷ (operation_read bytes).code ∷ (operation_read bytes).value ∷ []) (take (operation_read bytes).stations (operation_read bytes).vector) ≡ bytes
unfolding is_operation operation_read
operation_only_spelling bytes h e =
    ap (λ (n : ℕ). line_of operation ((operation_read bytes).stations ∷ (operation_read bytes).sender ∷ (operation_read bytes).object ∷ (operation_read bytes).code ∷ (operation_read bytes).value ∷ []) (take n (operation_read bytes).vector)) (operation_stations bytes e)
    ∙ line_only_spelling_named operation (known operation refl) (get_or bytes 1 0) bytes refl h e
