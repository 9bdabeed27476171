-- What befalls a table: lines that are answered, calls, and its latest form loaded into a space.
use Rattle.std.specs.Prelude.{◌≡◌, false, List, [], ◌∷◌, ◌++◌, map, ℕ, ◌≤◌, eqb, length}
use Rattle.meaning.specs.Operations as meant
use Rattle.meaning.specs.Refusals.{issued_by}
use Rattle.words_layout.specs.Layout.{capacity_in, size_in, space_for, table_of}
use Rattle.line_hex.specs.Choice.{pick}
use Rattle.line_hex.specs.Hex.{hex_line}
use Rattle.line_read.specs.Named.{issue_read, operation_read}
use Rattle.line_decode.specs.Decoding.{bytes_of}
use Rattle.form_write.specs.Forms.{saved_form}
use Rattle.form_load.specs.Loading.{loaded_all, under_load}
use Rattle.call_checked.specs.Called.{frame_of, local_of}
use Rattle.calls.specs.Answers.{answer_of}
use Rattle.calls.specs.Calls as calls
use Rattle.calls.specs.Calls.{received_by}
use Rattle.law_agreement.specs.Conditions.{number_in}
use Rattle.law_agreement.specs.Lines.{accepted_by}
use Rattle.law_agreement.specs.Station.{Call, receives, issues, settles, words_after}

-- A line that is answered, a call of the library, or the form that the table saves now, loaded into another space, which is the table's from then on.
pub data Act : Type 0 where
  said : List ℕ → Act
  called : Call → Act
  restored : List ℕ → Act

-- The space of the table afterwards.
unfoldable pub act_after : Act → List ℕ → List ℕ
act_after (said line) words = (answer_of line words).1
act_after (called call) words = words_after call words
act_after (restored space) words = (loaded_all (map hex_line (saved_form (table_of words))) space).1

unfoldable pub acts_after : List Act → List ℕ → List ℕ
acts_after [] words = words
acts_after (act ∷ rest) words = acts_after rest (act_after act words)

-- A form is loaded "into any space large enough" in which no load is under way; a line and a call may be any.
unfoldable pub Fitting : List Act → List ℕ → Type 0
Fitting [] words = Unit {0}
Fitting (said line ∷ rest) words = Fitting rest (act_after (said line) words)
Fitting (called call ∷ rest) words = Fitting rest (act_after (called call) words)
Fitting (restored space ∷ rest) words =
    (under_load space ≡ false) × ((space_for (size_in words) (capacity_in words) ≤ length space) × Fitting rest (act_after (restored space) words))

-- The operation that a call brought, where it gives no refusal: that of a frame, or the one that is issued; settling brings none.
unfoldable pub accepted_by_call : Call → List ℕ → List meant.Operation
accepted_by_call (receives line) words =
    pick (eqb (number_in (received_by line words).0) 0) ((frame_of (operation_read (bytes_of line))).operation ∷ []) []
accepted_by_call (issues line out) words =
    pick (eqb (number_in (calls.issued_by line words out).0) 0) (issued_by (table_of words) (local_of (issue_read (bytes_of line))) ∷ []) []
accepted_by_call (settles line) words = []

-- All operations that were accepted, the latest first: loading brings none.
unfoldable pub accepted_by_acts : List Act → List ℕ → List meant.Operation → List meant.Operation
accepted_by_acts [] words earlier = earlier
accepted_by_acts (said line ∷ rest) words earlier = accepted_by_acts rest (act_after (said line) words) (accepted_by line words ++ earlier)
accepted_by_acts (called call ∷ rest) words earlier = accepted_by_acts rest (act_after (called call) words) (accepted_by_call call words ++ earlier)
accepted_by_acts (restored space ∷ rest) words earlier = accepted_by_acts rest (act_after (restored space) words) earlier
