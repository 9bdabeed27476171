-- What the station program prints for a line.
use Rattle.std.specs.Prelude.{Option, ◌&&◌, List, [], ◌∷◌, ℕ, eqb}
use Rattle.words_layout.specs.Layout.{holds_table, table_of}
use Rattle.line_hex.specs.Choice.{pick}
use Rattle.line_read.specs.Types.{characters_of}
use Rattle.line_read.specs.Named.{printing_read}
use Rattle.line_decode.specs.Decoding.{bytes_of, type_of}
use Rattle.line_decode.specs.LineKinds.{kind_of}
use Rattle.line_decode.specs.declared.LineKind.{LineKind}
use Rattle.line_decode.specs.declared.LineKind.TheVariants as kind
use Rattle.form_write.specs.Forms.{saved_form}
use Rattle.call_question.specs.AnswerBytes.{refusal_bytes, longest_answer_bytes}
use Rattle.call_checked.specs.Called.{opened_by}
use Rattle.call_answer.specs.Answering.{answer_on, changing, outcome_bytes}
use Rattle.call_answer.specs.OutputLines.{printed_at}

-- "A line before an accepted opening gets `ff0e`, unless it is itself of type `10`": the bytes of the answer, and the space afterwards.
unfoldable pub first_answer : LineKind → List ℕ → List ℕ → List ℕ × List ℕ
first_answer kind.Opening line words = changing outcome_bytes (opened_by line words)
first_answer kind.Operation line words = (refusal_bytes 14, words)
first_answer kind.Issue line words = (refusal_bytes 14, words)
first_answer kind.Settling line words = (refusal_bytes 14, words)
first_answer kind.Question line words = (refusal_bytes 14, words)
first_answer kind.Printing line words = (refusal_bytes 14, words)
first_answer kind.Saved line words = (refusal_bytes 14, words)
first_answer kind.Unknown line words = (refusal_bytes 14, words)

-- The same on any space.
unfoldable pub answer_of : List ℕ → List ℕ → List ℕ × List ℕ
answer_of line words = pick (holds_table words) (answer_on (kind_of (type_of line)) line words) (first_answer (kind_of (type_of line)) line words)

-- The output lines for an input line, each as its bytes: one, but "`60` prints the saved lines only".
unfoldable pub lines_for : List ℕ → List ℕ → List (List ℕ)
lines_for line words =
    pick (holds_table words && printing_read (bytes_of line)) (saved_form (table_of words)) ((answer_of line words).0 ∷ [])

-- The table space: the first output line is given when the input line is taken.
unfoldable pub space_after : List ℕ → ℕ → List ℕ → List ℕ
space_after line k words = pick (eqb k 0) (answer_of line words).1 words

-- The k-th output line for this input line, or the end.
unfoldable pub answered_by : List ℕ → ℕ → List ℕ → List ℕ → Option ℕ × (List ℕ × List ℕ)
answered_by line k words out =
    let printed = printed_at (lines_for line words) k out in
    (printed.0, (space_after line k words, printed.1))

-- The characters of the longest answer's line.
abbrev pub longest_answer : ℕ
longest_answer = characters_of longest_answer_bytes
