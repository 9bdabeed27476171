-- The definitions computed: 01's session, and the lines that it has none of.
use Rattle.std.specs.Prelude.{Option, Some, None, ◌≡◌, refl, List, [], ◌∷◌, map, ℕ, zero, suc, length, take}
use Prim.Native.String.{String}
use Rattle.meaning.specs.Table.{kind_in, zeros}
use Rattle.meaning.specs.Computing.{all_words}
use Rattle.meaning.specs.Operations.{is_counter}
use Rattle.meaning.specs.Papers.{session_saved}
use Rattle.words_layout.specs.Words.{complement, of_complement}
use Rattle.words_layout.specs.Layout.{holds_table, is_spelt, rewritten, space_for, table_of, words_of}
use Rattle.line_hex.specs.Hex.{digit_of, digits_of, hex_line, is_digit, value_of}
use Rattle.line_hex.specs.Numbers.{big_endian, number_from}
use Rattle.line_hex.specs.Decoding.{is_line, just_lf, pair_of, pairs}
use Rattle.line_shape.specs.Shapes.{length_of, read, written}
use Rattle.line_shape.specs.Reading.{is_shaped, entries, fields_read, has_shape, padded, starts_with}
use Rattle.line_put.specs.Writing.{line_bytes, written_each}
use Rattle.line_read.specs.Types.{is_line_of, is_of, line_read}
use Rattle.line_read.specs.Named.{is_opening, is_operation, is_issue, is_settling, is_question, issue_read, opening_read, operation_read, question_read, settling_read, printing_read}
use Rattle.line_decode.specs.Decoding.{bytes_of, type_of}
use Rattle.line_decode.specs.LineKinds.{kind_of}
use Rattle.line_decode.specs.Text.{characters, line_saying}
use Rattle.form_lines.specs.FormLines.{closing_line, clock_line, last_line, opening_line, row_line, total_line}
use Rattle.form_write.specs.Forms.{last_lines, row_lines, saved_form, total_lines}
use Rattle.form_write.specs.Session.{session_form}
use Rattle.call_question.specs.AnswerBytes.{list_bytes, refusal_bytes, reply_bytes}
use Rattle.call_checked.specs.Called.{frame_bytes, frame_of, header_read, local_of, opened_as, opened_by, received_as, received_on, settled_as, settled_on}
use Rattle.call_answer.specs.Answering.{answer_on, done_bytes, issue_answer, issued_bytes, outcome_bytes, question_answer, second_opening, settled_bytes}
use Rattle.calls.specs.Answers.{answer_of, first_answer, answered_by, lines_for, longest_answer, space_after}
use Rattle.call_answer.specs.OutputLines.{printed_at}
use Rattle.law_agreement.specs.Lines.{lines_after}

-- What is printed for these lines, given one after the other, the first first: for each its output lines.
unfoldable pub printed_for : List (List ℕ) → List ℕ → List (List (List ℕ))
printed_for [] words = []
printed_for (line ∷ rest) words = map hex_line (lines_for line words) ∷ printed_for rest (answer_of line words).1

-- The same through `answer`, from a space for answers that holds zeros: its output lines one after the other until the end, and the table space then.
unfoldable pub said_after : Option ℕ × (List ℕ × List ℕ) → List (List ℕ) × List ℕ → List (List ℕ) × List ℕ
said_after (Some n, (words, out)) behind = (take n out ∷ behind.0, behind.1)
said_after (None, (words, out)) behind = ([], words)

-- From a place on, asked so many times at most.
unfoldable pub said_from : ℕ → List ℕ → ℕ → List ℕ → List (List ℕ) × List ℕ
said_from zero line place words = ([], words)
said_from (suc times) line place words =
    let told = answered_by line place words (zeros longest_answer) in
    said_after told (said_from times line (suc place) told.1.0)

-- Asked once more than there are lines, it tells the end.
unfoldable pub answers_for : List (List ℕ) → List ℕ → List (List (List ℕ))
answers_for [] words = []
answers_for (line ∷ rest) words =
    let said = said_from (suc (length (lines_for line words))) line 0 words in
    said.0 ∷ answers_for rest said.1

-- A space of just the words of the session's table.
abbrev pub space : List ℕ
space = zeros (space_for 2 4)

-- A line, and the lines that are printed for it: one, or those of a form.
pub record Exchange : Type 0 where
  pub given : List ℕ
  pub printed : List (List ℕ)

infix 4 ◌prints◌
abbrev pub ◌prints◌ : List ℕ → List String → Exchange
line prints form = record { given = line; printed = map line_saying form }

infix 4 ◌gets◌
abbrev pub ◌gets◌ : List ℕ → String → Exchange
line gets answer = line prints (answer ∷ [])

-- Given one after the other to that space, each line gets its answer.
abbrev pub Right : List Exchange → Type 0
Right exchanges = printed_for (map (λ e. e.given) exchanges) space ≡ map (λ e. e.printed) exchanges

-- "The whole of one session, input then output".
abbrev pub whole_session : List Exchange
whole_session =
    (line_saying "10020000040108" gets "00")
    ∷ (line_saying "21000100000007" gets "002002000001000000070000000100000000")
    ∷ (line_saying "2002010001000000070000000000000001" gets "00")
    ∷ (line_saying "40000400000000" gets "000001")
    ∷ (line_saying "2002010002000000070000000000000002" gets "00")
    ∷ (line_saying "40000300000000" gets "00000100000007")
    ∷ (line_saying "30000a" gets "000000")
    ∷ (line_saying "2002010002000000070000000000000002" gets "ff05")
    ∷ (line_saying "60" prints session_form)
    ∷ []

-- Before an accepted opening: "A line before an accepted opening gets `ff0e`, unless it is itself of type `10`". The third has half a byte, the fourth
-- no kind, the fifth a group of 17, the sixth a table for which the space is too small, the seventh with a capital digit.
abbrev pub before_opening : List Exchange
before_opening =
    (line_saying "40000400000000" gets "ff0e")
    ∷ (line_saying "" gets "ff0e")
    ∷ (line_saying "1002000004010" gets "ff01")
    ∷ (line_saying "100200000401" gets "ff01")
    ∷ (line_saying "10110000040108" gets "ff0d")
    ∷ (line_saying "10020000050108" gets "ff0d")
    ∷ (line_saying "1002000004010A" gets "ff01")
    ∷ (characters "10020000040108" gets "ff01")
    ∷ (characters "4" gets "ff0e")
    ∷ (line_saying "60" gets "ff0e")
    ∷ []

-- At a table: "a second opening gets `ff0d`", of its right shape; "Lines of type `50` to `5f` are of unknown type here (1)"; and what is no line gets 1.
abbrev pub at_table : List Exchange
at_table =
    (line_saying "10020000040108" gets "00")
    ∷ (line_saying "10020000040108" gets "ff0d")
    ∷ (line_saying "10110000040108" gets "ff0d")
    ∷ (line_saying "100200000401" gets "ff01")
    ∷ (line_saying "500000000000000000" gets "ff01")
    ∷ (line_saying "5f0000" gets "ff01")
    ∷ (line_saying "6000" gets "ff01")
    ∷ (line_saying "" gets "ff01")
    ∷ (line_saying "2100010000000A" gets "ff01")
    ∷ (characters "40000400000000" gets "ff01")
    ∷ (line_saying "40000400000000" gets "000000")
    ∷ []

-- The session by the output lines and through `answer`, and the table that it leaves.
pub record Session : Type 0 where
  pub whole_session_lem : Right whole_session
  pub through_answer : answers_for (map (λ (e : Exchange). e.given) whole_session) space ≡ map (λ (e : Exchange). e.printed) whole_session
  pub ends_with : lines_after (map (λ (e : Exchange). e.given) whole_session) space ≡ words_of session_saved
  pub before_opening_lem : Right before_opening
  pub at_table_lem : Right at_table

pub session : Session
unfolding all_words complement of_complement holds_table is_spelt rewritten table_of words_of digit_of digits_of hex_line is_digit value_of big_endian number_from is_line just_lf
    pair_of pairs length_of read written entries fields_read is_shaped has_shape padded starts_with line_bytes written_each is_of is_line_of is_opening is_operation is_issue is_settling is_question line_read issue_read opening_read operation_read
    question_read settling_read bytes_of list_bytes refusal_bytes reply_bytes frame_bytes frame_of header_read local_of opened_as opened_by received_as received_on settled_as
    settled_on answer_on done_bytes issue_answer issued_bytes outcome_bytes question_answer second_opening settled_bytes answer_of first_answer type_of kind_of characters
    line_saying printed_for lines_after answered_by lines_for printed_at space_after printing_read is_counter kind_in closing_line clock_line last_line opening_line row_line total_line
    last_lines row_lines saved_form total_lines said_after said_from answers_for
session = record { whole_session_lem = refl; through_answer = refl; ends_with = refl; before_opening_lem = refl; at_table_lem = refl }
