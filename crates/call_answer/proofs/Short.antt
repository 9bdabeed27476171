-- No answer is longer than the longest list.
use Rattle.std.proofs.Common.{Result, Ok, Err}
use Rattle.words_tags.specs.declared.RowCount.{RowCount}
use Rattle.line_read.specs.Named.{is_opening, is_question, question_read}
use mathlib.Core.Path.{refl}
use mathlib.Core.Bool.{Bool, true, false}
use mathlib.Core.List.{List, [], ◌∷◌}
use Prim.Native.Nat.{ℕ, ◌≤◌}
use native.Mathlib.Omega.{arith}
use lib.ListN.{length}
use Rattle.meaning.specs.Calls as meaning
use Rattle.words_layout.specs.Layout.{table_of}
use Rattle.refusal_kind.specs.Asking.{asked_from}
use Rattle.table_rules.specs.Checked.{Checked}
use Rattle.line_hex.specs.Choice.{pick}
use Rattle.line_shape.specs.Shapes.{length_of}
use Rattle.line_read.specs.Types.{count, done}
use Rattle.line_read.proofs.Lengths.{line_length}
use Rattle.line_decode.specs.Decoding.{bytes_of}
use Rattle.line_decode.specs.declared.LineKind.{LineKind}
use Rattle.line_decode.specs.declared.LineKind.TheVariants as kind
use Rattle.call_question.specs.AnswerBytes.{refusal_bytes, reply_bytes, longest_answer_bytes}
use Rattle.call_question.proofs.Short.{refusal_long, reply_short}
use Rattle.call_checked.specs.Called.{received_on, settled_on}
use Rattle.call_answer.specs.Answering.{answer_on, done_bytes, outcome_bytes, question_answer, second_opening, settled_bytes}
use Rattle.call_answer.proofs.Framing.{issue_short}
use Rattle.meaning.specs.Table.{most_rows}

pub refusal_short : (number : ℕ) → length (refusal_bytes number) ≤ longest_answer_bytes
refusal_short number = omega (arith, refusal_long number)

done_short : length done_bytes ≤ longest_answer_bytes
unfolding done_bytes length_of
done_short = omega (arith, line_length done [] [] refl)

pub outcome_short : (r : Result (Unit {0}) ℕ) → length (outcome_bytes r) ≤ longest_answer_bytes
unfolding outcome_bytes
outcome_short (Ok u) = done_short
outcome_short (Err number) = refusal_short number

settled_short : (r : Result RowCount ℕ) → length (settled_bytes r) ≤ longest_answer_bytes
unfolding settled_bytes length_of
settled_short (Err number) = refusal_short number
settled_short (Ok steps) = omega (arith, line_length count (steps.0 ∷ []) [] refl)

module _ (words : List ℕ) (K : Checked words) (line : List ℕ) where
  question_short : length (question_answer line words) ≤ longest_answer_bytes
  unfolding question_answer
  question_short = by (is_question (bytes_of line))
    where
      by : (b : Bool) → length (pick b (reply_bytes (meaning.ask (table_of words) most_rows (asked_from (question_read (bytes_of line)).object (question_read (bytes_of line)).question (question_read (bytes_of line)).value))) (refusal_bytes 1)) ≤ longest_answer_bytes
      by true = reply_short words K most_rows (asked_from (question_read (bytes_of line)).object (question_read (bytes_of line)).question (question_read (bytes_of line)).value)
      by false = refusal_short 1

  second_short : length (second_opening line) ≤ longest_answer_bytes
  unfolding second_opening
  second_short = refusal_short (pick (is_opening (bytes_of line)) 13 1)

pub answer_short : (words : List ℕ) → Checked words → (k : LineKind) (line : List ℕ) → length (answer_on k line words).0 ≤ longest_answer_bytes
unfolding answer_on
answer_short words K kind.Opening line = second_short words K line
answer_short words K kind.Operation line = outcome_short (received_on line words).0
answer_short words K kind.Issue line = issue_short words K line
answer_short words K kind.Settling line = settled_short (settled_on line words).0
answer_short words K kind.Question line = question_short words K line
answer_short words K kind.Printing line = refusal_short 1
answer_short words K kind.Saved line = refusal_short 1
answer_short words K kind.Unknown line = refusal_short 1
