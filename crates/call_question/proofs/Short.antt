-- How long an answer's line is at most: that of a list of as many values as a table may have rows.
use mathlib.Core.Path.{◌≡◌, refl}
use mathlib.Core.Bool.{Bool, true, false, not, cond}
use mathlib.Core.List.{List, [], ◌∷◌}
use Prim.Native.Nat.{ℕ, ◌+◌, ◌*◌, ◌≤◌}
use native.Mathlib.Omega.{arith}
use lib.Dec.{eqb}
use lib.ListN.{length}
use Rattle.meaning.specs.Table.{kind_in, most_rows}
use Rattle.meaning.specs.Questions.{Asked, Source, by_rows, answer_from, fits}
use Rattle.meaning.specs.Refusals.{declared, well_asked, list_too_long, asked_refusals, question_refusals}
use Rattle.meaning.specs.Calls as meaning
use Rattle.meaning.specs.Calls.{ask, ask_of, reply_of}
use Rattle.words_layout.specs.Layout.{table_of, total_words}
use Rattle.table_rules.specs.Checked.{Checked}
use Rattle.line_shape.specs.Shapes.{length_of}
use Rattle.line_read.specs.Types.{count, flag, refused, sum}
use Rattle.line_read.proofs.Lengths.{line_length}
use Rattle.call_question.specs.AnswerBytes.{list_bytes, refusal_bytes, reply_bytes, longest_answer_bytes}
use Rattle.call_question.proofs.Listed.{values_few}
use Rattle.call_question.proofs.Told.{answer, chain}

pub refusal_long : (number : ℕ) → length (refusal_bytes number) ≡ 2
unfolding refusal_bytes length_of
refusal_long number = line_length refused (number ∷ []) [] refl

list_long : (values : List ℕ) → length (list_bytes values) ≡ 3 + 4 * length values
unfolding list_bytes length_of
list_long values = line_length count (length values ∷ []) values refl

module _ (source : Source) (asked : Asked) (few : length (source.list_at asked.object) ≤ most_rows) where
  answer_short : (p q r s : Bool) → length (reply_bytes (meaning.answered (answer source asked p q r s))) ≤ longest_answer_bytes
  unfolding reply_bytes length_of
  answer_short true q r s = omega (arith, line_length sum (total_words (source.total_at asked.object)) [] refl)
  answer_short false true r s = omega (arith, line_length flag (cond (source.in_at asked.object 0) 1 0 ∷ []) [] refl)
  answer_short false false true s = omega (arith, list_long (source.list_at asked.object))
  answer_short false false false true = omega (arith, line_length count (source.count_at asked.object ∷ []) [] refl)
  answer_short false false false false = omega (arith, line_length flag (cond (source.in_at asked.object asked.value) 1 0 ∷ []) [] refl)

  chain_short : (a b c d : Bool) → length (reply_bytes (chain source asked a b c d)) ≤ longest_answer_bytes
  unfolding reply_bytes reply_of answer_from
  chain_short true b c d = omega (arith, refusal_long 1)
  chain_short false true c d = omega (arith, refusal_long 3)
  chain_short false false true d = omega (arith, refusal_long 12)
  chain_short false false false true = omega (arith, refusal_long 11)
  chain_short false false false false = answer_short (eqb asked.question 1) (eqb asked.question 2) (eqb asked.question 3) (eqb asked.question 4)

pub reply_short : (s : List ℕ) → Checked s → (room : ℕ) (asked : Asked) → length (reply_bytes (ask (table_of s) room asked)) ≤ longest_answer_bytes
unfolding ask ask_of question_refusals asked_refusals
reply_short s K room asked =
    chain_short (by_rows (table_of s)) asked (values_few s K asked.object) (not (well_asked asked)) (not (declared (table_of s).header asked.object)) (not (fits asked.question (kind_in (table_of s).header asked.object))) (list_too_long (by_rows (table_of s)) room asked)
