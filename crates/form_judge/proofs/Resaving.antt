-- What the second program prints, way by way; and that it is the form of a table.
use Rattle.std.specs.Prelude.{Option, None}
use mathlib.Core.Path.{◌≡◌, refl, sym, ap, ◌∙◌}
use mathlib.Core.Bool.{true}
use mathlib.Core.List.{List, [], ◌∷◌}
use Prim.Native.Nat.{ℕ, ◌≤◌}
use native.Mathlib.Omega.{arith}
use lib.ListN.{length, replicate, length-replicate}
use Rattle.words_layout.specs.Layout.{holds_table, table_of}
use Rattle.line_hex.specs.Hex.{is_digit, value_of}
use Rattle.line_hex.specs.Decoding.{is_line, just_lf, pairs}
use Rattle.line_shape.specs.Reading.{has_shape, starts_with}
use Rattle.line_shape.specs.Shapes.{length_of}
use Rattle.line_read.specs.Types.{is_of}
use Rattle.line_read.specs.Named.{printing_read}
use Rattle.line_decode.specs.Decoding.{bytes_of}
use Rattle.form_write.specs.Forms.{saved_form, most_form_lines}
use Rattle.call_question.specs.AnswerBytes.{refusal_bytes}
use Rattle.calls.specs.Answers.{answered_by, lines_for}
use Rattle.call_answer.specs.OutputLines.{printed_at}
use Rattle.calls.proofs.Counting.{lines_count}
use Rattle.calls.proofs.Answering.{printing_kind, printing_stays}
use Rattle.form_judge.specs.declared.Judged.{Judged}
use Rattle.form_judge.specs.declared.Judged.TheVariants as judged
use Rattle.form_judge.specs.Judging.{judged_all, judged_end, printing, resaved_by, resaved_lines}
use Rattle.form_judge.proofs.Judging.{closed_is_table}
use Rattle.call_answer.specs.Answering.{frame_room}

-- `60` is a printing line in its right shape
printing_read_lem : printing_read (bytes_of printing) ≡ true
unfolding printing_read is_of has_shape bytes_of starts_with length_of is_line pairs is_digit value_of just_lf
printing_read_lem = refl

-- a closed form is printed again
pub closed_prints : (words : List ℕ) → holds_table words ≡ true → resaved_lines judged.Closed words ≡ saved_form (table_of words)
unfolding resaved_lines lines_for
closed_prints words h = rw (h, printing_read_lem) refl

pub resaved_form : (lines : List (List ℕ)) (words after : List ℕ) → judged_end (judged_all lines (judged.Open, words)) ≡ (judged.Closed, after) → resaved_lines judged.Closed after ≡ saved_form (table_of after)
resaved_form lines words after e = closed_prints after (closed_is_table lines words after e)

-- the ways through resave
module _ (words out : List ℕ) (k : ℕ) (before : Judged) where
  pub open_resaved : before ≡ judged.Open → (None, (words, out)) ≡ resaved_by before k words out
  unfolding resaved_by resaved_lines printed_at
  open_resaved e = sym (ap (λ (v : Judged). resaved_by v k words out) e)

  pub closed_resaved : before ≡ judged.Closed → (r : Option ℕ) (x y : List ℕ) → (r, (x, y)) ≡ answered_by printing k words out → (r, (x, y)) ≡ resaved_by before k words out
  unfolding resaved_by resaved_lines answered_by
  closed_resaved e r x y p =
      p
      ∙ ap (λ (s : List ℕ). ((printed_at (lines_for printing words) k out).0, (s, (printed_at (lines_for printing words) k out).1))) (printing_stays printing words (replicate frame_room 0) (printing_kind printing printing_read_lem) (omega (arith, length-replicate {A = ℕ} frame_room 0)) k)
      ∙ sym (ap (λ (v : Judged). resaved_by v k words out) e)

  pub refused_resaved : (number : ℕ) → before ≡ judged.Refused number → (r : Option ℕ) (y : List ℕ) → (r, y) ≡ printed_at (refusal_bytes number ∷ []) k out → (r, (words, y)) ≡ resaved_by before k words out
  unfolding resaved_by resaved_lines
  refused_resaved number e r y p = ap (λ (q : Option ℕ × List ℕ). (q.0, (words, q.1))) p ∙ sym (ap (λ (v : Judged). resaved_by v k words out) e)

-- there are no more of them than the longest form has
pub resaved_count : (verdict : Judged) (words : List ℕ) → length (resaved_lines verdict words) ≤ most_form_lines
unfolding resaved_lines
resaved_count judged.Open words = let r : 0 ≤ most_form_lines = omega arith in r
resaved_count judged.Closed words = lines_count printing words
resaved_count (judged.Refused number) words = let r : 1 ≤ most_form_lines = omega arith in r
