-- Every output line fits the space for it.
use Rattle.std.specs.Prelude.{Option, Some, None}
use Prim.Native.Nat.{ℕ, zero, suc, ◌-◌, ◌≤◌}
use mathlib.Core.Path.{◌≡◌, sym, ap, subst, refl, ◌∙◌}
use mathlib.Core.Bool.{Bool, true, false, ◌&&◌}
use mathlib.Core.List.{List, [], ◌∷◌}
use native.Mathlib.Omega.{arith}
use lib.ListN.{length, drop, take, length-append}
use lib.Seq.{length-take-le}
use Rattle.words_layout.specs.Layout.{holds_table, table_of}
use Rattle.table_rules.proofs.Checking.{checked}
use Rattle.line_hex.specs.Choice.{pick}
use Rattle.line_hex.specs.Hex.{hex_line}
use Rattle.line_put.proofs.Whole.{length_hex_line}
use Rattle.line_read.specs.Named.{printing_read}
use Rattle.line_decode.specs.Decoding.{bytes_of}
use Rattle.form_write.specs.Forms.{saved_form}
use Rattle.form_write.proofs.Short.{Short, form_short}
use Rattle.call_answer.proofs.Short.{refusal_short}
use Rattle.calls.specs.Answers.{answered_by, answer_of, lines_for, longest_answer}
use Rattle.call_answer.specs.OutputLines.{printed_at}
use Rattle.calls.proofs.Answering.{answer_fits}
use Rattle.form_judge.specs.declared.Judged.{Judged}
use Rattle.form_judge.specs.declared.Judged.TheVariants as judged
use Rattle.form_judge.specs.Judging.{printing, resaved_by, resaved_lines}
use Rattle.program_output.specs.declared.Source.{Source}
use Rattle.program_output.specs.declared.Source.TheVariants as source
use Rattle.program_output.specs.Gathering.{line_at, lines_of}
use Rattle.call_question.specs.AnswerBytes.{longest_answer_bytes}

-- every output line has so many bytes at most
abbrev Fit : List (List ℕ) → Type 0
Fit [] = Unit {0}
Fit (bytes ∷ rest) = (length bytes ≤ longest_answer_bytes) × Fit rest

form_fit : (lines : List (List ℕ)) → Short lines → Fit lines
form_fit [] s = tt
form_fit (bytes ∷ rest) s = (omega (arith, s.0), form_fit rest s.1)

module _ (line words : List ℕ) where
  lines_fit : Fit (lines_for line words)
  unfolding lines_for
  lines_fit = by (holds_table words) (printing_read (bytes_of line)) (λ h. form_fit (saved_form (table_of words)) (form_short (table_of words) (checked words h).by_rules))
    where
      by : (held read : Bool) → (held ≡ true → Fit (saved_form (table_of words))) → Fit (pick (held && read) (saved_form (table_of words)) ((answer_of line words).0 ∷ []))
      by true true f = f refl
      by true false f = (answer_fits line words, tt)
      by false read f = (answer_fits line words, tt)

-- an output line stands at the front of its space, and is none too long
abbrev Within : Option ℕ → List ℕ → Type 0
Within (Some n) out = (n ≤ length out) × (n ≤ longest_answer)
Within None out = Unit {0}

printed_within : (lines : List (List ℕ)) → Fit lines → (k : ℕ) (out : List ℕ) → Within (printed_at lines k out).0 (printed_at lines k out).1
unfolding printed_at
printed_within [] f k out = tt
printed_within (bytes ∷ rest) f zero out = (omega (arith, length-append (hex_line bytes) (drop (length (hex_line bytes)) out)), omega (arith, length_hex_line bytes, f.0))
printed_within (bytes ∷ rest) f (suc k) out = printed_within rest f.1 k out

-- so the characters that are told stand in it
module _ (lines : List (List ℕ)) (fit : Fit lines) (k : ℕ) (out : List ℕ) (r : Option ℕ) (n : ℕ) (y : List ℕ) (e : (r, y) ≡ printed_at lines k out) (f : r ≡ Some n) where
  both : Within (Some n) y
  both = subst (λ (q : Option ℕ × List ℕ). Within q.0 q.1) (sym e ∙ ap (λ (q : Option ℕ). (q, y)) f) (printed_within lines fit k out)

  short : length (take (n - 0) y) ≤ longest_answer
  short = let z : n - 0 ≡ n = omega arith in omega (arith, both.1, ap (λ (m : ℕ). length (take m y)) z ∙ length-take-le n y both.0)

abbrev pub told : Option ℕ × (List ℕ × List ℕ) → Option ℕ × List ℕ
told (r, (x, y)) = (r, y)

resaved_fit : (known : Judged) (words : List ℕ) → Fit (resaved_lines known words)
unfolding resaved_lines
resaved_fit judged.Open words = tt
resaved_fit judged.Closed words = lines_fit printing words
resaved_fit (judged.Refused number) words = (refusal_short number, tt)

all_fit : (of : Source) (line words : List ℕ) → Fit (lines_of of line words)
unfolding lines_of
all_fit source.Session line words = lines_fit line words
all_fit (source.Form known) line words = resaved_fit known words

-- one of the output lines, whatever they are of
at_printed : (of : Source) (line : List ℕ) (k : ℕ) (words out : List ℕ) → told (line_at of line k words out) ≡ printed_at (lines_of of line words) k out
unfolding line_at lines_of answered_by resaved_by
at_printed source.Session line k words out = refl
at_printed (source.Form known) line k words out = refl

module _ (of : Source) (line : List ℕ) (k : ℕ) (words out : List ℕ) (r : Option ℕ) (n : ℕ) (x y : List ℕ) (e : (r, (x, y)) ≡ line_at of line k words out) (f : r ≡ Some n) where
  printed : (r, y) ≡ printed_at (lines_of of line words) k out
  printed = ap told e ∙ at_printed of line k words out

  pub line_within : n ≤ length y
  line_within = (both (lines_of of line words) (all_fit of line words) k out r n y printed f).0

  pub line_short : length (take (n - 0) y) ≤ longest_answer
  line_short = short (lines_of of line words) (all_fit of line words) k out r n y printed f
