-- No line has more output lines than the longest form.
use mathlib.Core.Path.{◌≡◌, refl}
use mathlib.Core.Bool.{Bool, true, false, ◌&&◌}
use mathlib.Core.List.{List, [], ◌∷◌}
use Prim.Native.Nat.{ℕ, ◌≤◌}
use native.Mathlib.Omega.{arith}
use lib.ListN.{length}
use Rattle.words_layout.specs.Layout.{holds_table, table_of}
use Rattle.table_rules.proofs.Checking.{checked}
use Rattle.line_hex.specs.Choice.{pick}
use Rattle.line_read.specs.Named.{printing_read}
use Rattle.line_decode.specs.Decoding.{bytes_of}
use Rattle.form_write.specs.Forms.{saved_form, most_form_lines}
use Rattle.form_write.proofs.Count.{form_count}
use Rattle.calls.specs.Answers.{answer_of, lines_for}

pub lines_count : (line words : List ℕ) → length (lines_for line words) ≤ most_form_lines
unfolding lines_for
lines_count line words = by (holds_table words) (printing_read (bytes_of line)) (λ h. form_count (table_of words) (checked words h).by_rules)
  where
    by : (held read : Bool) → (held ≡ true → length (saved_form (table_of words)) ≤ most_form_lines) → length (pick (held && read) (saved_form (table_of words)) ((answer_of line words).0 ∷ [])) ≤ most_form_lines
    by true true f = f refl
    by true false f = let r : 1 ≤ most_form_lines = omega arith in r
    by false read f = let r : 1 ≤ most_form_lines = omega arith in r
