-- Output lines: one that was written, and a refusal's.
use Rattle.std.proofs.Common.{Result, Ok, Err, Option, None}
use Rattle.line_put.specs.declared.TooShort.{TooShort}
use Rattle.std.specs.Result.{result_ok}
use mathlib.Core.Path.{◌≡◌, refl, sym, ap, ◌∙◌}
use mathlib.Core.List.{List, [], ◌∷◌, ◌++◌}
use Prim.Native.Nat.{ℕ, zero, suc, ◌≤◌, ◌<◌}
use native.Mathlib.Omega.{arith}
use borrow.Author.Tests.{le-leb}
use lib.ListN.{drop, length}
use Rattle.line_hex.specs.Hex.{hex_line}
use Rattle.line_put.specs.Writing.{line_written}
use Rattle.line_put.proofs.Whole.{length_hex_line}
use Rattle.line_read.specs.Types.{refused}
use Rattle.line_print.specs.Printed.{printed}
use Rattle.call_question.specs.AnswerBytes.{refusal_bytes}
use Rattle.call_question.proofs.Short.{refusal_long}
use Rattle.call_answer.specs.Answering.{frame_room}
use Rattle.call_answer.specs.OutputLines.{line_or_end, printed_at}

pub ok_is : (w : Result ℕ TooShort) → result_ok w ≡ line_or_end w
unfolding line_or_end
ok_is (Ok n) = refl
ok_is (Err short) = refl

-- a line that has room
module _ (out bytes : List ℕ) (room : length (hex_line bytes) ≤ length out) where
  pub said : line_written out bytes ≡ (Ok (length (hex_line bytes)), hex_line bytes ++ drop (length (hex_line bytes)) out)
  unfolding line_written
  said = rw (le-leb (length (hex_line bytes)) (length out) room) refl

  pub only_line : (w : Result ℕ TooShort) (y : List ℕ) → (w, y) ≡ line_written out bytes → (line_or_end w, y) ≡ printed_at (bytes ∷ []) 0 out
  unfolding line_or_end printed_at
  only_line w y p = ap (λ (q : Result ℕ TooShort × List ℕ). (line_or_end q.0, q.1)) (p ∙ said)

pub only_later : (bytes out : List ℕ) (k : ℕ) → 0 < k → (None, out) ≡ printed_at (bytes ∷ []) k out
unfolding printed_at
only_later bytes out zero h = absurd (omega arith)
only_later bytes out (suc k) h = refl

-- a refusal
module _ (number : ℕ) (out : List ℕ) (room : frame_room ≤ length out) (k : ℕ) where
  pub refused_later : 0 < k → (None, out) ≡ printed_at (refusal_bytes number ∷ []) k out
  refused_later h = only_later (refusal_bytes number) out k h

  pub refused_first : k ≤ 0 → (w : Result ℕ TooShort) (y : List ℕ) → (w, y) ≡ printed out refused (number ∷ []) [] → (r : Option ℕ) → r ≡ line_or_end w → (r, y) ≡ printed_at (refusal_bytes number ∷ []) k out
  unfolding printed refusal_bytes
  refused_first h w y p r e =
      let z : k ≡ 0 = omega arith in
      ap (λ (a : Option ℕ). (a, y)) e
      ∙ only_line out (refusal_bytes number) (omega (arith, length_hex_line (refusal_bytes number), refusal_long number)) w y p
      ∙ ap (λ (i : ℕ). printed_at (refusal_bytes number ∷ []) i out) (sym z)
