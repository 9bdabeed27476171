-- What stands in the space after a line of a form was asked for.
use mathlib.Core.Path.{◌≡◌, refl, ◌∙◌}
use mathlib.Core.List.{List, [], ◌∷◌, ◌++◌}
use Prim.Native.Nat.{ℕ, zero, suc, ◌≤◌, ◌<◌}
use native.Mathlib.Omega.{arith}
use borrow.Author.Tests.{le-leb, lt-leb}
use lib.ListN.{length, get_or, drop}
use Rattle.line_hex.specs.Hex.{hex_line}
use Rattle.line_put.specs.Writing.{line_written, too_short}
use Rattle.std.proofs.Common.{Some, None, Ok, Err}
use Rattle.form_write.specs.Forms.{formed_of, line_at, line_into}

at_line : (form : List (List ℕ)) (place : ℕ) (out : List ℕ) → place < length form → line_at form place out ≡ line_into out (get_or form place [])
unfolding line_at
at_line [] place out h = absurd (omega arith)
at_line (line ∷ form) zero out h = refl
at_line (line ∷ form) (suc place) out h = at_line form place out (omega arith)

-- behind the last line there is none
pub line_none : (form : List (List ℕ)) (place : ℕ) (out : List ℕ) → length form ≤ place → line_at form place out ≡ (Ok None, out)
unfolding line_at
line_none [] place out h = refl
line_none (line ∷ form) zero out h = absurd (omega arith)
line_none (line ∷ form) (suc place) out h = line_none form place out (omega arith)

module _ (form : List (List ℕ)) (place : ℕ) (out : List ℕ) (h : place < length form) where
  abbrev characters : List ℕ
  characters = hex_line (get_or form place [])

  -- a line that has room stands at the front, and what is beyond it stays
  pub line_there : length characters ≤ length out → line_at form place out ≡ (Ok (Some (length characters)), characters ++ drop (length characters) out)
  unfolding line_into line_written formed_of
  line_there room = at_line form place out h ∙ rw (le-leb (length characters) (length out) room) refl

  -- a space that is shorter than the line stays
  pub line_too_short : length out < length characters → line_at form place out ≡ (Err too_short, out)
  unfolding line_into line_written formed_of
  line_too_short short = at_line form place out h ∙ rw (lt-leb (length characters) (length out) short) refl
