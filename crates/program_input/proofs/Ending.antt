-- The end of the input: a last piece without LF, and the session or form.
use Prim.Native.Nat.{ℕ, ◌-◌, ◌≤◌, ◌<◌}
use mathlib.Core.Path.{◌≡◌, refl, ap, ◌∙◌}
use mathlib.Core.Bool.{Bool, true, false}
use mathlib.Core.List.{List, [], ◌∷◌}
use native.Mathlib.Omega.{arith}
use lib.ListN.{length, take}
use lib.Seq.{length-take-le}
use Rattle.line_decode.specs.Feeding.{at_end}
use Rattle.line_decode.proofs.Feeding as keeping
use Rattle.program_output.specs.Gathering.{Held}
use Rattle.program_play.specs.Lines.{ended, last_ended, Part, responded}
use Rattle.program_input.specs.Reading.{WholeLast}
use Rattle.program_play.proofs.Lines.{played_alike}

-- the ways of the end
module _ (titles : Bool) (line : List ℕ) (have : ℕ) (part : Part) (after : Held) where
  pub nothing_left : have ≡ 0 → after ≡ ended part → after ≡ last_ended titles (take have line) part
  unfolding last_ended at_end
  nothing_left z e = rw z e

  pub piece_left : (have ≡ 0 → ⊥) → have ≤ length line → (next : Part) → next ≡ responded titles (take (have - 0) line) part → after ≡ ended next → after ≡ last_ended titles (take have line) part
  unfolding last_ended at_end
  piece_left h l next e f =
      let z : have - 0 ≡ have = omega arith in
      f ∙ ap ended e ∙ ap (λ (n : ℕ). ended (responded titles (take n line) part)) z ∙ by (take have line) (omega (arith, length-take-le have line l))
    where
      by : (piece : List ℕ) → 0 < length piece → ended (responded titles piece part) ≡ ended (at_end (responded titles) piece part)
      by [] g = absurd (omega arith)
      by (b ∷ piece) g = refl

-- and the whole of the last line, where only so much was kept
pub no_last_line : (titles : Bool) (line : List ℕ) (have : ℕ) (part : Part) (after : Held) → have ≡ 0 → after ≡ ended part → WholeLast titles line have part after
unfolding last_ended
no_last_line true line have part after z e = tt
no_last_line false line have part after z e = λ whole K. e ∙ ap ended (keeping.nothing_left (responded false) played_alike line have part z whole K)

pub whole_last_line : (titles : Bool) (line : List ℕ) (have : ℕ) (part next : Part) (after : Held) → (have ≡ 0 → ⊥) → next ≡ responded titles (take (have - 0) line) part → after ≡ ended next → WholeLast titles line have part after
unfolding last_ended
whole_last_line true line have part next after h e f = tt
whole_last_line false line have part next after h e f = λ whole K. f ∙ ap ended (keeping.piece_left (responded false) played_alike line have part next h e whole K)
