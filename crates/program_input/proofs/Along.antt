-- Where each line does the same to what is seen of what is held, so does input.
use Prim.Native.Nat.{ℕ}
use mathlib.Core.Bool.{Bool, true, false}
use mathlib.Core.List.{List, [], ◌∷◌, ◌++◌}
use mathlib.Core.Path.{◌≡◌, refl, ap, ◌∙◌}
use lib.Dec.{eqb}
use lib.ListN.{take}
use Rattle.line_hex.specs.Choice.{pick}
use Rattle.line_hex.specs.Hex.{lf}
use Rattle.line_hex.specs.Keeping.{kept}
use Rattle.line_decode.specs.Feeding.{after_lines, at_end, held_fed, held_on, held_taken, line_on, taken}

module _ {A B : Type 0} (seen : A → B) (a : List ℕ → A → A) (b : List ℕ → B → B) (along : (line : List ℕ) (held : A) → seen (a line held) ≡ b line (seen held)) where
  taken_along : (space : List ℕ) (have : ℕ) (held : A) (c : ℕ) → seen (held_taken a space have held c) ≡ held_taken b space have (seen held) c
  unfolding held_taken
  taken_along space have held c = go (eqb c lf)
    where
      go : (t : Bool) → seen (pick t (a (take (kept space have c).0 (kept space have c).1) held) held) ≡ pick t (b (take (kept space have c).0 (kept space have c).1) (seen held)) (seen held)
      go true = along (take (kept space have c).0 (kept space have c).1) held
      go false = refl

  pub fed_along : (piece space : List ℕ) (have : ℕ) (held : A) → seen (held_fed a space have held piece) ≡ held_fed b space have (seen held) piece
  unfolding held_fed
  fed_along [] space have held = refl
  fed_along (c ∷ piece) space have held =
      fed_along piece (taken space have c).1 (taken space have c).0 (held_taken a space have held c)
      ∙ ap (λ (g : B). held_fed b (taken space have c).1 (taken space have c).0 g piece) (taken_along space have held c)

  pub end_along : (line : List ℕ) (held : A) → seen (at_end a line held) ≡ at_end b line (seen held)
  unfolding at_end
  end_along [] held = refl
  end_along (c ∷ line) held = along (c ∷ line) held

  -- and whole lines
  on_along : (line : List ℕ) (held : A) (c : ℕ) → seen (held_on a line held c) ≡ held_on b line (seen held) c
  unfolding held_on
  on_along line held c = go (eqb c lf)
    where
      go : (t : Bool) → seen (pick t (a (line ++ (c ∷ [])) held) held) ≡ pick t (b (line ++ (c ∷ [])) (seen held)) (seen held)
      go true = along (line ++ (c ∷ [])) held
      go false = refl

  pub lines_along : (piece line : List ℕ) (held : A) → seen (after_lines a line held piece) ≡ after_lines b line (seen held) piece
  unfolding after_lines
  lines_along [] line held = refl
  lines_along (c ∷ piece) line held = lines_along piece (line_on line c) (held_on a line held c) ∙ ap (λ (g : B). after_lines b (line_on line c) g piece) (on_along line held c)
