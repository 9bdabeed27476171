use mathlib.Core.List.{[], ◌∷◌}
use Rattle.line_decode.specs.declared.LineKind.TheVariants as kind
use Rattle.line_decode.proofs.KindOfType.{other_than}
use Rattle.form_load.proofs.Loads.{first_opening, first_other, first_saved}
use Rattle.form_load.proofs.first_line.Goals as goal

pub returns-in-Opening : goal.returns-in-Opening
returns-in-Opening c = search first_opening

pub returns-in-Saved : goal.returns-in-Saved
returns-in-Saved c = search first_saved

pub returns-in_default : goal.returns-in_default
returns-in_default c = search (first_other, other_than kind.Opening (1 ∷ 2 ∷ 3 ∷ 4 ∷ 5 ∷ 7 ∷ []) tt, other_than kind.Saved (1 ∷ 2 ∷ 3 ∷ 4 ∷ 5 ∷ 7 ∷ []) tt)
