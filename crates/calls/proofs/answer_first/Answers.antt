use mathlib.Core.Path.{sym}
use mathlib.Core.List.{[], ◌∷◌}
use Rattle.line_decode.specs.declared.LineKind.TheVariants as kind
use Rattle.line_decode.proofs.KindOfType.{other_than}
use Rattle.calls.proofs.Tested.{found}
use Rattle.calls.proofs.Answering.{first_none, first_on, first_opens}
use borrow.Author.Rules.{rules}
use Rattle.calls.proofs.answer_first.Goals as goal

pub answer_line-requires : goal.answer_line-requires
answer_line-requires c = (search found, search rules)

pub returns-then-is_table : goal.returns-then-is_table
returns-then-is_table c = search first_on

pub returns-in-Opening : goal.returns-in-Opening
returns-in-Opening c = search (first_opens, sym c.by_number.ensures)

pub returns-in_default : goal.returns-in_default
returns-in_default c = search (first_none, other_than kind.Opening (1 ∷ 2 ∷ 3 ∷ 4 ∷ 5 ∷ 6 ∷ 7 ∷ []) tt)
