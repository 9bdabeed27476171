use mathlib.Core.List.{[], ◌∷◌}
use Rattle.line_decode.specs.declared.LineKind.TheVariants as kind
use Rattle.line_decode.proofs.KindOfType.{other_than}
use Rattle.calls.proofs.Answering.{answer_ended, answer_formed, answer_lined, is_printing}
use borrow.Author.Rules.{rules}
use Rattle.calls.proofs.answer.Goals as goal

pub answer_printing-requires : goal.answer_printing-requires
answer_printing-requires c = (search is_printing, search rules)

pub returns-in-Printing : goal.returns-in-Printing
returns-in-Printing c = search answer_formed

pub returns-then-k-eq0 : goal.returns-then-k-eq0
returns-then-k-eq0 c = search (answer_lined, other_than kind.Printing (0 ∷ 1 ∷ 2 ∷ 3 ∷ 4 ∷ 6 ∷ 7 ∷ []) tt)

pub returns : goal.returns
returns c = search (answer_ended, other_than kind.Printing (0 ∷ 1 ∷ 2 ∷ 3 ∷ 4 ∷ 6 ∷ 7 ∷ []) tt)
