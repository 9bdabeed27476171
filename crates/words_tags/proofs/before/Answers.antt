use Rattle.std.proofs.Common.{arith}
use Rattle.words_tags.proofs.Relations.{told_before, before_told}
use Rattle.words_tags.proofs.before.Goals as goal

pub returns-in-Before : goal.returns-in-Before
returns-in-Before c = grind (arith, told_before)

pub returns-in_default : goal.returns-in_default
returns-in_default c = grind (arith, before_told)
