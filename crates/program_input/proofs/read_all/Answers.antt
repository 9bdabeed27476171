use Rattle.program_input.proofs.Feeding.{begun, ready_start}
use borrow.Author.Rules.{rules}
use Rattle.program_input.proofs.read_all.Goals as goal

pub read-requires : goal.read-requires
read-requires c = (search rules, search (ready_start, rules))

pub returns : goal.returns
returns c = (search begun, search rules)
