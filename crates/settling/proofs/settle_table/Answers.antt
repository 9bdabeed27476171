use Rattle.settling.proofs.Settled.{head_opened}
use borrow.Author.Rules.{rules}
use Rattle.settling.proofs.settle_table.Goals as goal

pub settle_opened-requires : goal.settle_opened-requires
settle_opened-requires c = (search rules, search head_opened)
