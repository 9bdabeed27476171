use Rattle.arrival_local.proofs.Issuing.{next_below, next_made}
use borrow.Author.Rules.{rules}
use Rattle.arrival_local.proofs.next_vector.Goals as goal

pub advance-requires : goal.advance-requires
advance-requires c = (search rules, search next_below)

pub returns : goal.returns
returns c = search next_made
