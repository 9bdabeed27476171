use mathlib.Core.Path.{refl}
use Rattle.arrival_local.proofs.Issuing.{rises_accepted, local_arrives, local_taken}
use borrow.Author.Rules.{rules}
use Rattle.arrival_local.proofs.take_local.Goals as goal

pub next_vector-next-requires : goal.next_vector-next-requires
next_vector-next-requires c = (search rules, search rises_accepted)

pub arrive-requires : goal.arrive-requires
arrive-requires c = local_arrives _ c.requires.0 _ c.wide-size.ensures.0 _ c.next_vector-next.ensures _ _ _ _ refl _ (search c.arrival_of-issued.ensures) c.requires.1

pub returns : goal.returns
returns c = search local_taken
