use Rattle.arrival.proofs.Made.{arrival_made}
use Rattle.arrival.proofs.arrival_of.Goals as goal

pub returns : goal.returns
returns c = search arrival_made
