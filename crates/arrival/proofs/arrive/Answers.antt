use Rattle.arrival.proofs.Arriving.{arrived_opened, arrived_below, advanced_opened, advanced_declared, arrived}
use borrow.Author.Rules.{rules}
use Rattle.arrival.proofs.arrive.Goals as goal

pub advance_clock-requires : goal.advance_clock-requires
advance_clock-requires c = (search arrived_opened, search rules, search arrived_below)

pub arrive_total-requires : goal.arrive_total-requires
arrive_total-requires c = (search advanced_opened, search advanced_declared)

pub returns : goal.returns
returns c = search arrived
