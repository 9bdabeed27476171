use Rattle.settling.proofs.Settled.{clock_few, lasts_room, clock_below, low_given}
use Rattle.settling.proofs.low_in.Goals as goal

pub low_of-requires : goal.low_of-requires
low_of-requires c = record { clock_len_bound = (search clock_few, search lasts_room); lasts_value = search clock_below }

pub returns : goal.returns
returns c = search low_given
