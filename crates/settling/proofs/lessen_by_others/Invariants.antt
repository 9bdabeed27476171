use Rattle.std.proofs.Common.{◌*◌, length}
use Rattle.settling.proofs.Least.{Lessening}
use Rattle.settling.proofs.lessen_by_others.Given as goal

abbrev pub invariant-loop-station : goal.invariant-loop-station
invariant-loop-station l = Lessening l.place l.initial.low l.lasts l.low l.station (l.station * length l.low)
