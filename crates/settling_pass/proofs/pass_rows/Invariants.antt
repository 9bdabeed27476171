use Rattle.settling_pass.proofs.Looping.{Loop}
use Rattle.settling_pass.proofs.pass_rows.Given as goal

abbrev pub invariant-loop-more : goal.invariant-loop-more
invariant-loop-more l =
    Loop l.kinds l.low l.limit.0 l.initial.rows l.size l.width l.initial.more l.rows l.from l.to l.more l.left l.taken

abbrev pub decreases-loop-more : goal.decreases-loop-more
decreases-loop-more l = l.more
