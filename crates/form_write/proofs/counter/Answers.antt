use Rattle.form_write.proofs.Forming.{seeking_start, seeking_done, seeking_found, seeking_past, seeking_other}
use Rattle.form_write.proofs.counter.Goals as goal
use Rattle.form_write.proofs.counter.Goals.{then-is_counter+else-left-eq0, else-is_counter}

pub loop-object-init : goal.loop-object-init
loop-object-init c = search seeking_start

pub returns-then-left-eq0 : goal.returns-then-left-eq0
returns-then-left-eq0 c = search seeking_found

pub loop-object-preserved : goal.loop-object-preserved
loop-object-preserved c =
    elim c.if-is_counter.branch [
      | then-is_counter+else-left-eq0 w ↦ rw w.left-is (seeking_past _ _ _ _ c.loop-object.invariant c.loop-object-test.true _ c.is_counter.ensures w.if-is_counter.true w.if-left-eq0.false)
      | else-is_counter w ↦ rw w.left-is (seeking_other _ _ _ _ c.loop-object.invariant c.loop-object-test.true _ c.is_counter.ensures w.if-is_counter.false)
    ]

pub returns : goal.returns
returns c = search seeking_done
