use Rattle.form_take.proofs.Closing.{closing_misshapen, closing_right, closing_wrong_count}
use Rattle.form_take.proofs.close.Goals as goal
use Rattle.form_take.proofs.close.Goals.{in_default-via-in-Some+else-f-space, in_default-via-in_default}

pub returns-in-Some : goal.returns-in-Some
returns-in-Some c = closing_right _ _ _ c.in-Some.ensures c.if-f-space.true _ _ c.finish.ensures

pub returns-in_default : goal.returns-in_default
returns-in_default c =
    elim c.in_default.branch [
      | in_default-via-in-Some+else-f-space w ↦ closing_wrong_count _ _ _ w.in-Some.ensures w.if-f-space.false _ _ c.spoil.ensures
      | in_default-via-in_default w ↦ closing_misshapen _ _ w.in_default.ensures _ _ c.spoil.ensures
    ]
