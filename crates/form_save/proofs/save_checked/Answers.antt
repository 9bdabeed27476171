use Rattle.form_save.proofs.Saving.{save_told, save_short, save_misshapen}
use Rattle.form_save.proofs.save_checked.Goals as goal

pub returns-then-not-printing : goal.returns-then-not-printing
returns-then-not-printing c = search save_misshapen

pub returns-in-Ok : goal.returns-in-Ok
returns-in-Ok c = save_told _ _ _ _ _ c.printing.ensures c.if-not-printing.false _ _ c.in-Ok.ensures

pub returns-in-Err : goal.returns-in-Err
returns-in-Err c = save_short _ _ _ _ _ c.printing.ensures c.if-not-printing.false _ _ c.in-Err.ensures
