use Rattle.form_take.proofs.Closing.{closing_comes, row_comes}
use Rattle.form_take.proofs.take_row_or_close.Goals as goal

pub returns-in-Some : goal.returns-in-Some
returns-in-Some c = row_comes _ _ _ c.wide.ensures.0 _ c.in-Some.ensures _ _ c.take_row.ensures

pub returns-in-None : goal.returns-in-None
returns-in-None c = closing_comes _ _ _ c.wide.ensures.0 c.in-None.ensures _ _ c.close.ensures
