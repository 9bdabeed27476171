use Rattle.form_take.proofs.Words.{total_misplaced, total_misshapen, total_right, total_unruly}
use Rattle.form_take.proofs.take_total.Goals as goal

pub returns-in_default : goal.returns-in_default
returns-in_default c = total_misshapen _ _ _ c.in_default.ensures _ _ c.spoil.ensures

pub returns-then-wide-object : goal.returns-then-wide-object
returns-then-wide-object c = let h = c.in-Some.ensures in search total_misplaced

pub returns-then-total_ok : goal.returns-then-total_ok
returns-then-total_ok c = let h = c.in-Some.ensures in search total_right

pub returns-else-total_ok : goal.returns-else-total_ok
returns-else-total_ok c = let h = c.in-Some.ensures in search total_unruly
