use Rattle.form_take.proofs.Words.{last_misplaced, last_misshapen, last_right, last_unruly}
use Rattle.form_take.proofs.take_last.Goals as goal

pub returns-in_default : goal.returns-in_default
returns-in_default c = last_misshapen _ _ _ _ c.wide-size.ensures.0 c.in_default.ensures _ _ c.spoil.ensures

pub returns-then-f-station : goal.returns-then-f-station
returns-then-f-station c = last_misplaced _ _ _ _ c.wide-size.ensures.0 _ c.in-Some.ensures c.if-f-station.true _ _ c.spoil-then-f-station.ensures

pub returns-then-last_ok : goal.returns-then-last_ok
returns-then-last_ok c = last_right _ _ _ _ c.wide-size.ensures.0 _ c.in-Some.ensures _ c.last_ok.ensures c.if-f-station.false c.if-last_ok.true _ c.wide.ensures.0 _ _ c.take_words.ensures

pub returns-else-last_ok : goal.returns-else-last_ok
returns-else-last_ok c = last_unruly _ _ _ _ c.wide-size.ensures.0 _ c.in-Some.ensures _ c.last_ok.ensures c.if-last_ok.false _ _ c.spoil-else-last_ok.ensures
