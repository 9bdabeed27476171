use Rattle.form_take.proofs.Words.{clock_right, clock_wrong}
use Rattle.form_take.proofs.take_clock.Goals as goal

pub returns-in-Some : goal.returns-in-Some
returns-in-Some c = clock_right _ _ _ c.wide-size.ensures.0 _ c.in-Some.ensures _ _ c.take_words.ensures

pub returns-in-None : goal.returns-in-None
returns-in-None c = clock_wrong _ _ _ c.wide-size.ensures.0 c.in-None.ensures _ _ c.spoil.ensures
