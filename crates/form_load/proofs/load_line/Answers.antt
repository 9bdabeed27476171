use Rattle.form_load.proofs.Loads.{is_under, loads_first, loads_next}
use Rattle.form_load.proofs.load_line.Goals as goal

pub take_line-requires : goal.take_line-requires
take_line-requires c = search is_under

pub returns-then-under_load : goal.returns-then-under_load
returns-then-under_load c = search loads_next

pub returns : goal.returns
returns c = search loads_first
