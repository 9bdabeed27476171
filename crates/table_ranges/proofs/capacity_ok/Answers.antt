use Rattle.table_ranges.proofs.capacity_ok.Goals as goal

pub returns : goal.returns
returns c = cc
