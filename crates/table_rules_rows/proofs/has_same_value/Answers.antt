use Rattle.table_rules_rows.proofs.has_same_value.Goals as goal

pub returns : goal.returns
returns c = cc
