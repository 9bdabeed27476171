use Rattle.std.proofs.Common.{◌∙◌}
use Rattle.form_load.proofs.Nexts.{waits_kinds, waits_next}
use Rattle.form_load.proofs.load_waits.Goals as goal

pub returns-then-all_in_range : goal.returns-then-all_in_range
returns-then-all_in_range c = search waits_next

pub returns-else-all_in_range : goal.returns-else-all_in_range
returns-else-all_in_range c = c.if-all_in_range.false ∙ search waits_kinds
