use Rattle.call_checked.proofs.Shaped.{read_wrong}
use Rattle.call_checked.proofs.Settling.{settle_misshapen, settle_taken}
use Rattle.call_checked.proofs.settle_line.Goals as goal

pub returns-in-Some : goal.returns-in-Some
returns-in-Some c = settle_taken _ _ _ c.in-Some.ensures _ _ c.settle_table.ensures.0 c.settle_table.ensures.1

pub returns-in-None : goal.returns-in-None
returns-in-None c = settle_misshapen _ _ (read_wrong _ _ c.in-None.ensures)
