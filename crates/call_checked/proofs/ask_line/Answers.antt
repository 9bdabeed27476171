use Rattle.call_checked.proofs.Shaped.{read_wrong}
use Rattle.call_checked.proofs.Asking.{ask_misshapen, ask_replied}
use Rattle.call_checked.proofs.ask_line.Goals as goal

pub returns-in-Some : goal.returns-in-Some
returns-in-Some c = ask_replied _ _ _ _ c.in-Some.ensures _ _ c.ask_table.ensures

pub returns-in-None : goal.returns-in-None
returns-in-None c = ask_misshapen _ _ _ (read_wrong _ _ c.in-None.ensures)
