use Rattle.call_checked.proofs.Shaped.{read_wrong}
use Rattle.call_checked.proofs.Issuing.{issue_misshapen, issue_shaped}
use Rattle.call_checked.proofs.issue_line.Goals as goal

pub returns-in-Some : goal.returns-in-Some
returns-in-Some c = issue_shaped _ _ _ _ c.in-Some.ensures _ _ _ c.issue_read.ensures

pub returns-in-None : goal.returns-in-None
returns-in-None c = issue_misshapen _ _ _ (read_wrong _ _ c.in-None.ensures)
