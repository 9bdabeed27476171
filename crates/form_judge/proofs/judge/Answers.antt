use Rattle.form_judge.proofs.Judging.{closed_judged, open_judged, refused_judged}
use Rattle.form_judge.proofs.judge.Goals as goal

pub returns-in-Open : goal.returns-in-Open
returns-in-Open c = search open_judged

pub returns-in-Closed : goal.returns-in-Closed
returns-in-Closed c = search closed_judged

pub returns-in-Refused : goal.returns-in-Refused
returns-in-Refused c = search refused_judged
