use Rattle.form_judge.proofs.Judging.{closed_ended, open_ended, refused_ended}
use Rattle.form_judge.proofs.judge_end.Goals as goal

pub returns-in-Open : goal.returns-in-Open
returns-in-Open c = search open_ended

pub returns-in-Closed : goal.returns-in-Closed
returns-in-Closed c = search closed_ended

pub returns-in-Refused : goal.returns-in-Refused
returns-in-Refused c = search refused_ended
