use Rattle.form_judge.proofs.Resaving.{closed_resaved, open_resaved, refused_resaved}
use Rattle.form_judge.proofs.resave.Goals as goal

pub returns-in-Open : goal.returns-in-Open
returns-in-Open c = search open_resaved

pub returns-in-Closed : goal.returns-in-Closed
returns-in-Closed c = search closed_resaved

pub returns-in-Refused : goal.returns-in-Refused
returns-in-Refused c = search refused_resaved
