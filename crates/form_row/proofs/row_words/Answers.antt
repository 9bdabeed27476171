use Rattle.form_row.proofs.Joining.{row_made}
use Rattle.form_row.proofs.row_words.Goals as goal

pub returns : goal.returns
returns c = search row_made
