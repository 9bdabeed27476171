use Rattle.form_lines.proofs.Parts.{total_written}
use Rattle.form_lines.proofs.write_total.Goals as goal

pub returns : goal.returns
returns c = search total_written
