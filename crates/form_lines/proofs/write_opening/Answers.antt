use Rattle.form_lines.proofs.Parts.{opening_written}
use Rattle.form_lines.proofs.write_opening.Goals as goal

pub returns : goal.returns
returns c = search opening_written
