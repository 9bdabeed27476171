use Rattle.form_lines.proofs.Parts.{closing_written}
use Rattle.form_lines.proofs.write_closing.Goals as goal

pub returns : goal.returns
returns c = search closing_written
