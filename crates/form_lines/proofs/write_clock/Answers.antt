use Rattle.form_lines.proofs.Parts.{clock_written}
use Rattle.form_lines.proofs.write_clock.Goals as goal

pub returns : goal.returns
returns c = search clock_written
