use Rattle.program_output.proofs.Replying.{form_line, session_line}
use Rattle.program_output.proofs.output_line.Goals as goal

pub returns-in-Session : goal.returns-in-Session
returns-in-Session c = search session_line

pub returns-in-Form : goal.returns-in-Form
returns-in-Form c = search form_line
