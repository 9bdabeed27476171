use Rattle.form_lines.proofs.Parts.{row_written}
use Rattle.form_lines.proofs.write_row.Goals as goal

pub returns : goal.returns
returns c = row_written _ c.requires.0 _ c.requires.1 _ _ _ c.row_at-at.ensures.0 c.wide.ensures.0 c.settled_byte-settled.ensures _ _ _ c.write_row.ensures
