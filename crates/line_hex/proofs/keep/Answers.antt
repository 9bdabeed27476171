use Rattle.line_hex.proofs.Keeping.{kept_full, kept_room}
use Rattle.line_hex.proofs.keep.Goals as goal

pub returns-then-have-line : goal.returns-then-have-line
returns-then-have-line c = search kept_room

pub returns-else-have-line : goal.returns-else-have-line
returns-else-have-line c = search kept_full
