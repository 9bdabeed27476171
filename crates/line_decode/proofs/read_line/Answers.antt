use Rattle.line_decode.proofs.Decoding.{heard_front, heard_room}
use Rattle.line_decode.proofs.read_line.Goals as goal

pub slice_bounds-read-end : goal.slice_bounds-read-end
slice_bounds-read-end g c = search heard_room

pub returns : goal.returns
returns g c = (_, c.read.ensures, search heard_front)
