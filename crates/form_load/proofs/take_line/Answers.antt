use Rattle.line_decode.proofs.Decoding.{heard_room}
use Rattle.form_load.proofs.Loads.{takes_heard}
use Rattle.form_load.proofs.take_line.Goals as goal

pub slice_bounds-take_bytes-end : goal.slice_bounds-take_bytes-end
slice_bounds-take_bytes-end c = search heard_room

pub returns : goal.returns
returns c = search takes_heard
