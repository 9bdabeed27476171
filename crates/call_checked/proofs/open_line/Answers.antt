use Rattle.line_decode.proofs.Decoding.{heard_room}
use Rattle.call_checked.proofs.Opening.{kinds_start, misshapen, open_misshapen, open_heard}
use Rattle.call_checked.proofs.open_line.Goals as goal

pub slice_bounds-read_opening-end : goal.slice_bounds-read_opening-end
slice_bounds-read_opening-end c = search heard_room

pub slice_bounds-open_with-count : goal.slice_bounds-open_with-count
slice_bounds-open_with-count c = search (kinds_start, c.in-Some.ensures)

pub slice_bounds-open_with-start : goal.slice_bounds-open_with-start
slice_bounds-open_with-start c = search (kinds_start, c.in-Some.ensures)

pub returns-in-Some : goal.returns-in-Some
returns-in-Some c = search (open_heard, c.in-Some.ensures)

pub returns-in-None : goal.returns-in-None
returns-in-None c = search (open_misshapen, misshapen, c.in-None.ensures)
