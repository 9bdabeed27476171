-- What the promises over any input are for the station program, a session without titles, and for the second, a form without titles.
use Prim.Native.Nat.{ℕ}
use mathlib.Core.Bool.{false}
use mathlib.Core.List.{List}
use mathlib.Core.Path.{◌≡◌, refl, sym, ap}
use Rattle.line_decode.specs.Feeding.{after_lines, at_end, held_fed}
use Rattle.form_judge.specs.Judging.{Judging, judged_by, judged_end}
use Rattle.program_output.specs.declared.Source.TheVariants as source
use Rattle.program_output.specs.Gathering.{Gathered, Held, replied, reprinted}
use Rattle.program_play.specs.Lines.{ended, last_ended, Part, played, responded, State, stepped}
use Rattle.program_input.proofs.Along.{end_along, fed_along, lines_along}

abbrev pub session : Held → Part
session held = (source.Session, held)

abbrev pub form : Gathered → Judging → Part
form waiting judging = (source.Form judging.0, (judging.1, waiting))

abbrev pub form_state : Judging → State
form_state judging = (source.Form judging.0, judging.1)

session_line : (line : List ℕ) (held : Held) → session (replied line held) ≡ responded false line (session held)
unfolding responded played
session_line line held = refl

form_line : (waiting : Gathered) (line : List ℕ) (judging : Judging) → form waiting (judged_by line judging) ≡ responded false line (form waiting judging)
unfolding responded played
form_line waiting line judging = refl

form_step : (line : List ℕ) (judging : Judging) → form_state (judged_by line judging) ≡ stepped false line (form_state judging)
unfolding stepped responded played
form_step line judging = refl

-- the bytes of a read
pub session_fed : (piece space : List ℕ) (have : ℕ) (held : Held) → held_fed (responded false) space have (session held) piece ≡ session (held_fed replied space have held piece)
session_fed piece space have held = sym (fed_along session replied (responded false) session_line piece space have held)

pub form_fed : (piece space : List ℕ) (have : ℕ) (waiting : Gathered) (judging : Judging) → held_fed (responded false) space have (form waiting judging) piece ≡ form waiting (held_fed judged_by space have judging piece)
form_fed piece space have waiting judging = sym (fed_along (form waiting) judged_by (responded false) (form_line waiting) piece space have judging)

-- the whole lines in them
pub session_lines : (piece line : List ℕ) (held : Held) → after_lines (responded false) line (session held) piece ≡ session (after_lines replied line held piece)
session_lines piece line held = sym (lines_along session replied (responded false) session_line piece line held)

pub form_lines : (piece line : List ℕ) (waiting : Gathered) (judging : Judging) → after_lines (responded false) line (form waiting judging) piece ≡ form waiting (after_lines judged_by line judging piece)
form_lines piece line waiting judging = sym (lines_along (form waiting) judged_by (responded false) (form_line waiting) piece line judging)

-- what is known of a form from one read to the next
pub form_read : (input space : List ℕ) (have : ℕ) (judging : Judging) → held_fed (stepped false) space have (form_state judging) input ≡ form_state (held_fed judged_by space have judging input)
form_read input space have judging = sym (fed_along form_state judged_by (stepped false) form_step input space have judging)

-- the end of the input
pub session_last : (line : List ℕ) (held : Held) → last_ended false line (session held) ≡ at_end replied line held
unfolding last_ended ended
session_last line held = ap ended (sym (end_along session replied (responded false) session_line line held))

pub form_last : (line : List ℕ) (waiting : Gathered) (judging : Judging) → last_ended false line (form waiting judging) ≡ reprinted (judged_end (at_end judged_by line judging)).0 ((judged_end (at_end judged_by line judging)).1, waiting)
unfolding last_ended ended
form_last line waiting judging = ap ended (sym (end_along (form waiting) judged_by (responded false) (form_line waiting) line judging))
