-- What a line does to the session or form that it is of. Where input has titles, a line that begins with `--` starts the next, with an empty space.
use Rattle.std.specs.Prelude.{Bool, ◌&&◌, List, [], ℕ, eqb, get_or, length, replicate}
use Rattle.line_hex.specs.Choice.{pick}
use Rattle.line_decode.specs.Feeding.{at_end}
use Rattle.form_judge.specs.declared.Judged.TheVariants as judged
use Rattle.form_judge.specs.Judging.{judged_by, judged_end}
use Rattle.program_output.specs.declared.Source.{Source}
use Rattle.program_output.specs.declared.Source.TheVariants as source
use Rattle.program_output.specs.Gathering.{Held, pushed, replied, reprinted}

abbrev pub dash : ℕ
dash = 45

abbrev pub form_sign : ℕ
form_sign = 102

unfoldable pub is_title : List ℕ → Bool
is_title line = eqb (get_or line 0 0) dash && eqb (get_or line 1 0) dash

-- Where its third character is `f` a title starts a form, else a session.
unfoldable pub begins : List ℕ → Source
begins title = pick (eqb (get_or title 2 0) form_sign) (source.Form judged.Open) source.Session

-- What is held from one line to the next: what lines are of, the table space, and the output that waits.
abbrev pub Part : Type 0
Part = Source × Held

-- The end of a session, or of a form, which is printed again or refused.
unfoldable pub ended : Part → Held
ended (source.Session, held) = held
ended (source.Form known, (words, waiting)) = reprinted (judged_end (known, words)).0 ((judged_end (known, words)).1, waiting)

-- A title is put out as it stands.
unfoldable pub turned : List ℕ → Part → Part
turned title part = (begins title, (replicate (length (ended part).0) 0, pushed title (ended part).1))

-- A line of a session is answered, one of a form judged.
unfoldable pub played : List ℕ → Part → Part
played line (source.Session, held) = (source.Session, replied line held)
played line (source.Form known, (words, waiting)) = (source.Form (judged_by line (known, words)).0, ((judged_by line (known, words)).1, waiting))

unfoldable pub responded : Bool → List ℕ → Part → Part
responded titles line part = pick (titles && is_title line) (turned line part) (played line part)

-- At the end of the input a last piece without LF is a line too.
unfoldable pub last_ended : Bool → List ℕ → Part → Held
last_ended titles line part = ended (at_end (responded titles) line part)

-- What lines are of and the table space alone, in which the output that waits has no part.
abbrev pub State : Type 0
State = Source × List ℕ

abbrev pub state_of : Part → State
state_of part = (part.0, part.1.0)

unfoldable pub stepped : Bool → List ℕ → State → State
stepped titles line (of, words) = state_of (responded titles line (of, (words, (0, []))))
