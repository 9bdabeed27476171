-- Output lines gathered in a space until they are written: all of them for a line to a station, and for a form that is at its end.
use Rattle.std.specs.Prelude.{Option, ℕ, ◌+◌, ◌-◌, ◌≤◌, List, [], ◌∷◌, ◌++◌, leb, drop, length, take}
use Rattle.line_hex.specs.Choice.{pick}
use Rattle.line_hex.specs.Hex.{hex_line}
use Rattle.calls.specs.Answers.{answered_by, answer_of, lines_for, longest_answer}
use Rattle.form_judge.specs.declared.Judged.{Judged}
use Rattle.form_judge.specs.Judging.{resaved_by, resaved_lines}
use Rattle.program_output.specs.declared.Source.{Source}
use Rattle.program_output.specs.declared.Source.TheVariants as source

-- The characters of the space in which a program's output waits.
abbrev pub pending_room : ℕ
pending_room = 65536

-- The output that waits: so many characters at the front of its space.
abbrev pub Gathered : Type 0
Gathered = ℕ × List ℕ

-- What is held from one line to the next: the table space, and what waits.
abbrev pub Held : Type 0
Held = List ℕ × Gathered

-- A text put into a space at a place: the place behind it, and the space.
unfoldable pub joined : List ℕ → ℕ → List ℕ → Gathered
joined space at text = (at + length text, take at space ++ (text ++ drop (at + length text) space))

-- An output line joins those that wait; where there is no room for it they are written first, and it stands at the front.
unfoldable pub pushed : List ℕ → Gathered → Gathered
pushed text (count, pending) = pick (leb (length text) (length pending - count)) (joined pending count text) (joined pending 0 text)

-- So many characters wait in a space that holds any output line.
pub record HasRoom (count : ℕ) (pending : List ℕ) : Type 0 where
  pub within : count ≤ length pending
  pub room : longest_answer ≤ length pending

-- Output lines one after the other, each given as its bytes.
unfoldable pub gathered : List (List ℕ) → Gathered → Gathered
gathered [] waiting = waiting
gathered (bytes ∷ rest) waiting = gathered rest (pushed (hex_line bytes) waiting)

-- What is held after a line to the station program.
unfoldable pub replied : List ℕ → Held → Held
replied line (words, waiting) = ((answer_of line words).1, gathered (lines_for line words) waiting)

-- What is held after the end of a form in the second program.
unfoldable pub reprinted : Judged → Held → Held
reprinted known (words, waiting) = (words, gathered (resaved_lines known words) waiting)

-- Either, by what the lines are of: its output lines, the k-th of them or the end, and what is held after them.
unfoldable pub lines_of : Source → List ℕ → List ℕ → List (List ℕ)
lines_of source.Session line words = lines_for line words
lines_of (source.Form known) line words = resaved_lines known words

unfoldable pub line_at : Source → List ℕ → ℕ → List ℕ → List ℕ → Option ℕ × (List ℕ × List ℕ)
line_at source.Session line k words out = answered_by line k words out
line_at (source.Form known) line k words out = resaved_by known k words out

unfoldable pub put : Source → List ℕ → Held → Held
put source.Session line held = replied line held
put (source.Form known) line held = reprinted known held
