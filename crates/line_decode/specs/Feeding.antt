-- Characters that come one after the other: each joins the line in its space, and LF ends it, so that it is answered and the next line begins at the front.
-- What an answer does to what is held from one line to the next is a function of the program that reads.
use Rattle.std.specs.Prelude.{ℕ, ◌≡◌, List, [], ◌∷◌, ◌++◌, eqb, length, take}
use Rattle.line_hex.specs.Choice.{pick}
use Rattle.line_hex.specs.Hex.{lf}
use Rattle.line_hex.specs.Keeping.{kept, kept_all}
use Rattle.line_read.specs.Types.{line_room}

-- the number of characters kept of the line that goes on, and the space
unfoldable pub taken : List ℕ → ℕ → ℕ → ℕ × List ℕ
taken space have b = (pick (eqb b lf) 0 (kept space have b).0, (kept space have b).1)

-- what is held: what is kept of a line is answered when its LF comes
unfoldable pub held_taken : {A : Type 0} → (List ℕ → A → A) → List ℕ → ℕ → A → ℕ → A
held_taken answer space have held b = pick (eqb b lf) (answer (take (kept space have b).0 (kept space have b).1) held) held

-- both after every character of a piece of input
unfoldable pub fed : List ℕ → ℕ → List ℕ → ℕ × List ℕ
fed space have [] = (have, space)
fed space have (b ∷ piece) = fed (taken space have b).1 (taken space have b).0 piece

unfoldable pub held_fed : {A : Type 0} → (List ℕ → A → A) → List ℕ → ℕ → A → List ℕ → A
held_fed answer space have held [] = held
held_fed answer space have held (b ∷ piece) = held_fed answer (taken space have b).1 (taken space have b).0 (held_taken answer space have held b) piece

-- the whole line that goes on after a character, none of it let go
unfoldable pub line_on : List ℕ → ℕ → List ℕ
line_on line b = pick (eqb b lf) [] (line ++ (b ∷ []))

-- what is held after it, by the whole line
unfoldable pub held_on : {A : Type 0} → (List ℕ → A → A) → List ℕ → A → ℕ → A
held_on answer line held b = pick (eqb b lf) (answer (line ++ (b ∷ [])) held) held

-- both after every character of a piece of input
unfoldable pub rest_of : List ℕ → List ℕ → List ℕ
rest_of line [] = line
rest_of line (b ∷ piece) = rest_of (line_on line b) piece

unfoldable pub after_lines : {A : Type 0} → (List ℕ → A → A) → List ℕ → A → List ℕ → A
after_lines answer line held [] = held
after_lines answer line held (b ∷ piece) = after_lines answer (line_on line b) (held_on answer line held b) piece

-- a piece of one line: LF stands nowhere in it
unfoldable pub NoLf : List ℕ → Type 0
NoLf [] = Unit {0}
NoLf (b ∷ piece) = (b ≡ lf → ⊥) × NoLf piece

-- a space as long as the longest line keeps so many characters of a line that came in, however long that is
pub record Keeps (line space : List ℕ) (have : ℕ) : Type 0 where
  pub empty : List ℕ
  pub long : length empty ≡ line_room
  pub open_ended : NoLf line
  pub same : (have, space) ≡ kept_all empty 0 line

-- what is held is that after whole lines, of whatever line the characters in the space were kept
abbrev pub WholeLines : {A : Type 0} → (List ℕ → A → A) → List ℕ → ℕ → A → List ℕ → A → Type 0
WholeLines answer space have held piece after = (line : List ℕ) → Keeps line space have → after ≡ after_lines answer line held piece

-- at the end of the input a last piece without LF is a line too
unfoldable pub at_end : {A : Type 0} → (List ℕ → A → A) → List ℕ → A → A
at_end answer [] held = held
at_end answer (b ∷ line) held = answer (b ∷ line) held

-- the same of what is held at the end
abbrev pub LastPiece : {A : Type 0} → (List ℕ → A → A) → List ℕ → ℕ → A → A → Type 0
LastPiece answer space have held after = (line : List ℕ) → Keeps line space have → after ≡ at_end answer line held

-- a space holds what was kept of some line
pub record Going (space : List ℕ) (have : ℕ) : Type 0 where
  pub line : List ℕ
  pub keeps : Keeps line space have
