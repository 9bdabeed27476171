-- What holds from one read to the next, and of lines as they came in.
use Rattle.std.specs.Prelude.{Bool, true, false, List, ◌≡◌, ℕ, Option, Some, None}
use Rattle.line_decode.specs.Feeding.{fed, Going, held_fed, Keeps, WholeLines}
use Rattle.program_output.specs.Gathering.{Held, HasRoom}
use Rattle.program_input.specs.declared.Kept.{Kept}
use Rattle.program_play.specs.Lines.{last_ended, Part, responded, State, stepped}

-- Input may go on: a line's space holds what was kept of a line, and the space of what waits has room for any output line.
pub record Ready (have count : ℕ) (line pending : List ℕ) : Type 0 where
  pub going : Going line have
  pub has_room_lem : HasRoom count pending

-- Without titles whole lines are played, of whatever line the characters in the space were kept. A title is put out as it was kept.
abbrev pub WholeResponded : Bool → List ℕ → ℕ → Part → List ℕ → Part → Type 0
WholeResponded true space have part piece after = Unit {0}
WholeResponded false space have part piece after = WholeLines (responded false) space have part piece after

-- The same at the end of the input.
abbrev pub WholeLast : Bool → List ℕ → ℕ → Part → Held → Type 0
WholeLast true space have part after = Unit {0}
WholeLast false space have part after = (line : List ℕ) → Keeps line space have → after ≡ last_ended false line part

-- Some input was read, and all of it played: what is kept of the line that goes on, what lines are of, and the table space.
pub record Read (titles : Bool) (line₀ : List ℕ) (have₀ : ℕ) (state₀ : State) (line : List ℕ) (have : ℕ) (state : State) : Type 0 where
  pub input : List ℕ
  pub kept_is : (have, line) ≡ fed line₀ have₀ input
  pub state_is : state ≡ held_fed (stepped titles) line₀ have₀ state₀ input

-- What comes of a read: input was played, and more may come; else nothing was, and all is as it was.
abbrev pub AfterRead : Bool → List ℕ → List ℕ → ℕ → State → List ℕ → List ℕ → List ℕ → Option Kept → Type 0
AfterRead titles line₀ pending₀ have₀ state₀ line pending words (Some kept) =
    Ready kept.have kept.part.waiting.count line pending × Read titles line₀ have₀ state₀ line kept.have (kept.part.source, words)
AfterRead titles line₀ pending₀ have₀ state₀ line pending words None = (line ≡ line₀) × ((pending ≡ pending₀) × (words ≡ state₀.1))
