-- What main keeps: the lengths of the spaces, and that input may go on.
use Prim.Native.Nat.{ℕ}
use mathlib.Core.List.{List}
use mathlib.Core.Path.{◌≡◌, ◌∙◌}
use lib.ListN.{length}
use Rattle.words_layout.specs.Layout.{most_words}
use Rattle.line_read.specs.Types.{line_room}
use Rattle.program_output.specs.Gathering.{pending_room}
use Rattle.program_input.specs.Reading.{Ready}
use Rattle.program_input.proofs.Feeding.{ready_start}

pub record Holding (words line pending : List ℕ) (have count : ℕ) : Type 0 where
  pub words_long : length words ≡ most_words
  pub line_long : length line ≡ line_room
  pub pending_long : length pending ≡ pending_room
  pub ready : Ready have count line pending

pub holding_start : (words line pending : List ℕ) (have count : ℕ) → have ≡ 0 → count ≡ 0 → length words ≡ most_words → length line ≡ line_room → length pending ≡ pending_room → Holding words line pending have count
holding_start words line pending have count z y w l p =
    record { words_long = w; line_long = l; pending_long = p; ready = ready_start have count line pending z y l p }

pub holding_turn : (words line pending x s p : List ℕ) (have count n m : ℕ) → Holding words line pending have count → Ready n m s p → length x ≡ length words → length s ≡ length line → length p ≡ length pending → Holding x s p n m
holding_turn words line pending x s p have count n m H R w l q =
    record { words_long = w ∙ H.words_long; line_long = l ∙ H.line_long; pending_long = q ∙ H.pending_long; ready = R }
