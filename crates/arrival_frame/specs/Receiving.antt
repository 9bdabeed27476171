-- What a call returns of an outcome, and the words that it leaves.
use Rattle.std.specs.Prelude.{List, ℕ}
use Rattle.meaning.specs.Refusals.{Frame}
use Rattle.meaning.specs.Calls.{Outcome, refused, accepted, receive}
use Rattle.words_layout.specs.Layout.{table_of, rewritten}

-- "A refusal returns its number", and changes no word; an accepted operation returns 0 and changes the table.
unfoldable pub outcome_in : List ℕ → Outcome → ℕ × List ℕ
outcome_in words (refused number) = (number, words)
outcome_in words (accepted u table) = (0, rewritten words table)

-- A frame, received by the table in these words.
unfoldable pub received_by : List ℕ → Frame → ℕ × List ℕ
received_by words frame = outcome_in words (receive (table_of words) frame)
