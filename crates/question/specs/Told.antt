-- What a question is told: a refusal by its number, 11 with the needed count, or the answer; a list stands in the space, and its length here.
use Rattle.std.specs.Prelude.{Bool, ℕ}
use Rattle.words_tags.specs.declared.RowCount.{RowCount}

pub data Told : Type 0 where
  Refused : ℕ → Told
  TooLong : RowCount → Told
  Total : ℕ → ℕ → Told
  Flag : Bool → Told
  List : RowCount → Told
  Count : RowCount → Told
  Holds : Bool → Told
