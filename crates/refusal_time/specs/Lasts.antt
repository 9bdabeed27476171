-- The last vectors, as lent words.
use Rattle.std.specs.Prelude.{List, [], ℕ, get_or}
use Rattle.meaning.specs.Order.{Vector}
use Rattle.words_layout.specs.Words.{pieces}

-- L of a station, among the words of all L; a station outside of the group has none.
abbrev pub last_of : ℕ → List ℕ → ℕ → Vector
last_of size lasts station = get_or (pieces size size lasts) station []
