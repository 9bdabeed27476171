-- The header that an opening's numbers make.
use Rattle.std.specs.Prelude.{List, ℕ}
use Rattle.meaning.specs.Table.{Header}

abbrev pub header_of : ℕ → ℕ → ℕ → List ℕ → Header
header_of size own capacity kinds = record { size = size; own = own; capacity = capacity; kinds = kinds }
