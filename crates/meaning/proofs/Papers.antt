-- The tables of lines, which stand beside the definitions and are checked before every law; here they are among the theorems.
use Rattle.meaning.specs.Papers.{Papers, papers}
use Rattle.meaning.specs.Boundaries.{Boundaries, boundaries}

-- "P1 to P11 are proved together, as one tabulated statement."
pub all_right : Papers
all_right = papers

-- "Given exactly when": each number and range of the document, at its boundary.
pub at_boundaries : Boundaries
at_boundaries = boundaries
