-- Lines written as texts, for the files that compute with them.
use Rattle.std.specs.Prelude.{List, [], ◌∷◌, ◌++◌, ℕ}
use Prim.Native.Char.{code}
use Prim.Native.String.{String, [] as end, ◌∷◌ as ◌then◌}
use Rattle.line_hex.specs.Hex.{lf}

-- The characters of a text, and its line.
unfoldable pub characters : String → List ℕ
characters end = []
characters (first then rest) = code first ∷ characters rest

unfoldable pub line_saying : String → List ℕ
line_saying text = characters text ++ (lf ∷ [])
