-- A row put among rows, each as words: before the first that it is lower than.
use Rattle.std.specs.Prelude.{cond, List, [], ◌∷◌, ◌++◌, ℕ, take}
use Rattle.meaning.specs.Rows.{lower_key}

-- "object, value, code, settled before unsettled, sender, number" are a row's first seven words.
abbrev pub key_words : ℕ
key_words = 7

abbrev pub inserted : List ℕ → List ℕ → List (List ℕ) → List (List ℕ)
inserted key vector [] = (key ++ vector) ∷ []
inserted key vector (row ∷ rows) =
    cond (lower_key key (take key_words row)) ((key ++ vector) ∷ row ∷ rows) (row ∷ inserted key vector rows)

-- The rows before its place.
abbrev pub passed : List ℕ → List (List ℕ) → List (List ℕ)
passed key [] = []
passed key (row ∷ rows) = cond (lower_key key (take key_words row)) [] (row ∷ passed key rows)
