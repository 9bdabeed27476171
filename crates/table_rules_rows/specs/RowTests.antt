-- The table rules of rows, as tests of their words.
use Rattle.std.specs.Prelude.{Bool, true, not, ◌&&◌, cond, List, [], ◌∷◌, ℕ, leb, ltb, eqb, length, get_or, take, drop}
use Rattle.meaning.specs.Tests.{every}
use Rattle.meaning.specs.Order.{Vector, at_most, same}
use Rattle.meaning.specs.Operations.{Operation, two_phase_set, value_allowed}
use Rattle.meaning.specs.Rows.{lower_key}
use Rattle.meaning.specs.Table.{storable, settled_only}
use Rattle.words_layout.specs.Words.{all_zero}
use Rattle.words_layout.specs.Layout.{row_of}

-- "code storable in its kind", and a value that the kind allows.
unfoldable pub content_kept : ℕ → Operation → Bool
content_kept kind u = storable kind u && value_allowed kind u.code u.value

-- The number word is the vector's entry at the sender, who is in the group, and at least 1.
unfoldable pub number_kept : ℕ → ℕ → Vector → Bool
number_kept number sender vector = ltb sender (length vector) && (leb 1 number && eqb number (get_or vector sender 0))

-- "an unsettled row's sender in the group, its vector at or below D and its number at least 1"; the unsettled word is 1.
unfoldable pub unsettled_kept : Vector → List ℕ → Bool
unsettled_kept clock row =
    eqb (get_or row 4 0) 1
    && (at_most (drop 7 row) clock && number_kept (get_or row 6 0) (get_or row 5 0) (drop 7 row))

-- "settled rows without a tag": sender, number and vector 0; "kinds 3 and 4 settled only".
unfoldable pub tag_kept : ℕ → Vector → List ℕ → Bool
tag_kept kind clock row =
    cond (eqb (get_or row 4 0) 0) (all_zero (drop 5 row)) (not (settled_only kind) && unsettled_kept clock row)

-- The kind of a row's object: 0, in which nothing is storable, where the object is not declared.
abbrev pub kind_of_row : List ℕ → List ℕ → ℕ
kind_of_row kinds row = get_or kinds (get_or row 0 0) 0

-- What the rules ask of one row by itself.
unfoldable pub row_kept : List ℕ → Vector → List ℕ → Bool
row_kept kinds clock row = content_kept (kind_of_row kinds row) (row_of row).operation && tag_kept (kind_of_row kinds row) clock row

-- A row repeats another when its object and value, the first three words, are the same.
abbrev pub repeats : List ℕ → List ℕ → Bool
repeats before row = same (take 3 before) (take 3 row)

-- What they ask of a row and the one before it: "rows in strict order", and "kind 4 one row a value".
unfoldable pub follows : List ℕ → List ℕ → List ℕ → Bool
follows kinds before row =
    not (eqb (kind_of_row kinds row) two_phase_set && repeats before row)
    && lower_key (take 7 before) (take 7 row)

-- A test of each element with the next.
abbrev pub chained : {A : Type 0} → (A → A → Bool) → List A → Bool
chained test [] = true
chained test (first ∷ []) = true
chained test (first ∷ second ∷ rest) = test first second && chained test (second ∷ rest)

-- What they ask of all the rows.
unfoldable pub rows_kept : List ℕ → Vector → List (List ℕ) → Bool
rows_kept kinds clock rows = every (row_kept kinds clock) rows && chained (follows kinds) rows
