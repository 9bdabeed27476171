-- A form given to a space, line by line.
use Rattle.std.specs.Prelude.{Ok, ◌≡◌, true, List, [], ◌∷◌, ◌++◌, map, ℕ, ◌≤◌, length, set}
use Rattle.meaning.specs.Table.{Table, is_table}
use Rattle.words_layout.specs.Layout.{space_for}
use Rattle.line_hex.specs.Hex.{hex_line}
use Rattle.form_write.specs.Forms.{saved_form}
use Rattle.form_take.specs.declared.Loaded.TheVariants as loaded
use Rattle.form_load.specs.Loading.{loaded_by}

-- Every line is taken, and the space is this afterwards.
abbrev pub TakesAll : List (List ℕ) → List ℕ → List ℕ → Type 0
TakesAll [] words after = words ≡ after
TakesAll (line ∷ lines) words after = ((loaded_by line words).0 ≡ Ok loaded.Taken) × TakesAll lines (loaded_by line words).1 after

-- Every line is taken, and the last closes the form: the table is there.
abbrev pub Loads : List (List ℕ) → List ℕ → List ℕ → Type 0
Loads [] words after = ⊥
Loads (line ∷ []) words after = loaded_by line words ≡ (Ok loaded.Table, after)
Loads (line ∷ next ∷ lines) words after = ((loaded_by line words).0 ≡ Ok loaded.Taken) × Loads (next ∷ lines) (loaded_by line words).1 after

-- The words as they are where no load is under way: the seventh of them is 0.
abbrev pub load_over : List ℕ → List ℕ
load_over words = set words 6 0

-- The lines are the form that a table by the rules saves, and so many words are enough for that table.
pub record IsForm (words : ℕ) (lines : List (List ℕ)) : Type 0 where
  pub table : Table
  pub by_rules : is_table table ≡ true
  pub room : space_for table.header.size table.header.capacity ≤ words
  pub lines_are : lines ≡ map hex_line (saved_form table)

-- They are the beginning of one, and at least one line is to come.
pub record BeginsForm (words : ℕ) (lines : List (List ℕ)) : Type 0 where
  pub next : List ℕ
  pub more : List (List ℕ)
  pub form : IsForm words (lines ++ (next ∷ more))

-- What a line gets behind lines that were all taken: it is taken exactly when they are with it the beginning of a form, and closes the load exactly
-- when they are a form.
pub record ByItsForm (space : List ℕ) (lines : List (List ℕ)) (line words : List ℕ) : Type 0 where
  pub taken_begins : (loaded_by line words).0 ≡ Ok loaded.Taken → BeginsForm (length space) (lines ++ (line ∷ []))
  pub begins_taken : BeginsForm (length space) (lines ++ (line ∷ [])) → (loaded_by line words).0 ≡ Ok loaded.Taken
  pub closes_form : (loaded_by line words).0 ≡ Ok loaded.Table → IsForm (length space) (lines ++ (line ∷ []))
  pub form_closes : IsForm (length space) (lines ++ (line ∷ [])) → (loaded_by line words).0 ≡ Ok loaded.Table
