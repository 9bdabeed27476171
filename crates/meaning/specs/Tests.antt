-- Tests over lists: the words that the other definitions are made of.
use Rattle.std.specs.Prelude.{Bool, true, false, ◌&&◌, ◌||◌, cond, List, [], ◌∷◌, ℕ, suc, leb}

module _ {A : Type 0} where
  -- Some element meets the test.
  abbrev pub any : (A → Bool) → List A → Bool
  any test [] = false
  any test (first ∷ rest) = test first || any test rest

  -- Every element meets the test.
  abbrev pub every : (A → Bool) → List A → Bool
  every test [] = true
  every test (first ∷ rest) = test first && every test rest

  -- Every element meets the test at its place; the first element's place is given.
  abbrev pub every_at : (ℕ → A → Bool) → ℕ → List A → Bool
  every_at test place [] = true
  every_at test place (first ∷ rest) = test place first && every_at test (suc place) rest

  -- The elements that meet the test, in their order.
  abbrev pub those : (A → Bool) → List A → List A
  those test [] = []
  those test (first ∷ rest) = cond (test first) (first ∷ those test rest) (those test rest)

-- Every rule of a list holds.
abbrev pub all_hold : List Bool → Bool
all_hold [] = true
all_hold (rule ∷ rules) = rule && all_hold rules

-- A number from the least to the greatest, both included.
unfoldable pub between : ℕ → ℕ → ℕ → Bool
between least greatest number = leb least number && leb number greatest
