-- The ranges of an opening's numbers, and the space that they ask for.
use Prim.Native.Nat.{ℕ, ◌≤◌, ◌<◌}
use mathlib.Core.Path.{◌≡◌, refl}
use borrow.Author.Tests.{le-leb, lt-leb}
use lib.Dec.{leb}
use Rattle.meaning.specs.Tests.{between}

-- a number in a range
module _ (number least greatest : ℕ) where
  pub range_below : number < least → leb least number ≡ between least greatest number
  unfolding between
  range_below h = rw (lt-leb least number h) refl

  pub range_from : least ≤ number → leb number greatest ≡ between least greatest number
  unfolding between
  range_from h = rw (le-leb least number h) refl
