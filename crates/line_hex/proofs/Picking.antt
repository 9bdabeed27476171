-- What a test picks, where it is known.
use mathlib.Core.Path.{◌≡◌, refl}
use mathlib.Core.Bool.{Bool, true, false}
use Rattle.line_hex.specs.Choice.{pick}

pub picked : {A : Type 0} (b : Bool) (x y : A) → b ≡ true → pick b x y ≡ x
picked b x y e = rw e refl

pub passed : {A : Type 0} (b : Bool) (x y : A) → b ≡ false → pick b x y ≡ y
passed b x y e = rw e refl
