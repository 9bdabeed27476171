-- What an operation on a counter adds to its total: "sum of increases less sum of decreases".
use Rattle.std.specs.Prelude.{ℕ, Bool, cond, ℤ, pos, neg_ℤ}

unfoldable pub change : Bool → ℕ → ℤ
change increase amount = cond increase (pos amount) (neg_ℤ (pos amount))
