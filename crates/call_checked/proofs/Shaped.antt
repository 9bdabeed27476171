-- A line that was read: its shape is right, and its fields are the line's; or it is misshapen.
use Rattle.std.proofs.Common.{◌≡◌, Bool, true, false, Option, Some, None, refl, ap}
use Rattle.std.specs.Bool.{if◌then◌else◌}

inside : {A : Type 0} → A → Option A → A
inside spare None = spare
inside spare (Some x) = x

pub read_right : {A : Type 0} (b : Bool) (x f : A) → Some f ≡ (if b then Some x else None) → b ≡ true
read_right true x f e = refl
read_right false x f e = cc

pub read_fields : {A : Type 0} (b : Bool) (x f : A) → Some f ≡ (if b then Some x else None) → f ≡ x
unfolding inside
read_fields true x f e = ap (inside x) e
read_fields false x f e = cc

pub read_wrong : {A : Type 0} (b : Bool) (x : A) → None ≡ (if b then Some x else None) → b ≡ false
read_wrong true x e = cc
read_wrong false x e = refl
