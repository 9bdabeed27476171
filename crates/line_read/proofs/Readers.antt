-- The ways through the readers, and the length of a vector that was read.
use Prim.Native.Nat.{ℕ, ◌+◌, ◌*◌, ◌≤◌}
use mathlib.Core.Path.{◌≡◌, refl, sym, ap, ◌∙◌}
use mathlib.Core.Bool.{Bool, true, false, ◌&&◌}
use mathlib.Core.List.{List}
use native.Mathlib.Omega.{arith}
use borrow.Author.Tests.{ne_eqb}
use lib.Dec.{leb}
use lib.ListN.{length, get_or}
use Rattle.std.proofs.Common.{Some, None}
use Rattle.std.proofs.lemmas.Option.{none-some}
use Rattle.std.specs.Bool.{if◌then◌else◌}
use Rattle.line_shape.specs.Reading.{has_shape, is_shaped, padded}
use Rattle.line_shape.specs.Shapes.{length_of, read}
use Rattle.line_shape.specs.declared.Fields.{Fields}
use Rattle.line_shape.proofs.Taking.{length_vector}
use Rattle.line_read.specs.Types.{head_of, is_line_of, is_of, line_read, opening, operation}
use Rattle.line_read.specs.Named.{is_opening, is_operation, opening_of, opening_read, operation_of, operation_read}
use Rattle.line_read.specs.declared.Operation.{Operation}
use Rattle.meaning.specs.Table.{greatest_size}

-- what an answer of a reader says
module _ {A : Type 0} (t : Bool) (y : A) where
  pub given : (x : A) → Some x ≡ (if t then Some y else None) → (t ≡ true) × (x ≡ y)
  given x = go t
    where
      go : (t : Bool) → Some x ≡ (if t then Some y else None) → (t ≡ true) × (x ≡ y)
      go true e = (refl, cc)
      go false e = absurd (none-some x (sym e))

  pub none_given : None ≡ (if t then Some y else None) → t ≡ false
  none_given = go t
    where
      go : (t : Bool) → None ≡ (if t then Some y else None) → t ≡ false
      go true e = absurd (none-some y e)
      go false e = refl

-- the fields of a line by their names, where it has its shape
module _ {A : Type 0} (of : Fields → A) (t : Bool) (g : Fields) where
  pub named : (f : Fields) → Some f ≡ (if t then Some g else None) → Some (of f) ≡ (if t then Some (of g) else None)
  named f e = let w : (t ≡ true) × (f ≡ g) = given t g f e in rw (w.0, w.1) refl

  pub unnamed : None ≡ (if t then Some g else None) → None ≡ (if t then Some (of g) else None)
  unnamed e = rw (none_given t g e) refl

-- too few bytes for a shape
few_shape : (kind size : ℕ) (s : List ℕ) → (length s ≡ size → ⊥) → has_shape kind size s ≡ false
unfolding has_shape
few_shape kind size s h = rw (ne_eqb (length s) size h) refl

module _ (s : List ℕ) where
  pub opening_few : length s ≤ 5 → None ≡ (if is_opening s then Some (opening_read s) else None)
  unfolding is_opening is_of length_of
  opening_few h = rw (few_shape 16 (6 + 1 * get_or s 5 0) s (λ e. omega arith)) refl

  module _ (b count : ℕ) (i : b ≡ get_or s 5 0) (j : count ≡ b) (ok : Bool) (f : ok ≡ has_shape 16 (6 + count) s) where
    opening_ok : is_opening s ≡ ok
    unfolding is_opening is_of length_of
    opening_ok = let size : 6 + 1 * get_or s 5 0 ≡ 6 + count = omega arith in ap (λ (n : ℕ). has_shape 16 n s) size ∙ sym f

    pub opening_other : ok ≡ false → None ≡ (if is_opening s then Some (opening_read s) else None)
    opening_other g = rw (opening_ok, g) refl

    pub opening_there : (head : List ℕ) → ok ≡ true → head ≡ padded 6 (read (head_of opening) s) → Some (opening_of head) ≡ (if is_opening s then Some (opening_read s) else None)
    unfolding opening_read
    opening_there head g h = rw (opening_ok, g, h) refl

  pub operation_few : length s ≤ 1 → None ≡ (if is_operation s then Some (operation_read s) else None)
  unfolding is_operation is_line_of is_shaped length_of
  operation_few h = rw (few_shape 32 (9 + 4 * get_or s 1 0) s (λ e. omega arith)) (go (leb (get_or s 1 0) greatest_size))
    where
      go : (t : Bool) → None ≡ (if t && false then Some (operation_read s) else None)
      go true = refl
      go false = refl

  -- as many entries as the second byte says
  module _ (b count : ℕ) (i : b ≡ get_or s 1 0) (j : count ≡ b) where
    pub operation_there : (f : Fields) → Some f ≡ (if is_line_of operation count s then Some (line_read operation count s) else None) → Some (operation_of f) ≡ (if is_operation s then Some (operation_read s) else None)
    unfolding is_operation operation_read
    operation_there f e = named operation_of (is_line_of operation (get_or s 1 0) s) (line_read operation (get_or s 1 0) s) f (e ∙ rw (j, i) refl)

    pub operation_other : None ≡ (if is_line_of operation count s then Some (line_read operation count s) else None) → None ≡ (if is_operation s then Some (operation_read s) else None)
    unfolding is_operation operation_read
    operation_other e = unnamed operation_of (is_line_of operation (get_or s 1 0) s) (line_read operation (get_or s 1 0) s) (e ∙ rw (j, i) refl)

-- the vector of an operation that was read has the length of its array
pub operation_vector : (s : List ℕ) (r : Operation) → r ≡ operation_read s → length r.vector ≡ greatest_size
unfolding operation_read line_read
operation_vector s r e = ap (λ (o : Operation). length o.vector) e ∙ length_vector s (head_of operation) operation.type_byte (get_or s 1 0)
