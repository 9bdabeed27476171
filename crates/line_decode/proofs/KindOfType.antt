-- A line's kind is that of its type, and a line that has a type's shape is of that type.
use mathlib.Core.Path.{◌≡◌, refl, subst}
use mathlib.Core.Bool.{Bool, true, false, not, ◌&&◌, false≢true}
use mathlib.Core.List.{List, [], ◌∷◌}
use Prim.Native.Nat.{ℕ, suc, ◌+◌, ◌*◌, ◌≤◌, ◌-◌}
use native.Mathlib.Omega.{arith}
use lib.Dec.{T, eqb}
use lib.ListN.{length}
use borrow.Author.Tests.{eqb-true, ne_eqb}
use mir.Val.{has_key}
use types.Run.{OneOf, miss}
use denote.Enum.Declared as enum
use Rattle.meaning.proofs.Tests.{and_right, between_out, cases}
use Rattle.std.proofs.Common.{Some, None}
use Rattle.line_hex.specs.Choice.{pick}
use Rattle.line_hex.specs.Hex.{is_digit}
use Rattle.line_hex.specs.Decoding.{byte_of, is_line, pair_of, pairs}
use Rattle.line_shape.specs.Reading.{has_shape, starts_with}
use Rattle.line_shape.specs.Shapes.{length_of}
use Rattle.line_read.specs.Types.{Line, head_of, is_of, longest}
use Rattle.line_decode.specs.Decoding.{byte_of_type, bytes_of, type_of}
use Rattle.line_decode.specs.declared.LineKind.{LineKind}
use Rattle.line_decode.specs.declared.LineKind.TheVariants as kind
use Rattle.line_decode.specs.LineKinds.{kind_of, saved_type}
use Rattle.line_decode.specs.contracts.LineKind.{the_type}

-- a type that none of the named ones is
module _ (byte : ℕ) (n16 : byte ≡ 16 → ⊥) (n32 : byte ≡ 32 → ⊥) (n33 : byte ≡ 33 → ⊥) (n48 : byte ≡ 48 → ⊥) (n64 : byte ≡ 64 → ⊥) (n96 : byte ≡ 96 → ⊥) where
  saved_between : saved_type byte ≡ true → kind_of byte ≡ kind.Saved
  unfolding kind_of
  saved_between e = rw (ne_eqb byte 16 n16, ne_eqb byte 32 n32, ne_eqb byte 33 n33, ne_eqb byte 48 n48, ne_eqb byte 64 n64, ne_eqb byte 96 n96, e) refl

pub saved_kind : (type : ℕ) → saved_type type ≡ true → kind_of type ≡ kind.Saved
saved_kind type s =
    let l : 80 ≤ type = (between_out 80 95 type s).0 in
    let h : type ≤ 95 = (between_out 80 95 type s).1 in
    saved_between type (λ z. absurd (omega arith)) (λ z. absurd (omega arith)) (λ z. absurd (omega arith)) (λ z. absurd (omega arith)) (λ z. absurd (omega arith)) (λ z. absurd (omega arith)) s

-- what a kind says of a type
abbrev Says : LineKind → ℕ → Type 0
Says kind.Opening type = type ≡ 16
Says kind.Operation type = type ≡ 32
Says kind.Issue type = type ≡ 33
Says kind.Settling type = type ≡ 48
Says kind.Question type = type ≡ 64
Says kind.Printing type = type ≡ 96
Says kind.Saved type = saved_type type ≡ true
Says kind.Unknown type = saved_type type ≡ false

pub kind_says : (type : ℕ) (k : LineKind) → kind_of type ≡ k → Says k type
unfolding kind_of
kind_says type k e = subst (λ (q : LineKind). Says q type) e
    (one 16 kind.Opening _ (eqb-true type 16) (one 32 kind.Operation _ (eqb-true type 32) (one 33 kind.Issue _ (eqb-true type 33) (one 48 kind.Settling _ (eqb-true type 48) (one 64 kind.Question _ (eqb-true type 64) (one 96 kind.Printing _ (eqb-true type 96) (saved (saved_type type) refl)))))))
  where
    one : (byte : ℕ) (k rest : LineKind) → (eqb type byte ≡ true → Says k type) → Says rest type → Says (pick (eqb type byte) k rest) type
    one byte k rest y n = cases (eqb type byte) (λ q. rw q (y q)) (λ q. rw q n)

    saved : (b : Bool) → saved_type type ≡ b → Says (pick b kind.Saved kind.Unknown) type
    saved true q = q
    saved false q = q

-- what a `match` knows of a kind that is none of its arms before
abbrev place_of : LineKind → ℕ
place_of k = enum.tag_of the_type k

pub other_than : (known : LineKind) (places : List ℕ) → T (not (has_key places (place_of known))) → (k : LineKind) → OneOf places (place_of k) → k ≡ known → ⊥
other_than known places n k h e = miss places (place_of known) n (subst (λ (q : LineKind). OneOf places (place_of q)) e h)

-- a line whose bytes have the shape of a type is of that type
starts_type : (n type : ℕ) (line : List ℕ) → starts_with type (pairs (suc n) line) ≡ true → type_of line ≡ type
unfolding pairs pair_of type_of starts_with
starts_type n type [] e = absurd (false≢true e)
starts_type n type (h ∷ []) e = absurd (false≢true e)
starts_type n type (h ∷ l ∷ line) e = by (is_digit h && is_digit l) e
  where
    by : (b : Bool) → starts_with type (pick b (byte_of h l ∷ pairs n line) []) ≡ true → byte_of_type (pick b (Some (byte_of h l)) None) ≡ type
    by true f = eqb-true (byte_of h l) type f
    by false f = absurd (false≢true f)

pub shaped_type : (type : Line) (more : ℕ) (line : List ℕ) → is_of type more (bytes_of line) ≡ true → type_of line ≡ type.type_byte
unfolding is_of has_shape bytes_of starts_with
shaped_type type more line = by (is_line longest line)
  where
    long : ℕ
    long = length_of (head_of type) + type.each * more

    by : (b : Bool) → (eqb (length (pick b (pairs longest line) [])) long && starts_with type.type_byte (pick b (pairs longest line) [])) ≡ true → type_of line ≡ type.type_byte
    by true f = starts_type (longest - 1) type.type_byte line (and_right (eqb (length (pairs longest line)) long) (starts_with type.type_byte (pairs longest line)) f)
    by false f = absurd (false≢true (and_right (eqb 0 long) false f))
