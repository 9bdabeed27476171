-- A line taken apart, or refused for its shape: the ways through has_shape and read_fields.
use Prim.Native.Nat.{ℕ, ◌+◌, ◌-◌, ◌*◌, ◌≤◌, ◌<◌, zero, suc}
use mathlib.Core.Path.{◌≡◌, refl, sym, ◌∙◌}
use mathlib.Core.Bool.{Bool, true, false, ◌&&◌}
use mathlib.Core.List.{List, [], ◌∷◌}
use native.Mathlib.Omega.{arith}
use borrow.Author.Tests.{eq-eqb, eqb-true, le-leb, leb-true, lt-leb, ne_eqb}
use denote.Bor.{Bor}
use lib.Dec.{eqb, leb}
use lib.ListN.{length, drop, replicate, length-append, length-replicate}
use Rattle.std.proofs.Common.{Option, Some, None}
use Rattle.std.proofs.lemmas.List.{length-drop, take_all, take-replicate}
use Rattle.std.proofs.lemmas.Option.{none-some}
use Rattle.std.specs.Bool.{if◌then◌else◌}
use Rattle.std.specs.List.{slice_get, slice_range}
use Rattle.std.specs.Option.{option_copied, option_eq}
use Rattle.line_hex.specs.Choice.{pick}
use Rattle.line_hex.proofs.Digits.{and_left, and_right}
use Rattle.line_shape.specs.Shapes.{length_of, narrow, read}
use Rattle.line_shape.specs.Reading.{entries, fields_read, has_shape, Head, is_shaped, padded, size_of, starts_with, unread}
use Rattle.line_shape.specs.declared.Fields.{Fields}
use Rattle.line_shape.proofs.Spelling.{length_of_narrow, length_read}
use Rattle.meaning.specs.Table.{greatest_size}

module _ (s : List ℕ) (kind size : ℕ) where
  -- the first byte is the type, or there is none
  starts : (l : List ℕ) (first : Option (Bor ℕ)) (type : Bor ℕ) → option_copied first ≡ slice_get l 0 → type.now ≡ kind → option_eq (λ x y. eqb x.now y.now) first (Some type) ≡ starts_with kind l
  unfolding starts_with
  starts [] None type e f = refl
  starts [] (Some x) type e f = absurd (none-some x.now (sym e))
  starts (b ∷ l) None type e f = absurd (none-some b e)
  starts (b ∷ l) (Some x) type e f = let same : x.now ≡ b = cc in rw (same, f) refl

  pub shape_by_type : (r : Bool) (first : Option (Bor ℕ)) (type : Bor ℕ) → length s ≡ size → r ≡ option_eq (λ x y. eqb x.now y.now) first (Some type) → option_copied first ≡ slice_get s 0 → type.now ≡ kind → r ≡ has_shape kind size s
  unfolding has_shape
  shape_by_type r first type h e f g = rw (e, eq-eqb (length s) size h) (starts s first type f g)

  pub shape_other : (length s ≡ size → ⊥) → eqb (length s) size ≡ has_shape kind size s
  unfolding has_shape
  shape_other h = rw (ne_eqb (length s) size h) refl

pub head_small : (widths : List ℕ) → Head widths → length_of widths ≤ 24
head_small widths H = omega (arith, H.few, length_of_narrow widths H.small)

-- each entry is four bytes wide
narrow_each : (n : ℕ) → narrow (replicate n 4) ≡ true
narrow_each zero = refl
narrow_each (suc n) = narrow_each n

module _ (stations : ℕ) (widths : List ℕ) (h : stations ≤ greatest_size) (e : widths ≡ slice_range (replicate greatest_size 4) 0 stations) where
  pub entry_widths : widths ≡ replicate stations 4
  entry_widths = let all : stations - 0 ≡ stations = omega arith in e ∙ rw all (take-replicate stations greatest_size 4 h)

  pub entries_few : length widths ≤ greatest_size
  entries_few = rw (entry_widths, length-replicate {A = ℕ} stations 4) h

  pub entries_narrow : narrow widths ≡ true
  entries_narrow = rw entry_widths (narrow_each stations)

-- a line that is taken apart, or none
module _ (s widths : List ℕ) (kind stations : ℕ) where
  abbrev pub Taken : Option Fields → Type 0
  Taken r = r ≡ (if is_shaped kind widths stations s then Some (fields_read kind widths stations s) else None)

  pub none_taken : is_shaped kind widths stations s ≡ false → Taken None
  none_taken e = rw e refl

  pub all_taken : (f : Fields) → is_shaped kind widths stations s ≡ true → f ≡ fields_read kind widths stations s → Taken (Some f)
  all_taken f e g = rw (e, g) refl

  pub fields_many : greatest_size < stations → Taken None
  unfolding is_shaped
  fields_many h = none_taken (rw (lt-leb stations greatest_size h) refl)

  module _ (at : ℕ) (ok : Bool) (few : stations ≤ greatest_size) (e : at ≡ length_of widths) (f : ok ≡ has_shape kind (at + 4 * stations) s) where
    shaped : ok ≡ is_shaped kind widths stations s
    unfolding is_shaped
    shaped = f ∙ rw (le-leb stations greatest_size few, e) refl

    pub fields_other : ok ≡ false → Taken None
    fields_other g = none_taken (sym shaped ∙ g)

    pub fields_enough : ok ≡ true → at + 4 * stations ≤ length s
    unfolding has_shape
    fields_enough g = omega (arith, eqb-true (length s) (at + 4 * stations) (and_left (eqb (length s) (at + 4 * stations)) (starts_with kind s) (sym f ∙ g)))

    pub fields_there : ok ≡ true → (head vector each : List ℕ) → head ≡ padded 6 (read widths s) → each ≡ replicate stations 4 → vector ≡ padded greatest_size (read each (slice_range s at (length s))) → Taken (Some (record { head = head; vector = vector }))
    unfolding fields_read entries
    fields_there g head vector each eh ee ev =
        let fits : is_shaped kind widths stations s ≡ true = sym shaped ∙ g in
        let behind : slice_range s at (length s) ≡ drop at s = take_all (length s - at) (drop at s) (omega (arith, length-drop at s)) in
        all_taken (record { head = head; vector = vector }) fits (rw (fits, eh, ev, ee, behind, e) refl)

-- widths are those of a head, by a test that computes
pub is_head : (widths : List ℕ) → leb (length widths) 6 && narrow widths ≡ true → Head widths
is_head widths h = record { few = leb-true (length widths) 6 (and_left (leb (length widths) 6) (narrow widths) h); small = and_right (leb (length widths) 6) (narrow widths) h }

length_padded : (n : ℕ) (l : List ℕ) → length l ≤ n → length (padded n l) ≡ n
unfolding padded
length_padded n l h = length-append l (replicate (n - length l) 0) ∙ rw (length-replicate {A = ℕ} (n - length l) 0) (omega arith)

-- a vector that was read has the length of its array
pub length_vector : (s widths : List ℕ) (kind stations : ℕ) → length (fields_read kind widths stations s).vector ≡ greatest_size
unfolding fields_read is_shaped entries
length_vector s widths kind stations = go (leb stations greatest_size) (has_shape kind (size_of widths stations) s) refl
  where
    whole : Fields
    whole = record { head = padded 6 (read widths s); vector = padded greatest_size (entries stations (drop (length_of widths) s)) }

    go : (a b : Bool) → leb stations greatest_size ≡ a → length (pick (a && b) whole unread).vector ≡ greatest_size
    go true true e = length_padded greatest_size (entries stations (drop (length_of widths) s)) (rw (length_read (replicate stations 4) (drop (length_of widths) s), length-replicate {A = ℕ} stations 4) (leb-true stations greatest_size e))
    go true false e = refl
    go false b e = refl

-- and the fields of its head that of theirs
pub length_head : (s widths : List ℕ) (kind stations : ℕ) → length widths ≤ 6 → length (fields_read kind widths stations s).head ≡ 6
unfolding fields_read is_shaped
length_head s widths kind stations h = go (leb stations greatest_size && has_shape kind (size_of widths stations) s)
  where
    go : (t : Bool) → length (pick t (record { head = padded 6 (read widths s); vector = padded greatest_size (entries stations (drop (length_of widths) s)) }) unread).head ≡ 6
    go true = length_padded 6 (read widths s) (rw (length_read widths s) h)
    go false = refl
