-- Pieces of a line laid one after the other into a space, and the line that they make.
use Prim.Native.Nat.{ℕ, ◌+◌, ◌*◌, ◌≤◌, ◌<◌}
use mathlib.Core.Path.{◌≡◌, refl, sym, ap, ◌∙◌}
use mathlib.Core.List.{List, [], ◌++◌}
use native.Mathlib.Numerals.{add-one}
use native.Mathlib.Omega.{arith}
use lib.ListN.{length, get_or, drop, replicate, drop_of_length-le, length-append, length-replicate, take-append-drop}
use lib.Seq.{drop-cons}
use Rattle.line_hex.specs.Hex.{digits_of}
use Rattle.line_hex.specs.Numbers.{big_endian}
use Rattle.line_hex.specs.Putting.{digits_at, place_after, put_at}
use Rattle.line_hex.proofs.Bytes.{length_big_endian}
use Rattle.line_hex.proofs.Writing.{digits_at_append, length_digits_at}
use Rattle.line_shape.specs.Shapes.{length_of, written}
use Rattle.line_shape.proofs.Spelling.{length_of_each, length_written}
use Rattle.line_put.specs.Writing.{written_each}

-- of `whole`, laid from `at` on, `left` is to come from `to` on
pub record Laying (out₀ : List ℕ) (at : ℕ) (whole out : List ℕ) (to : ℕ) (left : List ℕ) : Type 0 where
  pub same : digits_at out₀ at whole ≡ digits_at out to left
  pub place : place_after at whole ≡ place_after to left
  pub room : place_after to left ≤ length out
  pub long : length out ≡ length out₀

pub laying_start : (out : List ℕ) (at : ℕ) (whole : List ℕ) → place_after at whole ≤ length out → Laying out at whole out at whole
laying_start out at whole h = record { same = refl; place = refl; room = h; long = refl }

module _ (out₀ : List ℕ) (at : ℕ) (whole out : List ℕ) (to : ℕ) (left : List ℕ) (L : Laying out₀ at whole out to left) where
  pub laying_room : (bytes more : List ℕ) → left ≡ bytes ++ more → place_after to bytes ≤ length out
  laying_room bytes more e = let parts : length left ≡ length bytes + length more = ap length e ∙ length-append bytes more in omega (arith, L.room)

  pub laying_turn : (bytes more out' : List ℕ) (to' : ℕ) → left ≡ bytes ++ more → (to', out') ≡ put_at out to bytes → Laying out₀ at whole out' to' more
  unfolding put_at
  laying_turn bytes more out' to' e f =
      let parts : length left ≡ length bytes + length more = ap length e ∙ length-append bytes more in
      let fits : place_after to bytes ≤ length out = laying_room bytes more e in
      let next : to' ≡ place_after to bytes = ap (λ (p : ℕ × List ℕ). p.0) f in
      let now : out' ≡ digits_at out to bytes = ap (λ (p : ℕ × List ℕ). p.1) f in
      let long : length out' ≡ length out = ap length now ∙ length_digits_at out to bytes fits in
      record {
        same = L.same ∙ rw (e, next, now) (sym (digits_at_append out to bytes fits more));
        place = omega (arith, L.place);
        room = omega (arith, L.room);
        long = long ∙ L.long;
      }

  laid : left ≡ [] → out ≡ digits_at out₀ at whole
  unfolding digits_at digits_of
  laid e = let here : to + 0 ≡ to = omega arith in sym (L.same ∙ rw e (rw here (take-append-drop to out)))

  pub laying_done : left ≡ [] → (to, out) ≡ put_at out₀ at whole
  unfolding put_at
  laying_done e = let none : length left ≡ 0 = ap length e in let after : to ≡ place_after at whole = omega (arith, L.place) in cc (laid e)

-- put_fields
module _ (widths fields : List ℕ) (i : ℕ) (many : length fields ≡ length widths) where
  next_field : i < length widths → written (drop i widths) (drop i fields) ≡ big_endian (get_or widths i 0) (get_or fields i 0) ++ written (drop (i + 1) widths) (drop (i + 1) fields)
  unfolding written
  next_field h = rw (add-one i, drop-cons widths i 0 h, drop-cons fields i 0 (omega arith)) refl

  no_field : length widths ≤ i → written (drop i widths) (drop i fields) ≡ []
  unfolding written
  no_field h = rw (drop_of_length-le widths h) refl

pub record Fielding (out₀ : List ℕ) (at : ℕ) (widths fields out : List ℕ) (to i : ℕ) : Type 0 where
  pub laying : Laying out₀ at (written widths fields) out to (written (drop i widths) (drop i fields))
  pub many : length fields ≡ length widths
  pub within : i ≤ length widths

pub fielding_start : (out : List ℕ) (at : ℕ) (widths fields : List ℕ) → length fields ≡ length widths → at + 2 * length_of widths ≤ length out → Fielding out at widths fields out at 0
fielding_start out at widths fields e h = record { laying = laying_start out at (written widths fields) (omega (arith, length_written widths fields e)); many = e; within = omega arith }

module _ (out₀ : List ℕ) (at : ℕ) (widths fields out : List ℕ) (to i : ℕ) (F : Fielding out₀ at widths fields out to i) where
  pub fielding_room : (w : ℕ) → i < length widths → w ≡ get_or widths i 0 → to + 2 * w ≤ length out
  fielding_room w h e =
      omega (arith, laying_room out₀ at (written widths fields) out to (written (drop i widths) (drop i fields)) F.laying (big_endian (get_or widths i 0) (get_or fields i 0)) (written (drop (i + 1) widths) (drop (i + 1) fields)) (next_field widths fields i F.many h), length_big_endian (get_or widths i 0) (get_or fields i 0))

  pub fielding_turn : (w n : ℕ) (out' : List ℕ) (to' : ℕ) → i < length widths → w ≡ get_or widths i 0 → n ≡ get_or fields i 0 → (to', out') ≡ put_at out to (big_endian w n) → Fielding out₀ at widths fields out' to' (i + 1)
  fielding_turn w n out' to' h ew en e =
      record {
        laying = laying_turn out₀ at (written widths fields) out to (written (drop i widths) (drop i fields)) F.laying (big_endian (get_or widths i 0) (get_or fields i 0)) (written (drop (i + 1) widths) (drop (i + 1) fields)) out' to' (next_field widths fields i F.many h) (e ∙ rw (ew, en) refl);
        many = F.many;
        within = omega arith;
      }

  pub fielding_done : length widths ≤ i → (to, out) ≡ put_at out₀ at (written widths fields)
  fielding_done h = laying_done out₀ at (written widths fields) out to (written (drop i widths) (drop i fields)) F.laying (no_field widths fields i F.many h)

-- put_each
module _ (width : ℕ) (numbers : List ℕ) where
  pub length_written_each : length (written_each width numbers) ≡ width * length numbers
  unfolding written_each
  length_written_each = length_written (replicate (length numbers) width) numbers (sym (length-replicate (length numbers) width)) ∙ length_of_each (length numbers) width

  next_number : (i : ℕ) → i < length numbers → written_each width (drop i numbers) ≡ big_endian width (get_or numbers i 0) ++ written_each width (drop (i + 1) numbers)
  unfolding written_each written
  next_number i h = rw (add-one i, drop-cons numbers i 0 h) refl

  no_number : (i : ℕ) → length numbers ≤ i → written_each width (drop i numbers) ≡ []
  unfolding written_each written
  no_number i h = rw (drop_of_length-le numbers h) refl

pub record Numbering (out₀ : List ℕ) (at width : ℕ) (numbers out : List ℕ) (to i : ℕ) : Type 0 where
  pub laying : Laying out₀ at (written_each width numbers) out to (written_each width (drop i numbers))
  pub within : i ≤ length numbers

pub numbering_start : (out : List ℕ) (at width : ℕ) (numbers : List ℕ) → at + 2 * (width * length numbers) ≤ length out → Numbering out at width numbers out at 0
numbering_start out at width numbers h = record { laying = laying_start out at (written_each width numbers) (omega (arith, length_written_each width numbers)); within = omega arith }

module _ (out₀ : List ℕ) (at width : ℕ) (numbers out : List ℕ) (to i : ℕ) (N : Numbering out₀ at width numbers out to i) where
  pub numbering_room : i < length numbers → to + 2 * width ≤ length out
  numbering_room h =
      omega (arith, laying_room out₀ at (written_each width numbers) out to (written_each width (drop i numbers)) N.laying (big_endian width (get_or numbers i 0)) (written_each width (drop (i + 1) numbers)) (next_number width numbers i h), length_big_endian width (get_or numbers i 0))

  pub numbering_turn : (out' : List ℕ) (to' : ℕ) → i < length numbers → (to', out') ≡ put_at out to (big_endian width (get_or numbers i 0)) → Numbering out₀ at width numbers out' to' (i + 1)
  numbering_turn out' to' h e =
      record {
        laying = laying_turn out₀ at (written_each width numbers) out to (written_each width (drop i numbers)) N.laying (big_endian width (get_or numbers i 0)) (written_each width (drop (i + 1) numbers)) out' to' (next_number width numbers i h) e;
        within = omega arith;
      }

  pub numbering_done : length numbers ≤ i → (to, out) ≡ put_at out₀ at (written_each width numbers)
  numbering_done h = laying_done out₀ at (written_each width numbers) out to (written_each width (drop i numbers)) N.laying (no_number width numbers i h)
