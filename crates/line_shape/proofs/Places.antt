-- What four bytes at a place say, and where a reader stands once it has read on.
use Rattle.std.proofs.Common.{◌≡◌, ℕ, ◌+◌, ◌-◌, ◌≤◌, ◌<◌, Bool, true, false, List, length, take, drop, Some, None, refl, ap, ◌∙◌, arith}
use borrow.Author.Tests.{le-leb, lt-leb, ltb-false, ltb-true, leb-false, leb-true}
use denote.Bor.{Bor}
use lib.Dec.{leb, ltb}
use lib.ListN.{get_or}
use Rattle.std.proofs.lemmas.List.{length-drop, take_all}
use Rattle.std.proofs.lemmas.Option.{none-some}
use Rattle.std.specs.List.{slice_range}
use Rattle.line_hex.specs.Choice.{pick}
use Rattle.line_hex.specs.Numbers.{number_of}
use Rattle.line_shape.specs.Places.{byte_at, four_at}
use Rattle.line_shape.specs.Readers.{place_after, read_on}
use Rattle.line_shape.specs.declared.Reader.{Reader}

module _ (s : List ℕ) (at : ℕ) where
  pub four_few : length s < at + 4 → None ≡ four_at s at
  unfolding four_at
  four_few h = rw (lt-leb (at + 4) (length s) h) refl

  pub few_left : {n : ℕ} → n + at ≡ length s → n < 4 → length s < at + 4
  few_left e h = omega arith

  pub four_there : at + 4 ≤ length s → (behind four : List ℕ) (n : ℕ) → behind ≡ slice_range s at (length s) → four ≡ slice_range behind 0 4 → n ≡ number_of four → Some n ≡ four_at s at
  unfolding four_at
  four_there h behind four n e f g =
      let whole : slice_range s at (length s) ≡ drop at s = take_all (length s - at) (drop at s) (omega (arith, length-drop at s)) in
      rw (le-leb (at + 4) (length s) h, g, f, e, whole) refl

module _ (width : ℕ) (s : List ℕ) (at : ℕ) where
  after_enough : at + width ≤ length s → at + width ≡ place_after width s at
  unfolding place_after
  after_enough h = rw (le-leb (at + width) (length s) h) refl

  after_few : length s < at + width → at ≡ place_after width s at
  unfolding place_after
  after_few h = rw (lt-leb (at + width) (length s) h) refl

module _ (width : ℕ) (reader : Reader) where
  pub moves : reader.at + width ≤ length reader.src.now → ◌≡◌ {A = Reader} (record { src = reader.src; at = reader.at + width }) (read_on width reader)
  moves h = ap (λ (at : ℕ). record { src = reader.src; at = at }) (after_enough width reader.src.now reader.at h)

  pub moved : (to : Reader) → reader.at + width ≤ length reader.src.now → to.src ≡ reader.src → to.at ≡ reader.at + width → to ≡ read_on width reader
  moved to h e f = same to.src to.at e (f ∙ after_enough width reader.src.now reader.at h)
    where
      same : {at : ℕ} (s : Bor (List ℕ)) (n : ℕ) → s ≡ reader.src → n ≡ at → ◌≡◌ {A = Reader} (record { src = s; at = n }) (record { src = reader.src; at = at })
      same s n e f = rw (e, f) refl

  pub stays : length reader.src.now < reader.at + width → reader ≡ read_on width reader
  stays h = ap (λ (at : ℕ). record { src = reader.src; at = at }) (after_few width reader.src.now reader.at h)

-- what was given stood there, and none is given past the end
module _ (s : List ℕ) (at : ℕ) where
  pub byte_given : (b : ℕ) → Some b ≡ byte_at s at → (at < length s) × (b ≡ get_or s at 0)
  unfolding byte_at
  byte_given b = go (ltb at (length s)) refl
    where
      go : (t : Bool) → ltb at (length s) ≡ t → Some b ≡ pick t (Some (get_or s at 0)) None → (at < length s) × (b ≡ get_or s at 0)
      go true e f = (ltb-true at (length s) e, cc)
      go false e f = let g : None ≡ Some b = cc in absurd (none-some b g)

  pub no_byte_given : None ≡ byte_at s at → length s ≤ at
  unfolding byte_at
  no_byte_given = go (ltb at (length s)) refl
    where
      go : (t : Bool) → ltb at (length s) ≡ t → None ≡ pick t (Some (get_or s at 0)) None → length s ≤ at
      go true e f = absurd (none-some (get_or s at 0) f)
      go false e f = ltb-false at (length s) e

  pub four_given : (n : ℕ) → Some n ≡ four_at s at → (at + 4 ≤ length s) × (n ≡ number_of (take 4 (drop at s)))
  unfolding four_at
  four_given n = go (leb (at + 4) (length s)) refl
    where
      go : (t : Bool) → leb (at + 4) (length s) ≡ t → Some n ≡ pick t (Some (number_of (take 4 (drop at s)))) None → (at + 4 ≤ length s) × (n ≡ number_of (take 4 (drop at s)))
      go true e f = (leb-true (at + 4) (length s) e, cc)
      go false e f = let g : None ≡ Some n = cc in absurd (none-some n g)

  pub no_four_given : None ≡ four_at s at → length s < at + 4
  unfolding four_at
  no_four_given = go (leb (at + 4) (length s)) refl
    where
      go : (t : Bool) → leb (at + 4) (length s) ≡ t → None ≡ pick t (Some (number_of (take 4 (drop at s)))) None → length s < at + 4
      go true e f = absurd (none-some (number_of (take 4 (drop at s))) f)
      go false e f = leb-false (at + 4) (length s) e
