-- What one reader finds in a line of its type, two bytes and four, and why that is what its fields are.
use Prim.Native.Nat.{ℕ, suc, ◌+◌, ◌≤◌, ◌<◌}
use mathlib.Core.Path.{◌≡◌, refl, sym, ap, ◌∙◌}
use mathlib.Core.Bool.{Bool, true, false, ◌&&◌}
use mathlib.Core.List.{List, [], ◌∷◌}
use native.Mathlib.Omega.{arith}
use borrow.Author.Tests.{eq-eqb, eqb-false, eqb-true, ne_eqb, leb-true, leb-false}
use denote.Bor.{Bor}
use lib.Dec.{eqb, leb}
use lib.ListN.{length, drop, get_or, replicate, take}
use Rattle.std.proofs.Common.{Option, Some, None}
use Rattle.std.specs.Option.{option_and_then}
use Rattle.line_hex.specs.Choice.{pick}
use Rattle.line_hex.specs.Numbers.{number_from, number_of}
use Rattle.line_shape.specs.Places.{at_end, byte_at, four_at}
use Rattle.line_shape.specs.Readers.{place_after, read_on, short_widths}
use Rattle.line_shape.specs.Reading.{entries, fields_read, has_shape, is_shaped, padded, starts_with}
use Rattle.line_shape.specs.Shapes.{length_of, read}
use Rattle.line_shape.specs.declared.Fields.{Fields}
use Rattle.line_shape.specs.declared.Reader.{Reader}
use Rattle.line_shape.proofs.Places.{byte_given, four_given, moves, no_byte_given, no_four_given}
use Rattle.line_shape.proofs.Taking.{all_taken, none_taken, Taken}
use Rattle.meaning.specs.Table.{greatest_size}

one_byte : (a : ℕ) → number_of (a ∷ []) ≡ a
unfolding number_from
one_byte a = omega arith

module _ (kind : ℕ) where
  other_size : (s : List ℕ) → (length s ≡ 7 → ⊥) → is_shaped kind short_widths 0 s ≡ false
  unfolding is_shaped has_shape length_of
  other_size s h = rw (ne_eqb (length s) 7 h) refl

  other_type : (s : List ℕ) → 0 < length s → (get_or s 0 0 ≡ kind → ⊥) → is_shaped kind short_widths 0 s ≡ false
  unfolding is_shaped has_shape length_of starts_with
  other_type [] some h = absurd (omega arith)
  other_type (b ∷ s) some h = rw (ne_eqb b kind h) (go (eqb (suc (length s)) 7))
    where
      go : (t : Bool) → t && false ≡ false
      go true = refl
      go false = refl

  right : (s : List ℕ) → length s ≡ 7 → get_or s 0 0 ≡ kind → is_shaped kind short_widths 0 s ≡ true
  unfolding is_shaped has_shape length_of starts_with
  right [] h e = absurd (omega arith)
  right (b ∷ s) h e = rw (eq-eqb (suc (length s)) 7 h, eq-eqb b kind e) refl

  -- the fields of seven bytes, each at its place
  fields_there : (s : List ℕ) → length s ≡ 7 → get_or s 0 0 ≡ kind
      → ◌≡◌ {A = Fields} (record { head = get_or s 0 0 ∷ get_or s 1 0 ∷ get_or s 2 0 ∷ number_of (take 4 (drop 3 s)) ∷ 0 ∷ 0 ∷ []; vector = replicate greatest_size 0 }) (fields_read kind short_widths 0 s)
  unfolding fields_read read entries padded length_of
  fields_there [] h e = absurd (omega arith)
  fields_there (a ∷ []) h e = absurd (omega arith)
  fields_there (a ∷ b ∷ []) h e = absurd (omega arith)
  fields_there (a ∷ b ∷ c ∷ rest) h e = rw (right (a ∷ b ∷ c ∷ rest) h e, one_byte a, one_byte b, one_byte c) refl

  module _ (s : Bor (List ℕ)) where
    abbrev at : ℕ → Reader
    at n = record { src = s; at = n }

    short : (n : ℕ) → n < 7 → length s.now ≤ n → Taken s.now short_widths kind 0 None
    short n k h = none_taken s.now short_widths kind 0 (other_size s.now (λ e. omega arith))

    on : (n width : ℕ) (c d : Reader) → c ≡ at n → n + width ≤ length s.now → d ≡ read_on width c → d ≡ at (n + width)
    on n width c d e h g = g ∙ ap (read_on width) e ∙ sym (moves width (at n) h)

    byte_on : (n b : ℕ) (c : Reader) → c ≡ at n → Some b ≡ byte_at c.src.now c.at → (n < length s.now) × (b ≡ get_or s.now n 0)
    byte_on n b c e f = byte_given s.now n b (f ∙ ap (λ (r : Reader). byte_at r.src.now r.at) e)

    none_on : (n : ℕ) (c : Reader) → c ≡ at n → n < 7 → None ≡ byte_at c.src.now c.at → Taken s.now short_widths kind 0 None
    none_on n c e k f = short n k (no_byte_given s.now n (f ∙ ap (λ (r : Reader). byte_at r.src.now r.at) e))

    none_first : None ≡ byte_at s.now 0 → Taken s.now short_widths kind 0 None
    none_first e = none_on 0 (at 0) refl (omega arith) e

    module _ (first : ℕ) (e₁ : Some first ≡ byte_at s.now 0) (c₁ : Reader) (g₁ : c₁ ≡ read_on 1 (at 0)) where
      stands_first : c₁ ≡ at 1
      stands_first = on 0 1 (at 0) c₁ refl (omega (arith, (byte_given s.now 0 first e₁).0)) g₁

      none_second : None ≡ byte_at c₁.src.now c₁.at → Taken s.now short_widths kind 0 None
      none_second e = none_on 1 c₁ stands_first (omega arith) e

      module _ (second : ℕ) (e₂ : Some second ≡ byte_at c₁.src.now c₁.at) (c₂ : Reader) (g₂ : c₂ ≡ read_on 1 c₁) where
        stands_second : c₂ ≡ at 2
        stands_second = on 1 1 c₁ c₂ stands_first (omega (arith, (byte_on 1 second c₁ stands_first e₂).0)) g₂

        none_third : None ≡ byte_at c₂.src.now c₂.at → Taken s.now short_widths kind 0 None
        none_third e = none_on 2 c₂ stands_second (omega arith) e

        module _ (third : ℕ) (e₃ : Some third ≡ byte_at c₂.src.now c₂.at) (c₃ : Reader) (g₃ : c₃ ≡ read_on 1 c₂) where
          stands_third : c₃ ≡ at 3
          stands_third = on 2 1 c₂ c₃ stands_second (omega (arith, (byte_on 2 third c₂ stands_second e₃).0)) g₃

          none_value : None ≡ four_at c₃.src.now c₃.at → Taken s.now short_widths kind 0 None
          none_value e = let few : length s.now < 3 + 4 = no_four_given s.now 3 (e ∙ ap (λ (r : Reader). four_at r.src.now r.at) stands_third) in short 6 (omega arith) (omega arith)

          module _ (value : ℕ) (e₄ : Some value ≡ four_at c₃.src.now c₃.at) (c₄ : Reader) (g₄ : c₄ ≡ read_on 4 c₃) where
            given : (3 + 4 ≤ length s.now) × (value ≡ number_of (take 4 (drop 3 s.now)))
            given = four_given s.now 3 value (e₄ ∙ ap (λ (r : Reader). four_at r.src.now r.at) stands_third)

            stands_behind : c₄ ≡ at 7
            stands_behind = on 3 4 c₃ c₄ stands_third given.0 g₄

            first_is : first ≡ get_or s.now 0 0
            first_is = (byte_given s.now 0 first e₁).1

            not_its_type : (first ≡ kind → ⊥) → Taken s.now short_widths kind 0 None
            not_its_type h = none_taken s.now short_widths kind 0 (other_type s.now (omega (arith, given.0)) (λ e. h (first_is ∙ e)))

            past : (t : Bool) → t ≡ at_end c₄.src.now c₄.at → leb (length s.now) 7 ≡ t
            unfolding at_end
            past t e = sym (e ∙ ap (λ (r : Reader). leb (length r.src.now) r.at) stands_behind)

            not_ended : false ≡ at_end c₄.src.now c₄.at → Taken s.now short_widths kind 0 None
            not_ended e = none_taken s.now short_widths kind 0 (other_size s.now (λ k. omega (arith, leb-false (length s.now) 7 (past false e))))

            short_taken : first ≡ kind → true ≡ at_end c₄.src.now c₄.at → (x y z : ℕ) → x ≡ first → y ≡ second → z ≡ third
                → Taken s.now short_widths kind 0 (Some (record { head = x ∷ y ∷ z ∷ value ∷ 0 ∷ 0 ∷ []; vector = replicate greatest_size 0 }))
            short_taken t e x y z ex ey ez =
                let size : length s.now ≡ 7 = omega (arith, given.0, leb-true (length s.now) 7 (past true e)) in
                let type : get_or s.now 0 0 ≡ kind = sym first_is ∙ t in
                let e1 : x ≡ get_or s.now 0 0 = ex ∙ first_is in
                let e2 : y ≡ get_or s.now 1 0 = ey ∙ (byte_on 1 second c₁ stands_first e₂).1 in
                let e3 : z ≡ get_or s.now 2 0 = ez ∙ (byte_on 2 third c₂ stands_second e₃).1 in
                all_taken s.now short_widths kind 0 _ (right s.now size type) (rw (e1, e2, e3, given.1) (fields_there s.now size type))

-- what a reader finds from the front of a line to its end, step by step
module _ (s : List ℕ) where
  abbrev pub behind_first : ℕ
  behind_first = place_after 1 s 0

  abbrev pub behind_second : ℕ
  behind_second = place_after 1 s behind_first

  abbrev pub behind_third : ℕ
  behind_third = place_after 1 s behind_second

  abbrev pub behind_value : ℕ
  behind_value = place_after 4 s behind_third

-- the fields, where the type is in front and nothing behind them
abbrev pub found_fields : ℕ → ℕ → ℕ → ℕ → ℕ → Bool → Option Fields
found_fields kind first second third value ended =
    pick (eqb first kind && ended)
    (Some (record { head = first ∷ second ∷ third ∷ value ∷ 0 ∷ 0 ∷ []; vector = replicate greatest_size 0 }))
    None

abbrev pub found : ℕ → List ℕ → Option Fields
found kind s =
    option_and_then
    (λ first. option_and_then
    (λ second. option_and_then
    (λ third. option_and_then
    (λ value. found_fields kind first second third value (at_end s (behind_value s)))
    (four_at s (behind_third s)))
    (byte_at s (behind_second s)))
    (byte_at s (behind_first s)))
    (byte_at s 0)

-- and that is the line taken apart
pub short_finds : (kind : ℕ) (s : List ℕ) → Taken s short_widths kind 0 (found kind s)
short_finds kind s = at_first (byte_at s 0) refl
  where
    line : Bor (List ℕ)
    line = record { ref_ptr = (0, 0); now = s }

    reader : ℕ → Reader
    reader n = record { src = line; at = n }

    ends : (first second third value : ℕ) → Some first ≡ byte_at s 0 → Some second ≡ byte_at s (behind_first s) → Some third ≡ byte_at s (behind_second s) → Some value ≡ four_at s (behind_third s)
        → (t : Bool) → eqb first kind ≡ t → (u : Bool) → at_end s (behind_value s) ≡ u → Taken s short_widths kind 0 (pick (t && u) (Some (record { head = first ∷ second ∷ third ∷ value ∷ 0 ∷ 0 ∷ []; vector = replicate greatest_size 0 })) None)
    ends first second third value a b c d true e true f = short_taken kind line first a (reader (behind_first s)) refl second b (reader (behind_second s)) refl third c (reader (behind_third s)) refl value d (reader (behind_value s)) refl (eqb-true first kind e) (sym f) first second third refl refl refl
    ends first second third value a b c d true e false f = not_ended kind line first a (reader (behind_first s)) refl second b (reader (behind_second s)) refl third c (reader (behind_third s)) refl value d (reader (behind_value s)) refl (sym f)
    ends first second third value a b c d false e u f = not_its_type kind line first a (reader (behind_first s)) refl second b (reader (behind_second s)) refl third c (reader (behind_third s)) refl value d (reader (behind_value s)) refl (eqb-false first kind e)

    at_value : (first second third : ℕ) → Some first ≡ byte_at s 0 → Some second ≡ byte_at s (behind_first s) → Some third ≡ byte_at s (behind_second s) → (o : Option ℕ) → four_at s (behind_third s) ≡ o → Taken s short_widths kind 0 (option_and_then (λ value. found_fields kind first second third value (at_end s (behind_value s))) o)
    at_value first second third a b c None e = none_value kind line first a (reader (behind_first s)) refl second b (reader (behind_second s)) refl third c (reader (behind_third s)) refl (sym e)
    at_value first second third a b c (Some value) e = ends first second third value a b c (sym e) (eqb first kind) refl (at_end s (behind_value s)) refl

    at_third : (first second : ℕ) → Some first ≡ byte_at s 0 → Some second ≡ byte_at s (behind_first s) → (o : Option ℕ) → byte_at s (behind_second s) ≡ o → Taken s short_widths kind 0 (option_and_then (λ third. option_and_then (λ value. found_fields kind first second third value (at_end s (behind_value s))) (four_at s (behind_third s))) o)
    at_third first second a b None e = none_third kind line first a (reader (behind_first s)) refl second b (reader (behind_second s)) refl (sym e)
    at_third first second a b (Some third) e = at_value first second third a b (sym e) (four_at s (behind_third s)) refl

    at_second : (first : ℕ) → Some first ≡ byte_at s 0 → (o : Option ℕ) → byte_at s (behind_first s) ≡ o → Taken s short_widths kind 0 (option_and_then (λ second. option_and_then (λ third. option_and_then (λ value. found_fields kind first second third value (at_end s (behind_value s))) (four_at s (behind_third s))) (byte_at s (behind_second s))) o)
    at_second first a None e = none_second kind line first a (reader (behind_first s)) refl (sym e)
    at_second first a (Some second) e = at_third first second a (sym e) (byte_at s (behind_second s)) refl

    at_first : (o : Option ℕ) → byte_at s 0 ≡ o → Taken s short_widths kind 0 (option_and_then (λ first. option_and_then (λ second. option_and_then (λ third. option_and_then (λ value. found_fields kind first second third value (at_end s (behind_value s))) (four_at s (behind_third s))) (byte_at s (behind_second s))) (byte_at s (behind_first s))) o)
    at_first None e = none_first kind line (sym e)
    at_first (Some first) e = at_second first (sym e) (byte_at s (behind_first s)) refl

-- the same, as the calls say it: each tells what it found and where the reader then stands
module _ (kind : ℕ) (s : Bor (List ℕ)) where
  told : (r : Option Fields) → r ≡ found kind s.now → Taken s.now short_widths kind 0 r
  told r e = e ∙ short_finds kind s.now

  pub told_no_first : None ≡ byte_at s.now 0 → Taken s.now short_widths kind 0 None
  told_no_first e = told None (cc)

  module _ (first : ℕ) (e₁ : Some first ≡ byte_at s.now 0) (c₁ : Reader) (g₁ : c₁ ≡ read_on 1 (record { src = s; at = 0 })) where
    pub told_no_second : None ≡ byte_at c₁.src.now c₁.at → Taken s.now short_widths kind 0 None
    told_no_second e = told None (cc)

    module _ (second : ℕ) (e₂ : Some second ≡ byte_at c₁.src.now c₁.at) (c₂ : Reader) (g₂ : c₂ ≡ read_on 1 c₁) where
      pub told_no_third : None ≡ byte_at c₂.src.now c₂.at → Taken s.now short_widths kind 0 None
      told_no_third e = told None (cc)

      module _ (third : ℕ) (e₃ : Some third ≡ byte_at c₂.src.now c₂.at) (c₃ : Reader) (g₃ : c₃ ≡ read_on 1 c₂) where
        pub told_no_value : None ≡ four_at c₃.src.now c₃.at → Taken s.now short_widths kind 0 None
        told_no_value e = told None (cc)

        module _ (value : ℕ) (e₄ : Some value ≡ four_at c₃.src.now c₃.at) (c₄ : Reader) (g₄ : c₄ ≡ read_on 4 c₃) where
          found_is : found kind s.now ≡ found_fields kind first second third value (at_end c₄.src.now c₄.at)
          found_is =
              let f₂ : Some second ≡ byte_at s.now (behind_first s.now) = cc in
              let f₃ : Some third ≡ byte_at s.now (behind_second s.now) = cc in
              let f₄ : Some value ≡ four_at s.now (behind_third s.now) = cc in
              let f₅ : at_end c₄.src.now c₄.at ≡ at_end s.now (behind_value s.now) = cc in
              rw (f₅, ← e₁, ← f₂, ← f₃, ← f₄) refl

          pub told_other_type : (first ≡ kind → ⊥) → Taken s.now short_widths kind 0 None
          told_other_type h = told None (rw (found_is, ne_eqb first kind h) refl)

          pub told_not_ended : first ≡ kind → false ≡ at_end c₄.src.now c₄.at → Taken s.now short_widths kind 0 None
          told_not_ended t e = told None (rw (found_is, eq-eqb first kind t, ← e) refl)

          pub told_taken : first ≡ kind → true ≡ at_end c₄.src.now c₄.at → (x y z : ℕ) → x ≡ first → y ≡ second → z ≡ third
              → Taken s.now short_widths kind 0 (Some (record { head = x ∷ y ∷ z ∷ value ∷ 0 ∷ 0 ∷ []; vector = replicate greatest_size 0 }))
          told_taken t e x y z ex ey ez = told _ (rw (found_is, eq-eqb first kind t, ← e, ex, ey, ez) refl)
