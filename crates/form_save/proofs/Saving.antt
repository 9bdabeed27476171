-- Saving, way by way.
use mathlib.Core.Path.{◌≡◌, refl, sym, ap, ◌∙◌}
use mathlib.Core.Bool.{Bool, true, false, false≢true}
use mathlib.Core.List.{List, [], ◌∷◌, ◌++◌}
use Prim.Native.Nat.{ℕ, zero, suc}
use lib.Dec.{leb}
use lib.ListN.{length, drop}
use Rattle.line_hex.specs.Choice.{pick}
use Rattle.line_hex.specs.Hex.{hex_line}
use Rattle.words_layout.specs.Layout.{holds_table, table_of}
use Rattle.line_read.specs.Named.{printing_read}
use Rattle.std.proofs.Common.{Option, Some, None, Result, Ok, Err}
use Rattle.line_put.specs.Writing.{line_written, too_short}
use Rattle.line_put.specs.declared.TooShort.{TooShort}
use Rattle.line_decode.specs.Decoding.{bytes_of}
use Rattle.form_write.specs.Forms.{formed_of, line_at, line_into, saved_form}
use Rattle.form_save.specs.Saving.{saved_as, saved_on, saved_by}

-- a line that was not written leaves the space
is_line : Result (Option ℕ) TooShort → Bool
is_line (Ok (Some n)) = true
is_line (Ok None) = false
is_line (Err short) = false

into_same : (out bytes : List ℕ) → is_line (line_into out bytes).0 ≡ false → (line_into out bytes).1 ≡ out
unfolding line_into line_written formed_of is_line
into_same out bytes = by (leb (length (hex_line bytes)) (length out))
  where
    by : (b : Bool) → is_line (formed_of (pick {A = Result ℕ TooShort × List ℕ} b (Ok (length (hex_line bytes)), hex_line bytes ++ drop (length (hex_line bytes)) out) (Err too_short, out)).0) ≡ false → (pick {A = Result ℕ TooShort × List ℕ} b (Ok (length (hex_line bytes)), hex_line bytes ++ drop (length (hex_line bytes)) out) (Err too_short, out)).1 ≡ out
    by true e = absurd (false≢true (sym e))
    by false e = refl

at_same : (form : List (List ℕ)) (place : ℕ) (out : List ℕ) → is_line (line_at form place out).0 ≡ false → (line_at form place out).1 ≡ out
unfolding line_at
at_same [] place out e = refl
at_same (line ∷ form) zero out e = into_same out line e
at_same (line ∷ form) (suc place) out e = at_same form place out e

module _ (line words : List ℕ) (place : ℕ) (out : List ℕ) (b : Bool) (e : b ≡ printing_read (bytes_of line)) where
  pub save_misshapen : b ≡ false → (Err 1, out) ≡ saved_on line words place out
  unfolding saved_on
  save_misshapen f = rw (sym e ∙ f) refl

  module _ (t : b ≡ true) (x : List ℕ) where
    abbrev at : Result (Option ℕ) TooShort × List ℕ
    at = line_at (saved_form (table_of words)) place out

    same : (r : Result (Option ℕ) TooShort) → (r, x) ≡ at → is_line r ≡ false → x ≡ out
    same r f h = ap (λ (p : Result (Option ℕ) TooShort × List ℕ). p.1) f ∙ at_same (saved_form (table_of words)) place out (ap (λ (p : Result (Option ℕ) TooShort × List ℕ). is_line p.0) (sym f) ∙ h)

    told : (r : Result (Option ℕ) TooShort) → (r, x) ≡ at → saved_as out (r, x) ≡ saved_on line words place out
    unfolding saved_on
    told r f = rw (sym e ∙ t) (ap (saved_as out) f)

    pub save_short : (short : TooShort) → (Err short, x) ≡ at → (Err 10, x) ≡ saved_on line words place out
    unfolding saved_as is_line
    save_short short f = ap (λ (l : List ℕ). (Err 10, l)) (same (Err short) f refl) ∙ told (Err short) f

    pub save_told : (there : Option ℕ) → (Ok there, x) ≡ at → (Ok there, x) ≡ saved_on line words place out
    unfolding saved_as is_line
    save_told (Some n) f = told (Ok (Some n)) f
    save_told None f = ap (λ (l : List ℕ). (Ok None, l)) (same (Ok None) f refl) ∙ told (Ok None) f

-- 14, or the line of a table's form: for the call over any space
module _ (line words : List ℕ) (place : ℕ) (out : List ℕ) (b : Bool) (e : b ≡ holds_table words) where
  pub save_no_table : b ≡ false → (Err 14, out) ≡ saved_by line words place out
  unfolding saved_by
  save_no_table f = rw (sym e ∙ f) refl

  pub save_table : b ≡ true → (r : Result (Option ℕ) ℕ) (x : List ℕ) → (r, x) ≡ saved_on line words place out → (r, x) ≡ saved_by line words place out
  unfolding saved_by
  save_table t r x f = rw (sym e ∙ t) f
