-- What an opening line said that begins a load.
use Rattle.std.specs.Prelude.{Result}
use mathlib.Core.Path.{◌≡◌, refl, sym, ap, ◌∙◌}
use mathlib.Core.Bool.{true, false}
use mathlib.Core.Logic.{◌⊎◌, inl, inr}
use mathlib.Core.List.{List, [], ◌∷◌}
use Prim.Native.Nat.{ℕ, ◌≤◌}
use native.Mathlib.Omega.{arith}
use lib.Dec.{eqb}
use lib.ListN.{length, drop, length-drop}
use borrow.Author.Tests.{eqb-true}
use Rattle.meaning.specs.Refusals.{first_of, opening_refusals}
use Rattle.meaning.specs.Table.{Header, in_range, opened}
use Rattle.meaning.specs.Calls as meaning
use Rattle.meaning.proofs.Tests.{cases}
use Rattle.meaning.proofs.TableRules.{opened_is_table}
use Rattle.words_layout.specs.Layout.{space_for}
use Rattle.line_hex.specs.Hex.{hex_line}
use Rattle.line_read.specs.Types.{line_of, opening}
use Rattle.line_read.specs.Named.{opening_read, is_opening}
use Rattle.line_read.proofs.Taken.{opening_only_spelling}
use Rattle.line_read.proofs.Longest.{opening_size}
use Rattle.line_decode.specs.Decoding.{bytes_of, type_of}
use Rattle.line_decode.specs.LineKinds.{kind_of}
use Rattle.form_lines.specs.FormLines.{opening_line}
use Rattle.call_checked.specs.Called.{header_read, opened_as, opened_by}
use Rattle.call_checked.proofs.Opening.{open_ranges, open_room}
use Rattle.form_take.specs.declared.Loaded.{Loaded}
use Rattle.form_load.proofs.Loads.{first_cases}
use Rattle.form_load.specs.Loading.{begun, first_taken, loaded_by, under_load}
use Rattle.law_round_trip.proofs.Under.{Fresh}
use Rattle.law_round_trip.proofs.Front.{fresh_opened}
use Rattle.line_decode.proofs.Decoding.{decoded_bytes}
use Rattle.law_round_trip.proofs.Decoded.{line_said}
use Rattle.law_round_trip.proofs.StepsBack.{Took, refused}

fresh_of : (header : Header) → in_range header ≡ true → Fresh (opened header)
unfolding opened
fresh_of header range = fresh_opened (opened header) (opened_is_table header range) []

module _ (line words : List ℕ) (idle : under_load words ≡ false) where
  abbrev bytes : List ℕ
  bytes = bytes_of line

  abbrev header : Header
  header = header_read (bytes_of line)

  -- what stays of the space
  abbrev pub kept : List ℕ
  kept = drop (space_for header.size header.capacity) words

  abbrev refusal : ℕ
  refusal = first_of (opening_refusals (length words) (space_for header.size header.capacity) header)

  line_is : is_opening bytes ≡ true → line ≡ hex_line (opening_line header)
  unfolding opening_line header_read
  line_is ok =
      let asked = opening_read bytes in
      let count : asked.count ≡ length (drop 6 bytes) = omega (arith, opening_size bytes ok, length-drop 6 bytes) in
      line_said opening (asked.stations ∷ asked.own ∷ asked.capacity ∷ asked.count ∷ []) (drop 6 bytes) line (opening_only_spelling bytes (decoded_bytes line) ok)
      ∙ ap (λ (n : ℕ). hex_line (line_of opening (asked.stations ∷ asked.own ∷ asked.capacity ∷ n ∷ []) (drop 6 bytes))) count

  first : loaded_by line words ≡ first_taken line words
  unfolding loaded_by
  first = rw idle refl

  abbrev Back : Type 0
  Back = (refused (loaded_by line words).0 ≡ true) ⊎ Took line words opening_line opened (λ (h : Header). (in_range h ≡ true) × (kept ≡ drop (space_for h.size h.capacity) words) × (space_for h.size h.capacity ≤ length words)) 1 kept

  opened_back : loaded_by line words ≡ begun (opened_by line words) → Back
  unfolding begun opened_by opened_as meaning.open_table opened
  opened_back is = cases (is_opening bytes)
      (λ ok. cases (eqb refusal 0)
      (λ none. inr (record {
        what = header;
        line_is = line_is ok;
        fresh = fresh_of header (open_ranges words (space_for header.size header.capacity) header (sym (eqb-true refusal 0 none)));
        kept = (open_ranges words (space_for header.size header.capacity) header (sym (eqb-true refusal 0 none)), refl, open_room words (space_for header.size header.capacity) header (sym (eqb-true refusal 0 none)));
        next_is = is ∙ rw (ok, none) refl;
      }))
      (λ some. inl (ap (λ (o : Result Loaded ℕ × List ℕ). refused o.0) is ∙ rw (ok, some) refl)))
      (λ bad. inl (ap (λ (o : Result Loaded ℕ × List ℕ). refused o.0) is ∙ rw bad refl))

  pub opening_back : Back
  unfolding first_taken
  opening_back = first_cases line words (λ _ taken. loaded_by line words ≡ taken → Back) opened_back
      (λ is. inl (ap (λ (o : Result Loaded ℕ × List ℕ). refused o.0) is))
      (λ _ is. inl (ap (λ (o : Result Loaded ℕ × List ℕ). refused o.0) is))
      (kind_of (type_of line)) first
