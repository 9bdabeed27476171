-- Each number of a line of a form is given exactly when its condition holds.
use Rattle.std.specs.Prelude.{Result, Ok, Err}
use mathlib.Core.Path.{◌≡◌, refl, sym, ap, ◌∙◌}
use mathlib.Core.Bool.{Bool, true, false, not, ◌&&◌, cond, false≢true}
use mathlib.Core.List.{List, [], ◌∷◌}
use Prim.Native.Nat.{ℕ}
use lib.Dec.{eqb, leb}
use lib.ListN.{length, replicate, set}
use borrow.Author.Tests.{eqb-true, eqb-false}
use Rattle.meaning.specs.Tests.{between}
use Rattle.meaning.specs.Refusals.{◌when◌, first_of}
use Rattle.meaning.proofs.Tests.{and_right, cases, fails}
use Rattle.words_layout.specs.Layout.{count_in, holds_table, size_in}
use Rattle.line_hex.specs.Choice.{pick}
use Rattle.line_hex.specs.Decoding.{is_line}
use Rattle.line_read.specs.Types.{is_of, opening, longest}
use Rattle.line_read.specs.Named.{count_of}
use Rattle.line_read.specs.SavedNamed.{is_closing, closing_read, row_read, is_row}
use Rattle.line_decode.specs.Decoding.{bytes_of, type_of}
use Rattle.line_decode.specs.LineKinds.{kind_of, saved_type}
use Rattle.line_decode.specs.declared.LineKind.TheVariants as kind
use Rattle.line_decode.proofs.KindOfType.{kind_says, saved_kind, shaped_type}
use Rattle.call_checked.specs.Called.{opened_by}
use Rattle.form_take.specs.declared.Loaded.{Loaded}
use Rattle.form_take.specs.declared.Loaded.TheVariants as loaded
use Rattle.form_row.specs.Joining.{joined, joins, row_said}
use Rattle.form_take.specs.Taking.{clock_taken, closed, finished, last_taken, row_or_closing, row_taken, spoilt, took, total_taken}
use Rattle.form_load.specs.declared.Next.{Next}
use Rattle.form_load.specs.declared.Next.TheVariants as next
use Rattle.form_load.specs.Loading.{begun, first_as, first_taken, load_ended, loaded_by, next_in, taken_as, under_load}
use Rattle.form_load.proofs.Loads.{first_other}
use Rattle.law_agreement.specs.Conditions.{is_line_of, open_conditions, open_result}
use Rattle.law_agreement.proofs.ExactlyWhen.{Exactly, exactly, open_told}
use Rattle.law_continued.specs.LoadConditions.{begin_conditions, begin_result, end_conditions, end_left, is_next, load_conditions, load_result, number_of_loaded, zeroed}

module _ (line words : List ℕ) where
  abbrev begins : ℕ → Result Loaded ℕ × List ℕ
  begins r = cond (eqb r 0) (begin_result line words) (Err r, words)

  begun_as : (r : ℕ) → begun (cond (eqb r 0) (open_result line words) (Err r, words)) ≡ begins r
  unfolding begun begin_result open_result
  begun_as r = cases (eqb r 0) (λ q. rw q refl) (λ q. rw q refl)

  saved_told : saved_type (type_of line) ≡ true → first_taken line words ≡ (Err 15, words)
  unfolding first_taken first_as
  saved_told s = rw (saved_kind (type_of line) s) refl

  opening_told : type_of line ≡ 16 → first_taken line words ≡ begun (opened_by line words)
  unfolding first_taken first_as kind_of
  opening_told z = rw z refl

  -- a line that is neither an opening nor a saved one has no opening's shape
  other_told : (type_of line ≡ 16 → ⊥) → saved_type (type_of line) ≡ false → first_taken line words ≡ (Err 1, words)
  other_told n s = sym (first_other line words (kind_of (type_of line)) refl (λ z. n (kind_says (type_of line) kind.Opening z)) (λ z. false≢true (sym s ∙ kind_says (type_of line) kind.Saved z)))

  misshapen : (type_of line ≡ 16 → ⊥) → is_line_of opening (count_of (bytes_of line)) line ≡ false
  unfolding is_line_of
  misshapen n = fails (is_line_of opening (count_of (bytes_of line)) line) (λ e. n (shaped_type opening (count_of (bytes_of line)) line (and_right (is_line longest line) (is_of opening (count_of (bytes_of line)) (bytes_of line)) e)))

  begin_told : under_load words ≡ false → loaded_by line words ≡ begins (first_of (begin_conditions line words))
  unfolding loaded_by begin_conditions between open_conditions
  begin_told u = rw u (cases (saved_type (type_of line))
      (λ s. saved_told s ∙ rw s refl)
      (λ s. cases (eqb (type_of line) 16)
      (λ q. let z : type_of line ≡ 16 = eqb-true (type_of line) 16 q in opening_told z ∙ rw z (ap begun (open_told line words) ∙ begun_as (first_of (open_conditions line words))))
      (λ q. let n : type_of line ≡ 16 → ⊥ = eqb-false (type_of line) 16 q in other_told n s ∙ rw (s, misshapen n) refl)))

  -- under load
  abbrev goes_on : Next → ℕ → Result Loaded ℕ × List ℕ
  goes_on coming r = cond (eqb r 0) (load_result coming (bytes_of line) words) (Err r, zeroed words)

  tested : (b : Bool) (x : Result Loaded ℕ × List ℕ) → pick b x (spoilt words) ≡ cond (eqb (first_of ((15 when not b) ∷ [])) 0) x (Err (first_of ((15 when not b) ∷ [])), zeroed words)
  unfolding spoilt zeroed
  tested true x = refl
  tested false x = refl

  rows_tested : (row join shut count whole : Bool) (x y : Result Loaded ℕ × List ℕ) → pick row (pick join x (spoilt words)) (pick (shut && count) (pick whole y (spoilt words)) (spoilt words)) ≡ pick (pick row join (shut && (count && whole))) (pick row x y) (spoilt words)
  rows_tested true join shut count whole x y = refl
  rows_tested false join true true whole x y = refl
  rows_tested false join true false whole x y = refl
  rows_tested false join false count whole x y = refl

  load_told : (coming : Next) → taken_as coming (bytes_of line) words ≡ goes_on coming (first_of (load_conditions coming (bytes_of line) words))
  unfolding taken_as clock_taken last_taken total_taken row_or_closing row_taken closed finished load_conditions is_next load_result
  load_told next.Clock = tested (is_next next.Clock (bytes_of line) words) (load_result next.Clock (bytes_of line) words)
  load_told (next.Last station) = tested (is_next (next.Last station) (bytes_of line) words) (load_result (next.Last station) (bytes_of line) words)
  load_told (next.Total object) = tested (is_next (next.Total object) (bytes_of line) words) (load_result (next.Total object) (bytes_of line) words)
  load_told next.Rows =
      let f = row_read (size_in words) (bytes_of line) in
      let g = closing_read (bytes_of line) in
      rows_tested (is_row (size_in words) (bytes_of line)) (leb f.settled 1 && joins words (row_said (size_in words) f)) (is_closing (bytes_of line)) (eqb g.rows (count_in words)) (holds_table (set words 6 0)) (Ok loaded.Taken, joined words (row_said (size_in words) f)) (Ok loaded.Table, set words 6 0)
      ∙ tested (is_next next.Rows (bytes_of line) words) (load_result next.Rows (bytes_of line) words)
  load_told next.Nothing = tested false (load_result next.Nothing (bytes_of line) words)

  result_none : (coming : Next) → number_of_loaded (load_result coming (bytes_of line) words).0 ≡ 0
  unfolding load_result number_of_loaded took joined
  result_none next.Clock = refl
  result_none (next.Last station) = refl
  result_none (next.Total object) = refl
  result_none next.Rows = by (is_row (size_in words) (bytes_of line))
    where
      by : (b : Bool) → number_of_loaded (pick {A = Result Loaded ℕ × List ℕ} b (Ok loaded.Taken, joined words (row_said (size_in words) (row_read (size_in words) (bytes_of line)))) (Ok loaded.Table, set words 6 0)).0 ≡ 0
      by true = refl
      by false = refl
  result_none next.Nothing = refl

end_told : (words : List ℕ) → load_ended words ≡ cond (eqb (first_of (end_conditions words)) 0) (Ok loaded.Table, words) (Err (first_of (end_conditions words)), end_left words)
unfolding load_ended end_conditions end_left spoilt zeroed
end_told words = by (holds_table words) (under_load words)
  where
    by : (t u : Bool) → pick {A = Result Loaded ℕ × List ℕ} t (Ok loaded.Table, words) (pick u (Err 15, replicate (length words) 0) (Err 15, words))
        ≡ cond (eqb (first_of ((15 when not t) ∷ [])) 0) (Ok loaded.Table, words) (Err (first_of ((15 when not t) ∷ [])), pick u (replicate (length words) 0) words)
    by true u = refl
    by false true = refl
    by false false = refl

-- 1, 13 and 15 of a line of a form, exactly when: where no load is under way nothing is written, under load a refusal leaves zeros.
pub record EachLine : Type 0 where
  pub beginning : (line words : List ℕ) → under_load words ≡ false → Exactly number_of_loaded Err (15 ∷ 1 ∷ 13 ∷ []) (begin_conditions line words) words (begin_result line words) (loaded_by line words)
  pub under_load_lem : (line words : List ℕ) → under_load words ≡ true → Exactly number_of_loaded Err (15 ∷ []) (load_conditions (next_in words) (bytes_of line) words) (zeroed words) (load_result (next_in words) (bytes_of line) words) (loaded_by line words)
  pub ending : (words : List ℕ) → Exactly number_of_loaded Err (15 ∷ []) (end_conditions words) (end_left words) (Ok loaded.Table, words) (load_ended words)

pub exactly_when : EachLine
unfolding end_conditions begin_conditions open_conditions begin_result load_conditions number_of_loaded loaded_by
exactly_when = record {
  beginning = λ line words u. exactly number_of_loaded Err (begin_conditions line words) words (begin_result line words) (loaded_by line words) (λ n. refl) refl (begin_told line words u) refl;
  under_load_lem = λ line words u.
      exactly number_of_loaded Err (load_conditions (next_in words) (bytes_of line) words) (zeroed words) (load_result (next_in words) (bytes_of line) words) (loaded_by line words) (λ n. refl)
      (result_none line words (next_in words)) (rw u (load_told line words (next_in words))) refl;
  ending = λ words. exactly number_of_loaded Err (end_conditions words) (end_left words) (Ok loaded.Table, words) (load_ended words) (λ n. refl) refl (end_told words) refl;
}
