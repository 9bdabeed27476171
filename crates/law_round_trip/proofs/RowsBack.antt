-- The lines of rows and the closing line of a form that loads, by the table that they leave.
use Rattle.std.specs.Prelude.{Result}
use mathlib.Core.Path.{◌≡◌, sym, ap, ap₂, ◌∙◌, subst}
use mathlib.Core.Bool.{true, false≢true}
use mathlib.Core.Logic.{◌⊎◌, inl, inr}
use mathlib.Core.List.{List, [], ◌∷◌, ◌++◌, map, append_assoc, append-nil}
use Prim.Native.Nat.{ℕ}
use lib.ListN.{length}
use Rattle.meaning.specs.Rows.{Row}
use Rattle.meaning.specs.Table.{Table}
use Rattle.meaning.specs.Calls.{with_rows}
use Rattle.meaning.proofs.Tests.{cases}
use Rattle.words_layout.specs.Layout.{holds_table, table_of, words_of}
use Rattle.words_layout.proofs.Reading.{table_read}
use Rattle.line_hex.specs.Hex.{hex_line}
use Rattle.line_read.specs.SavedNamed.{is_row}
use Rattle.line_decode.specs.Decoding.{bytes_of}
use Rattle.form_lines.specs.FormLines.{closing_line, row_line}
use Rattle.form_take.specs.declared.Loaded.{Loaded}
use Rattle.form_load.specs.declared.Next.TheVariants as next
use Rattle.form_load.specs.Loading.{loaded_by, next_after}
use Rattle.law_round_trip.specs.Restoring.{Loads}
use Rattle.law_round_trip.proofs.Under.{Fresh, under}
use Rattle.law_round_trip.proofs.StepsBack.{Gone, goes_on, is_taken, refused}
use Rattle.law_round_trip.proofs.RowBack.{Closed, close_back, row_back}

-- the table that is left has more rows, and the lines say them
pub record RowsEnd (t : Table) (lines : List (List ℕ)) (after : List ℕ) : Type 0 where
  pub held : holds_table after ≡ true
  pub more : List Row
  pub table_is : table_of after ≡ with_rows t (t.rows ++ more)
  pub lines_are : lines ≡ map hex_line (map (row_line t.header.size) more ++ (closing_line (length (t.rows ++ more)) ∷ []))

closes : (line : List ℕ) (lines : List (List ℕ)) (t : Table) → Fresh t → (rest : List ℕ) (p : ℕ) (after : List ℕ)
    → (refused (loaded_by line (under p t rest)).0 ≡ true) ⊎ Closed line t rest p → Loads (line ∷ lines) (under p t rest) after → RowsEnd t (line ∷ lines) after
closes line [] t F rest p after (inl e) h = absurd (false≢true (sym (ap (λ (o : Result Loaded ℕ × List ℕ). refused o.0) h) ∙ e))
closes line (second ∷ lines) t F rest p after (inl e) h = absurd (false≢true (sym (ap refused h.0) ∙ e))
closes line [] t F rest p after (inr C) h =
    let same : words_of t ++ rest ≡ after = ap (λ (o : Result Loaded ℕ × List ℕ). o.1) (sym C.next_is ∙ h) in
    record {
      held = subst (λ (w : List ℕ). holds_table w ≡ true) same C.held;
      more = [];
      table_is = ap table_of (sym same) ∙ table_read t F.well rest ∙ ap (with_rows t) (sym (append-nil t.rows));
      lines_are = ap (λ (l : List ℕ). l ∷ []) (C.line_is ∙ ap (λ (rows : List Row). hex_line (closing_line (length rows))) (sym (append-nil t.rows)));
    }
closes line (second ∷ lines) t F rest p after (inr C) h = absurd (false≢true (ap is_taken (sym (ap (λ (o : Result Loaded ℕ × List ℕ). o.0) C.next_is) ∙ h.0)))

-- a row's line ahead of the lines of more rows
one_more : (line : List ℕ) (lines : List (List ℕ)) (t : Table) (rest : List ℕ) (p : ℕ) (after : List ℕ) (G : Gone line lines (row_line t.header.size) (λ (r : Row). with_rows t (t.rows ++ (r ∷ []))) p rest after)
    → RowsEnd (with_rows t (t.rows ++ (G.what ∷ []))) lines after → RowsEnd t (line ∷ lines) after
one_more line lines t rest p after G E =
    let all : (t.rows ++ (G.what ∷ [])) ++ E.more ≡ t.rows ++ (G.what ∷ E.more) = append_assoc t.rows (G.what ∷ []) E.more in
    record {
      held = E.held;
      more = G.what ∷ E.more;
      table_is = E.table_is ∙ ap (with_rows t) all;
      lines_are = ap₂ (λ (l : List ℕ) (ls : List (List ℕ)). l ∷ ls) G.line_is (E.lines_are ∙ ap (λ (rows : List Row). map hex_line (map (row_line t.header.size) E.more ++ (closing_line (length rows) ∷ []))) all);
    }

pub rows_from_lem : (lines : List (List ℕ)) (t : Table) → Fresh t → (rest : List ℕ) (p : ℕ) (after : List ℕ) → next_after t.header.size t.header.own t.header.kinds p ≡ next.Rows → Loads lines (under p t rest) after → RowsEnd t lines after
rows_from_lem [] t F rest p after c h = absurd h
rows_from_lem (line ∷ lines) t F rest p after c h = cases (is_row t.header.size (bytes_of line))
    (λ ok. let G = goes_on line lines (under p t rest) (row_line t.header.size) (λ (r : Row). with_rows t (t.rows ++ (r ∷ []))) p rest after (row_back t F rest p line c ok) h in
    one_more line lines t rest p after G (rows_from_lem lines (with_rows t (t.rows ++ (G.what ∷ []))) G.fresh rest p after c G.more))
    (λ other. closes line lines t F rest p after (close_back t F rest p line c other) h)
