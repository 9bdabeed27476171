-- "fully settled ones hold the same bytes", over the lines of their forms.
use mathlib.Core.Path.{◌≡◌, sym, ap, ap₂, ◌∙◌}
use mathlib.Core.Bool.{true}
use mathlib.Core.List.{List, [], ◌∷◌, ◌++◌, map}
use Prim.Native.Nat.{ℕ}
use lib.IntN.{ℤ}
use lib.ListN.{get_or, length}
use Rattle.meaning.specs.Operations.{is_counter}
use Rattle.meaning.specs.Rows.{Row, unsettled_count}
use Rattle.meaning.specs.Table.{Header, Table, kind_in, in_range}
use Rattle.meaning.specs.History.{Event, reached}
use Rattle.meaning.proofs.Agreement as agreement
use Rattle.meaning.proofs.Agreement.{Within}
use Rattle.meaning.proofs.Demand3.{reached_sound}
use Rattle.form_lines.specs.FormLines.{clock_line, total_line, row_line, closing_line}
use Rattle.form_write.specs.Forms.{lines_of, row_lines, total_lines}

same_totals : (t u : Table) → t.header.kinds ≡ u.header.kinds → t.totals ≡ u.totals → total_lines t ≡ total_lines u
unfolding total_lines kind_in
same_totals t u k e = ap₂ (λ (kinds : List ℕ) (totals : List ℤ). lines_of (λ (object : ℕ). is_counter (get_or kinds object 0)) total_line 0 totals) k e

same_rows : (t u : Table) → t.header.size ≡ u.header.size → t.rows ≡ u.rows → row_lines t ≡ row_lines u
unfolding row_lines
same_rows t u n e = ap₂ (λ (size : ℕ) (rows : List Row). map (row_line size) rows ++ (closing_line (length rows) ∷ [])) n e

-- Two stations with the same objects, in groups of one size, that accepted the same operations and have no unsettled row left: their forms have
-- the same `50` line, and the same lines behind the last vectors, every total, every row and the closing line.
module _ (header other : Header) (events happened : List Event) (range : in_range header ≡ true) (range' : in_range other ≡ true) (objects : header.kinds ≡ other.kinds) (sizes : header.size ≡ other.size)
    (to : Within (reached header events).accepted (reached other happened).accepted) (from : Within (reached other happened).accepted (reached header events).accepted) where
  abbrev here : Table
  here = (reached header events).table

  abbrev there : Table
  there = (reached other happened).table

  header_here : here.header ≡ header
  header_here = (reached_sound header events range).same_header

  header_there : there.header ≡ other
  header_there = (reached_sound other happened range').same_header

  pub equal_clock_lines : clock_line here.clock ≡ clock_line there.clock
  equal_clock_lines = ap clock_line (agreement.equal_clocks header other events happened range range' objects to from sizes)

  pub equal_lines : unsettled_count here.rows ≡ 0 → unsettled_count there.rows ≡ 0 → total_lines here ++ row_lines here ≡ total_lines there ++ row_lines there
  equal_lines none none' =
      let kinds : here.header.kinds ≡ there.header.kinds = ap (λ (h : Header). h.kinds) header_here ∙ objects ∙ sym (ap (λ (h : Header). h.kinds) header_there) in
      let size : here.header.size ≡ there.header.size = ap (λ (h : Header). h.size) header_here ∙ sizes ∙ sym (ap (λ (h : Header). h.size) header_there) in
      ap₂ ◌++◌
      (same_totals here there kinds (agreement.equal_totals header other events happened range range' objects to from))
      (same_rows here there size (agreement.equal_rows header other events happened range range' objects to from none none'))
