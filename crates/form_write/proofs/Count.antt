-- A form has at most its opening, D, the other last vectors, the totals, the rows and its closing line.
use mathlib.Core.Path.{◌≡◌, refl}
use mathlib.Core.Bool.{Bool, true, false, not, cond}
use mathlib.Core.List.{List, [], ◌∷◌, ◌++◌, map}
use Prim.Native.Nat.{ℕ, suc, ◌+◌, ◌≤◌, ◌<◌, ◌-◌}
use native.Mathlib.Omega.{arith}
use borrow.Author.Tests.{eqb-false}
use lib.Dec.{eqb}
use lib.ListN.{length, length-append, length-map}
use Rattle.meaning.specs.Operations.{is_counter}
use Rattle.meaning.specs.Table.{Table, is_table, kind_in, most_objects, greatest_size, most_rows}
use Rattle.meaning.proofs.TableFacts.{Facts, HeaderFacts, facts, header_facts}
use Rattle.form_lines.specs.FormLines.{last_line, total_line, row_line, closing_line}
use Rattle.form_write.specs.Forms.{lines_of, last_lines, total_lines, row_lines, saved_form, most_form_lines}

one_more : (b : Bool) (line : List ℕ) (lines : List (List ℕ)) (n : ℕ) → length lines ≤ n → length (cond b (line ∷ lines) lines) ≤ suc n
one_more true line lines n h = let r : suc (length lines) ≤ suc n = omega arith in r
one_more false line lines n h = let r : length lines ≤ suc n = omega arith in r

-- a line at most for each element
lines_count : {A : Type 0} (test : ℕ → Bool) (line : ℕ → A → List ℕ) (place : ℕ) (list : List A) → length (lines_of test line place list) ≤ length list
lines_count test line place [] = let r : 0 ≤ 0 = omega arith in r
lines_count test line place (first ∷ rest) = one_more (test place) (line place first) (lines_of test line (suc place) rest) (length rest) (lines_count test line (suc place) rest)

own_passed : (own : Bool) (line : List ℕ) (lines : List (List ℕ)) (n : ℕ) → length lines ≤ n → (own ≡ false → length lines < n) → length (cond (not own) (line ∷ lines) lines) < suc n
own_passed true line lines n h f = let r : length lines < suc n = omega arith in r
own_passed false line lines n h f = let r : suc (length lines) < suc n = omega (arith, f refl) in r

-- none for the own station
others_count : {A : Type 0} (own : ℕ) (line : ℕ → A → List ℕ) (place : ℕ) (list : List A) → place ≤ own → own < place + length list → length (lines_of (λ (station : ℕ). not (eqb station own)) line place list) < length list
others_count own line place [] h b = absurd (omega arith)
others_count own line place (first ∷ rest) h b =
    let test : ℕ → Bool = λ (station : ℕ). not (eqb station own) in
    own_passed (eqb place own) (line place first) (lines_of test line (suc place) rest) (length rest) (lines_count test line (suc place) rest)
    (λ e. let ne : place ≡ own → ⊥ = eqb-false place own e in others_count own line (suc place) rest (omega (arith, ne)) (omega arith))

module _ (t : Table) (h : is_table t ≡ true) where
  F : Facts t
  F = facts t h

  H : HeaderFacts t.header
  H = header_facts t.header F.header_in_range

  lasts_count : length (last_lines t) ≤ greatest_size - 1
  unfolding last_lines
  lasts_count = omega (arith, others_count t.header.own last_line 0 t.last (omega arith) (omega (arith, F.own_in_lem, F.last_length)), F.last_length, H.size_range.1)

  totals_count : length (total_lines t) ≤ most_objects
  unfolding total_lines
  totals_count = omega (arith, lines_count (λ (object : ℕ). is_counter (kind_in t.header object)) total_line 0 t.totals, F.totals_length, H.objects_range.1)

  rows_count : length (row_lines t) ≤ most_rows + 1
  unfolding row_lines
  rows_count = omega (arith, length-append (map (row_line t.header.size) t.rows) (closing_line (length t.rows) ∷ []), length-map t.rows (row_line t.header.size), F.within, H.capacity_range.1)

  pub form_count : length (saved_form t) ≤ most_form_lines
  unfolding saved_form
  form_count = omega (arith, length-append (last_lines t) (total_lines t ++ row_lines t), length-append (total_lines t) (row_lines t), lasts_count, totals_count, rows_count)
