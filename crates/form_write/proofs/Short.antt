-- No line of a form is longer than that of a row in the largest group.
use mathlib.Core.Path.{◌≡◌, refl}
use mathlib.Core.Bool.{Bool, true, false, not, cond}
use mathlib.Core.List.{List, [], ◌∷◌, ◌++◌, map, Memᴰ}
use Prim.Native.Nat.{ℕ, suc, ◌+◌, ◌≤◌, ◌<◌}
use native.Mathlib.Omega.{arith}
use lib.Dec.{eqb}
use lib.IntN.{ℤ, pos}
use lib.ListN.{get_or, length}
use Rattle.meaning.specs.Operations.{is_counter}
use Rattle.meaning.specs.Rows.{Row}
use Rattle.meaning.specs.Table.{Table, is_table, kind_in}
use Rattle.meaning.proofs.TableFacts.{Facts, HeaderFacts, facts, header_facts}
use Rattle.words_layout.specs.Words.{padded}
use Rattle.words_layout.specs.Layout.{total_words}
use Rattle.words_layout.proofs.Whole.{length_padded}
use Rattle.line_shape.specs.Shapes.{length_of}
use Rattle.line_read.specs.Types.{opening, clock, last_vector, total, row, closing, longest_vector_line}
use Rattle.line_read.proofs.Lengths.{line_length}
use Rattle.form_lines.specs.FormLines.{opening_line, clock_line, last_line, total_line, row_line, closing_line}
use Rattle.form_write.specs.Forms.{lines_of, last_lines, total_lines, row_lines, saved_form}
use Rattle.form_write.proofs.ReadsBack.{last_known, row_known}

-- every line is at most as long
abbrev pub Short : List (List ℕ) → Type 0
Short [] = Unit {0}
Short (line ∷ lines) = (length line ≤ longest_vector_line) × Short lines

short_append : (a b : List (List ℕ)) → Short a → Short b → Short (a ++ b)
short_append [] b s r = r
short_append (line ∷ a) b s r = (s.0, short_append a b s.1 r)

short_one : (b : Bool) (line : List ℕ) (lines : List (List ℕ)) → length line ≤ longest_vector_line → Short lines → Short (cond b (line ∷ lines) lines)
short_one true line lines h s = (h, s)
short_one false line lines h s = s

short_lines : {A : Type 0} (test : ℕ → Bool) (line : ℕ → A → List ℕ) (place : ℕ) (list : List A) (none : A) → ((i : ℕ) → i < length list → length (line (place + i) (get_or list i none)) ≤ longest_vector_line) → Short (lines_of test line place list)
short_lines test line place [] none f = tt
short_lines test line place (first ∷ rest) none f =
    let here : place + 0 ≡ place = omega arith in
    short_one (test place) (line place first) (lines_of test line (suc place) rest) (rw here at (f 0 (omega arith)))
    (short_lines test line (suc place) rest none (λ i h. let next : suc place + i ≡ place + suc i = omega arith in rw next (f (suc i) (omega arith))))

short_map : (line : Row → List ℕ) (rows : List Row) → ((r : Row) → Memᴰ r rows → length (line r) ≤ longest_vector_line) → Short (map line rows)
short_map line [] f = tt
short_map line (r ∷ rows) f = (f r (Memᴰ.head refl), short_map line rows (λ q m. f q (Memᴰ.tail m)))

module _ (t : Table) (h : is_table t ≡ true) where
  F : Facts t
  F = facts t h

  H : HeaderFacts t.header
  H = header_facts t.header F.header_in_range

  pub opening_short : length (opening_line t.header) ≤ longest_vector_line
  unfolding opening_line length_of
  opening_short = omega (arith, line_length opening (t.header.size ∷ t.header.own ∷ t.header.capacity ∷ length t.header.kinds ∷ []) t.header.kinds refl, H.objects_range.1)

  pub clock_short : length (clock_line t.clock) ≤ longest_vector_line
  unfolding clock_line length_of
  clock_short = omega (arith, line_length clock [] t.clock refl, F.clock_length, H.size_range.1)

  pub last_short : (k : ℕ) → k < t.header.size → length (last_line k (get_or t.last k [])) ≤ longest_vector_line
  unfolding last_line length_of
  last_short k b = omega (arith, line_length last_vector (k ∷ []) (get_or t.last k []) refl, (last_known t h k b).0, H.size_range.1)

  lasts_short : Short (last_lines t)
  unfolding last_lines
  lasts_short = short_lines (λ (station : ℕ). not (eqb station t.header.own)) last_line 0 t.last []
      (λ i b. let z : 0 + i ≡ i = omega arith in rw z (last_short i (omega (arith, F.last_length))))

  pub total_short : (o : ℕ) (z : ℤ) → length (total_line o z) ≤ longest_vector_line
  unfolding total_line length_of
  total_short o z = omega (arith, line_length total (o ∷ total_words z) [] refl)

  totals_short : Short (total_lines t)
  unfolding total_lines
  totals_short = short_lines (λ (object : ℕ). is_counter (kind_in t.header object)) total_line 0 t.totals (pos 0)
      (λ i b. total_short (0 + i) (get_or t.totals i (pos 0)))

  pub row_short : (r : Row) → Memᴰ r t.rows → length (row_line t.header.size r) ≤ longest_vector_line
  unfolding row_line length_of
  row_short r m = omega (arith, line_length row (r.operation.object ∷ r.operation.code ∷ cond r.settled 1 0 ∷ r.operation.sender ∷ r.operation.value ∷ []) (padded t.header.size r.operation.vector) refl, length_padded t.header.size r.operation.vector (row_known t h r m).1, H.size_range.1)

  pub closing_short : length (closing_line (length t.rows)) ≤ longest_vector_line
  unfolding closing_line length_of
  closing_short = omega (arith, line_length closing (length t.rows ∷ []) [] refl)

  pub form_short : Short (saved_form t)
  unfolding saved_form row_lines
  form_short = (opening_short, (clock_short, short_append (last_lines t) _ lasts_short (short_append (total_lines t) _ totals_short (short_append (map (row_line t.header.size) t.rows) _ (short_map (row_line t.header.size) t.rows row_short) (closing_short, tt)))))
