-- A row's line and the closing line.
use Rattle.std.specs.Prelude.{Result, Ok}
use mathlib.Core.Path.{◌≡◌, refl, sym, ap, ◌∙◌}
use mathlib.Core.Bool.{Bool, true, false, ◌&&◌}
use mathlib.Core.List.{List, ◌++◌}
use Prim.Native.Nat.{ℕ, ◌+◌, ◌≤◌, ◌<◌, ◌-◌}
use native.Mathlib.Omega.{arith}
use borrow.Author.Tests.{eq-eqb, ne_eqb, le-leb, lt-leb}
use lib.Dec.{eqb, leb}
use lib.ListN.{drop, get_or, length, length-set, set, take}
use Rattle.meaning.proofs.Tests.{and_both, and_fails}
use Rattle.words_layout.specs.Layout.{count_in, holds_table, size_in}
use Rattle.std.proofs.Common.{Some, None}
use Rattle.std.specs.Bool.{if◌then◌else◌}
use Rattle.line_hex.specs.Choice.{pick}
use Rattle.line_read.specs.declared.Row.{Row}
use Rattle.line_read.specs.declared.Closing.{Closing}
use Rattle.line_read.specs.SavedNamed.{closing_read, is_closing, is_row, row_read}
use Rattle.line_read.proofs.Readers.{given, none_given}
use Rattle.form_row.specs.LoadHead.{LoadHead}
use Rattle.form_row.specs.Joining.{joined, joins, row_said}
use Rattle.form_row.proofs.Joining.{row_part}
use Rattle.form_take.specs.declared.Loaded.{Loaded}
use Rattle.form_take.specs.declared.Loaded.TheVariants as loaded
use Rattle.form_take.specs.Taking.{closed, finished, row_or_closing, row_taken, spoilt}
use Rattle.line_hex.proofs.Picking.{passed, picked}
use Rattle.meaning.specs.Table.{greatest_size}

-- a row's line
module _ (s : List ℕ) (f : Row) where
  abbrev row_test : Bool
  row_test = leb f.settled 1 && joins s (row_said (size_in s) f)

  row_spoilt : row_test ≡ false → spoilt s ≡ row_taken f s
  unfolding row_taken
  row_spoilt b = sym (passed row_test (Ok loaded.Taken, joined s (row_said (size_in s) f)) (spoilt s) b)

  pub row_misshapen : 1 < f.settled → (r : Result Loaded ℕ) (x : List ℕ) → (r, x) ≡ spoilt s → (r, x) ≡ row_taken f s
  row_misshapen h r x g = g ∙ row_spoilt (rw (lt-leb f.settled 1 h) refl)

  module _ (H : LoadHead s) (long : length f.vector ≡ greatest_size) (n : ℕ) (en : n ≡ get_or s 1 0) (row : List ℕ) (e : row ≡ row_said n f ++ drop n f.vector) where
    said : take (7 + n - 0) row ≡ row_said (size_in s) f
    said = row_part f n row e long (omega (arith, en, H.few)) ∙ ap (λ (k : ℕ). row_said k f) en

    module _ (t : Bool) (q : t ≡ joins s (take (7 + n - 0) row)) where
      joining : t ≡ joins s (row_said (size_in s) f)
      joining = q ∙ ap (joins s) said

      pub row_unruly : t ≡ false → (r : Result Loaded ℕ) (x : List ℕ) → (r, x) ≡ spoilt s → (r, x) ≡ row_taken f s
      row_unruly b r x g = g ∙ row_spoilt (and_fails (leb f.settled 1) (joins s (row_said (size_in s) f)) (λ _. sym joining ∙ b))

      pub row_right : f.settled ≤ 1 → t ≡ true → (x : List ℕ) → x ≡ joined s (take (7 + n - 0) row) → (Ok loaded.Taken, x) ≡ row_taken f s
      unfolding row_taken
      row_right h b x g =
          ap (λ (l : List ℕ). (Ok loaded.Taken, l)) (g ∙ ap (joined s) said)
          ∙ sym (picked row_test (Ok loaded.Taken, joined s (row_said (size_in s) f)) (spoilt s) (and_both (leb f.settled 1) (joins s (row_said (size_in s) f)) (le-leb f.settled 1 h) (sym joining ∙ b)))

-- the end of a load
same_spoilt : (s : List ℕ) → spoilt (set s 6 0) ≡ spoilt s
unfolding spoilt
same_spoilt s = rw (length-set s 6 0) refl

module _ (s : List ℕ) where
  module _ (t : Bool) (q : t ≡ holds_table (set s 6 0)) where
    pub finish_table : t ≡ true → (Ok loaded.Table, set s 6 0) ≡ finished s
    unfolding finished
    finish_table b = sym (picked (holds_table (set s 6 0)) (Ok loaded.Table, set s 6 0) (spoilt s) (sym q ∙ b))

    pub finish_none : t ≡ false → (r : Result Loaded ℕ) (x : List ℕ) → (r, x) ≡ spoilt (set s 6 0) → (r, x) ≡ finished s
    unfolding finished
    finish_none b r x g = g ∙ same_spoilt s ∙ sym (passed (holds_table (set s 6 0)) (Ok loaded.Table, set s 6 0) (spoilt s) (sym q ∙ b))

-- the closing line
module _ (s bytes : List ℕ) where
  abbrev closing_way : Bool → Closing → Result Loaded ℕ × List ℕ
  closing_way is q = pick (is && eqb q.rows (count_in s)) (finished s) (spoilt s)

  closing_is : closing_way (is_closing bytes) (closing_read bytes) ≡ closed bytes s
  unfolding closed
  closing_is = refl

  pub closing_misshapen : None ≡ (if is_closing bytes then Some (closing_read bytes) else None) → (r : Result Loaded ℕ) (x : List ℕ) → (r, x) ≡ spoilt s → (r, x) ≡ closed bytes s
  closing_misshapen m r x g = g ∙ ap (λ (b : Bool). closing_way b (closing_read bytes)) (sym (none_given (is_closing bytes) (closing_read bytes) m)) ∙ closing_is

  module _ (f : Closing) (h : Some f ≡ (if is_closing bytes then Some (closing_read bytes) else None)) where
    closing_judged : pick (eqb f.rows (count_in s)) (finished s) (spoilt s) ≡ closed bytes s
    closing_judged =
        let told : (is_closing bytes ≡ true) × (f ≡ closing_read bytes) = given (is_closing bytes) (closing_read bytes) f h in
        ap (closing_way true) told.1 ∙ ap (λ (b : Bool). closing_way b (closing_read bytes)) (sym told.0) ∙ closing_is

    pub closing_wrong_count : (f.rows ≡ get_or s 5 0 → ⊥) → (r : Result Loaded ℕ) (x : List ℕ) → (r, x) ≡ spoilt s → (r, x) ≡ closed bytes s
    closing_wrong_count d r x g = g ∙ sym (passed (eqb f.rows (count_in s)) (finished s) (spoilt s) (ne_eqb f.rows (count_in s) d)) ∙ closing_judged

    pub closing_right : f.rows ≡ get_or s 5 0 → (r : Result Loaded ℕ) (x : List ℕ) → (r, x) ≡ finished s → (r, x) ≡ closed bytes s
    closing_right same r x g = g ∙ sym (picked (eqb f.rows (count_in s)) (finished s) (spoilt s) (eq-eqb f.rows (count_in s) same)) ∙ closing_judged

-- a row's line or the closing line
module _ (s bytes : List ℕ) (n : ℕ) (en : n ≡ get_or s 1 0) where
  abbrev row_way : Bool → Row → Result Loaded ℕ × List ℕ
  row_way is q = pick is (row_taken q s) (closed bytes s)

  row_is : row_way (is_row n bytes) (row_read n bytes) ≡ row_or_closing bytes s
  unfolding row_or_closing
  row_is = ap (λ (k : ℕ). row_way (is_row k bytes) (row_read k bytes)) en

  pub row_comes : (f : Row) → Some f ≡ (if is_row n bytes then Some (row_read n bytes) else None) → (r : Result Loaded ℕ) (x : List ℕ) → (r, x) ≡ row_taken f s → (r, x) ≡ row_or_closing bytes s
  row_comes f h r x g =
      let told : (is_row n bytes ≡ true) × (f ≡ row_read n bytes) = given (is_row n bytes) (row_read n bytes) f h in
      g ∙ ap (row_way true) told.1 ∙ ap (λ (b : Bool). row_way b (row_read n bytes)) (sym told.0) ∙ row_is

  pub closing_comes : None ≡ (if is_row n bytes then Some (row_read n bytes) else None) → (r : Result Loaded ℕ) (x : List ℕ) → (r, x) ≡ closed bytes s → (r, x) ≡ row_or_closing bytes s
  closing_comes m r x g = g ∙ ap (λ (b : Bool). row_way b (row_read n bytes)) (sym (none_given (is_row n bytes) (row_read n bytes) m)) ∙ row_is
