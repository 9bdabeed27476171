-- Where the rows of a table stand, and what a scan over all of them says of the table.
use mathlib.Core.Path.{◌≡◌, refl, sym, ap, ◌∙◌}
use mathlib.Core.Bool.{Bool}
use mathlib.Core.List.{List, map}
use Prim.Native.Nat.{ℕ, ◌-◌, ◌*◌, ◌≤◌}
use native.Mathlib.Omega.{arith}
use lib.ListN.{length, take, drop, length-drop}
use lib.Seq.{take_all}
use Rattle.meaning.specs.Rows.{Row}
use Rattle.meaning.specs.Questions.{by_rows}
use Rattle.words_layout.specs.Words.{pieces}
use Rattle.words_layout.specs.Layout.{table_of, row_of, rows_at, row_width, size_in, count_in}
use Rattle.table_rules.specs.Checked.{Checked}
use Rattle.question_scan.specs.Showing.{count_shown, value_shown}
use Rattle.question_scan.proofs.Tabled.{table_count, table_in}

-- the size, read as a place
module _ (s : List ℕ) (K : Checked s) (n : ℕ) (e : n ≡ size_in s) (start : ℕ) (es : start ≡ rows_at n) where
  pub start_is : start ≡ rows_at (size_in s)
  start_is = es ∙ rw e refl

  pub start_within : start ≤ length s
  start_within = rw start_is (omega (arith, K.room))

-- the part of the words from the first row on
module _ (s : List ℕ) (K : Checked s) (start w : ℕ) (es : start ≡ rows_at (size_in s)) (ew : w ≡ row_width (size_in s)) where
  abbrev part : List ℕ
  part = take (length s - start) (drop start s)

  part_is : part ≡ drop (rows_at (size_in s)) s
  part_is = take_all (length s - start) (drop start s) (rw (length-drop start s) (omega arith)) ∙ rw es refl

  pub part_room : count_in s * w ≤ length part
  part_room = rw (part_is, length-drop (rows_at (size_in s)) s, ew) (omega (arith, K.room))

  rows_are_lem : map row_of (pieces w (count_in s) part) ≡ (table_of s).rows
  unfolding table_of
  rows_are_lem = rw (part_is, ew) refl

  pub in_by_rows : (o v : ℕ) (r : Bool) → r ≡ value_shown o v (map row_of (pieces w (count_in s) part)) → r ≡ (by_rows (table_of s)).in_at o v
  unfolding by_rows
  in_by_rows o v r e = e ∙ ap (λ (rows : List Row). value_shown o v rows) rows_are_lem ∙ sym (table_in (table_of s) o v K.by_rules)

  pub count_by_rows_lem : (o k : ℕ) → k ≡ count_shown o (map row_of (pieces w (count_in s) part)) → k ≡ (by_rows (table_of s)).count_at o
  unfolding by_rows
  count_by_rows_lem o k e = e ∙ ap (λ (rows : List Row). count_shown o rows) rows_are_lem ∙ sym (table_count (table_of s) o K.by_rules)
