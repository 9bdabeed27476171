-- The line of a list: the ways through `write_list`, by the laws of every line.
use mathlib.Core.Path.{◌≡◌, refl, ap, ◌∙◌}
use mathlib.Core.List.{List, [], ◌∷◌}
use Prim.Native.Nat.{ℕ, ◌+◌, ◌*◌, ◌≤◌, ◌<◌}
use native.Mathlib.Omega.{arith}
use lib.ListN.{length}
use Rattle.meaning.specs.Rows.{Row, count_by_rows}
use Rattle.meaning.specs.Questions.{by_rows}
use Rattle.meaning.proofs.Tests.{cases}
use Rattle.words_layout.specs.Layout.{table_of, row_width, size_in, count_in}
use Rattle.table_rules.specs.Checked.{Checked}
use Rattle.question_scan.specs.Showing.{shows, shown}
use Rattle.question_scan.proofs.Listing.{rows_number}
use Rattle.question_list.specs.Walking.{values_behind}
use Rattle.question_list.proofs.Lists.{all_left}
use Rattle.line_hex.specs.Putting.{put_at, end_at}
use Rattle.line_shape.specs.Shapes.{length_of, written}
use Rattle.line_read.specs.Types.{count, head_of}
use Rattle.line_read.proofs.Known.{known}
use Rattle.line_put.specs.Writing.{line_bytes, line_written, Writable, written_each, too_short}
use Rattle.std.proofs.Common.{Ok, Err}
use Rattle.line_put.proofs.Whole.{write_short, write_room, write_end, write_done}
use Rattle.call_question.specs.AnswerBytes.{list_bytes}
use Rattle.call_question.proofs.Values.{listed}
use Rattle.meaning.specs.Table.{most_rows}

-- no row shows more than one value
shown_few : (o : ℕ) (rows : List Row) → length (shown o rows) ≤ length rows
shown_few o [] = omega arith
shown_few o (row ∷ rows) = cases (shows o row rows)
    (λ q. rw q (omega (arith, shown_few o rows)))
    (λ q. rw q (omega (arith, shown_few o rows)))

pub values_few : (s : List ℕ) → Checked s → (o : ℕ) → length (listed s o) ≤ most_rows
unfolding values_behind table_of
values_few s K o =
    let all = ap (λ (l : List ℕ). length l) (all_left o (table_of s) K.by_rules) in
    let rows : length (table_of s).rows ≡ count_in s = rows_number (row_width (size_in s)) (count_in s) _ in
    omega (arith, all, rows, shown_few o (table_of s).rows, K.within, K.small)

abbrev widths : List ℕ
widths = head_of count

module _ (s : List ℕ) (K : Checked s) (o k : ℕ) (e : k ≡ (by_rows (table_of s)).count_at o) (w : ℕ) (ew : w ≡ k) (space : List ℕ) where
  abbrev values : List ℕ
  values = listed s o

  abbrev fields : List ℕ
  fields = 0 ∷ k ∷ []

  counted : k ≡ length values
  unfolding by_rows count_by_rows
  counted = e

  writable : Writable widths fields 4 values
  writable = record { head = (known count refl).head; matched = refl; slim = (known count refl).slim; counted = omega (arith, values_few s K o) }

  whole : line_bytes widths fields 4 values ≡ list_bytes values
  unfolding list_bytes
  whole = rw counted refl

  head_long : 3 ≡ length_of widths
  unfolding length_of
  head_long = refl

  pub list_short : length space ≤ 2 * (3 + 4 * w) → (Err too_short, space) ≡ line_written space (list_bytes values)
  list_short h = write_short space widths fields 4 values writable 3 head_long (omega (arith, counted)) ∙ ap (line_written space) whole

  module _ (more : 2 * (3 + 4 * w) < length space) where
    pub list_fields : 0 + 2 * length_of widths ≤ length space
    list_fields = omega (arith, head_long)

    module _ (at : ℕ) (first : List ℕ) (p : (at, first) ≡ put_at space 0 (written widths fields)) where
      pub list_room : at + 2 * (4 * k) ≤ length first
      list_room = omega (arith, counted, write_room space widths fields 4 values writable 3 head_long (omega (arith, counted)) at first p)

      module _ (end : ℕ) (second : List ℕ) (q : (end, second) ≡ put_at first at (written_each 4 values)) where
        pub list_end : length second ≡ length first → end < length second
        list_end l = write_end space widths fields 4 values writable 3 head_long (omega (arith, counted)) at first p end second q (omega (arith, counted)) l

        pub list_done : (size : ℕ) (third : List ℕ) → (size, third) ≡ end_at second end → (Ok size, third) ≡ line_written space (list_bytes values)
        list_done size third r = write_done space widths fields 4 values writable 3 head_long (omega (arith, counted)) at first p end second q (omega (arith, counted)) size third r ∙ ap (line_written space) whole
