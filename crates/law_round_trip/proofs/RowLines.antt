-- What a row's line, and the closing line, make of a space under load.
use Rattle.std.specs.Prelude.{Ok}
use mathlib.Core.Path.{◌≡◌, refl, sym, ap, ◌∙◌}
use mathlib.Core.Bool.{Bool, true, false, cond}
use mathlib.Core.List.{List, [], ◌∷◌, ◌++◌, map, append_assoc}
use Prim.Native.Nat.{ℕ, zero, suc, ◌+◌, ◌-◌, ◌*◌, ◌/◌, ◌%◌, ◌≤◌, ◌<◌}
use native.Mathlib.Nat.{mul-le-mul_right}
use native.Mathlib.Omega.{arith}
use lib.Dec.{eqb, leb}
use lib.ListN.{get_or, length, take, drop, set, replicate, length-map}
use lib.Seq.{paste, drop_at, drop-drop, drop-set-lt}
use borrow.Author.Tests.{eq-eqb, eqb-false, lt-ltb}
use Rattle.meaning.specs.Operations.{number_of, value_limit}
use Rattle.meaning.specs.Rows.{Row}
use Rattle.meaning.specs.Table.{Table, is_table, greatest_size}
use Rattle.meaning.specs.Calls.{with_rows}
use Rattle.meaning.proofs.Tests.{cases}
use Rattle.words_layout.specs.Words as words
use Rattle.words_layout.specs.Words.{flat, pieces, word_limit}
use Rattle.words_layout.specs.Layout.{words_of, front_words, rows_words, row_words, row_width, rows_at, count_in, holds_table}
use Rattle.words_layout.proofs.Pieces.{pieces_at, piece_at}
use Rattle.words_layout.proofs.Whole.{length_front, length_padded, wide_rows}
use Rattle.words_layout.proofs.Reading.{short}
use Rattle.arrival.proofs.Kept.{laid_held}
use Rattle.table_rules_rows.specs.RowTests.{follows, row_kept}
use Rattle.line_hex.specs.Choice.{pick}
use Rattle.line_shape.specs.Reading as shapes
use Rattle.line_read.specs.declared.Row as saved
use Rattle.line_read.specs.declared.Closing.{Closing}
use Rattle.line_read.specs.SavedNamed.{is_closing, closing_read, row_read, is_row}
use Rattle.line_decode.specs.Decoding.{bytes_of}
use Rattle.form_take.specs.declared.Loaded.TheVariants as loaded
use Rattle.form_load.specs.declared.Next.TheVariants as next
use Rattle.form_row.specs.Joining.{joined, joins, last_row, row_place, row_said}
use Rattle.form_take.specs.Taking.{closed, finished, row_or_closing, row_taken, spoilt}
use Rattle.form_load.specs.Loading.{loaded_by, next_after, taken_as, waits}
use Rattle.law_round_trip.proofs.Setting.{paste_set, set_set, set_swap}
use Rattle.law_round_trip.proofs.Under.{Fresh, under, size_is, count_is, kinds_are, clock_is, room, taken_by_lem}
use Rattle.law_round_trip.proofs.Steps.{front_of}
use Rattle.law_round_trip.proofs.Appending.{row_behind}

-- zeros behind a vector are read as no entries
entry_padded : (v : List ℕ) (n i : ℕ) → get_or (v ++ replicate n 0) i 0 ≡ get_or v i 0
entry_padded [] zero zero = refl
entry_padded [] zero (suc i) = refl
entry_padded [] (suc n) zero = refl
entry_padded [] (suc n) (suc i) = entry_padded [] n i
entry_padded (x ∷ v) n zero = refl
entry_padded (x ∷ v) n (suc i) = entry_padded v n i

byte_word : (b : Bool) → 1 - cond b 1 0 ≡ cond b 0 1
byte_word true = refl
byte_word false = refl

byte_low : (b : Bool) → leb (cond b 1 0) 1 ≡ true
byte_low true = refl
byte_low false = refl

-- what a row's line says
abbrev pub line_of_row : ℕ → Row → saved.Row
line_of_row size r = record { object = r.operation.object; code = r.operation.code; settled = cond r.settled 1 0; sender = r.operation.sender; value = r.operation.value; vector = shapes.padded greatest_size (words.padded size r.operation.vector) }

said_words : (size : ℕ) (r : Row) → length r.operation.vector ≤ size → r.operation.value < value_limit → row_said size (line_of_row size r) ≡ row_words size r
unfolding row_said number_of
said_words size r few low =
    let high : r.operation.value / word_limit ≡ 0 = omega arith in
    let same : r.operation.value % word_limit ≡ r.operation.value = omega arith in
    rw (front_of (words.padded size r.operation.vector) size (length_padded size r.operation.vector few), entry_padded r.operation.vector (size - length r.operation.vector) r.operation.sender, byte_word r.settled, high, same) refl

module _ (t : Table) (F : Fresh t) (rest : List ℕ) (p : ℕ) (line : List ℕ) (c : next_after t.header.size t.header.own t.header.kinds p ≡ next.Rows) where
  abbrev plain : List ℕ
  plain = words_of t ++ rest

  abbrev space : List ℕ
  space = under p t rest

  abbrev size : ℕ
  size = t.header.size

  abbrev w : ℕ
  w = row_width size

  pub by_rows_lem : loaded_by line space ≡ taken_as next.Rows (bytes_of line) space
  unfolding waits
  by_rows_lem = taken_by_lem t F rest p line next.Rows c refl

  -- the closing line
  pub close_step : is_row size (bytes_of line) ≡ false → (is_closing (bytes_of line) ≡ true) × (closing_read (bytes_of line) ≡ record { rows = length t.rows }) → is_table t ≡ true → loaded_by line space ≡ (Ok loaded.Table, plain)
  unfolding taken_as row_or_closing closed finished words_of
  close_step n e is =
      let whole : set space 6 0 ≡ plain = set_set plain 6 p 0 in
      by_rows_lem ∙ rw (n, whole, count_is t F rest p, e.0)
      (ap (λ (f : Closing). pick (eqb f.rows (length t.rows)) (pick (holds_table plain) (Ok loaded.Table, plain) (spoilt space)) (spoilt space)) e.1
      ∙ rw (eq-eqb (length t.rows) (length t.rows) refl, laid_held t is rest) refl)

  -- the rows that stand there
  abbrev written : List (List ℕ)
  written = map (row_words size) t.rows

  rows_at_lem : drop (rows_at size) plain ≡ flat written ++ (replicate (t.header.capacity * w - length (flat written)) 0 ++ rest)
  unfolding words_of
  rows_at_lem =
      ap (drop (rows_at size)) (append_assoc (front_words t) (rows_words t) rest)
      ∙ drop_at (front_words t) (rows_words t ++ rest) (rows_at size) (length_front t F.well.fit)
      ∙ append_assoc (flat written) (replicate (t.header.capacity * w - length (flat written)) 0) rest

  stand : pieces w (length t.rows) (drop (rows_at size) plain) ≡ written
  stand = ap (pieces w (length t.rows)) rows_at_lem ∙ pieces_at w (length t.rows) written (replicate (t.header.capacity * w - length (flat written)) 0 ++ rest) (wide_rows size t.rows (short size t.rows F.well.shape)) (length-map t.rows (row_words size))

  pub last_is : 0 < length t.rows → last_row space ≡ get_or written (length t.rows - 1) []
  unfolding last_row words_of
  last_is h =
      let k = length t.rows - 1 in
      ap (take w) (drop-set-lt (rows_at size + k * w) plain 6 p (omega arith) ∙ sym (drop-drop (k * w) (rows_at size) plain))
      ∙ sym (piece_at w (length t.rows) k (drop (rows_at size) plain) (omega arith))
      ∙ ap (λ (l : List (List ℕ)). get_or l k []) stand

  -- a row's line
  module _ (r : Row) (few : length r.operation.vector ≤ size) (low : r.operation.value < value_limit) (more : length t.rows < t.header.capacity)
      (kept : row_kept t.header.kinds t.clock (row_words size r) ≡ true)
      (behind : 0 < length t.rows → follows t.header.kinds (get_or written (length t.rows - 1) []) (row_words size r) ≡ true) where
    wide : length (row_words size r) ≡ w
    wide = omega (arith, length_padded size r.operation.vector few)

    in_order_lem : pick (eqb (length t.rows) 0) true (follows t.header.kinds (last_row space) (row_words size r)) ≡ true
    in_order_lem = cases (eqb (length t.rows) 0)
        (λ e. rw e refl)
        (λ e. let some : 0 < length t.rows = omega (arith, eqb-false (length t.rows) 0 e) in rw (e, last_is some) (behind some))

    may_join : joins space (row_words size r) ≡ true
    unfolding joins words_of
    may_join = rw (kinds_are t F rest p, clock_is t F rest p, lt-ltb (length t.rows) t.header.capacity more, kept) in_order_lem

    after : set (paste space (row_place space (count_in space)) (row_words size r) (length (row_words size r))) 5 (suc (count_in space)) ≡ under p (with_rows t (t.rows ++ (r ∷ []))) rest
    unfolding words_of
    after =
        let place = rows_at size + length t.rows * w in
        let within : place ≤ length plain = omega (arith, room t F rest p, mul-le-mul_right w F.sized.within) in
        ap (λ (l : List ℕ). set l 5 (suc (length t.rows))) (paste_set plain (row_words size r) 6 place (length (row_words size r)) p (omega arith) within)
        ∙ set_swap (paste plain place (row_words size r) (length (row_words size r))) 5 6 (suc (length t.rows)) p (omega arith)
        ∙ ap (λ (l : List ℕ). set l 6 p) (row_behind t F rest r wide more)

    pub row_step : (is_row size (bytes_of line) ≡ true) × (row_read size (bytes_of line) ≡ line_of_row size r) → loaded_by line space ≡ (Ok loaded.Taken, under p (with_rows t (t.rows ++ (r ∷ []))) rest)
    unfolding taken_as row_or_closing row_taken joined words_of
    row_step e =
        by_rows_lem
        ∙ rw (size_is t F rest p, e.0, e.1, said_words size r few low, byte_low r.settled, may_join) (ap (λ (l : List ℕ). (Ok loaded.Taken, l)) after)
