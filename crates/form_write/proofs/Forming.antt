-- A line of the form, way by way.
use mathlib.Core.Path.{◌≡◌, refl, sym, ap, ◌∙◌}
use mathlib.Core.Bool.{Bool, true, false}
use mathlib.Core.List.{List, [], ◌∷◌, ◌++◌, map}
use Prim.Native.Nat.{ℕ, zero, suc, ◌+◌, ◌-◌, ◌≤◌, ◌<◌}
use native.Mathlib.Omega.{arith}
use borrow.Author.Tests.{eq-eqb, ne_eqb}
use mir.Val.{Fits}
use mir.Syntax.{w32}
use lib.IntN.{pos}
use lib.ListN.{length, get_or, take, drop, length-map, length-drop, drop_of_length-le}
use lib.Seq.{drop-cons, length-take-le}
use Rattle.meaning.specs.Operations.{is_counter}
use Rattle.meaning.specs.Table.{kind_in}
use Rattle.words_layout.specs.Words.{pieces}
use Rattle.words_layout.specs.Layout.{table_of, total_of_words, row_of, rows_at, row_width, rows_in, size_in, own_in, objects_in, count_in, clock_at, totals_at}
use Rattle.words_layout.proofs.Pieces.{length_pieces}
use Rattle.table_rules.specs.Checked.{Checked}
use Rattle.line_put.specs.Writing.{line_written}
use Rattle.form_lines.specs.FormLines.{opening_line, clock_line, last_line, total_line, row_line, row_line_at, closing_line}
use Rattle.line_put.specs.declared.TooShort.{TooShort}
use Rattle.std.proofs.Common.{Option, Some, None, Result, Ok, Err}
use Rattle.form_write.specs.Forms.{formed_of, last_lines, line_at, line_into, row_lines, saved_form, total_lines}
use Rattle.form_write.specs.Seeking.{counter_at, other_at}
use Rattle.std.specs.Result.{IsOkAnd, MatchResult}
use Rattle.form_write.proofs.Places.{front_line, behind_lines, counter_line, counter_below, line_sought, last_there, last_behind, other_below}

-- what was written, told
pub told : (w : Result ℕ TooShort) (t : Result (Option ℕ) TooShort) → MatchResult w (λ n. IsOkAnd t (λ o. o ≡ Some n)) (λ e. t ≡ Err e) → t ≡ formed_of w
unfolding formed_of
told (Ok n) (Ok o) h = ap Ok h
told (Ok n) (Err e) h = absurd h
told (Err e) t h = h

into_told : (out bytes : List ℕ) (w : Result ℕ TooShort) (x : List ℕ) (t : Result (Option ℕ) TooShort) → (w, x) ≡ line_written out bytes → t ≡ formed_of w → (t, x) ≡ line_into out bytes
unfolding line_into
into_told out bytes w x t e f = ap (λ (u : Result (Option ℕ) TooShort). (u, x)) f ∙ ap (λ (p : Result ℕ TooShort × List ℕ). (formed_of p.0, p.1)) e

-- A counter is sought: it is the counter of the kinds that are left, behind those that are left to pass.
pub record Seeking (kinds : List ℕ) (ahead object left : ℕ) : Type 0 where
  pub within : object ≤ length kinds
  pub same : counter_at (drop object kinds) object left ≡ counter_at kinds 0 ahead

pub seeking_start : (kinds : List ℕ) (ahead : ℕ) → Seeking kinds ahead 0 ahead
seeking_start kinds ahead = record { within = omega arith; same = refl }

module _ (kinds : List ℕ) (ahead object left : ℕ) (S : Seeking kinds ahead object left) where
  pub seeking_done : length kinds ≤ object → Err left ≡ counter_at kinds 0 ahead
  unfolding counter_at
  seeking_done h = sym (ap (λ (l : List ℕ). counter_at l object left) (drop_of_length-le kinds {i = object} h)) ∙ S.same

  module _ (h : object < length kinds) (b : Bool) (e : b ≡ is_counter (get_or kinds object 0)) where
    next_kinds : drop object kinds ≡ get_or kinds object 0 ∷ drop (suc object) kinds
    next_kinds = drop-cons kinds object 0 h

    opened : counter_at (get_or kinds object 0 ∷ drop (suc object) kinds) object left ≡ counter_at kinds 0 ahead
    opened = sym (ap (λ (l : List ℕ). counter_at l object left) next_kinds) ∙ S.same

    pub seeking_found : b ≡ true → left ≡ 0 → Ok object ≡ counter_at kinds 0 ahead
    unfolding counter_at
    seeking_found t z = sym (rw (sym e ∙ t, eq-eqb left 0 z) refl) ∙ opened

    pub seeking_past : b ≡ true → (left ≡ 0 → ⊥) → Seeking kinds ahead (object + 1) (left - 1)
    unfolding counter_at
    seeking_past t n =
        let d : object + 1 ≡ suc object = omega arith in
        record { within = omega arith; same = rw d (sym (rw (sym e ∙ t, ne_eqb left 0 n) refl) ∙ opened) }

    pub seeking_other : b ≡ false → Seeking kinds ahead (object + 1) left
    unfolding counter_at
    seeking_other f =
        let d : object + 1 ≡ suc object = omega arith in
        record { within = omega arith; same = rw d (sym (rw (sym e ∙ f) refl) ∙ opened) }

-- the lines of rows, and the closing line
module _ (s : List ℕ) (place rows : ℕ) (er : rows ≡ count_in s) (out : List ℕ) where
  many : length (table_of s).rows ≡ rows
  unfolding table_of
  many = length-map (rows_in s) row_of ∙ length_pieces (row_width (size_in s)) (count_in s) (drop (rows_at (size_in s)) s) ∙ sym er

  lines_many : length (map (row_line (table_of s).header.size) (table_of s).rows) ≡ rows
  lines_many = length-map (table_of s).rows (row_line (table_of s).header.size) ∙ many

  pub row_told : place < rows → (w : Result ℕ TooShort) (x : List ℕ) → (w, x) ≡ line_written out (row_line_at (table_of s) place) → (t : Result (Option ℕ) TooShort) → t ≡ formed_of w → (t, x) ≡ line_at (row_lines (table_of s)) place out
  unfolding row_lines row_line_at
  row_told h w x e t f = into_told out _ w x t e f ∙ sym (front_line (map (row_line (table_of s).header.size) (table_of s).rows) (closing_line (length (table_of s).rows) ∷ []) place out (rw lines_many h))

  behind_rows : rows ≤ place → line_at (row_lines (table_of s)) place out ≡ line_at (closing_line (length (table_of s).rows) ∷ []) (place - rows) out
  unfolding row_lines
  behind_rows h = behind_lines (map (row_line (table_of s).header.size) (table_of s).rows) (closing_line (length (table_of s).rows) ∷ []) place out (rw lines_many h) ∙ rw lines_many refl

  pub closing_told : place ≡ rows → (w : Result ℕ TooShort) (x : List ℕ) → (w, x) ≡ line_written out (closing_line (length (table_of s).rows)) → (t : Result (Option ℕ) TooShort) → t ≡ formed_of w → (t, x) ≡ line_at (row_lines (table_of s)) place out
  unfolding line_at
  closing_told h w x e t f = let d : place - rows ≡ 0 = omega arith in into_told out _ w x t e f ∙ sym (behind_rows (omega arith) ∙ rw d refl)

  pub end_told : rows ≤ place → (place ≡ rows → ⊥) → (Ok None, out) ≡ line_at (row_lines (table_of s)) place out
  unfolding line_at
  end_told h n = let d : place - rows ≡ suc (place - rows - 1) = omega arith in sym (behind_rows h ∙ rw d refl)

-- the lines of counters, and what is behind them
module _ (s : List ℕ) (K : Checked s) (place n : ℕ) (en : n ≡ objects_in s) (r : Result ℕ ℕ) (e : r ≡ counter_at (take (7 + n - 7) (drop 7 s)) 0 place) where
  kinds_are : take (7 + n - 7) (drop 7 s) ≡ (table_of s).header.kinds
  unfolding table_of
  kinds_are = let d : 7 + n - 7 ≡ objects_in s = omega arith in rw d refl

  kinds_many : length (table_of s).header.kinds ≡ objects_in s
  unfolding table_of
  kinds_many = length-take-le (objects_in s) (drop 7 s) (simp length-drop (omega (arith, K.long, K.objects)))

  totals_many : length (table_of s).totals ≡ objects_in s
  unfolding table_of
  totals_many = length-map (pieces 2 (objects_in s) (drop totals_at s)) total_of_words ∙ length_pieces 2 (objects_in s) (drop totals_at s)

  found : r ≡ counter_at (table_of s).header.kinds 0 place
  found = e ∙ ap (λ (l : List ℕ). counter_at l 0 place) kinds_are

  pub object_below : (object : ℕ) → r ≡ Ok object → object < objects_in s
  object_below object g = counter_below (table_of s).header.kinds place (objects_in s) object r kinds_many found g

  pub object_fits : (object : ℕ) → r ≡ Ok object → Fits w32 object
  object_fits object g = omega (arith, object_below object g, K.objects)

  module _ (out : List ℕ) where
    as_sought : line_at (total_lines (table_of s) ++ row_lines (table_of s)) place out ≡ line_sought (table_of s).totals total_line (row_lines (table_of s)) out r
    unfolding total_lines kind_in
    as_sought =
        counter_line (table_of s).header.kinds (table_of s).totals total_line (row_lines (table_of s)) out (table_of s).header.kinds (table_of s).totals 0 place refl refl (kinds_many ∙ sym totals_many)
        ∙ sym (ap (line_sought (table_of s).totals total_line (row_lines (table_of s)) out) found)

    pub total_told : (object : ℕ) → r ≡ Ok object → (w : Result ℕ TooShort) (x : List ℕ) → (w, x) ≡ line_written out (total_line object (get_or (table_of s).totals object (pos 0))) → (t : Result (Option ℕ) TooShort) → t ≡ formed_of w
        → (t, x) ≡ line_at (total_lines (table_of s) ++ row_lines (table_of s)) place out
    total_told object g w x f t h = into_told out _ w x t f h ∙ sym (as_sought ∙ ap (line_sought (table_of s).totals total_line (row_lines (table_of s)) out) g)

    pub totals_behind : (left : ℕ) → r ≡ Err left → (t : Result (Option ℕ) TooShort) (x : List ℕ) → (t, x) ≡ line_at (row_lines (table_of s)) left out → (t, x) ≡ line_at (total_lines (table_of s) ++ row_lines (table_of s)) place out
    totals_behind left g t x f = f ∙ sym (as_sought ∙ ap (line_sought (table_of s).totals total_line (row_lines (table_of s)) out) g)

-- the first two lines
module _ (s out : List ℕ) (k : ℕ) where
  pub opening_told : k ≡ 0 → (w : Result ℕ TooShort) (x : List ℕ) → (w, x) ≡ line_written out (opening_line (table_of s).header) → (t : Result (Option ℕ) TooShort) → t ≡ formed_of w → (t, x) ≡ line_at (saved_form (table_of s)) k out
  unfolding saved_form line_at
  opening_told z w x e t f = into_told out _ w x t e f ∙ rw z refl

  pub clock_told : k ≡ 1 → (w : Result ℕ TooShort) (x : List ℕ) → (w, x) ≡ line_written out (clock_line (table_of s).clock) → (t : Result (Option ℕ) TooShort) → t ≡ formed_of w → (t, x) ≡ line_at (saved_form (table_of s)) k out
  unfolding saved_form line_at
  clock_told z w x e t f = into_told out _ w x t e f ∙ rw z refl

third_line : (first second : List ℕ) (rest : List (List ℕ)) (k : ℕ) (out : List ℕ) → 2 ≤ k → line_at (first ∷ second ∷ rest) k out ≡ line_at rest (k - 2) out
unfolding line_at
third_line first second rest zero out h = absurd (omega arith)
third_line first second rest (suc zero) out h = absurd (omega arith)
third_line first second rest (suc (suc k)) out h = let d : suc (suc k) - 2 ≡ k = omega arith in rw d refl

-- the lines of other stations, and what is behind them
module _ (s : List ℕ) (K : Checked s) (out : List ℕ) (k : ℕ) (n0 : k ≡ 0 → ⊥) (n1 : k ≡ 1 → ⊥) (size : ℕ) (es : size ≡ size_in s) where
  two : 2 ≤ k
  two = ge k n0 n1
    where
      ge : (k : ℕ) → (k ≡ 0 → ⊥) → (k ≡ 1 → ⊥) → 2 ≤ k
      ge zero a b = absurd (a refl)
      ge (suc zero) a b = absurd (b refl)
      ge (suc (suc k)) a b = omega arith

  lasts_many : length (table_of s).last ≡ size
  unfolding table_of
  lasts_many = length_pieces (size_in s) (size_in s) (drop (clock_at + size_in s) s) ∙ sym es

  own_is : (table_of s).header.own ≡ own_in s
  unfolding table_of
  own_is = refl

  own_below : (table_of s).header.own < length (table_of s).last
  own_below = rw (own_is, lasts_many, es) K.own

  pub station_below : k < 1 + size → (station : ℕ) → station ≡ other_at (own_in s) (k - 2) → station < size_in s
  station_below h station e = rw e (other_below (own_in s) (k - 2) (size_in s) K.own (omega (arith, two)))

  in_form : line_at (saved_form (table_of s)) k out ≡ line_at (last_lines (table_of s) ++ (total_lines (table_of s) ++ row_lines (table_of s))) (k - 2) out
  unfolding saved_form
  in_form = third_line (opening_line (table_of s).header) (clock_line (table_of s).clock) (last_lines (table_of s) ++ (total_lines (table_of s) ++ row_lines (table_of s))) k out two

  pub last_told : k < 1 + size → (station : ℕ) → station ≡ other_at (own_in s) (k - 2) → (w : Result ℕ TooShort) (x : List ℕ) → (w, x) ≡ line_written out (last_line station (get_or (table_of s).last station [])) → (t : Result (Option ℕ) TooShort) → t ≡ formed_of w
      → (t, x) ≡ line_at (saved_form (table_of s)) k out
  unfolding last_lines
  last_told h station e w x f t g =
      into_told out _ w x t f g ∙ rw (e, sym own_is)
      (sym (in_form ∙ last_there last_line (total_lines (table_of s) ++ row_lines (table_of s)) out (table_of s).header.own (k - 2) (table_of s).last own_below (rw lasts_many (omega (arith, two)))))

  pub lasts_behind : 1 + size ≤ k → (t : Result (Option ℕ) TooShort) (x : List ℕ) → (t, x) ≡ line_at (total_lines (table_of s) ++ row_lines (table_of s)) (k - (1 + size)) out → (t, x) ≡ line_at (saved_form (table_of s)) k out
  unfolding last_lines
  lasts_behind h t x e =
      let d : suc (k - 2) - size ≡ k - (1 + size) = omega (arith, two) in
      e ∙ sym (in_form ∙ last_behind last_line (total_lines (table_of s) ++ row_lines (table_of s)) out (table_of s).header.own (k - 2) (table_of s).last own_below (rw lasts_many (omega (arith, two))) ∙ rw (lasts_many, d) refl)
