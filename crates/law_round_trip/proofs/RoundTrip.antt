-- Loading what a table wrote gives that table back.
use Rattle.std.specs.Prelude.{Ok}
use mathlib.Core.Path.{◌≡◌, refl, sym, ap, ◌∙◌, subst}
use mathlib.Core.Bool.{Bool, true, false, ◌&&◌}
use mathlib.Core.List.{List, [], ◌∷◌, ◌++◌, map, append_assoc, append-nil, Memᴰ}
use Prim.Native.Nat.{ℕ, suc, ◌+◌, ◌≤◌, ◌<◌, ◌-◌}
use native.Mathlib.Omega.{arith}
use lib.Dec.{eqb, leb}
use borrow.Author.Tests.{le-ltb}
use lib.ListN.{get_or, length, drop, replicate, length-replicate, length-append, length-map}
use Rattle.meaning.specs.Rows.{Row}
use Rattle.meaning.specs.Tests.{every}
use Rattle.meaning.specs.Table.{Header, Table, is_table, kind_in, opened, row_rule, table_rules, greatest_size}
use Rattle.meaning.specs.Refusals.{opening_refusals}
use Rattle.meaning.specs.Calls.{fresh, open_table}
use Rattle.meaning.proofs.Tests.{and_left, and_right, rule_at_lem}
use Rattle.meaning.proofs.TableFacts.{Facts, facts, row_small}
use Rattle.words_layout.specs.Layout.{row_of, row_words, space_for, words_of}
use Rattle.words_layout.proofs.Pieces.{Each, map_back}
use Rattle.words_layout.proofs.RowWords.{Shaped, row_read_lem}
use Rattle.words_layout.proofs.Whole.{length_padded}
use Rattle.words_layout.proofs.Reading.{Well, rows_back as Each-back}
use Rattle.arrival.proofs.Kept.{well_table}
use Rattle.table_rules_rows.specs.RowTests.{chained, follows, row_kept}
use Rattle.table_rules_rows.proofs.RowMeaning.{rule_kept}
use Rattle.table_rules_rows.proofs.Ordering.{Readable, sorted_chain}
use Rattle.line_hex.specs.Hex.{digit_of, digits_of, hex_line, is_digit, value_of}
use Rattle.line_hex.specs.Decoding.{pair_of}
use Rattle.line_hex.specs.Numbers.{AllBytes, big_endian}
use Rattle.line_shape.specs.Reading.{is_shaped, has_shape, size_of, starts_with}
use Rattle.line_shape.specs.Shapes.{written}
use Rattle.line_put.specs.Writing.{line_bytes}
use Rattle.line_read.specs.Types.{is_line_of, opening, row, closing, head_of, longest}
use Rattle.line_read.proofs.Spelling.{all_bytes_line_of}
use Rattle.line_decode.specs.Decoding.{bytes_of, type_of}
use Rattle.line_decode.specs.LineKinds.{kind_of}
use Rattle.line_decode.specs.declared.LineKind.TheVariants as kind
use Rattle.line_decode.proofs.Decoding.{bytes_back}
use Rattle.line_read.specs.SavedNamed.{is_row}
use Rattle.form_lines.specs.FormLines.{opening_line, clock_line, row_line, closing_line}
use Rattle.form_write.specs.Forms.{last_lines, row_lines, saved_form, total_lines}
use Rattle.form_write.proofs.Short.{closing_short, opening_short, row_short}
use Rattle.form_write.proofs.ReadsBack.{closing_back, kinds_back, opening_back, row_back, row_known}
use Rattle.call_checked.specs.Called.{header_read, opened_as, opened_by}
use Rattle.form_take.specs.declared.Loaded.TheVariants as loaded
use Rattle.form_load.specs.declared.Next.TheVariants as next
use Rattle.form_load.specs.Loading.{begun, first_as, first_taken, loaded_by, next_after, under_load}
use Rattle.law_round_trip.specs.Restoring.{Loads, TakesAll}
use Rattle.law_round_trip.proofs.Under.{Fresh, under}
use Rattle.law_round_trip.proofs.RowLines.{row_step, close_step}
use Rattle.law_round_trip.proofs.Mixed.{first_taken_lem, then_taken, then_closed}
use Rattle.law_round_trip.proofs.Front.{behind_lasts_lem, behind_totals_lem, clock_taken_lem, counted, fresh_parts, lasts_at, lasts_long, lasts_taken, next_rows, parts, totals_taken}

-- a row behind others, where each stands well behind the one before it
chained_at : (test : List ℕ → List ℕ → Bool) (done : List (List ℕ)) (r : List ℕ) (left : List (List ℕ)) → chained test (done ++ (r ∷ left)) ≡ true → 0 < length done → test (get_or done (length done - 1) []) r ≡ true
chained_at test [] r left e h = absurd (omega arith)
chained_at test (a ∷ []) r left e h = and_left (test a r) (chained test (r ∷ left)) e
chained_at test (a ∷ b ∷ done) r left e h =
    let place : suc (suc (length done)) - 1 ≡ suc (suc (length done) - 1) = omega arith in
    rw place (chained_at test (b ∷ done) r left (and_right (test a b) (chained test (b ∷ (done ++ (r ∷ left)))) e) (omega arith))

each_front : {A : Type 0} (P : A → Type 0) (a b : List A) → Each P (a ++ b) → Each P a
each_front P [] b e = tt
each_front P (x ∷ a) b e = (e.0, each_front P a b e.1)

each_first : {A : Type 0} (P : A → Type 0) (a : List A) (x : A) (b : List A) → Each P (a ++ (x ∷ b)) → P x
each_first P [] x b e = e.0
each_first P (y ∷ a) x b e = each_first P a x b e.1

member : (a : List Row) (r : Row) (b : List Row) → Memᴰ r (a ++ (r ∷ b))
member [] r b = mathlib.Core.List.Memᴰ.head refl
member (q ∷ a) r b = mathlib.Core.List.Memᴰ.tail (member a r b)

pub map_append : {A B : Type 0} (f : A → B) (a b : List A) → map f (a ++ b) ≡ map f a ++ map f b
map_append f [] b = refl
map_append {B = B} f (x ∷ a) b = ap (λ (l : List B). f x ∷ l) (map_append f a b)

every_first : (p : Row → Bool) (a : List Row) (r : Row) (b : List Row) → every p (a ++ (r ∷ b)) ≡ true → p r ≡ true
every_first p [] r b e = and_left (p r) (every p b) e
every_first p (q ∷ a) r b e = every_first p a r b (and_right (p q) (every p (a ++ (r ∷ b))) e)

-- rows of the right shape, written and read back
pub readable : (size : ℕ) (rows : List Row) → Each (Shaped size) rows → Each (Readable size) (map (row_words size) rows)
readable size [] e = tt
readable size (r ∷ rows) e = (record { long = omega arith; low = omega arith; written = ap (row_words size) (row_read_lem size r e.0) }, readable size rows e.1)

pub rows_back : (size : ℕ) (rows : List Row) → Each (Shaped size) rows → map row_of (map (row_words size) rows) ≡ rows
rows_back size rows e = map_back (row_words size) row_of rows (Each-back size rows e)

-- the lines are bytes
row_bytes : (n : ℕ) (r : Row) → AllBytes (row_line n r)
unfolding row_line
row_bytes n r = all_bytes_line_of row _ _

closing_bytes : (n : ℕ) → AllBytes (closing_line n)
unfolding closing_line
closing_bytes n = all_bytes_line_of closing _ _

-- a line of another type has no row's shape
pub no_shape : (widths : List ℕ) (stations : ℕ) (bytes : List ℕ) → starts_with 83 bytes ≡ false → is_shaped 83 widths stations bytes ≡ false
unfolding is_shaped has_shape
no_shape widths stations bytes e = rw e (by (leb stations greatest_size) (eqb (length bytes) (size_of widths stations)))
  where
    by : (a b : Bool) → (a && (b && false)) ≡ false
    by true true = refl
    by true false = refl
    by false b = refl

pub closing_first : (n : ℕ) → starts_with 83 (closing_line n) ≡ false
unfolding closing_line line_bytes written big_endian starts_with
closing_first n = refl

module _ (t : Table) (is : is_table t ≡ true) (rest : List ℕ) where
  F : Facts t
  F = facts t is

  W : Well t
  W = well_table t is

  abbrev size : ℕ
  size = t.header.size

  abbrev pub progress : ℕ
  progress = counted t is rest (length t.header.kinds)

  abbrev rows_at_lem : List Row → Table
  rows_at_lem done = parts t is rest t.clock t.last t.totals done

  fresh_rows : (done left : List Row) → done ++ left ≡ t.rows → Fresh (rows_at_lem done)
  fresh_rows done left e = fresh_parts t is rest t.clock t.last t.totals done F.clock_length (lasts_long t is rest) F.last_length F.totals_length W.range
      (each_front (Shaped size) done left (subst (Each (Shaped size)) (sym e) W.shape))
      (omega (arith, ap (λ (l : List Row). length l) e, length-append done left, F.within))

  rows_chained : chained (follows t.header.kinds) (map (row_words size) t.rows) ≡ true
  unfolding kind_in
  rows_chained =
      let back : map row_of (map (row_words size) t.rows) ≡ t.rows = rows_back size t.rows W.shape in
      sorted_chain size t.header.kinds (map (row_words size) t.rows) (readable size t.rows W.shape) (rw back F.sorted) (rw back F.one_row_lem)

  every_row : every (row_rule t) t.rows ≡ true
  unfolding is_table table_rules
  every_row = rule_at_lem (table_rules t) is 6

  -- `53`, for each row from one on
  rows_from_lem : (done left : List Row) → done ++ left ≡ t.rows → TakesAll (map hex_line (map (row_line size) left)) (under progress (rows_at_lem done) rest) (under progress (rows_at_lem t.rows) rest)
  rows_from_lem done [] e = ap (λ (l : List Row). under progress (rows_at_lem l) rest) (sym (append-nil done) ∙ e)
  rows_from_lem done (r ∷ left) e =
      let m : Memᴰ r t.rows = subst (Memᴰ r) e (member done r left) in
      let shaped : Shaped size r = each_first (Shaped size) done r left (subst (Each (Shaped size)) (sym e) W.shape) in
      let few : length r.operation.vector ≤ size = (row_known t is r m).1 in
      let room : length done < t.header.capacity = omega (arith, ap (λ (l : List Row). length l) e, length-append done (r ∷ left), F.within) in
      let back : row_of (row_words size r) ≡ r = row_read_lem size r shaped in
      let wide : length (row_words size r) ≡ 7 + size = omega (arith, length_padded size r.operation.vector few) in
      let rule : row_rule t (row_of (row_words size r)) ≡ true = rw back (every_first (row_rule t) done r left (subst (λ (l : List Row). every (row_rule t) l ≡ true) (sym e) every_row)) in
      let kept : row_kept t.header.kinds t.clock (row_words size r) ≡ true = rule_kept t (row_words size r) wide (ap (row_words size) back) rule in
      let chain : chained (follows t.header.kinds) (map (row_words size) done ++ (row_words size r ∷ map (row_words size) left)) ≡ true = subst (λ (l : List (List ℕ)). chained (follows t.header.kinds) l ≡ true) (ap (map (row_words size)) (sym e) ∙ map_append (row_words size) done (r ∷ left)) rows_chained in
      let many : length (map (row_words size) done) ≡ length done = length-map done (row_words size) in
      let line = hex_line (row_line size r) in
      let heard : bytes_of line ≡ row_line size r = bytes_back (row_line size r) (replicate longest 0) (row_bytes size r) (length-replicate {A = ℕ} longest 0) (omega (arith, row_short t is r m)) in
      let step = row_step (rows_at_lem done) (fresh_rows done (r ∷ left) e) rest progress line (next_rows t is rest) r few (row_small t is r m) room kept
      (λ some. rw (sym many) (chained_at (follows t.header.kinds) (map (row_words size) done) (row_words size r) (map (row_words size) left) chain (omega (arith, many)))) (rw heard (row_back t is r m)) in
      first_taken_lem line (map hex_line (map (row_line size) left)) (under progress (rows_at_lem done) rest) (under progress (rows_at_lem (done ++ (r ∷ []))) rest) (under progress (rows_at_lem t.rows) rest) step
      (rows_from_lem (done ++ (r ∷ [])) left (append_assoc done (r ∷ []) left ∙ e))

  pub rows_taken : TakesAll (map hex_line (map (row_line size) t.rows)) (behind_totals_lem t is rest) (under progress t rest)
  rows_taken = rows_from_lem [] t.rows refl

  fresh_whole : Fresh t
  fresh_whole = fresh_rows t.rows [] (append-nil t.rows)

  -- `5f`
  closing_is_no_row : is_row size (closing_line (length t.rows)) ≡ false
  unfolding is_row is_line_of
  closing_is_no_row = no_shape (head_of row) size (closing_line (length t.rows)) (closing_first (length t.rows))

  pub closing_at : (p : ℕ) → next_after size t.header.own t.header.kinds p ≡ next.Rows → loaded_by (hex_line (closing_line (length t.rows))) (under p t rest) ≡ (Ok loaded.Table, words_of t ++ rest)
  closing_at p c =
      let line = closing_line (length t.rows) in
      let heard : bytes_of (hex_line line) ≡ line = bytes_back line (replicate longest 0) (closing_bytes (length t.rows)) (length-replicate {A = ℕ} longest 0) (omega (arith, closing_short t is)) in
      close_step t fresh_whole rest p (hex_line line) c (rw heard closing_is_no_row) (rw heard (closing_back t is)) is

-- `10`
opening_kind : (header : Header) → kind_of (type_of (hex_line (opening_line header))) ≡ kind.Opening
unfolding kind_of type_of pair_of hex_line digits_of digit_of is_digit value_of opening_line line_bytes written big_endian
opening_kind header = refl

opening_bytes : (header : Header) → AllBytes (opening_line header)
unfolding opening_line
opening_bytes header = all_bytes_line_of opening _ _

module _ (t : Table) (is : is_table t ≡ true) (space : List ℕ) (no_load : under_load space ≡ false) (room : space_for t.header.size t.header.capacity ≤ length space) where
  abbrev line : List ℕ
  line = hex_line (opening_line t.header)

  abbrev beyond : List ℕ
  beyond = drop (space_for t.header.size t.header.capacity) space

  opening_heard : bytes_of line ≡ opening_line t.header
  opening_heard = bytes_back (opening_line t.header) (replicate longest 0) (opening_bytes t.header) (length-replicate {A = ℕ} longest 0) (omega (arith, opening_short t is))

  header_back : header_read (opening_line t.header) ≡ t.header
  unfolding header_read
  header_back = rw ((opening_back t is).1, kinds_back t is) refl

  opens : open_table (length space) (space_for t.header.size t.header.capacity) t.header ≡ fresh (opened t.header)
  unfolding open_table opening_refusals
  opens = rw ((facts t is).header_in_range, le-ltb (length space) (space_for t.header.size t.header.capacity) room) refl

  opened_space : opened_by line space ≡ (Ok tt, words_of (opened t.header) ++ beyond)
  unfolding opened_by opened_as opened
  opened_space = rw (opening_heard, header_back, (opening_back t is).0, opens) refl

  pub opening_taken : loaded_by line space ≡ (Ok loaded.Taken, under 1 (opened t.header) beyond)
  unfolding loaded_by first_taken first_as begun
  opening_taken = rw (no_load, opening_kind t.header, opened_space) refl

  -- "Loading what a table wrote gives that table back": whatever the space holds, if no load is under way and it is large enough.
  pub round_trip : Loads (map hex_line (saved_form t)) space (words_of t ++ beyond)
  unfolding saved_form row_lines
  round_trip =
      let c = hex_line (clock_line t.clock) in
      let L = map hex_line (last_lines t) in
      let T = map hex_line (total_lines t) in
      let R = map hex_line (map (row_line t.header.size) t.rows) in
      let end = hex_line (closing_line (length t.rows)) in
      let front = line ∷ c ∷ (L ++ (T ++ R)) in
      let all : TakesAll front space (under (progress t is beyond) t beyond) =
      first_taken_lem line (c ∷ (L ++ (T ++ R))) space (under 1 (opened t.header) beyond) (under (progress t is beyond) t beyond) opening_taken
      (first_taken_lem c (L ++ (T ++ R)) (under 1 (opened t.header) beyond) (under 2 (lasts_at t is beyond 0) beyond) (under (progress t is beyond) t beyond) (clock_taken_lem t is beyond)
      (then_taken L (T ++ R) (under 2 (lasts_at t is beyond 0) beyond) (behind_lasts_lem t is beyond) (under (progress t is beyond) t beyond) (lasts_taken t is beyond)
      (then_taken T R (behind_lasts_lem t is beyond) (behind_totals_lem t is beyond) (under (progress t is beyond) t beyond) (totals_taken t is beyond) (rows_taken t is beyond)))) in
      let form : map hex_line (saved_form t) ≡ front ++ (end ∷ []) = spelt in
      subst (λ (l : List (List ℕ)). Loads l space (words_of t ++ beyond)) (sym form) (then_closed front end space (under (progress t is beyond) t beyond) (words_of t ++ beyond) all (closing_at t is beyond (progress t is beyond) (next_rows t is beyond)))
    where
      spelt : map hex_line (saved_form t) ≡ (line ∷ hex_line (clock_line t.clock) ∷ (map hex_line (last_lines t) ++ (map hex_line (total_lines t) ++ map hex_line (map (row_line t.header.size) t.rows)))) ++ (hex_line (closing_line (length t.rows)) ∷ [])
      spelt =
          let L = last_lines t in
          let T = total_lines t in
          let R = map (row_line t.header.size) t.rows in
          let end : List (List ℕ) = closing_line (length t.rows) ∷ [] in
          ap (λ (l : List (List ℕ)). line ∷ hex_line (clock_line t.clock) ∷ l)
          (map_append hex_line L (T ++ (R ++ end))
          ∙ ap (λ (l : List (List ℕ)). map hex_line L ++ l) (map_append hex_line T (R ++ end) ∙ ap (λ (l : List (List ℕ)). map hex_line T ++ l) (map_append hex_line R end) ∙ sym (append_assoc (map hex_line T) (map hex_line R) (map hex_line end)))
          ∙ sym (append_assoc (map hex_line L) (map hex_line T ++ map hex_line R) (map hex_line end)))
