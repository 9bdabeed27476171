-- What a row's line said, and the closing line, that a space under load took.
use Rattle.std.specs.Prelude.{Result, Ok}
use mathlib.Core.Path.{◌≡◌, refl, sym, ap, ◌∙◌}
use mathlib.Core.Bool.{Bool, true, false, not, ◌&&◌, cond}
use mathlib.Core.Logic.{◌⊎◌, inl, inr}
use mathlib.Core.List.{List, [], ◌∷◌, ◌++◌, map}
use Prim.Native.Nat.{ℕ, zero, suc, ◌+◌, ◌*◌, ◌≤◌, ◌<◌, ◌-◌}
use native.Mathlib.Omega.{arith}
use lib.Dec.{eqb, leb, ltb}
use lib.ListN.{get_or, length, take, set, replicate}
use lib.Seq.{paste, length-take-le}
use borrow.Author.Tests.{eq-eqb, eqb-true, ne_eqb, leb-true, ltb-true}
use Rattle.meaning.specs.Order.{Vector}
use Rattle.meaning.specs.Rows.{Row}
use Rattle.meaning.specs.Table.{Table, settled_only, greatest_size}
use Rattle.meaning.specs.Calls.{with_rows}
use Rattle.meaning.proofs.Tests.{cases, and_left, and_right}
use Rattle.words_layout.specs.Words as words
use Rattle.words_layout.specs.Words.{all_zero, word_limit}
use Rattle.words_layout.specs.Layout.{words_of, holds_table, row_of, row_words}
use Rattle.words_layout.proofs.Whole.{length_padded}
use Rattle.words_layout.proofs.RowWords.{Shaped, Spelt, padded_all, row_written, short_row}
use Rattle.table_rules_rows.specs.RowTests.{content_kept, follows, kind_of_row, row_kept, tag_kept, unsettled_kept}
use Rattle.table_rules_rows.proofs.RowMeaning.{zeros_are}
use Rattle.line_hex.specs.Choice.{pick}
use Rattle.line_hex.specs.Hex.{hex_line}
use Rattle.line_shape.specs.Reading as shapes
use Rattle.line_read.specs.Types.{closing, line_of, row}
use Rattle.line_read.specs.declared.Row as saved
use Rattle.line_read.specs.SavedNamed.{is_closing, closing_read, row_read, is_row}
use Rattle.line_read.proofs.SavedNamed.{closing_only_spelling, row_only_spelling}
use Rattle.line_read.proofs.Vectors.{row_vector}
use Rattle.line_decode.specs.Decoding.{bytes_of}
use Rattle.form_lines.specs.FormLines.{closing_line, row_line}
use Rattle.form_take.specs.declared.Loaded.{Loaded}
use Rattle.form_take.specs.declared.Loaded.TheVariants as loaded
use Rattle.form_load.specs.declared.Next.TheVariants as next
use Rattle.form_row.specs.Joining as joining
use Rattle.form_row.specs.Joining.{joins, last_row, row_place, row_said}
use Rattle.form_take.specs.Taking.{closed, finished, row_or_closing, row_taken, spoilt}
use Rattle.form_load.specs.Loading.{loaded_by, next_after, taken_as}
use Rattle.law_round_trip.proofs.Setting.{set_set}
use Rattle.law_round_trip.proofs.Under.{Fresh, under, count_is, kinds_are, clock_is}
use Rattle.law_round_trip.proofs.Steps.{front_of}
use Rattle.law_round_trip.proofs.RowLines.{by_rows_lem, last_is, line_of_row, row_step}
use Rattle.line_decode.proofs.Decoding.{decoded_bytes}
use Rattle.law_round_trip.proofs.Decoded.{line_said, value_small, vector_padded}
use Rattle.law_round_trip.proofs.StepsBack.{Took, fresh_row, refused}
use Rattle.meaning.specs.Operations.{value_limit}

settled_back : (s : ℕ) → s ≤ 1 → cond (eqb (1 - s) 0) 1 0 ≡ s
settled_back zero h = refl
settled_back (suc zero) h = refl
settled_back (suc (suc s)) h = absurd (omega arith)

-- the row that a line says by the rules
module _ (size : ℕ) (f : saved.Row) (long : length (take size f.vector) ≡ size) (small : f.value < value_limit) (flag : f.settled ≤ 1) (kinds : List ℕ) (clock : Vector) (kept : row_kept kinds clock (row_said size f) ≡ true) where
  abbrev v : List ℕ
  v = take size f.vector

  abbrev said : List ℕ
  said = f.object ∷ 0 ∷ f.value ∷ f.code ∷ (1 - f.settled) ∷ f.sender ∷ get_or v f.sender 0 ∷ v

  abbrev pub said_row : Row
  said_row = row_of said

  bare : 1 - f.settled ≡ 0 → (f.sender ≡ 0) × (v ≡ replicate size 0)
  unfolding row_kept tag_kept row_said
  bare z =
      let kind = kind_of_row kinds said in
      let zero_all : cond (eqb (1 - f.settled) 0) (all_zero (f.sender ∷ get_or v f.sender 0 ∷ v)) (not (settled_only kind) && unsettled_kept clock said) ≡ true = and_right (content_kept kind (row_of said).operation) (tag_kept kind clock said) kept in
      let all : eqb f.sender 0 && (eqb (get_or v f.sender 0) 0 && all_zero v) ≡ true = rw (eq-eqb (1 - f.settled) 0 z) at zero_all in (
        eqb-true f.sender 0 (and_left (eqb f.sender 0) (eqb (get_or v f.sender 0) 0 && all_zero v) all),
        zeros_are v (and_right (eqb (get_or v f.sender 0) 0) (all_zero v) (and_right (eqb f.sender 0) (eqb (get_or v f.sender 0) 0 && all_zero v) all)) ∙ ap (λ (n : ℕ). replicate n 0) long,
      )

  spelt : Spelt size said
  spelt = record { wide = omega (arith, long); word = small; flag = omega arith; number = refl; bare = bare }

  pub words_said : row_words size said_row ≡ row_said size f
  unfolding row_said
  words_said = row_written size said spelt

  pub row_shaped : Shaped size said_row
  row_shaped = record { long = cases (eqb (1 - f.settled) 0) (λ e. rw e refl) (λ e. rw e long) }

  vector_said : words.padded size said_row.operation.vector ≡ v
  vector_said = cases (eqb (1 - f.settled) 0)
      (λ e. let whole : size - 0 ≡ size = omega arith in rw (e, whole) (sym (bare (eqb-true (1 - f.settled) 0 e)).1))
      (λ e. rw e (padded_all size v long))

  pub row_few : length said_row.operation.vector ≤ size
  row_few = short_row size said (omega (arith, long))

  pub row_low : said_row.operation.value < value_limit
  row_low = omega arith

  pub said_line : f.vector ≡ shapes.padded greatest_size v → f ≡ line_of_row size said_row
  said_line e =
      let value : 0 * word_limit + f.value ≡ f.value = omega arith in
      rw (vector_said, settled_back f.settled flag, value, sym e) refl

-- two tests one after the other are one
one_test : (a b c : Bool) (x y : Result Loaded ℕ × List ℕ) → pick (a && b) (pick c x y) y ≡ pick (a && (b && c)) x y
one_test true true c x y = refl
one_test true false c x y = refl
one_test false b c x y = refl

-- what a row keeps that joins: its own rules, and the order behind the last
abbrev pub RowRules : Table → Row → Type 0
RowRules t r =
    (row_kept t.header.kinds t.clock (row_words t.header.size r) ≡ true)
    × (0 < length t.rows → follows t.header.kinds (get_or (map (row_words t.header.size) t.rows) (length t.rows - 1) []) (row_words t.header.size r) ≡ true)

-- what a closing line that was taken leaves
pub record Closed (line : List ℕ) (t : Table) (rest : List ℕ) (p : ℕ) : Type 0 where
  pub line_is : line ≡ hex_line (closing_line (length t.rows))
  pub held : holds_table (words_of t ++ rest) ≡ true
  pub next_is : loaded_by line (under p t rest) ≡ (Ok loaded.Table, words_of t ++ rest)

module _ (t : Table) (F : Fresh t) (rest : List ℕ) (p : ℕ) (line : List ℕ) (c : next_after t.header.size t.header.own t.header.kinds p ≡ next.Rows) where
  abbrev size : ℕ
  size = t.header.size

  abbrev space : List ℕ
  space = under p t rest

  abbrev plain : List ℕ
  plain = words_of t ++ rest

  abbrev bytes : List ℕ
  bytes = bytes_of line

  -- `5f`
  pub close_back : is_row size bytes ≡ false → (refused (loaded_by line space).0 ≡ true) ⊎ Closed line t rest p
  unfolding taken_as row_or_closing closed finished words_of spoilt closing_line
  close_back n =
      let f = closing_read bytes in
      let whole : set space 6 0 ≡ plain = set_set plain 6 p 0 in
      let answer : loaded_by line space ≡ pick (is_closing bytes && (eqb f.rows (length t.rows) && holds_table plain)) (Ok loaded.Table, plain) (spoilt space) = by_rows_lem t F rest p line c ∙ rw (n, whole, count_is t F rest p) (one_test (is_closing bytes) (eqb f.rows (length t.rows)) (holds_table plain) (Ok loaded.Table, plain) (spoilt space)) in
      cases (is_closing bytes && (eqb f.rows (length t.rows) && holds_table plain))
      (λ yes. let ok : is_closing bytes ≡ true = and_left (is_closing bytes) (eqb f.rows (length t.rows) && holds_table plain) yes in
      let both = and_right (is_closing bytes) (eqb f.rows (length t.rows) && holds_table plain) yes in
      let many : f.rows ≡ length t.rows = eqb-true f.rows (length t.rows) (and_left (eqb f.rows (length t.rows)) (holds_table plain) both) in
      inr (record {
        line_is = line_said closing (f.rows ∷ []) [] line (closing_only_spelling bytes (decoded_bytes line) ok) ∙ ap (λ (k : ℕ). hex_line (line_of closing (k ∷ []) [])) many;
        held = and_right (eqb f.rows (length t.rows)) (holds_table plain) both;
        next_is = answer ∙ rw yes refl;
      }))
      (λ bad. inl (ap (λ (o : Result Loaded ℕ × List ℕ). refused o.0) answer ∙ rw bad refl))

  -- `53`
  abbrev written : List (List ℕ)
  written = map (row_words size) t.rows

  joined : (said : List ℕ) → joins space said ≡ true → (length t.rows < t.header.capacity) × ((row_kept t.header.kinds t.clock said ≡ true) × (0 < length t.rows → follows t.header.kinds (get_or written (length t.rows - 1) []) said ≡ true))
  unfolding joins words_of
  joined said e =
      let room = ltb (length t.rows) t.header.capacity in
      let kept = row_kept t.header.kinds t.clock said in
      let behind = pick (eqb (length t.rows) 0) true (follows t.header.kinds (last_row space) said) in
      let all : room && (kept && behind) ≡ true = rw (kinds_are t F rest p, clock_is t F rest p) at e in
      let both = and_right room (kept && behind) all in (
        ltb-true (length t.rows) t.header.capacity (and_left room (kept && behind) all),
        (
          and_left kept behind both,
          λ some. let order : pick (eqb (length t.rows) 0) true (follows t.header.kinds (last_row space) said) ≡ true = and_right kept behind both in
              rw (← last_is t F rest p line c some) (rw (ne_eqb (length t.rows) 0 (λ z. omega arith)) at order),
        ),
      )

  row_taken_lem : is_row size bytes ≡ true → length (take size (row_read size bytes).vector) ≡ size → (row_read size bytes).settled ≤ 1 → joins space (row_said size (row_read size bytes)) ≡ true → Took line space (row_line size) (λ (r : Row). with_rows t (t.rows ++ (r ∷ []))) (RowRules t) p rest
  unfolding row_line is_row row_read
  row_taken_lem ok long flag join =
      let f = row_read size bytes in
      let J = joined (row_said size f) join in
      let small : f.value < value_limit = value_small bytes (decoded_bytes line) size in
      let kinds = t.header.kinds in
      let r : Row = said_row size f long small flag kinds t.clock J.1.0 in
      let spelt : row_words size r ≡ row_said size f = words_said size f long small flag kinds t.clock J.1.0 in
      let few : length r.operation.vector ≤ size = row_few size f long small flag kinds t.clock J.1.0 in
      let e : f ≡ line_of_row size r = said_line size f long small flag kinds t.clock J.1.0 (vector_padded row size bytes ok) in
      record {
        what = r;
        line_is = line_said row (f.object ∷ f.code ∷ f.settled ∷ f.sender ∷ f.value ∷ []) (take size f.vector) line (row_only_spelling bytes (decoded_bytes line) size ok)
            ∙ ap (λ (g : saved.Row). hex_line (line_of row (g.object ∷ g.code ∷ g.settled ∷ g.sender ∷ g.value ∷ []) (take size g.vector))) e
            ∙ ap (λ (l : List ℕ). hex_line (line_of row (r.operation.object ∷ r.operation.code ∷ cond r.settled 1 0 ∷ r.operation.sender ∷ r.operation.value ∷ []) l)) (front_of (words.padded size r.operation.vector) size (length_padded size r.operation.vector few));
        fresh = fresh_row t F r (row_shaped size f long small flag kinds t.clock J.1.0) J.0;
        kept = (rw spelt J.1.0, λ some. rw spelt (J.1.1 some));
        next_is = row_step t F rest p line c r few (row_low size f long small flag kinds t.clock J.1.0) J.0 (rw spelt J.1.0) (λ some. rw spelt (J.1.1 some)) (ok, e);
      }

  -- what a row's line gets
  abbrev row_answer : saved.Row → Result Loaded ℕ × List ℕ
  row_answer f =
      pick (leb f.settled 1 && joins space (row_said size f))
      (Ok loaded.Taken, set (paste space (row_place space (length t.rows)) (row_said size f) (length (row_said size f))) 5 (suc (length t.rows)))
      (spoilt space)

  row_answered : is_row size bytes ≡ true → loaded_by line space ≡ row_answer (row_read size bytes)
  unfolding taken_as row_or_closing row_taken joining.joined words_of
  row_answered ok = by_rows_lem t F rest p line c ∙ ap (λ (b : Bool). pick b (row_answer (row_read size bytes)) (closed bytes space)) ok

  pub row_back : is_row size bytes ≡ true → (refused (loaded_by line space).0 ≡ true) ⊎ Took line space (row_line size) (λ (r : Row). with_rows t (t.rows ++ (r ∷ []))) (RowRules t) p rest
  unfolding spoilt
  row_back ok =
      let f = row_read size bytes in
      let long : length (take size f.vector) ≡ size = length-take-le size f.vector (omega (arith, row_vector bytes size f refl, F.sized.few)) in
      cases (leb f.settled 1 && joins space (row_said size f))
      (λ yes. inr (row_taken_lem ok long (leb-true f.settled 1 (and_left (leb f.settled 1) (joins space (row_said size f)) yes)) (and_right (leb f.settled 1) (joins space (row_said size f)) yes)))
      (λ bad. inl (ap (λ (o : Result Loaded ℕ × List ℕ). refused o.0) (row_answered ok) ∙ rw bad refl))
