-- The tests of the words together are the table rules.
use Prim.Native.Nat.{ℕ, zero, suc, ◌+◌, ◌-◌, ◌*◌, ◌≤◌, ◌<◌}
use mathlib.Core.Path.{◌≡◌, refl, sym, ap, ◌∙◌}
use mathlib.Core.Bool.{Bool, true, false, ◌&&◌, and-true}
use mathlib.Core.List.{List, [], ◌∷◌, ◌++◌, map, append_assoc}
use native.Mathlib.Omega.{arith}
use borrow.Author.Tests.{eq-eqb, ltb-true, ltb-false, lt-ltb, leb-true, le-leb}
use mir.Val.{Fits}
use mir.Syntax.{w32}
use lib.Dec.{leb, ltb, eqb}
use lib.ListN.{length, get_or, take, drop, replicate, length-drop, length-map, length-replicate, get_or-eq_default}
use lib.Seq.{take_at, drop_at, drop-drop, get_or-take, get_or-drop, length-take-le}
use Rattle.meaning.specs.Tests.{every, every_at, between}
use Rattle.meaning.specs.Order.{Vector, entry_limit, at_most, same}
use Rattle.meaning.specs.Rows.{in_order}
use Rattle.meaning.specs.Table.{Table, kind_in, zeros, header_rules, in_range, clock_rule, last_rule, lasts_rule, total_bound, total_rule, totals_rule, row_rule, one_row_a_value, table_rules, is_table, greatest_size, greatest_capacity, most_objects}
use Rattle.meaning.proofs.Tests.{cases, clash, iff, fails, and_left, and_right, and_both, rule_at_lem, between_in}
use Rattle.meaning.proofs.Vectors.{same_eq, eq_same}
use Rattle.meaning.proofs.Ascending.{order_sorted, sorted_order}
use Rattle.meaning.proofs.TableFacts.{HeaderFacts, header_facts}
use Rattle.words_layout.specs.Words.{all_zero, pieces, flat, padded, word_limit}
use Rattle.words_layout.specs.Layout.{Laid, total_words, total_of_words, totals_words, row_words, row_of, head_words, rows_words, words_of, table_of, rewritten, beyond, space_for, rows_at, rows_in, size_in, own_in, capacity_in, objects_in, count_in, is_spelt, holds_table, clock_at, totals_at, totals_width}
use Rattle.words_layout.proofs.Pieces.{Wide, Each, length_pieces, length_flat, wide_pieces}
use Rattle.words_layout.proofs.RowWords.{Spelt}
use Rattle.words_layout.proofs.Whole.{length_padded, wide_totals, each_spelt, after_rows}
use Rattle.words_layout.proofs.Spelling.{Spelling, rows_kept_lem, spelt_back}
use Rattle.words_layout.proofs.Changing.{spread}
use Rattle.table_rules_rows.specs.RowTests.{row_kept, follows, chained, rows_kept}
use Rattle.table_rules_rows.proofs.RowMeaning.{zeros_are, are_zeros, kept_spelt, kept_rule, rule_kept}
use Rattle.table_rules_rows.proofs.Ordering.{Readable, chain_sorted, chain_one_row, sorted_chain}
use Rattle.table_rules_clock.specs.ClockTests.{total_kept, total_kept_at, last_kept}
use Rattle.table_rules.specs.TableTests.{Headed, head_kept, kinds_in, clock_in, kinds_kept, totals_kept, lasts_kept, unused_kept, parts_kept}
use Rattle.table_rules.proofs.Heading.{headed, is_headed, head_short}
use Rattle.table_rules.proofs.Parts.{clock_long, kinds_long, row_area}

-- tests at every place
every_at_map : {A B : Type 0} (f : A → B) (p : ℕ → B → Bool) (k : ℕ) (l : List A) → every_at p k (map f l) ≡ every_at (λ (k : ℕ) (x : A). p k (f x)) k l
every_at_map f p k [] = refl
every_at_map f p k (x ∷ l) = ap (λ (b : Bool). p k (f x) && b) (every_at_map f p (suc k) l)

every_at_wide : (p q : ℕ → List ℕ → Bool) (w : ℕ) → ((k : ℕ) (v : List ℕ) → length v ≡ w → p k v ≡ q k v) → (k : ℕ) (l : List (List ℕ)) → Wide w l → every_at p k l ≡ every_at q k l
every_at_wide p q w f k [] h = refl
every_at_wide p q w f k (v ∷ l) h = rw (f k v h.0, every_at_wide p q w f (suc k) l h.1) refl

zeros_same : (v : List ℕ) → same v (replicate (length v) 0) ≡ all_zero v
zeros_same [] = refl
zeros_same (x ∷ v) = ap (λ (b : Bool). eqb x 0 && b) (zeros_same v)

swap : (a b : Bool) → (a && b) ≡ (b && a)
swap true true = refl
swap true false = refl
swap false true = refl
swap false false = refl

-- zeros in a part are what its test says
zero_part : (l : List ℕ) (n : ℕ) → length l ≡ n → all_zero l ≡ true → l ≡ replicate n 0
zero_part l n e z = zeros_are l z ∙ ap (λ (m : ℕ). replicate m 0) e

part_long : (s : List ℕ) (a k : ℕ) → a + k ≤ length s → length (take k (drop a s)) ≡ k
part_long s a k h = length-take-le k (drop a s) (simp length-drop (omega arith))

-- zeros behind what is written
behind : (s l rest : List ℕ) (a i k : ℕ) → drop a s ≡ padded k l ++ rest → length l ≡ i → all_zero (take (k - i) (drop (a + i) s)) ≡ true
behind s l rest a i k e h =
    let z : List ℕ = replicate (k - length l) 0 in
    let at : drop (a + i) s ≡ z ++ rest = sym (drop-drop i a s) ∙ ap (drop i) (e ∙ append_assoc l z rest) ∙ drop_at l (z ++ rest) i h in
    let long : length z ≡ k - i = length-replicate (k - length l) 0 ∙ ap (λ (m : ℕ). k - m) h in
    rw (at, take_at z rest (k - i) long) (are_zeros (k - length l))

-- rows, each by itself
module _ (n : ℕ) (table : Table) (e : table.header.size ≡ n) where
  abbrev Low : List (List ℕ) → Type 0
  Low l = Each (λ (ws : List ℕ). get_or ws 2 0 < word_limit) l

  all_spelt : (l : List (List ℕ)) → Wide (7 + n) l → Low l → every (row_kept table.header.kinds table.clock) l ≡ true → Each (Spelt n) l
  all_spelt [] w f k = tt
  all_spelt (r ∷ l) w f k =
      let p = row_kept table.header.kinds table.clock in
      (kept_spelt table.header.kinds table.clock r (and_left (p r) (every p l) k) n w.0 f.0, all_spelt l w.1 f.1 (and_right (p r) (every p l) k))

  all_rules : (l : List (List ℕ)) → Wide (7 + n) l → every (row_kept table.header.kinds table.clock) l ≡ true → every (row_rule table) (map row_of l) ≡ true
  all_rules [] w k = refl
  all_rules (r ∷ l) w k =
      let p = row_kept table.header.kinds table.clock in
      and_both (row_rule table (row_of r)) (every (row_rule table) (map row_of l))
      (kept_rule table r (w.0 ∙ ap (λ (m : ℕ). 7 + m) (sym e)) (and_left (p r) (every p l) k))
      (all_rules l w.1 (and_right (p r) (every p l) k))

  all_kept : (l : List (List ℕ)) → Wide (7 + n) l → Each (λ (ws : List ℕ). row_words n (row_of ws) ≡ ws) l → every (row_rule table) (map row_of l) ≡ true → every (row_kept table.header.kinds table.clock) l ≡ true
  all_kept [] w b k = refl
  all_kept (r ∷ l) w b k =
      let p = row_kept table.header.kinds table.clock in
      and_both (p r) (every p l)
      (rule_kept table r (w.0 ∙ ap (λ (m : ℕ). 7 + m) (sym e)) (rw (e) b.0) (and_left (row_rule table (row_of r)) (every (row_rule table) (map row_of l)) k))
      (all_kept l w.1 b.1 (and_right (row_rule table (row_of r)) (every (row_rule table) (map row_of l)) k))

all_readable : (n : ℕ) (l : List (List ℕ)) → Wide (7 + n) l → Each (λ (ws : List ℕ). get_or ws 2 0 < word_limit) l → Each (λ (ws : List ℕ). row_words n (row_of ws) ≡ ws) l → Each (Readable n) l
all_readable n [] w f b = tt
all_readable n (r ∷ l) w f b = (record { long = omega (arith, w.0); low = f.0; written = b.0 }, all_readable n l w.1 f.1 b.1)

all_low : (w k : ℕ) (s : List ℕ) → 2 < w → ((i : ℕ) → get_or s i 0 < word_limit) → Each (λ (ws : List ℕ). get_or ws 2 0 < word_limit) (pieces w k s)
all_low w zero s h f = tt
all_low w (suc k) s h f = (rw (get_or-take w s 2 0 h) (f 2), all_low w k (drop w s) h (λ i. rw (get_or-drop w s i 0) (f (w + i))))

every_word : (l : List ℕ) → ((i : ℕ) → get_or l i 0 < word_limit) → every (λ (entry : ℕ). ltb entry entry_limit) l ≡ true
every_word [] f = refl
every_word (x ∷ l) f = and_both (ltb x entry_limit) (every (λ (entry : ℕ). ltb entry entry_limit) l) (lt-ltb x entry_limit (f 0)) (every_word l (λ i. f (suc i)))

-- each rule of the table, and the test of its words
module _ (s : List ℕ) (H : Headed s) where
  abbrev clock : Vector
  clock = clock_in s

  abbrev lasts : List (List ℕ)
  lasts = pieces (size_in s) (size_in s) (drop (clock_at + size_in s) s)

  wide_lasts : Wide (size_in s) lasts
  wide_lasts = wide_pieces (size_in s) (size_in s) (drop (clock_at + size_in s) s) (simp length-drop (omega (arith, H.room)))

  wide_rows : Wide (7 + size_in s) (rows_in s)
  wide_rows = wide_pieces (7 + size_in s) (count_in s) (drop (rows_at (size_in s)) s) (simp length-drop (omega (arith, H.room, row_area s H)))

  header_rule : in_range (table_of s).header ≡ every (between 1 9) (kinds_in s)
  unfolding in_range header_rules table_of
  header_rule =
      rw (kinds_long s H, between_in 1 greatest_size (size_in s) H.some H.few, lt-ltb (own_in s) (size_in s) H.own, between_in 1 most_objects (objects_in s) H.object H.objects, between_in 1 (greatest_capacity (size_in s)) (capacity_in s) H.rooms H.small)
      (and-true (every (between 1 9) (kinds_in s)))

  last_rule_lem : (k : ℕ) (v : List ℕ) → length v ≡ size_in s → last_rule (table_of s) k v ≡ last_kept (own_in s) (clock_in s) k v
  unfolding last_rule last_kept zeros table_of
  last_rule_lem k v e =
      let z : same v (replicate (size_in s) 0) ≡ all_zero v = rw (sym e) (zeros_same v) in
      rw (z, eq-eqb (length v) (size_in s) e, swap (at_most v (clock_in s)) (eqb (get_or v k 0) (get_or (clock_in s) k 0))) refl

  lasts_rule_lem : lasts_rule (table_of s) ≡ lasts_kept s
  unfolding lasts_rule lasts_kept table_of
  lasts_rule_lem =
      rw (eq-eqb (length lasts) (size_in s) (length_pieces (size_in s) (size_in s) (drop (clock_at + size_in s) s)))
      (every_at_wide (last_rule (table_of s)) (last_kept (own_in s) (clock_in s)) (size_in s) last_rule_lem 0 lasts wide_lasts)

  abbrev codes : List (List ℕ)
  codes = pieces 2 (objects_in s) (drop totals_at s)

  totals_rule_lem : totals_rule (table_of s) ≡ every_at (total_kept_at (total_bound (clock_in s)) (kinds_in s)) 0 codes
  unfolding totals_rule total_rule total_kept kind_in table_of
  totals_rule_lem =
      let many : length (map total_of_words codes) ≡ length (kinds_in s) = length-map codes total_of_words ∙ length_pieces 2 (objects_in s) (drop totals_at s) ∙ sym (kinds_long s H) in
      rw (eq-eqb (length (map total_of_words codes)) (length (kinds_in s)) many) (every_at_map total_of_words (total_rule (table_of s)) 0 codes)

  count_rows : length (map row_of (rows_in s)) ≡ count_in s
  count_rows = length-map (rows_in s) row_of ∙ length_pieces (7 + size_in s) (count_in s) (drop (rows_at (size_in s)) s)

  module _ (F : (i : ℕ) → get_or s i 0 < word_limit) where
    clock_rule_lem : clock_rule (table_of s) ≡ true
    unfolding clock_rule table_of
    clock_rule_lem = and_both (eqb (length (clock_in s)) (size_in s)) (every (λ (entry : ℕ). ltb entry entry_limit) (clock_in s)) (eq-eqb (length (clock_in s)) (size_in s) (clock_long s H)) (every_word (clock_in s) word)
      where
        word : (i : ℕ) → get_or (clock_in s) i 0 < word_limit
        word i = cases (ltb i (size_in s))
            (λ e. rw (get_or-take (size_in s) (drop clock_at s) i 0 (ltb-true i (size_in s) e), get_or-drop clock_at s i 0) (F (clock_at + i)))
            (λ e. let out : length (clock_in s) ≤ i = omega (arith, ltb-false i (size_in s) e, clock_long s H) in rw (get_or-eq_default (clock_in s) 0 out) (omega arith))

    low_rows : Each (λ (ws : List ℕ). get_or ws 2 0 < word_limit) (rows_in s)
    low_rows = all_low (7 + size_in s) (count_in s) (drop (rows_at (size_in s)) s) (omega arith) (λ i. rw (get_or-drop (rows_at (size_in s)) s i 0) (F (rows_at (size_in s) + i)))

    -- the tests hold: the words are what would be written, and the rules hold of what they spell
    module _ (k : parts_kept s ≡ true) where
      abbrev rest3 : Bool
      rest3 = rows_kept (kinds_in s) (clock_in s) (rows_in s) && unused_kept s

      kinds_hold : kinds_kept s ≡ true
      unfolding parts_kept
      kinds_hold = and_left (kinds_kept s) (totals_kept s && (lasts_kept s && rest3)) k

      behind_kinds : (totals_kept s && (lasts_kept s && rest3)) ≡ true
      unfolding parts_kept
      behind_kinds = and_right (kinds_kept s) (totals_kept s && (lasts_kept s && rest3)) k

      totals_hold : totals_kept s ≡ true
      totals_hold = and_left (totals_kept s) (lasts_kept s && rest3) behind_kinds

      behind_totals_lem : (lasts_kept s && rest3) ≡ true
      behind_totals_lem = and_right (totals_kept s) (lasts_kept s && rest3) behind_kinds

      lasts_hold : lasts_kept s ≡ true
      lasts_hold = and_left (lasts_kept s) rest3 behind_totals_lem

      rows_hold : rows_kept (kinds_in s) (clock_in s) (rows_in s) ≡ true
      rows_hold = and_left (rows_kept (kinds_in s) (clock_in s) (rows_in s)) (unused_kept s) (and_right (lasts_kept s) rest3 behind_totals_lem)

      unused_hold : unused_kept s ≡ true
      unused_hold = and_right (rows_kept (kinds_in s) (clock_in s) (rows_in s)) (unused_kept s) (and_right (lasts_kept s) rest3 behind_totals_lem)

      each_row : every (row_kept (kinds_in s) (clock_in s)) (rows_in s) ≡ true
      unfolding rows_kept
      each_row = and_left (every (row_kept (kinds_in s) (clock_in s)) (rows_in s)) (chained (follows (kinds_in s)) (rows_in s)) rows_hold

      chain : chained (follows (kinds_in s)) (rows_in s) ≡ true
      unfolding rows_kept
      chain = and_right (every (row_kept (kinds_in s) (clock_in s)) (rows_in s)) (chained (follows (kinds_in s)) (rows_in s)) rows_hold

      rows_spelt : Each (Spelt (size_in s)) (rows_in s)
      unfolding table_of
      rows_spelt = all_spelt (size_in s) (table_of s) refl (rows_in s) wide_rows low_rows each_row

      readable : Each (Readable (size_in s)) (rows_in s)
      readable = all_readable (size_in s) (rows_in s) wide_rows low_rows (rows_kept_lem (size_in s) (rows_in s) rows_spelt)

      spelling : Spelling s
      unfolding kinds_kept totals_kept unused_kept
      spelling = record {
        room = H.room;
        words = F;
        mark = H.mark;
        idle = H.idle;
        objects = H.objects;
        within = H.within;
        kinds = zero_part (take (most_objects - objects_in s) (drop (7 + objects_in s) s)) (most_objects - objects_in s) (part_long s (7 + objects_in s) (most_objects - objects_in s) (omega (arith, H.room, H.objects))) (and_right (every (between 1 9) (kinds_in s)) (all_zero (take (most_objects - objects_in s) (drop (7 + objects_in s) s))) kinds_hold);
        totals = zero_part (take (totals_width - objects_in s * 2) (drop (totals_at + objects_in s * 2) s)) (totals_width - objects_in s * 2) (part_long s (totals_at + objects_in s * 2) (totals_width - objects_in s * 2) (omega (arith, H.room, H.objects))) (and_right (every_at (total_kept_at (total_bound (clock_in s)) (kinds_in s)) 0 codes) (all_zero (take (totals_width - objects_in s * 2) (drop (totals_at + objects_in s * 2) s))) totals_hold);
        rows = rows_spelt;
        unused = zero_part (take (capacity_in s * (7 + size_in s) - count_in s * (7 + size_in s)) (drop (rows_at (size_in s) + count_in s * (7 + size_in s)) s)) (capacity_in s * (7 + size_in s) - count_in s * (7 + size_in s)) (part_long s (rows_at (size_in s) + count_in s * (7 + size_in s)) (capacity_in s * (7 + size_in s) - count_in s * (7 + size_in s)) (omega (arith, H.room, row_area s H))) unused_hold;
      }

      spelt_holds : is_spelt s ≡ true
      unfolding is_spelt
      spelt_holds = and_both (leb (space_for (size_in s) (capacity_in s)) (length s)) (same s (rewritten s (table_of s))) (le-leb (space_for (size_in s) (capacity_in s)) (length s) H.room) (eq_same s (rewritten s (table_of s)) (spelt_back s spelling))

      ordered : in_order (table_of s).rows ≡ true
      unfolding table_of
      ordered = sorted_order (map row_of (rows_in s)) (chain_sorted (size_in s) (kinds_in s) (rows_in s) readable chain)

      row_rules : every (row_rule (table_of s)) (table_of s).rows ≡ true
      unfolding table_of
      row_rules = all_rules (size_in s) (table_of s) refl (rows_in s) wide_rows each_row

      one_row_lem : one_row_a_value (kind_in (table_of s).header) (table_of s).rows ≡ true
      unfolding table_of kind_in
      one_row_lem = chain_one_row (size_in s) (kinds_in s) (rows_in s) readable chain

      few_rows : leb (length (table_of s).rows) (table_of s).header.capacity ≡ true
      unfolding table_of
      few_rows = le-leb (length (map row_of (rows_in s))) (capacity_in s) (omega (arith, count_rows, H.within))

      kinds_every : every (between 1 9) (kinds_in s) ≡ true
      unfolding kinds_kept
      kinds_every = and_left (every (between 1 9) (kinds_in s)) (all_zero (take (most_objects - objects_in s) (drop (7 + objects_in s) s))) kinds_hold

      totals_every : every_at (total_kept_at (total_bound (clock_in s)) (kinds_in s)) 0 codes ≡ true
      unfolding totals_kept
      totals_every = and_left (every_at (total_kept_at (total_bound (clock_in s)) (kinds_in s)) 0 codes) (all_zero (take (totals_width - objects_in s * 2) (drop (totals_at + objects_in s * 2) s))) totals_hold

      rules_hold : is_table (table_of s) ≡ true
      unfolding is_table table_rules
      rules_hold = rw (header_rule ∙ kinds_every, clock_rule_lem, lasts_rule_lem ∙ lasts_hold, totals_rule_lem ∙ totals_every, ordered, few_rows, row_rules, one_row_lem) refl

      pub parts_hold : holds_table s ≡ true
      unfolding holds_table
      parts_hold = and_both (is_spelt s) (is_table (table_of s)) spelt_holds rules_hold

-- the words hold a table: the head is in range
module _ (s : List ℕ) (h : holds_table s ≡ true) where
  is_spelt_lem : is_spelt s ≡ true
  unfolding holds_table
  is_spelt_lem = and_left (is_spelt s) (is_table (table_of s)) h

  rule : (i : ℕ) → get_or (table_rules (table_of s)) i true ≡ true
  unfolding holds_table is_table
  rule = rule_at_lem (table_rules (table_of s)) (and_right (is_spelt s) (is_table (table_of s)) h)

  room : space_for (size_in s) (capacity_in s) ≤ length s
  unfolding is_spelt
  room = leb-true (space_for (size_in s) (capacity_in s)) (length s) (and_left (leb (space_for (size_in s) (capacity_in s)) (length s)) (same s (rewritten s (table_of s))) is_spelt_lem)

  written : s ≡ rewritten s (table_of s)
  unfolding is_spelt
  written = same_eq s (rewritten s (table_of s)) (and_right (leb (space_for (size_in s) (capacity_in s)) (length s)) (same s (rewritten s (table_of s))) is_spelt_lem)

  header : HeaderFacts (table_of s).header
  unfolding table_rules
  header = header_facts (table_of s).header (rule 0)

  many_rows : length (map row_of (rows_in s)) ≡ count_in s
  many_rows = length-map (rows_in s) row_of ∙ length_pieces (7 + size_in s) (count_in s) (drop (rows_at (size_in s)) s)

  pub table_headed : Headed s
  unfolding rewritten words_of table_of table_rules
  table_headed =
      let objects : get_or s 4 0 ≡ length (kinds_in s) = ap (λ (l : List ℕ). get_or l 4 0) written in
      let many = header.objects_range in
      record {
        mark = ap (λ (l : List ℕ). get_or l 0 0) written;
        idle = ap (λ (l : List ℕ). get_or l 6 0) written;
        some = header.size_range.0;
        few = header.size_range.1;
        own = header.own_in_lem;
        rooms = header.capacity_range.0;
        small = header.capacity_range.1;
        object = omega (arith, objects, many.0);
        objects = omega (arith, objects, many.1);
        within = omega (arith, many_rows, leb-true (length (map row_of (rows_in s))) (capacity_in s) (rule 5));
        room = room;
      }

  laid : Laid s
  laid = record { room = room; some = table_headed.some; few = table_headed.few; small = table_headed.small; objects = table_headed.objects; within = table_headed.within; spelt = written }

  abbrev table : Table
  table = table_of s

  apart : s ≡ head_words table ++ (padded most_objects table.header.kinds ++ (padded totals_width (totals_words table.totals) ++ (table.clock ++ (flat table.last ++ (rows_words table ++ beyond s)))))
  unfolding rewritten
  apart = written ∙ spread table (beyond s)

  at_kinds : drop 7 s ≡ padded most_objects table.header.kinds ++ (padded totals_width (totals_words table.totals) ++ (table.clock ++ (flat table.last ++ (rows_words table ++ beyond s))))
  at_kinds = ap (drop 7) apart

  long_kinds : length table.header.kinds ≡ objects_in s
  unfolding table_of
  long_kinds = kinds_long s table_headed

  at_totals : drop totals_at s ≡ padded totals_width (totals_words table.totals) ++ (table.clock ++ (flat table.last ++ (rows_words table ++ beyond s)))
  at_totals =
      let few : length table.header.kinds ≤ most_objects = omega (arith, long_kinds, table_headed.objects) in
      sym (drop-drop most_objects 7 s) ∙ ap (drop most_objects) at_kinds ∙ drop_at (padded most_objects table.header.kinds) (padded totals_width (totals_words table.totals) ++ (table.clock ++ (flat table.last ++ (rows_words table ++ beyond s)))) most_objects (length_padded most_objects table.header.kinds few)

  long_totals : length (totals_words table.totals) ≡ objects_in s * 2
  unfolding table_of
  long_totals =
      length_flat 2 (map total_words table.totals) (wide_totals table.totals)
      ∙ ap (λ (m : ℕ). m * 2) (length-map table.totals total_words ∙ length-map (pieces 2 (objects_in s) (drop totals_at s)) total_of_words ∙ length_pieces 2 (objects_in s) (drop totals_at s))

  kinds_are_kept : kinds_kept s ≡ true
  unfolding kinds_kept table_rules
  kinds_are_kept = and_both (every (between 1 9) (kinds_in s)) (all_zero (take (most_objects - objects_in s) (drop (7 + objects_in s) s)))
      (sym (header_rule s table_headed) ∙ rule 0)
      (behind s table.header.kinds (padded totals_width (totals_words table.totals) ++ (table.clock ++ (flat table.last ++ (rows_words table ++ beyond s)))) 7 (objects_in s) most_objects at_kinds long_kinds)

  totals_are_kept : totals_kept s ≡ true
  unfolding totals_kept table_rules
  totals_are_kept = and_both (every_at (total_kept_at (total_bound (clock_in s)) (kinds_in s)) 0 (pieces 2 (objects_in s) (drop totals_at s))) (all_zero (take (totals_width - objects_in s * 2) (drop (totals_at + objects_in s * 2) s)))
      (sym (totals_rule_lem s table_headed) ∙ rule 3)
      (behind s (totals_words table.totals) (table.clock ++ (flat table.last ++ (rows_words table ++ beyond s))) totals_at (objects_in s * 2) totals_width at_totals long_totals)

  lasts_are_kept : lasts_kept s ≡ true
  unfolding table_rules
  lasts_are_kept = sym (lasts_rule_lem s table_headed) ∙ rule 2

  unused_are_kept : unused_kept s ≡ true
  unfolding unused_kept
  unused_are_kept =
      let z : List ℕ = replicate (capacity_in s * (7 + size_in s) - count_in s * (7 + size_in s)) 0 in
      let at : drop (rows_at (size_in s) + count_in s * (7 + size_in s)) s ≡ z ++ beyond s = sym (drop-drop (count_in s * (7 + size_in s)) (rows_at (size_in s)) s) ∙ after_rows s laid in
      rw (at, take_at z (beyond s) (capacity_in s * (7 + size_in s) - count_in s * (7 + size_in s)) (length-replicate (capacity_in s * (7 + size_in s) - count_in s * (7 + size_in s)) 0)) (are_zeros (capacity_in s * (7 + size_in s) - count_in s * (7 + size_in s)))

  rows_are_kept : ((i : ℕ) → get_or s i 0 < word_limit) → rows_kept (kinds_in s) (clock_in s) (rows_in s) ≡ true
  unfolding rows_kept table_of table_rules kind_in
  rows_are_kept F =
      let wide = wide_rows s table_headed in
      let back = each_spelt s laid in
      and_both (every (row_kept (kinds_in s) (clock_in s)) (rows_in s)) (chained (follows (kinds_in s)) (rows_in s))
      (all_kept (size_in s) (table_of s) refl (rows_in s) wide back (rule 6))
      (sorted_chain (size_in s) (kinds_in s) (rows_in s) (all_readable (size_in s) (rows_in s) wide (low_rows s table_headed F) back) (order_sorted (map row_of (rows_in s)) (rule 4)) (rule 7))

  pub parts_are_kept : ((i : ℕ) → get_or s i 0 < word_limit) → parts_kept s ≡ true
  unfolding parts_kept
  parts_are_kept F = rw (kinds_are_kept, totals_are_kept, lasts_are_kept, rows_are_kept F) unused_are_kept

-- the whole test
pub not_held : (s : List ℕ) → head_kept s ≡ false → false ≡ holds_table s
not_held s e = sym (fails (holds_table s) (λ h. clash (head_kept s) (is_headed s (table_headed s h)) e))

pub held_short : (s : List ℕ) → length s < clock_at → false ≡ holds_table s
held_short s h = not_held s (sym (head_short s h))

module _ (s : List ℕ) (a : Bool) (ea : a ≡ head_kept s) where
  pub held_head : a ≡ false → false ≡ holds_table s
  held_head h = not_held s (sym ea ∙ h)

  module _ (h : a ≡ true) where
    pub told_headed : Headed s
    told_headed = headed s (sym ea ∙ h)

    pub held_parts : ((i : ℕ) → Fits w32 (get_or s i 0)) → (r : Bool) → r ≡ parts_kept s → r ≡ holds_table s
    held_parts F r e =
        let words : (i : ℕ) → get_or s i 0 < word_limit = λ i. (F i).fits in
        e ∙ iff (parts_kept s) (holds_table s) (λ k. parts_hold s told_headed words k) (λ k. parts_are_kept s k words)
