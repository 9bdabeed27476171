-- What a pass over a table's rows makes of the table.
use mathlib.Core.Path.{◌≡◌, refl, sym, ap, ◌∙◌, fun_ext, ap₂}
use mathlib.Core.Bool.{Bool, true, false}
use mathlib.Core.Logic.{◌≢◌}
use mathlib.Core.List.{List, [], ◌∷◌, ◌++◌, map, append-nil, Memᴰ}
use Prim.Native.Nat.{ℕ, zero, suc, ◌+◌, ◌-◌, ◌*◌, ◌≤◌, ◌<◌}
use native.Mathlib.Omega.{arith}
use lib.ListN.{length, get_or, take, drop, set, replicate, length-drop, length-map}
use lib.Seq.{paste, take_all, take_at, length-take-le}
use Rattle.meaning.specs.Tests.{every}
use Rattle.meaning.specs.Order.{Vector, others_of, low_of}
use Rattle.meaning.specs.Rows.{Row, settled_row}
use Rattle.meaning.specs.Table.{Table, kind_in, low, greatest_size, most_objects}
use Rattle.meaning.specs.Calls.{rows_settled, steps, with_rows}
use Rattle.meaning.proofs.Tests.{cases, and_both}
use Rattle.meaning.proofs.TableFacts.{facts, last_below}
use Rattle.meaning.proofs.TableRules.{kept_by_settling, settling_shortens}
use Rattle.words_layout.specs.Words.{pieces, flat, padded}
use Rattle.words_layout.specs.Layout.{row_of, row_words, rows_in, table_of, rewritten, size_in, own_in, count_in, rows_at, clock_at, totals_at}
use Rattle.words_layout.proofs.Pieces.{Each, map_back, length_pieces}
use Rattle.words_layout.proofs.RowWords.{Shaped, row_read_lem, zeros_at}
use Rattle.words_layout.proofs.Whole.{fit, put_fewer, each_spelt, wide_rows}
use Rattle.words_layout.proofs.Reading.{clock_part, short}
use Rattle.words_layout.proofs.Changing.{kinds_are}
use Rattle.table_change.specs.Changes.{Opened}
use Rattle.table_change.proofs.Changing.{opened, all_of, nothing_behind}
use Rattle.table_rules.specs.Checked.{Checked}
use Rattle.settling.specs.Below.{is_below, others_below}
use Rattle.settling.proofs.Least.{low_length, wide_others}
use Rattle.settling_step.specs.Held.{kind_at, Held}
use Rattle.settling_pass.specs.Passing.{rows_then, steps_then}

-- each other station's vector
every_other : (p : Vector → Bool) (own : ℕ) (l : List Vector) → ((k : ℕ) → k < length l → k ≢ own → p (get_or l k []) ≡ true) → every p (others_of own l) ≡ true
every_other p own [] f = refl
every_other p zero (x ∷ l) f = each l (λ k h. f (suc k) (omega arith) (omega arith))
  where
    each : (l : List Vector) → ((k : ℕ) → k < length l → p (get_or l k []) ≡ true) → every p l ≡ true
    each [] g = refl
    each (y ∷ l) g = and_both (p y) (every p l) (g 0 (omega arith)) (each l (λ k h. g (suc k) (omega arith)))
every_other p (suc own) (x ∷ l) f = and_both (p x) (every p (others_of own l)) (f 0 (omega arith) (omega arith)) (every_other p own l (λ k h d. f (suc k) (omega arith) (omega arith)))

-- what holds of each member
each_of : (P : Row → Type 0) (l : List Row) → ((r : Row) → Memᴰ r l → P r) → Each P l
each_of P [] f = tt
each_of P (x ∷ l) f = (f x (Memᴰ.head refl), each_of P l (λ r m. f r (Memᴰ.tail m)))

-- rows that are written as words
module _ (n : ℕ) where
  rows_read : (rows : List Row) → Each (Shaped n) rows → map row_of (map (row_words n) rows) ≡ rows
  rows_read [] h = refl
  rows_read (r ∷ rows) h = ap₂ ◌∷◌ (row_read_lem n r h.0) (rows_read rows h.1)

  rows_spelt : (rows : List Row) → Each (Shaped n) rows → Each (λ (ws : List ℕ). row_words n (row_of ws) ≡ ws) (map (row_words n) rows)
  rows_spelt [] h = tt
  rows_spelt (r ∷ rows) h = (ap (row_words n) (row_read_lem n r h.0), rows_spelt rows h.1)

  shaped_row : (r : Row) → (r.settled ≡ true → r ≡ settled_row r.operation) → (r.settled ≡ false → length r.operation.vector ≡ n) → Shaped n r
  shaped_row r f g = record { long = cases r.settled (λ e. rw e (ap (λ (x : Row). length x.operation.vector) (f e))) (λ e. rw e (g e)) }

module _ (s : List ℕ) (K : Checked s) where
  abbrev t : Table
  t = table_of s

  abbrev n : ℕ
  n = size_in s

  -- the kinds
  pub kinds_laid : (kinds : List ℕ) → kinds ≡ paste (replicate most_objects 0) 0 (take (totals_at - 7) (drop 7 s)) (length (take (totals_at - 7) (drop 7 s))) → kinds ≡ take most_objects (drop 7 s)
  kinds_laid kinds e =
      let l : length (take most_objects (drop 7 s)) ≡ most_objects = length-take-le most_objects (drop 7 s) (simp length-drop (omega (arith, K.long))) in
      e ∙ rw (l, take_all most_objects (take most_objects (drop 7 s)) (omega (arith, l))) (append-nil (take most_objects (drop 7 s)))

  -- Low
  last_is : pieces n n (take (length s - (clock_at + n)) (drop (clock_at + n) s)) ≡ t.last
  unfolding table_of
  last_is = rw (all_of s (clock_at + n)) refl

  size_is : t.header.size ≡ n
  unfolding table_of
  size_is = refl

  own_is : t.header.own ≡ own_in s
  unfolding table_of
  own_is = refl

  pub below : others_below t.clock (own_in s) t.last ≡ true
  unfolding others_below is_below
  below = every_other (is_below t.clock) (own_in s) t.last (λ k h d. last_below t K.by_rules k (rw (facts t K.by_rules).last_length at h) (λ e. d (e ∙ own_is)))

  pub low_asks : (length (take (clock_at + n - clock_at) (drop clock_at s)) ≤ greatest_size) × (length (take (clock_at + n - clock_at) (drop clock_at s)) * length (take (clock_at + n - clock_at) (drop clock_at s)) ≤ length (take (length s - (clock_at + n)) (drop (clock_at + n) s)))
  low_asks = rw (clock_part s n refl, (fit s K.laid).clock_long, size_is, all_of s (clock_at + n), length-drop (clock_at + n) s) (K.few, omega (arith, K.room))

  pub low_below_asks : others_below (take (clock_at + n - clock_at) (drop clock_at s)) (own_in s) (pieces (length (take (clock_at + n - clock_at) (drop clock_at s))) (length (take (clock_at + n - clock_at) (drop clock_at s))) (take (length s - (clock_at + n)) (drop (clock_at + n) s))) ≡ true
  low_below_asks = rw (clock_part s n refl, (fit s K.laid).clock_long, size_is, last_is) below

  pub low_is_lem : (r : List ℕ) → r ≡ padded greatest_size (low_of (take (clock_at + n - clock_at) (drop clock_at s)) (others_of (own_in s) (pieces (length (take (clock_at + n - clock_at) (drop clock_at s))) (length (take (clock_at + n - clock_at) (drop clock_at s))) (take (length s - (clock_at + n)) (drop (clock_at + n) s))))) → r ≡ padded greatest_size (low t)
  unfolding low
  low_is_lem r e = e ∙ rw (clock_part s n refl, (fit s K.laid).clock_long, size_is, last_is, own_is) refl

  -- as long as the clock
  low_long : length (low t) ≡ n
  unfolding low table_of
  low_long = low_length n t.clock (others_of t.header.own t.last) (fit s K.laid).clock_long (wide_others n t.header.own t.last (fit s K.laid).last_wide)

  abbrev base : ℕ
  base = clock_at + n + n * n

  abbrev part : List ℕ
  part = take (length s - base) (drop base s)

  -- the rows may be passed
  kind_same : (o : ℕ) → kind_in t.header o ≡ kind_at (take most_objects (drop 7 s)) o
  unfolding kind_in kind_at
  kind_same o = sym (rw (kinds_are s K.laid) (padded_at most_objects t.header.kinds o))
    where
      behind : (l : List ℕ) (k i : ℕ) → get_or (l ++ replicate k 0) i 0 ≡ get_or l i 0
      behind [] k i = zeros_at k i
      behind (x ∷ l) k zero = refl
      behind (x ∷ l) k (suc i) = behind l k i

      padded_at : (m : ℕ) (l : List ℕ) (i : ℕ) → get_or (padded m l) i 0 ≡ get_or l i 0
      padded_at m l i = behind l (m - length l) i

  pub rows_held : Held (take most_objects (drop 7 s)) n (pieces (7 + n) (count_in s) part)
  unfolding table_of
  rows_held = rw (all_of s base) (record { table = t; kinds_are = kind_same; by_rules = K.by_rules; spelt = map_back row_of (row_words n) (rows_in s) (each_spelt s K.laid) })

  -- Low is lent without the zeros
  pub low_lent : (low₁ : List ℕ) → low₁ ≡ padded greatest_size (low t) → take (n - 0) low₁ ≡ low t
  low_lent low₁ e = let z : n - 0 ≡ n = omega arith in ap (take (n - 0)) e ∙ take_at (low t) (replicate (greatest_size - length (low t)) 0) (n - 0) (low_long ∙ sym z)

  pub pass_asks : (low₁ : List ℕ) → low₁ ≡ padded greatest_size (low t) → (length (take (n - 0) low₁) ≡ n) × (count_in s * (7 + n) ≤ length part)
  pass_asks low₁ e = (ap length (low_lent low₁ e) ∙ low_long, rw (all_of s base, length-drop base s) (omega (arith, K.room)))

  -- what the pass leaves is what settling leaves
  same_kinds : kind_at (take most_objects (drop 7 s)) ≡ kind_in t.header
  same_kinds = fun_ext (λ o. sym (kind_same o))

  rows_same : (limit : ℕ) → rows_then (take most_objects (drop 7 s)) (low t) limit (map row_of (pieces (7 + n) (count_in s) part)) ≡ rows_settled t limit
  unfolding rows_then rows_settled table_of
  rows_same limit = rw (same_kinds, all_of s base) refl

  steps_same : (limit : ℕ) → steps_then (take most_objects (drop 7 s)) (low t) limit (map row_of (pieces (7 + n) (count_in s) part)) ≡ steps t limit
  unfolding steps_then steps table_of
  steps_same limit = rw (same_kinds, all_of s base) refl

  shaped : (limit : ℕ) → Each (Shaped n) (rows_settled t limit)
  unfolding table_of
  shaped limit =
      let F = facts (with_rows t (rows_settled t limit)) (kept_by_settling t limit K.by_rules) in
      each_of (Shaped n) (rows_settled t limit) (λ r m. shaped_row n r (F.row_facts r m).without_tag (F.row_facts r m).vector_length)

  rows_many : length t.rows ≡ count_in s
  unfolding table_of
  rows_many = length-map (rows_in s) row_of ∙ length_pieces (7 + n) (count_in s) (drop (rows_at n) s)

  pub settled_words : (limit : ℕ) (low₁ x : List ℕ) (left : ℕ) → low₁ ≡ padded greatest_size (low t) → left ≡ length (rows_then (take most_objects (drop 7 s)) (take (n - 0) low₁) limit (map row_of (pieces (7 + n) (count_in s) part))) →
      x ≡ padded (count_in s * (7 + n)) (flat (map (row_words n) (rows_then (take most_objects (drop 7 s)) (take (n - 0) low₁) limit (map row_of (pieces (7 + n) (count_in s) part))))) ++ drop (count_in s * (7 + n)) part →
      set (take base s ++ (x ++ drop (length s - base) (drop base s))) 5 left ≡ rewritten s (with_rows t (rows_settled t limit))
  settled_words limit low₁ x left e f g =
      let rows = rows_settled t limit in
      let rs = map (row_words n) rows in
      let k : left ≡ length rs = f ∙ rw (low_lent low₁ e, rows_same limit) (sym (length-map rows (row_words n))) in
      let y : x ≡ padded (count_in s * (7 + n)) (flat rs) ++ drop (count_in s * (7 + n)) (drop base s) = g ∙ rw (low_lent low₁ e, rows_same limit, all_of s base) refl in
      let few : length rs ≤ count_in s = omega (arith, length-map rows (row_words n), settling_shortens t limit, rows_many) in
      rw (nothing_behind s base, append-nil)
      (put_fewer s K.laid rs x left (rows_spelt n rows (shaped limit)) (wide_rows n rows (short n rows (shaped limit))) few y k ∙ ap (λ (l : List Row). rewritten s (with_rows t l)) (rows_read n rows (shaped limit)))

  pub settled_steps : (limit : ℕ) (low₁ : List ℕ) (taken : ℕ) → low₁ ≡ padded greatest_size (low t) → taken ≡ steps_then (take most_objects (drop 7 s)) (take (n - 0) low₁) limit (map row_of (pieces (7 + n) (count_in s) part)) → taken ≡ steps t limit
  settled_steps limit low₁ taken e f = f ∙ rw (low_lent low₁ e) (steps_same limit)

-- the same with the numbers of the head in hand
module _ (s : List ℕ) (K : Checked s) (m : ℕ) (e : m ≡ size_in s) where
  pub clock_few : length (take (clock_at + m - clock_at) (drop clock_at s)) ≤ greatest_size
  clock_few = rw e (low_asks s K).0

  pub lasts_room : length (take (clock_at + m - clock_at) (drop clock_at s)) * length (take (clock_at + m - clock_at) (drop clock_at s)) ≤ length (take (length s - (clock_at + m)) (drop (clock_at + m) s))
  lasts_room = rw e (low_asks s K).1

  pub clock_below : others_below (take (clock_at + m - clock_at) (drop clock_at s)) (own_in s) (pieces (length (take (clock_at + m - clock_at) (drop clock_at s))) (length (take (clock_at + m - clock_at) (drop clock_at s))) (take (length s - (clock_at + m)) (drop (clock_at + m) s))) ≡ true
  clock_below = rw e (low_below_asks s K)

  pub low_given : (r : List ℕ) → r ≡ padded greatest_size (low_of (take (clock_at + m - clock_at) (drop clock_at s)) (others_of (own_in s) (pieces (length (take (clock_at + m - clock_at) (drop clock_at s))) (length (take (clock_at + m - clock_at) (drop clock_at s))) (take (length s - (clock_at + m)) (drop (clock_at + m) s))))) → r ≡ padded greatest_size (low (table_of s))
  low_given r f = low_is_lem s K r (rw e at f)

module _ (s : List ℕ) (K : Checked s) (m c : ℕ) (O : Opened s m c) (kinds low₁ : List ℕ) (k : kinds ≡ take most_objects (drop 7 s)) (l : low₁ ≡ padded greatest_size (low (table_of s))) (from : ℕ) (start : from ≡ rows_at m) where
  abbrev rest : List ℕ
  rest = take (length s - from) (drop from s)

  pub lent_long : length (take (m - 0) low₁) ≡ m
  lent_long = rw O.size_is (pass_asks s K low₁ l).0

  pub lent_room : c * (7 + m) ≤ length rest
  lent_room = rw (start, O.size_is, O.count_is) (pass_asks s K low₁ l).1

  pub lent_held : Held kinds m (pieces (7 + m) c rest)
  lent_held = rw (k, start, O.size_is, O.count_is) (rows_held s K)

  pub call_steps : (limit taken : ℕ) → taken ≡ steps_then kinds (take (m - 0) low₁) limit (map row_of (pieces (7 + m) c rest)) → taken ≡ steps (table_of s) limit
  call_steps limit taken f = settled_steps s K limit low₁ taken l (rw (k, start, O.size_is, O.count_is) at f)

  pub call_words_lem : (limit left : ℕ) (x : List ℕ) → left ≡ length (rows_then kinds (take (m - 0) low₁) limit (map row_of (pieces (7 + m) c rest))) →
      x ≡ padded (c * (7 + m)) (flat (map (row_words m) (rows_then kinds (take (m - 0) low₁) limit (map row_of (pieces (7 + m) c rest))))) ++ drop (c * (7 + m)) rest →
      set (take from s ++ (x ++ drop (length s - from) (drop from s))) 5 left ≡ rewritten s (with_rows (table_of s) (rows_settled (table_of s) limit))
  call_words_lem limit left x f g = rw (start, O.size_is) (settled_words s K limit low₁ x left l (rw (k, start, O.size_is, O.count_is) at f) (rw (k, start, O.size_is, O.count_is) at g))

-- the numbers of the head are those that the words hold
pub head_opened : (s : List ℕ) → Checked s → (m c : ℕ) → m ≡ size_in s → c ≡ count_in s → Opened s m c
head_opened s K m c e f = opened s m c K.laid e f
