-- Every line of the form of a table by the rules reads back as the part of the table that it says.
use mathlib.Core.Path.{◌≡◌, refl, sym, ap, ◌∙◌, subst}
use mathlib.Core.Bool.{Bool, true, false, not, ◌&&◌, cond, false≢true}
use mathlib.Core.Logic.{⊎_elim}
use mathlib.Core.List.{List, [], ◌∷◌, ◌++◌, Memᴰ}
use Prim.Native.Nat.{ℕ, zero, suc, ◌-◌, ◌/◌, ◌%◌, ◌^◌, ◌≤◌, ◌<◌}
use native.Mathlib.Omega.{arith}
use borrow.Author.Tests.{eqb-true, leb-true, ltb-true, ltb-false}
use lib.Dec.{eqb, leb, ltb}
use lib.IntN.{ℤ}
use lib.ListN.{length, get_or, drop, replicate, length-replicate}
use Rattle.meaning.specs.Tests.{any, every}
use Rattle.meaning.specs.Order.{Vector, entry_limit, at_most, same}
use Rattle.meaning.specs.Operations.{is_counter, codes_of, code_allowed}
use Rattle.meaning.specs.Rows.{Row}
use Rattle.meaning.specs.Arrival.{gets_row}
use Rattle.meaning.specs.Table.{Table, is_table, kind_in, last_rule, storable, zeros, greatest_size}
use Rattle.meaning.proofs.Tests.{cases, and_left, and_right, or_cases}
use Rattle.meaning.proofs.Vectors.{same_eq}
use Rattle.meaning.proofs.TableFacts.{Facts, HeaderFacts, RowFacts, facts, header_facts, row_small}
use Rattle.words_layout.specs.Words as words
use Rattle.words_layout.specs.Words.{complement, word_limit}
use Rattle.words_layout.proofs.Whole.{length_padded}
use Rattle.line_shape.specs.Reading.{padded}
use Rattle.line_shape.specs.Shapes.{Fitting}
use Rattle.line_read.specs.Named.{is_opening, opening_read}
use Rattle.line_read.proofs.Taken.{opening_reads_back, opening_kinds_read_back}
use Rattle.line_read.specs.SavedNamed.{clock_read, last_read, total_read, row_read, closing_read, is_clock, is_closing, is_last, is_row, is_total}
use Rattle.line_read.proofs.SavedNamed.{clock_reads_back, last_reads_back, total_reads_back, row_reads_back, closing_reads_back}
use Rattle.form_lines.specs.FormLines.{opening_line, clock_line, last_line, total_line, row_line, closing_line}
use Rattle.words_layout.proofs.Changing.{code_fits}

-- every entry of a list is below a limit; what is behind its end is 0
abbrev pub Below : ℕ → List ℕ → Type 0
Below limit list = (i : ℕ) → get_or list i 0 < limit

-- numbers below the limit of a width fit it
pub fit_each : (w : ℕ) (list : List ℕ) → Below (256 ^ w) list → Fitting (replicate (length list) w) list
unfolding Fitting
fit_each w [] f = tt
fit_each w (x ∷ list) f = (f 0, fit_each w list (λ i. f (suc i)))

pub below_every : (list : List ℕ) → every (λ (entry : ℕ). ltb entry entry_limit) list ≡ true → Below entry_limit list
below_every [] h zero = omega arith
below_every [] h (suc i) = omega arith
below_every (x ∷ list) h zero = ltb-true x entry_limit (and_left (ltb x entry_limit) (every (λ (entry : ℕ). ltb entry entry_limit) list) h)
below_every (x ∷ list) h (suc i) = below_every list (and_right (ltb x entry_limit) (every (λ (entry : ℕ). ltb entry entry_limit) list) h) i

below_most : (u v : Vector) → at_most u v ≡ true → Below entry_limit v → Below entry_limit u
below_most [] v h f zero = omega arith
below_most [] v h f (suc i) = omega arith
below_most (x ∷ u) [] h f i = absurd (false≢true h)
below_most (x ∷ u) (y ∷ v) h f zero = omega (arith, leb-true x y (and_left (leb x y) (at_most u v) h), f 0)
below_most (x ∷ u) (y ∷ v) h f (suc i) = below_most u v (and_right (leb x y) (at_most u v) h) (λ i. f (suc i)) i

below_zeros : (n : ℕ) → Below entry_limit (replicate n 0)
below_zeros zero zero = omega arith
below_zeros zero (suc i) = omega arith
below_zeros (suc n) zero = omega arith
below_zeros (suc n) (suc i) = below_zeros n i

below_padded : (list : List ℕ) (n : ℕ) → Below entry_limit list → Below entry_limit (list ++ replicate n 0)
below_padded [] n f i = below_zeros n i
below_padded (x ∷ list) n f zero = f 0
below_padded (x ∷ list) n f (suc i) = below_padded list n (λ i. f (suc i)) i

none_beyond : (list : List ℕ) (i : ℕ) → length list ≤ i → get_or list i 0 ≡ 0
none_beyond [] zero h = refl
none_beyond [] (suc i) h = refl
none_beyond (x ∷ list) zero h = absurd (omega arith)
none_beyond (x ∷ list) (suc i) h = none_beyond list i (omega arith)

-- "Codes: 1 ..; 2 ..; 3 clear."
low_at : (lists : List (List ℕ)) → every (every (λ (c : ℕ). leb c 3)) lists ≡ true → (k : ℕ) → every (λ (c : ℕ). leb c 3) (get_or lists k []) ≡ true
low_at [] h zero = refl
low_at [] h (suc k) = refl
low_at (l ∷ lists) h zero = and_left (every (λ (c : ℕ). leb c 3) l) (every (every (λ (c : ℕ). leb c 3)) lists) h
low_at (l ∷ lists) h (suc k) = low_at lists (and_right (every (λ (c : ℕ). leb c 3) l) (every (every (λ (c : ℕ). leb c 3)) lists) h) k

low_any : (code : ℕ) (l : List ℕ) → every (λ (c : ℕ). leb c 3) l ≡ true → any (eqb code) l ≡ true → code ≤ 3
low_any code [] h e = absurd (false≢true e)
low_any code (c ∷ l) h e = ⊎_elim
    (λ q. rw (eqb-true code c q) (leb-true c 3 (and_left (leb c 3) (every (λ (c : ℕ). leb c 3) l) h)))
    (λ q. low_any code l (and_right (leb c 3) (every (λ (c : ℕ). leb c 3) l) h) q)
    (or_cases (eqb code c) (any (eqb code) l) e)

codes_low : (kind : ℕ) → every (λ (c : ℕ). leb c 3) (codes_of kind) ≡ true
unfolding codes_of
codes_low kind = low_at ([] ∷ (1 ∷ []) ∷ (1 ∷ 2 ∷ []) ∷ (1 ∷ []) ∷ (1 ∷ 2 ∷ []) ∷ (1 ∷ 2 ∷ []) ∷ (1 ∷ 2 ∷ []) ∷ (1 ∷ 3 ∷ []) ∷ (1 ∷ 2 ∷ 3 ∷ []) ∷ (1 ∷ 2 ∷ 3 ∷ []) ∷ []) refl kind

code_low : (kind code : ℕ) → code_allowed kind code ≡ true → code ≤ 3
unfolding code_allowed
code_low kind code h = low_any code (codes_of kind) (codes_low kind) h

module _ (t : Table) (h : is_table t ≡ true) where
  abbrev size : ℕ
  size = t.header.size

  F : Facts t
  F = facts t h

  H : HeaderFacts t.header
  H = header_facts t.header F.header_in_range

  kinds_below : Below 256 t.header.kinds
  unfolding kind_in
  kinds_below i = cases (ltb i (length t.header.kinds))
      (λ q. omega (arith, (H.kind_range i (ltb-true i (length t.header.kinds) q)).1))
      (λ q. omega (arith, none_beyond t.header.kinds i (ltb-false i (length t.header.kinds) q)))

  opening_fits : Fitting (1 ∷ 1 ∷ 1 ∷ 2 ∷ 1 ∷ replicate (length t.header.kinds) 1) (16 ∷ size ∷ t.header.own ∷ t.header.capacity ∷ length t.header.kinds ∷ t.header.kinds)
  unfolding Fitting
  opening_fits = (omega arith, (omega (arith, H.size_range.1), (omega (arith, H.own_in_lem, H.size_range.1), (omega (arith, H.capacity_range.1), (omega (arith, H.objects_range.1), fit_each 1 t.header.kinds kinds_below)))))

  pub opening_back : (is_opening (opening_line t.header) ≡ true) × (opening_read (opening_line t.header) ≡ record { stations = size; own = t.header.own; capacity = t.header.capacity; count = length t.header.kinds })
  unfolding opening_line
  opening_back = opening_reads_back size t.header.own t.header.capacity t.header.kinds opening_fits

  pub kinds_back : drop 6 (opening_line t.header) ≡ t.header.kinds
  unfolding opening_line
  kinds_back = opening_kinds_read_back size t.header.own t.header.capacity t.header.kinds opening_fits

  clock_below : Below entry_limit t.clock
  clock_below = below_every t.clock F.clock_words

  clock_few : length t.clock ≤ greatest_size
  clock_few = omega (arith, F.clock_length, H.size_range.1)

  pub clock_back : (is_clock size (clock_line t.clock) ≡ true) × (clock_read size (clock_line t.clock) ≡ record { vector = padded greatest_size t.clock })
  unfolding clock_line Fitting
  clock_back = rw (sym F.clock_length) (clock_reads_back t.clock clock_few (omega arith, fit_each 4 t.clock clock_below))

  -- each L[k] has N entries of 32 bits
  module _ (k : ℕ) (b : k < size) where
    abbrev vector : Vector
    vector = get_or t.last k []

    pub last_known : (length vector ≡ size) × Below entry_limit vector
    unfolding last_rule zeros
    last_known = by (eqb k t.header.own) (F.last_rule_lem k b)
      where
        by : (own : Bool) → cond own (same vector (zeros size)) (eqb (length vector) size && (at_most vector t.clock && eqb (get_or vector k 0) (get_or t.clock k 0))) ≡ true → (length vector ≡ size) × Below entry_limit vector
        by true e = let z : vector ≡ replicate size 0 = same_eq vector (zeros size) e in (ap length z ∙ length-replicate size 0, subst (Below entry_limit) (sym z) (below_zeros size))
        by false e =
            let rest = and_right (eqb (length vector) size) (at_most vector t.clock && eqb (get_or vector k 0) (get_or t.clock k 0)) e in (
              eqb-true (length vector) size (and_left (eqb (length vector) size) (at_most vector t.clock && eqb (get_or vector k 0) (get_or t.clock k 0)) e),
              below_most vector t.clock (and_left (at_most vector t.clock) (eqb (get_or vector k 0) (get_or t.clock k 0)) rest) clock_below,
            )

    pub last_back : (is_last size (last_line k vector) ≡ true) × (last_read size (last_line k vector) ≡ record { station = k; vector = padded greatest_size vector })
    unfolding last_line Fitting
    last_back =
        rw (sym last_known.0) (last_reads_back vector (omega (arith, last_known.0, H.size_range.1)) k (omega arith, (omega (arith, b, H.size_range.1), fit_each 4 vector last_known.1)))

  -- the words of any total, of an object of the table
  pub total_back : (o : ℕ) (z : ℤ) → o < length t.header.kinds → (is_total (total_line o z) ≡ true) × (total_read (total_line o z) ≡ record { object = o; high = complement z / word_limit; low = complement z % word_limit })
  unfolding total_line Fitting
  total_back o z b =
      total_reads_back o (complement z / word_limit) (complement z % word_limit) (omega arith, (omega (arith, H.objects_range.1), (omega (arith, code_fits z), (omega arith, tt))))

  module _ (r : Row) (m : Memᴰ r t.rows) where
    R : RowFacts t r
    R = F.row_facts r m

    abbrev kind : ℕ
    kind = kind_in t.header r.operation.object

    row_code : r.operation.code ≤ 3
    unfolding storable
    row_code =
        code_low kind r.operation.code (and_left (code_allowed kind r.operation.code) (gets_row kind r.operation)
        (and_right (not (is_counter kind)) (code_allowed kind r.operation.code && gets_row kind r.operation) R.is_storable))

    pub row_known : (r.operation.sender < greatest_size) × (length r.operation.vector ≤ size) × Below entry_limit r.operation.vector
    row_known = cases r.settled
        (λ q. let sender : r.operation.sender ≡ 0 = ap (λ (x : Row). x.operation.sender) (R.without_tag q) in
        let none : r.operation.vector ≡ [] = ap (λ (x : Row). x.operation.vector) (R.without_tag q) in
        (omega (arith, sender), omega (arith, ap length none), subst (Below entry_limit) (sym none) (below_zeros 0)))
        (λ q. (omega (arith, R.sender_in q, H.size_range.1), omega (arith, R.vector_length q), below_most r.operation.vector t.clock (R.below_clock q) clock_below))

    abbrev entries : List ℕ
    entries = words.padded size r.operation.vector

    pub row_back : (is_row size (row_line size r) ≡ true) × (row_read size (row_line size r) ≡ record { object = r.operation.object; code = r.operation.code; settled = cond r.settled 1 0; sender = r.operation.sender; value = r.operation.value; vector = padded greatest_size entries })
    unfolding row_line Fitting
    row_back =
        let long : length entries ≡ size = length_padded size r.operation.vector row_known.1 in
        let byte : cond r.settled 1 0 ≤ 1 = cases r.settled (λ q. rw q (omega arith)) (λ q. rw q (omega arith)) in
        subst
        (λ (n : ℕ). (is_row n (row_line size r) ≡ true) × (row_read n (row_line size r) ≡ record { object = r.operation.object; code = r.operation.code; settled = cond r.settled 1 0; sender = r.operation.sender; value = r.operation.value; vector = padded greatest_size entries }))
        long
        (row_reads_back entries (omega (arith, long, H.size_range.1)) r.operation.object r.operation.code (cond r.settled 1 0) r.operation.sender r.operation.value
        (omega arith, (omega (arith, R.declared, H.objects_range.1), (omega (arith, row_code), (omega (arith, byte), (omega (arith, row_known.0), (omega (arith, row_small t h r m), fit_each 4 entries (below_padded r.operation.vector (size - length r.operation.vector) row_known.2))))))))

  pub closing_back : (is_closing (closing_line (length t.rows)) ≡ true) × (closing_read (closing_line (length t.rows)) ≡ record { rows = length t.rows })
  unfolding closing_line Fitting
  closing_back = closing_reads_back (length t.rows) (omega arith, (omega (arith, F.within, H.capacity_range.1), tt))
