-- An arrival's rows in one form for all kinds: some go, and one may be put.
use mathlib.Core.Path.{◌≡◌, refl, ap, ◌∙◌}
use mathlib.Core.Bool.{Bool, true, false, not}
use mathlib.Core.List.{List, [], ◌∷◌}
use Prim.Native.Nat.{ℕ, suc}
use lib.Dec.{eqb}
use lib.ListN.{length}
use Rattle.meaning.specs.Tests.{those}
use Rattle.meaning.specs.Operations.{Operation, is_counter, adds}
use Rattle.meaning.specs.Rows.{Row, insert_row, lower_row}
use Rattle.meaning.specs.Arrival.{taken_by, with_row, same_value, tagged_arrival, settled_arrival, rows_after}
use Rattle.meaning.proofs.Tests.{cases}
use Rattle.table_drop.specs.Arriving.{is_kept, goes, puts, row_for}

those_cong : (p q : Row → Bool) (rows : List Row) → ((row : Row) → p row ≡ q row) → those p rows ≡ those q rows
those_cong p q [] h = refl
those_cong p q (row ∷ rows) h = rw (h row, those_cong p q rows h) refl

those_all : (rows : List Row) → those (λ (row : Row). true) rows ≡ rows
those_all [] = refl
those_all (row ∷ rows) = ap (λ (l : List Row). row ∷ l) (those_all rows)

module _ (kind : ℕ) (t : Operation) (rows : List Row) where
  -- the rows that stay
  abbrev stay : List Row
  stay = those (λ (row : Row). not (goes kind t row)) rows

  abbrev Apart : Type 0
  Apart = rows_after kind t rows ≡ with_row (puts kind t rows) (row_for kind t) stay

  stay_counter : is_counter kind ≡ true → stay ≡ rows
  unfolding goes
  stay_counter c = those_cong (λ (row : Row). not (goes kind t row)) (λ (row : Row). true) rows (λ row. rw c refl) ∙ those_all rows

  stay_added : is_counter kind ≡ false → is_kept kind ≡ true → eqb t.code adds ≡ true → stay ≡ rows
  unfolding goes
  stay_added c k e = those_cong (λ (row : Row). not (goes kind t row)) (λ (row : Row). true) rows (λ row. rw (c, k, e) refl) ∙ those_all rows

  stay_other : is_counter kind ≡ false → is_kept kind ≡ true → eqb t.code adds ≡ false → stay ≡ those (λ (row : Row). not (same_value t row)) rows
  unfolding goes
  stay_other c k e = those_cong (λ (row : Row). not (goes kind t row)) (λ (row : Row). not (same_value t row)) rows (λ row. rw (c, k, e) refl)

  stay_tagged : is_counter kind ≡ false → is_kept kind ≡ false → stay ≡ those (λ (row : Row). not (taken_by kind t row)) rows
  unfolding goes
  stay_tagged c k = those_cong (λ (row : Row). not (goes kind t row)) (λ (row : Row). not (taken_by kind t row)) rows (λ row. rw (c, k) refl)

  after_counter : is_counter kind ≡ true → Apart
  unfolding rows_after with_row puts
  after_counter c = rw (stay_counter c, c) refl

  after_added : is_counter kind ≡ false → is_kept kind ≡ true → eqb t.code adds ≡ true → Apart
  unfolding rows_after with_row puts row_for settled_arrival
  after_added c k e = rw (stay_added c k e, c, k, e) refl

  after_other : is_counter kind ≡ false → is_kept kind ≡ true → eqb t.code adds ≡ false → Apart
  unfolding rows_after with_row puts row_for settled_arrival
  after_other c k e = rw (stay_other c k e, c, k, e) refl

  after_tagged : is_counter kind ≡ false → is_kept kind ≡ false → Apart
  unfolding rows_after with_row puts row_for tagged_arrival
  after_tagged c k = rw (stay_tagged c k, c, k) refl

  -- in any kind, some rows go and one may be put
  pub rows_after_lem : rows_after kind t rows ≡ with_row (puts kind t rows) (row_for kind t) (those (λ (row : Row). not (goes kind t row)) rows)
  rows_after_lem = cases (is_counter kind) after_counter
      (λ c. cases (is_kept kind) (λ k. cases (eqb t.code adds) (after_added c k) (after_other c k)) (after_tagged c))

-- a row put is one more
length_insert : (new : Row) (rows : List Row) → length (insert_row new rows) ≡ suc (length rows)
length_insert new [] = refl
length_insert new (row ∷ rows) = cases (lower_row new row) (λ q. rw q refl) (λ q. rw q (ap suc (length_insert new rows)))

module _ (kind : ℕ) (t : Operation) (rows : List Row) where
  pub after_put : puts kind t rows ≡ true → rows_after kind t rows ≡ insert_row (row_for kind t) (those (λ (row : Row). not (goes kind t row)) rows)
  unfolding with_row
  after_put p = rows_after_lem kind t rows ∙ rw p refl

  pub after_none : puts kind t rows ≡ false → rows_after kind t rows ≡ those (λ (row : Row). not (goes kind t row)) rows
  unfolding with_row
  after_none p = rows_after_lem kind t rows ∙ rw p refl

  pub count_put : puts kind t rows ≡ true → length (rows_after kind t rows) ≡ suc (length (those (λ (row : Row). not (goes kind t row)) rows))
  count_put p = ap length (after_put p) ∙ length_insert (row_for kind t) (those (λ (row : Row). not (goes kind t row)) rows)

  pub count_none : puts kind t rows ≡ false → length (rows_after kind t rows) ≡ length (those (λ (row : Row). not (goes kind t row)) rows)
  count_none p = ap length (after_none p)
