-- The words of an arrival's row.
use mathlib.Core.Path.{◌≡◌, refl, sym, ap, ◌∙◌}
use mathlib.Core.List.{List, [], ◌∷◌, ◌++◌}
use Prim.Native.Nat.{ℕ, zero, suc, ◌-◌, ◌≤◌, ◌<◌}
use native.Mathlib.Omega.{arith}
use lib.ListN.{length, get_or, take, replicate, length-replicate}
use Rattle.meaning.specs.Order.{Vector}
use Rattle.meaning.specs.Rows.{insert_row, settled_row, unsettled_row}
use Rattle.meaning.specs.Calls.{with_rows}
use Rattle.words_layout.specs.Layout.{rewritten, row_of, row_words, table_of}
use Rattle.words_layout.proofs.RowWords.{row_written, zeros_at}
use Rattle.table_drop.specs.Arriving.{operation_of}
use Rattle.table_drop.specs.declared.Arrival.{Arrival}
use Rattle.meaning.specs.Table.{greatest_size}
use Rattle.words_layout.specs.Words.{of_two_words, word_limit}

-- a value of one word, read from two
one_word : (value : ℕ) → of_two_words 0 value ≡ value
one_word value = omega arith

-- an unsettled row: the arrival with its tag
module _ (n : ℕ) (a : Arrival) (v : Vector) (k : ℕ) (long : length v ≡ n) (small : a.value.0 < word_limit) (number : k ≡ get_or v a.sender.0 0) where
  abbrev tagged : List ℕ
  tagged = a.object ∷ 0 ∷ a.value.0 ∷ a.code ∷ 1 ∷ a.sender.0 ∷ k ∷ []

  pub tagged_spelt : row_words n (row_of (tagged ++ v)) ≡ tagged ++ v
  tagged_spelt = row_written n (tagged ++ v) (record { wide = omega arith; word = small; flag = omega arith; number = number; bare = λ e. absurd (omega arith) })

  pub tagged_put : (s s₁ : List ℕ) → s₁ ≡ rewritten s (with_rows (table_of s) (insert_row (row_of (tagged ++ v)) (table_of s).rows)) → s₁ ≡ rewritten s (with_rows (table_of s) (insert_row (unsettled_row (operation_of a v)) (table_of s).rows))
  tagged_put s s₁ e = e ∙ rw (one_word a.value.0) refl

-- zeros as long as the group is large
zeros_front : (m n : ℕ) → n ≤ m → take {A = ℕ} n (replicate m 0) ≡ replicate n 0
zeros_front m zero h = refl
zeros_front zero (suc n) h = absurd (omega arith)
zeros_front (suc m) (suc n) h = ap (λ (l : List ℕ). 0 ∷ l) (zeros_front m n (omega arith))

-- a settled row: the arrival without a tag
module _ (n : ℕ) (a : Arrival) (few : n ≤ greatest_size) (small : a.value.0 < word_limit) where
  abbrev bare : List ℕ
  bare = a.object ∷ 0 ∷ a.value.0 ∷ a.code ∷ 0 ∷ 0 ∷ 0 ∷ []

  abbrev none : List ℕ
  none = take (n - 0) (replicate greatest_size 0)

  none_is : none ≡ replicate n 0
  none_is = let q : n - 0 ≡ n = omega arith in rw q (zeros_front greatest_size n few)

  pub none_long : length none ≡ n
  none_long = ap length none_is ∙ length-replicate n 0

  pub bare_spelt : row_words n (row_of (bare ++ none)) ≡ bare ++ none
  bare_spelt = row_written n (bare ++ none) (record { wide = omega (arith, none_long); word = small; flag = omega arith; number = rw none_is (sym (zeros_at n 0)); bare = λ e. (refl, none_is) })

  pub bare_put : (s s₁ : List ℕ) → s₁ ≡ rewritten s (with_rows (table_of s) (insert_row (row_of (bare ++ none)) (table_of s).rows)) → s₁ ≡ rewritten s (with_rows (table_of s) (insert_row (settled_row (operation_of a [])) (table_of s).rows))
  bare_put s s₁ e = e ∙ rw (one_word a.value.0) refl
