-- The order of rows is the order of their first seven words, so a row put among words is the row put among rows.
use Prim.Native.Nat.{ℕ, suc, ◌/◌, ◌%◌, ◌≤◌, ◌<◌}
use mathlib.Core.Path.{◌≡◌, refl, sym, ap, ◌∙◌}
use mathlib.Core.Bool.{Bool, ◌&&◌, ◌||◌}
use mathlib.Core.List.{List, [], ◌∷◌, ◌++◌, map}
use native.Mathlib.Omega.{arith}
use borrow.Author.Tests.{eqb-true, eq-eqb, ne_eqb, eqb-false, lt-ltb, le-ltb, ltb-true, ltb-false}
use lib.Dec.{eqb, ltb}
use lib.ListN.{length, take}
use lib.Seq.{take_at}
use Rattle.meaning.specs.Rows.{Row, key_of, lower_key, lower_row, insert_row}
use Rattle.meaning.proofs.Tests.{cases, iff}
use Rattle.words_layout.specs.Layout.{row_words, row_of}
use Rattle.words_layout.proofs.Pieces.{Each, Wide}
use Rattle.table_insert.specs.Placing.{inserted}
use Rattle.words_layout.specs.Words.{word_limit}

above : (h k : ℕ) → k ≤ h → (h ≡ k → ⊥) → k < h
above h k a b = cases (ltb k h) (λ p. ltb-true k h p) (λ p. absurd (b (omega (arith, ltb-false k h p))))

-- a number is compared by its high word, then by its low one
two_words : (v w : ℕ) (r : Bool) → (ltb (v / word_limit) (w / word_limit) || (eqb (v / word_limit) (w / word_limit) && (ltb (v % word_limit) (w % word_limit) || (eqb (v % word_limit) (w % word_limit) && r)))) ≡ (ltb v w || (eqb v w && r))
two_words v w r =
    let h = v / word_limit in let k = w / word_limit in let l = v % word_limit in let m = w % word_limit in
    cases (ltb h k) (λ p. rw (p, lt-ltb v w (omega (arith, ltb-true h k p))) refl)
    (λ p. cases (eqb h k)
    (λ q. cases (ltb l m)
    (λ a. rw (p, q, a, lt-ltb v w (omega (arith, eqb-true h k q, ltb-true l m a))) refl)
    (λ a. rw (p, q, a, le-ltb v w (omega (arith, eqb-true h k q, ltb-false l m a))) (ap (λ (b : Bool). b && r) (iff (eqb l m) (eqb v w) (λ e. eq-eqb v w (omega (arith, eqb-true h k q, eqb-true l m e))) (λ e. eq-eqb l m (omega (arith, eqb-true v w e)))))))
    (λ q. let far : k < h = above h k (ltb-false h k p) (eqb-false h k q) in
    rw (p, q, le-ltb v w (omega arith), ne_eqb v w (λ e. absurd (omega arith))) refl))

pub order_of_words : (n : ℕ) (a b : Row) → lower_key (take 7 (row_words n a)) (take 7 (row_words n b)) ≡ lower_row a b
unfolding lower_row key_of
order_of_words n a b = rw (two_words a.operation.value b.operation.value) refl

-- words that spell rows
abbrev pub IsSpelt : ℕ → List ℕ → Type 0
IsSpelt n words = row_words n (row_of words) ≡ words

pub order_of_spelt : (n : ℕ) (u w : List ℕ) → IsSpelt n u → IsSpelt n w → lower_key (take 7 u) (take 7 w) ≡ lower_row (row_of u) (row_of w)
order_of_spelt n u w p q = sym (ap (λ (l : List ℕ). lower_key (take 7 l) (take 7 w)) p) ∙ sym (ap (λ (l : List ℕ). lower_key (take 7 (row_words n (row_of u))) (take 7 l)) q) ∙ order_of_words n (row_of u) (row_of w)

module _ (n : ℕ) (key v : List ℕ) (seven : length key ≡ 7) (spelt : IsSpelt n (key ++ v)) where
  key_order : (row : List ℕ) → IsSpelt n row → lower_key key (take 7 row) ≡ lower_row (row_of (key ++ v)) (row_of row)
  key_order row h = ap (λ (l : List ℕ). lower_key l (take 7 row)) (sym (take_at key v 7 seven)) ∙ order_of_spelt n (key ++ v) row spelt h

  -- a row put among words that spell rows is the row put among the rows
  pub inserted_rows : (rows : List (List ℕ)) → Each (IsSpelt n) rows → map row_of (inserted key v rows) ≡ insert_row (row_of (key ++ v)) (map row_of rows)
  inserted_rows [] h = refl
  inserted_rows (row ∷ rows) h = cases (lower_key key (take 7 row))
      (λ q. let f = sym (key_order row h.0) ∙ q in rw (q, f) refl)
      (λ q. let f = sym (key_order row h.0) ∙ q in rw (q, f) (ap (λ (l : List Row). row_of row ∷ l) (inserted_rows rows h.1)))

  pub inserted_spelt : (rows : List (List ℕ)) → Each (IsSpelt n) rows → Each (IsSpelt n) (inserted key v rows)
  inserted_spelt [] h = (spelt, tt)
  inserted_spelt (row ∷ rows) h = cases (lower_key key (take 7 row)) (λ q. rw q (spelt, h)) (λ q. rw q (h.0, inserted_spelt rows h.1))

pub inserted_long : (key v : List ℕ) (rows : List (List ℕ)) → length (inserted key v rows) ≡ suc (length rows)
inserted_long key v [] = refl
inserted_long key v (row ∷ rows) = cases (lower_key key (take 7 row)) (λ q. rw q refl) (λ q. rw q (ap suc (inserted_long key v rows)))

pub inserted_wide : (w : ℕ) (key v : List ℕ) (rows : List (List ℕ)) → length (key ++ v) ≡ w → Wide w rows → Wide w (inserted key v rows)
inserted_wide w key v [] e h = (e, tt)
inserted_wide w key v (row ∷ rows) e h = cases (lower_key key (take 7 row)) (λ q. rw q (e, h)) (λ q. rw q (h.0, inserted_wide w key v rows e h.1))
