-- What the scans read, in the words of the meaning.
use Prim.Native.Nat.{ℕ, zero, suc, ◌+◌, ◌-◌, ◌*◌, ◌≤◌, ◌<◌}
use mathlib.Core.Path.{◌≡◌, refl, sym, ap, ◌∙◌}
use mathlib.Core.Bool.{Bool, true, false, not, ◌&&◌}
use mathlib.Core.List.{List, [], ◌∷◌, map}
use native.Mathlib.Nat.{suc-mul}
use native.Mathlib.Omega.{arith}
use borrow.Author.Tests.{eqb-true, eqb-false, eq-eqb, ne_eqb}
use mir.Val.{Fits}
use mir.Syntax.{w32}
use lib.Dec.{eqb}
use lib.ListN.{length, get_or, take, drop}
use lib.Seq.{drop-drop}
use Rattle.meaning.specs.Meaning.{on, add_of}
use Rattle.meaning.specs.Rows.{Row}
use Rattle.meaning.specs.Arrival.{same_value}
use Rattle.meaning.proofs.Tests.{iff, and_left, and_right, and_true}
use Rattle.meaning.proofs.Steps.{and_false}
use Rattle.words_layout.specs.Words.{pieces, of_two_words, word_limit}
use Rattle.words_layout.specs.Layout.{row_of}
use Rattle.words_layout.proofs.Pieces.{word_at}
use Rattle.question_scan.specs.Showing.{followed, shows, shown, shows_value, value_shown, before_shown, count_shown, same_key}
use Rattle.question_scan.proofs.Listing.{before_most, shown_none, shown_next, rows_number, rows_behind}

-- two values are the same where their words are
value_words : (h l h' l' : ℕ) → l < word_limit → l' < word_limit → eqb (of_two_words h l) (of_two_words h' l') ≡ (eqb h h' && eqb l l')
value_words h l h' l' p q = iff (eqb (of_two_words h l) (of_two_words h' l')) (eqb h h' && eqb l l')
    (λ e. let k = eqb-true (of_two_words h l) (of_two_words h' l') e in let a : h ≡ h' = omega arith in let b : l ≡ l' = omega arith in rw (eq-eqb h h' a, eq-eqb l l' b) refl)
    (λ e. let a = eqb-true h h' (and_left (eqb h h') (eqb l l') e) in let b = eqb-true l l' (and_right (eqb h h') (eqb l l') e) in eq-eqb (of_two_words h l) (of_two_words h' l') (omega arith))

-- whether a row of words shows, by its words and those of the row behind
module _ (s : List ℕ) (w at more o : ℕ) (room : at + more * w ≤ length s) (some : 0 < more) (wide : 7 ≤ w) (known : (i : ℕ) → Fits w32 (get_or s i 0)) where
  abbrev here : Row
  here = row_of (take w (drop at s))

  abbrev behind : List Row
  behind = map row_of (pieces w (more - 1) (drop (at + w) s))

  object_is : here.operation.object ≡ get_or s at 0
  object_is = let e : at + 0 ≡ at = omega arith in word_at s w at 0 (omega arith) ∙ rw e refl

  code_is : here.operation.code ≡ get_or s (at + 3) 0
  code_is = word_at s w at 3 (omega arith)

  pub other_object : (get_or s at 0 ≡ o → ⊥) → eqb (get_or s at 0) o ≡ shows o here behind
  unfolding shows add_of on
  other_object h = rw (ne_eqb (get_or s at 0) o h) (rw (ne_eqb here.operation.object o (λ e. h (sym object_is ∙ e))) refl)

  no_add : (get_or s (at + 3) 0 ≡ 1 → ⊥) → false ≡ shows o here behind
  unfolding shows add_of
  no_add h = rw (ne_eqb here.operation.code 1 (λ e. h (sym code_is ∙ e))) (sym (none (on o here.operation.value here.operation)))
    where
      none : (a : Bool) → ((a && false) && not (followed here behind)) ≡ false
      none true = refl
      none false = refl

  pub no_add_there : (b : Bool) → b ≡ eqb (get_or s (at + 3) 0) 1 → b ≡ false → b ≡ shows o here behind
  no_add_there b e f = f ∙ no_add (eqb-false (get_or s (at + 3) 0) 1 (sym e ∙ f))

  value_is : here.operation.value ≡ of_two_words (get_or s (at + 1) 0) (get_or s (at + 2) 0)
  value_is = rw (word_at s w at 1 (omega arith), word_at s w at 2 (omega arith)) refl

  module _ (v : ℕ) (small : Fits w32 v) where
    other_value : (here.operation.value ≡ v → ⊥) → false ≡ shows_value o v here behind
    unfolding shows_value
    other_value h = rw (ne_eqb here.operation.value v h) (sym (and_false (shows o here behind)))

    pub too_high : (get_or s (at + 1) 0 ≡ 0 → ⊥) → eqb (get_or s (at + 1) 0) 0 ≡ shows_value o v here behind
    too_high h = ne_eqb (get_or s (at + 1) 0) 0 h ∙ other_value (λ e. let k = sym value_is ∙ e in h (omega (arith, k, small)))

    pub other_low : get_or s (at + 1) 0 ≡ 0 → (b : Bool) → b ≡ eqb (get_or s (at + 2) 0) v → b ≡ false → b ≡ shows_value o v here behind
    other_low z b q f = f ∙ other_value (λ e. let k = sym value_is ∙ e in eqb-false (get_or s (at + 2) 0) v (sym q ∙ f) (omega (arith, k, z)))

    pub that_value : get_or s (at + 1) 0 ≡ 0 → (b : Bool) → b ≡ eqb (get_or s (at + 2) 0) v → b ≡ true → (r : Bool) → r ≡ shows o here behind → r ≡ shows_value o v here behind
    unfolding shows_value
    that_value z b q t r e =
        let l = eqb-true (get_or s (at + 2) 0) v (sym q ∙ t) in
        let k : here.operation.value ≡ v = (let q = value_is in omega (arith, q, z, l)) in
        rw (eq-eqb here.operation.value v k) (e ∙ sym (and_true (shows o here behind)))

  module _ (own : get_or s at 0 ≡ o) (flag : Bool) (code_tested : flag ≡ eqb (get_or s (at + 3) 0) 1) (set : flag ≡ true) where
    add : get_or s (at + 3) 0 ≡ 1
    add = eqb-true (get_or s (at + 3) 0) 1 (sym code_tested ∙ set)

    by_next : shows o here behind ≡ not (followed here behind)
    unfolding shows add_of on
    by_next = rw (eq-eqb here.operation.object o (object_is ∙ own), eq-eqb here.operation.value here.operation.value refl, eq-eqb here.operation.code 1 (code_is ∙ add)) refl

    pub last_shows : more ≡ 1 → eqb more 1 ≡ shows o here behind
    last_shows e = eq-eqb more 1 e ∙ sym (by_next ∙ ap (λ (m : ℕ). not (followed here (map row_of (pieces w (m - 1) (drop (at + w) s))))) e)

    -- with a row behind
    module _ (n : more ≡ 1 → ⊥) where
      abbrev next : Row
      next = row_of (take w (drop (at + w) s))

      ahead : (m : ℕ) → 0 < m → followed here (map row_of (pieces w m (drop (at + w) s))) ≡ same_value here.operation next
      ahead zero h = absurd (omega arith)
      ahead (suc m) h = refl

      next_object : next.operation.object ≡ get_or s (at + w) 0
      next_object = let e : at + w + 0 ≡ at + w = omega arith in word_at s w (at + w) 0 (omega arith) ∙ rw e refl

      same_is : same_value here.operation next ≡ (eqb (get_or s (at + w) 0) o && (eqb (get_or s (at + w + 1) 0) (get_or s (at + 1) 0) && eqb (get_or s (at + w + 2) 0) (get_or s (at + 2) 0)))
      unfolding same_value on
      same_is =
          rw (next_object, object_is, own, word_at s w (at + w) 1 (omega arith), word_at s w (at + w) 2 (omega arith), word_at s w at 1 (omega arith), word_at s w at 2 (omega arith))
          (ap (λ (b : Bool). eqb (get_or s (at + w) 0) o && b) (value_words (get_or s (at + w + 1) 0) (get_or s (at + w + 2) 0) (get_or s (at + 1) 0) (get_or s (at + 2) 0) (omega (arith, known (at + w + 2))) (omega (arith, known (at + 2)))))

      decided : shows o here behind ≡ not (eqb (get_or s (at + w) 0) o && (eqb (get_or s (at + w + 1) 0) (get_or s (at + 1) 0) && eqb (get_or s (at + w + 2) 0) (get_or s (at + 2) 0)))
      decided = by_next ∙ ap not (ahead (more - 1) (omega arith) ∙ same_is)

      pub by_key : (r : Bool) → r ≡ not (same_key s at (at + w)) → r ≡ shows o here behind
      unfolding same_key
      by_key r e = e ∙ rw own (sym decided)

-- the place of a row, and of the one behind it
module _ (n i w : ℕ) where
  pub same_place : n ≡ i → n * w ≡ i * w
  same_place e = ap (λ (k : ℕ). k * w) e

  pub same_place_from : (from : ℕ) → n ≡ i → from + n * w ≡ from + i * w
  same_place_from from e = ap (λ (k : ℕ). from + k * w) e

pub next_place : (i w : ℕ) → (i + 1) * w ≡ i * w + w
next_place i w = omega (arith, suc-mul i w)

pub next_place_from : (i w from : ℕ) → from + (i + 1) * w ≡ from + i * w + w
next_place_from i w from = omega (arith, suc-mul i w)

-- The row behind i others, at a place, and the rows behind it.
module _ (s : List ℕ) (w count i at : ℕ) (h : i < count) where
  abbrev row : Row
  row = row_of (take w (drop at s))

  abbrev left : List Row
  left = map row_of (pieces w (count - i) (drop at s))

  abbrev rest : List Row
  rest = map row_of (pieces w (count - (i + 1)) (drop (at + w) s))

  first_left : left ≡ row ∷ rest
  first_left = let n : count - i ≡ suc (count - (i + 1)) = omega arith in rw n (rw (drop-drop w at s) refl)

  one_less : count - i - 1 ≡ count - (i + 1)
  one_less = omega arith

  module _ (o place : ℕ) (ep : place ≡ at) (r : Bool) (e : r ≡ shows o (row_of (take w (drop place s))) (map row_of (pieces w (count - i - 1) (drop (place + w) s)))) where
    shows_is : shows o row rest ≡ r
    shows_is = sym (rw (ep, one_less) at e)

    before_here : r ≡ true → before_shown o left ≡ 0
    unfolding before_shown
    before_here t = rw first_left (rw (shows_is ∙ t) refl)

    before_next : r ≡ false → before_shown o left ≡ suc (before_shown o rest)
    unfolding before_shown
    before_next t = rw first_left (rw (shows_is ∙ t) refl)

    -- the next row that shows a value is found, or passed over
    module _ (all : ℕ) (passed : all ≡ i + before_shown o left) where
      pub next_found : r ≡ true → i ≡ all
      next_found t = omega (arith, passed, before_here t)

      pub next_passed : r ≡ false → (next : ℕ) → next ≡ at + w → all ≡ i + 1 + before_shown o (map row_of (pieces w (count - (i + 1)) (drop next s)))
      next_passed t next en = rw en (omega (arith, passed, before_next t))

    count_here : r ≡ true → count_shown o left ≡ suc (count_shown o rest)
    unfolding count_shown
    count_here t = rw first_left (rw (shows_is ∙ t) refl)

    count_next : r ≡ false → count_shown o left ≡ count_shown o rest
    unfolding count_shown
    count_next t = rw first_left (rw (shows_is ∙ t) refl)

    -- a value is counted where it is shown
    module _ (all found : ℕ) (sofar : all ≡ found + count_shown o left) (n next : ℕ) (en : next ≡ at + w) where
      pub counted : r ≡ true → n ≡ found + 1 → all ≡ n + count_shown o (map row_of (pieces w (count - (i + 1)) (drop next s)))
      counted t k = rw en (omega (arith, sofar, count_here t, k))

      pub counting_on : r ≡ false → n ≡ found → all ≡ n + count_shown o (map row_of (pieces w (count - (i + 1)) (drop next s)))
      counting_on t k = rw en (omega (arith, sofar, count_next t, k))

  module _ (o v place : ℕ) (ep : place ≡ at) (r : Bool) (e : r ≡ shows_value o v (row_of (take w (drop place s))) (map row_of (pieces w (count - i - 1) (drop (place + w) s)))) (all : Bool) (sofar : all ≡ value_shown o v left) where
    shows_value_is : shows_value o v row rest ≡ r
    shows_value_is = sym (rw (ep, one_less) at e)

    pub value_found : r ≡ true → true ≡ all
    unfolding value_shown
    value_found t = sym (sofar ∙ rw first_left (rw (shows_value_is ∙ t) refl))

    pub value_passed : r ≡ false → (next : ℕ) → next ≡ at + w → all ≡ value_shown o v (map row_of (pieces w (count - (i + 1)) (drop next s)))
    unfolding value_shown
    value_passed t next en = rw en (sofar ∙ rw first_left (rw (shows_value_is ∙ t) refl))

-- all are passed
module _ (s : List ℕ) (w count i at o : ℕ) (done : count ≤ i) where
  none_left_over : map row_of (pieces w (count - i) (drop at s)) ≡ []
  none_left_over = let z : count - i ≡ 0 = omega arith in rw z refl

  pub next_none : i ≤ count → (all : ℕ) → all ≡ i + before_shown o (map row_of (pieces w (count - i) (drop at s))) → count ≡ all
  unfolding before_shown
  next_none most all e = let z : before_shown o (map row_of (pieces w (count - i) (drop at s))) ≡ 0 = rw none_left_over refl in omega (arith, e, z)

  pub counting_done : (all found : ℕ) → all ≡ found + count_shown o (map row_of (pieces w (count - i) (drop at s))) → found ≡ all
  unfolding count_shown
  counting_done all found e = let z : count_shown o (map row_of (pieces w (count - i) (drop at s))) ≡ 0 = rw none_left_over refl in omega (arith, e, z)

  pub value_none : (v : ℕ) (all : Bool) → all ≡ value_shown o v (map row_of (pieces w (count - i) (drop at s))) → false ≡ all
  unfolding value_shown
  value_none v all e = sym (e ∙ rw none_left_over refl)

-- Behind the next row that shows a value: so many rows and it are passed.
module _ (s : List ℕ) (w o at more passed : ℕ) (p : passed ≡ before_shown o (map row_of (pieces w more (drop at s)))) where
  passed_most : passed ≤ more
  passed_most = omega (arith, p, before_most o (map row_of (pieces w more (drop at s))), rows_number w more (drop at s))

  pub none_left : passed ≡ more → shown o (map row_of (pieces w more (drop at s))) ≡ []
  none_left e = shown_none o (map row_of (pieces w more (drop at s))) (sym p ∙ e ∙ sym (rows_number w more (drop at s)))

  module _ (n : passed ≡ more → ⊥) where
    passed_less : passed < more
    passed_less = omega (arith, n, passed_most)

    pub step_most : passed + 1 ≤ more
    step_most = omega (arith, passed_less)

    pub next_and_rest : shown o (map row_of (pieces w more (drop at s))) ≡ (row_of (take w (drop (at + passed * w) s))).operation.value ∷ shown o (map row_of (pieces w (more - (passed + 1)) (drop (at + (passed + 1) * w) s)))
    next_and_rest = shown_next o (map row_of (pieces w more (drop at s))) _ _ (ap (λ (k : ℕ). drop k (map row_of (pieces w more (drop at s)))) (sym p) ∙ rows_behind w more passed at s passed_less)
