-- What the tests of a row's words say of the row that they spell.
use Prim.Native.Nat.{ℕ, zero, suc, ◌+◌, ◌-◌, ◌≤◌, ◌<◌}
use mathlib.Core.Path.{◌≡◌, refl, sym, ap, ◌∙◌}
use mathlib.Core.Bool.{true, false, not, ◌&&◌, ◌||◌, cond, false≢true}
use mathlib.Core.List.{List, [], ◌∷◌}
use native.Mathlib.Omega.{arith}
use borrow.Author.Tests.{eqb-true, eqb-false, eq-eqb, ne_eqb, ltb-true, ltb-false, lt-ltb, le-leb, leb-true}
use lib.Dec.{eqb, ltb, leb}
use lib.ListN.{length, get_or, drop, replicate, length-drop, get_or-eq_default}
use lib.Seq.{drop-drop, drop-cons, get_or-drop}
use Rattle.meaning.specs.Tests.{every}
use Rattle.meaning.specs.Order.{Vector, at_most}
use Rattle.meaning.specs.Operations.{number_of, value_allowed}
use Rattle.meaning.specs.Table.{Table, kind_in, storable, settled_only, tag_rule, row_rule}
use Rattle.meaning.proofs.Tests.{cases, and_left, and_right, not_holds}
use Rattle.words_layout.specs.Words.{all_zero, padded, word_limit}
use Rattle.words_layout.specs.Layout.{row_of, row_words}
use Rattle.words_layout.proofs.RowWords.{Spelt}
use Rattle.table_rules_rows.specs.RowTests.{content_kept, number_kept, unsettled_kept, tag_kept, row_kept}
use Rattle.table_rules_rows.proofs.Contents.{stores_no_counter}

-- words that are all 0
pub every_zero : (l : List ℕ) → every (λ word. eqb word 0) l ≡ all_zero l
every_zero [] = refl
every_zero (x ∷ l) = ap (λ b. eqb x 0 && b) (every_zero l)

pub zero_at : (l : List ℕ) → all_zero l ≡ true → (i : ℕ) → get_or l i 0 ≡ 0
zero_at [] e i = refl
zero_at (x ∷ l) e zero = eqb-true x 0 (and_left (eqb x 0) (all_zero l) e)
zero_at (x ∷ l) e (suc i) = zero_at l (and_right (eqb x 0) (all_zero l) e) i

pub zeros_are : (l : List ℕ) → all_zero l ≡ true → l ≡ replicate (length l) 0
zeros_are [] e = refl
zeros_are (x ∷ l) e = rw (eqb-true x 0 (and_left (eqb x 0) (all_zero l) e)) (ap (λ (t : List ℕ). 0 ∷ t) (zeros_are l (and_right (eqb x 0) (all_zero l) e)))

pub are_zeros : (n : ℕ) → all_zero (replicate n 0) ≡ true
are_zeros zero = refl
are_zeros (suc n) = are_zeros n

zero_drop : (k : ℕ) (l : List ℕ) → all_zero l ≡ true → all_zero (drop k l) ≡ true
zero_drop zero l e = e
zero_drop (suc k) [] e = refl
zero_drop (suc k) (x ∷ l) e = zero_drop k l (and_right (eqb x 0) (all_zero l) e)

pub record NumberFacts (number sender : ℕ) (v : Vector) : Type 0 where
  pub there : sender < length v
  pub some : 1 ≤ number
  pub entry : number ≡ get_or v sender 0

number_out : (number sender : ℕ) (v : Vector) → number_kept number sender v ≡ true → NumberFacts number sender v
unfolding number_kept
number_out number sender v e =
    let a = ltb sender (length v) in
    let b = leb 1 number in
    let c = eqb number (get_or v sender 0) in
    let h = and_right a (b && c) e in
    record { there = ltb-true sender (length v) (and_left a (b && c) e); some = leb-true 1 number (and_left b c h); entry = eqb-true number (get_or v sender 0) (and_right b c h) }

number_in : (number sender : ℕ) (v : Vector) → NumberFacts number sender v → number_kept number sender v ≡ true
unfolding number_kept
number_in number sender v N = rw (lt-ltb sender (length v) N.there, le-leb 1 number N.some) (eq-eqb number (get_or v sender 0) N.entry)

module _ (kinds clock row : List ℕ) (k : row_kept kinds clock row ≡ true) where
  abbrev kind : ℕ
  kind = get_or kinds (get_or row 0 0) 0

  abbrev word : ℕ
  word = get_or row 4 0

  content : content_kept kind (row_of row).operation ≡ true
  unfolding row_kept
  content = and_left (content_kept kind (row_of row).operation) (tag_kept kind clock row) k

  tag : tag_kept kind clock row ≡ true
  unfolding row_kept
  tag = and_right (content_kept kind (row_of row).operation) (tag_kept kind clock row) k

  bare_tag : word ≡ 0 → all_zero (drop 5 row) ≡ true
  unfolding tag_kept
  bare_tag h = rw (eq-eqb word 0 h) at tag

  module _ (h : word ≡ 0 → ⊥) where
    tag_parts : (not (settled_only kind) && unsettled_kept clock row) ≡ true
    unfolding tag_kept
    tag_parts = rw (ne_eqb word 0 h) at tag

    not_only : settled_only kind ≡ false
    not_only = not_holds (settled_only kind) (and_left (not (settled_only kind)) (unsettled_kept clock row) tag_parts)

    unsettled : (word ≡ 1) × (at_most (drop 7 row) clock ≡ true) × NumberFacts (get_or row 6 0) (get_or row 5 0) (drop 7 row)
    unfolding unsettled_kept
    unsettled =
        let u = and_right (not (settled_only kind)) (unsettled_kept clock row) tag_parts in
        let a = eqb word 1 in
        let b = at_most (drop 7 row) clock in
        let c = number_kept (get_or row 6 0) (get_or row 5 0) (drop 7 row) in
        let r = and_right a (b && c) u in
        (eqb-true word 1 (and_left a (b && c) u), and_left b c r, number_out (get_or row 6 0) (get_or row 5 0) (drop 7 row) (and_right b c r))

  -- its words are what would be written for it
  pub kept_spelt : (n : ℕ) → length row ≡ 7 + n → get_or row 2 0 < word_limit → Spelt n row
  kept_spelt n w f = cases (eqb word 0)
      (λ e.
      let z = eqb-true word 0 e in
      let all = bare_tag z in
      let at : (i : ℕ) → get_or row (5 + i) 0 ≡ 0 = λ i. sym (get_or-drop 5 row i 0) ∙ zero_at (drop 5 row) all i in
      let seven : all_zero (drop 7 row) ≡ true = rw (drop-drop 2 5 row) at (zero_drop 2 (drop 5 row) all) in
      let long : length (drop 7 row) ≡ n = simp length-drop (omega arith) in
      record {
        wide = w;
        word = f;
        flag = omega arith;
        number = at 1 ∙ sym (zero_at (drop 7 row) seven (get_or row 5 0));
        bare = λ _. (at 0, zeros_are (drop 7 row) seven ∙ ap (λ (m : ℕ). replicate m 0) long);
      })
      (λ e.
      let h = eqb-false word 0 e in
      let u = unsettled h in
      record { wide = w; word = f; flag = omega (arith, u.0); number = u.2.entry; bare = λ z. absurd (h z) })

  stored : storable kind (row_of row).operation ≡ true
  unfolding content_kept
  stored = and_left (storable kind (row_of row).operation) (value_allowed kind (get_or row 3 0) (row_of row).operation.value) content

  declared : ltb (get_or row 0 0) (length kinds) ≡ true
  declared = cases (ltb (get_or row 0 0) (length kinds)) (λ e. e) (λ e.
      let none : kind ≡ 0 = get_or-eq_default kinds 0 (ltb-false (get_or row 0 0) (length kinds) e) in
      absurd (false≢true (stores_no_counter kind row (omega arith) ∙ stored)))

-- the rule of a row, and the test of its words
module _ (table : Table) (row : List ℕ) (w : length row ≡ 7 + table.header.size) where
  abbrev kind_here : ℕ
  kind_here = get_or table.header.kinds (get_or row 0 0) 0

  abbrev unsettled_word : ℕ
  unsettled_word = get_or row 4 0

  long : length (drop 7 row) ≡ table.header.size
  long = simp length-drop (omega arith)

  tag_rule_lem : row_kept table.header.kinds table.clock row ≡ true → ((eqb unsettled_word 0 || not (settled_only kind_here)) && tag_rule table (row_of row)) ≡ true
  unfolding tag_rule number_of
  tag_rule_lem k = cases (eqb unsettled_word 0)
      (λ e.
      let z = zero_at (drop 5 row) (bare_tag table.header.kinds table.clock row k (eqb-true unsettled_word 0 e)) 0 in
      let s : get_or row 5 0 ≡ 0 = sym (get_or-drop 5 row 0 0) ∙ z in
      rw (e, eq-eqb (get_or row 5 0) 0 s) refl)
      (λ e.
      let h = eqb-false unsettled_word 0 e in
      let u = unsettled table.header.kinds table.clock row k h in
      let only = not_only table.header.kinds table.clock row k h in
      let there : get_or row 5 0 < table.header.size = omega (arith, u.2.there, long) in
      let some : 1 ≤ get_or (drop 7 row) (get_or row 5 0) 0 = omega (arith, u.2.some, u.2.entry) in
      rw (e, only, lt-ltb (get_or row 5 0) table.header.size there, eq-eqb (length (drop 7 row)) table.header.size long, u.1) (le-leb 1 (get_or (drop 7 row) (get_or row 5 0) 0) some))

  pub kept_rule : row_kept table.header.kinds table.clock row ≡ true → row_rule table (row_of row) ≡ true
  unfolding row_rule kind_in content_kept
  kept_rule k =
      rw (declared table.header.kinds table.clock row k, content table.header.kinds table.clock row k) (tag_rule_lem k)

  module _ (written : row_words table.header.size (row_of row) ≡ row) where
    word_read : cond (eqb unsettled_word 0) 0 1 ≡ unsettled_word
    word_read = ap (λ (l : List ℕ). get_or l 4 0) written

    number_read : number_of (row_of row).operation ≡ get_or row 6 0
    number_read = ap (λ (l : List ℕ). get_or l 6 0) written

    vector_read : padded table.header.size (row_of row).operation.vector ≡ drop 7 row
    vector_read = ap (drop 7) written

    rule_tag : ((eqb unsettled_word 0 || not (settled_only kind_here)) && tag_rule table (row_of row)) ≡ true → tag_kept kind_here table.clock row ≡ true
    unfolding tag_rule tag_kept unsettled_kept number_of
    rule_tag r = cases (eqb unsettled_word 0)
        (λ e.
        let q : (eqb (get_or row 5 0) 0 && true) ≡ true = rw e at r in
        let sender = eqb-true (get_or row 5 0) 0 (and_left (eqb (get_or row 5 0) 0) true q) in
        let number : 0 ≡ get_or row 6 0 = rw e at number_read in
        let vector : replicate (table.header.size - 0) 0 ≡ drop 7 row = rw e at vector_read in
        rw (e, drop-cons row 5 0 (omega arith), drop-cons row 6 0 (omega arith), sender, ← number, ← vector) (are_zeros (table.header.size - 0)))
        (λ e.
        let h = eqb-false unsettled_word 0 e in
        let one : 1 ≡ unsettled_word = rw e at word_read in
        let number : get_or (drop 7 row) (get_or row 5 0) 0 ≡ get_or row 6 0 = rw e at number_read in
        let a = not (settled_only kind_here) in
        let b = ltb (get_or row 5 0) table.header.size in
        let c = eqb (length (drop 7 row)) table.header.size in
        let d = at_most (drop 7 row) table.clock in
        let f = leb 1 (get_or (drop 7 row) (get_or row 5 0) 0) in
        let q : (a && (b && (c && (d && f)))) ≡ true = rw e at r in
        let q1 = and_right a (b && (c && (d && f))) q in
        let q2 = and_right c (d && f) (and_right b (c && (d && f)) q1) in
        let there : get_or row 5 0 < length (drop 7 row) = omega (arith, ltb-true (get_or row 5 0) table.header.size (and_left b (c && (d && f)) q1), long) in
        let some : 1 ≤ get_or row 6 0 = omega (arith, leb-true 1 (get_or (drop 7 row) (get_or row 5 0) 0) (and_right d f q2)) in
        rw (e, and_left a (b && (c && (d && f))) q, eq-eqb unsettled_word 1 (sym one), and_left d f q2) (number_in (get_or row 6 0) (get_or row 5 0) (drop 7 row) (record { there = there; some = some; entry = sym number })))

    pub rule_kept : row_rule table (row_of row) ≡ true → row_kept table.header.kinds table.clock row ≡ true
    unfolding row_rule kind_in row_kept content_kept
    rule_kept r =
        let u = (row_of row).operation in
        let here = ltb u.object (length table.header.kinds) in
        let inside = storable kind_here u && value_allowed kind_here u.code u.value in
        let rest = (eqb unsettled_word 0 || not (settled_only kind_here)) && tag_rule table (row_of row) in
        let q = and_right here (inside && rest) r in
        rw (and_left inside rest q) (rule_tag (and_right inside rest q))
