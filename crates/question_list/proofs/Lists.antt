-- The list, written one value after the other.
use mathlib.Core.Path.{◌≡◌, refl, sym, ap, ◌∙◌}
use mathlib.Core.Bool.{true}
use mathlib.Core.List.{List, [], ◌∷◌, ◌++◌}
use Prim.Native.Nat.{ℕ, suc, ◌+◌, ◌-◌, ◌≤◌, ◌<◌}
use native.Mathlib.Numerals.{add-one}
use native.Mathlib.Omega.{arith}
use lib.ListN.{length, get_or, take, drop, set, length-set, take-append-drop}
use lib.Seq.{drop-drop, take-suc-set, drop-set-lt, append_snoc}
use Rattle.meaning.specs.Rows.{Row, count_by_rows}
use Rattle.meaning.specs.Table.{Table, is_table}
use Rattle.meaning.specs.Questions.{by_rows}
use Rattle.words_layout.specs.Layout.{table_of}
use Rattle.table_rules.specs.Checked.{Checked}
use Rattle.meaning.proofs.Tests.{cases}
use Rattle.question_scan.specs.Showing.{shows, shown, before_shown}
use Rattle.question_scan.proofs.Tabled.{table_list}
use Rattle.question_list.specs.Walking.{values_behind, next_value}
use Rattle.question_list.specs.declared.Found.{Found}

-- the first value shown, and those behind the row that shows it
first_shown : (o : ℕ) (rows : List Row) → 0 < length (shown o rows) → shown o rows ≡ get_or (shown o rows) 0 0 ∷ shown o (drop (before_shown o rows + 1) rows)
unfolding before_shown
first_shown o [] h = absurd (omega arith)
first_shown o (row ∷ rows) h = cases (shows o row rows)
    (λ q. rw q refl)
    (λ q. let e : suc (before_shown o rows) + 1 ≡ suc (before_shown o rows + 1) = omega arith in rw (q, e) (first_shown o rows (rw q at h)))

-- A walk: what is left is the next value and what is left behind it.
pub next_left : (passed o : ℕ) (table : Table) → 0 < length (values_behind passed o table) → values_behind passed o table ≡ (next_value passed o table).value.0 ∷ values_behind (next_value passed o table).passed.0 o table
unfolding values_behind next_value
next_left passed o table h =
    let rows = drop passed table.rows in
    let e : passed + before_shown o rows + 1 ≡ passed + (before_shown o rows + 1) = omega arith in
    rw (e, sym (drop-drop (before_shown o rows + 1) passed table.rows)) (first_shown o rows h)

-- A walk starts before the first row: all values of the list are left.
pub all_left : (o : ℕ) (table : Table) → is_table table ≡ true → (by_rows table).list_at o ≡ values_behind 0 o table
unfolding by_rows values_behind
all_left o table h = table_list table o h

abbrev listed : List ℕ → ℕ → List ℕ
listed s o = (by_rows (table_of s)).list_at o

-- So many values are written, so many are left, and the rest of the space is as it was.
pub record Writing (s : List ℕ) (o : ℕ) (out₀ out : List ℕ) (passed to left : ℕ) : Type 0 where
  pub sized : length out ≡ length out₀
  pub room : to + left ≤ length out₀
  pub number : length (values_behind passed o (table_of s)) ≡ left
  pub whole : listed s o ++ drop (length (listed s o)) out₀ ≡ take to out ++ (values_behind passed o (table_of s) ++ drop (to + left) out)

pub writing_start : (s : List ℕ) (o count n : ℕ) (out : List ℕ) → Checked s → count ≡ (by_rows (table_of s)).count_at o → count ≤ length out → n ≡ count → Writing s o out out 0 0 (n - 0)
unfolding by_rows count_by_rows
writing_start s o count n out K e h en =
    let m : n - 0 ≡ count = omega arith in
    let z : 0 + count ≡ count = omega arith in
    rw m (record {
      sized = refl;
      room = omega arith;
      number = ap (λ (l : List ℕ). length l) (sym (all_left o (table_of s) K.by_rules)) ∙ sym e;
      whole = rw z (ap (λ (k : ℕ). listed s o ++ drop k out) (sym e) ∙ ap (λ (l : List ℕ). l ++ drop count out) (all_left o (table_of s) K.by_rules));
    })

module _ (s : List ℕ) (o : ℕ) (out₀ out : List ℕ) (passed to count : ℕ) (W : Writing s o out₀ out passed to (count - to)) where
  abbrev left : ℕ
  left = count - to

  pub writing_done : count ≤ to → out ≡ listed s o ++ drop (length (listed s o)) out₀
  writing_done h =
      let z : left ≡ 0 = omega arith in
      let t : to + 0 ≡ to = omega arith in
      let none : values_behind passed o (table_of s) ≡ [] = empty (values_behind passed o (table_of s)) (W.number ∙ z) in
      sym (W.whole ∙ rw (none, z, t) (take-append-drop to out))
    where
      empty : (l : List ℕ) → length l ≡ 0 → l ≡ []
      empty [] e = refl
      empty (x ∷ l) e = absurd (omega arith)

  module _ (h : to < count) where
    one_left : 0 < length (values_behind passed o (table_of s))
    one_left = omega (arith, W.number)

    to_within : to < length out
    to_within = omega (arith, W.room, W.sized)

    pub writing_next : (f : Found) → f ≡ next_value passed o (table_of s) → Writing s o out₀ (set out to f.value.0) f.passed.0 (to + 1) (count - (to + 1))
    writing_next f e =
        let next = next_left passed o (table_of s) one_left in
        let many : left ≡ suc (count - (to + 1)) = omega arith in
        let behind : to + 1 + (count - (to + 1)) ≡ to + left = omega arith in
        rw e (record {
          sized = length-set out to (next_value passed o (table_of s)).value.0 ∙ W.sized;
          room = omega (arith, W.room);
          number = omega (arith, ap (λ (l : List ℕ). length l) next, W.number);
          whole =
              W.whole ∙ rw (behind, add-one to, take-suc-set out to (next_value passed o (table_of s)).value.0 to_within, drop-set-lt (to + left) out to (next_value passed o (table_of s)).value.0 (omega arith))
              (ap (λ (l : List ℕ). take to out ++ (l ++ drop (to + left) out)) next
              ∙ sym (append_snoc (take to out) (next_value passed o (table_of s)).value.0 (values_behind (next_value passed o (table_of s)).passed.0 o (table_of s) ++ drop (to + left) out)));
        })
