-- In a table by the rules the list, the headcount and the test of one value are what its rows show.
use mathlib.Core.Path.{◌≡◌, refl, sym, subst}
use mathlib.Core.Bool.{Bool, true, false, ◌&&◌, ◌||◌, false≢true}
use mathlib.Core.Logic.{⊎_elim}
use mathlib.Core.List.{Memᴰ}
use Prim.Native.Nat.{ℕ}
use lib.Dec.{eqb}
use borrow.Author.Tests.{eqb-true}
use Rattle.meaning.specs.Tests.{any}
use Rattle.meaning.specs.Operations.{Operation, is_counter, adds, removes, grow_set, two_phase_set, codes_of, code_allowed, removes_stand}
use Rattle.meaning.specs.Meaning.{on, add_of, remove_of}
use Rattle.meaning.specs.Rows.{Row, remove_rows_count, is_in_by_rows, list_by_rows, count_by_rows}
use Rattle.meaning.specs.Arrival.{gets_row}
use Rattle.meaning.specs.Table.{Table, kind_in, storable, settled_only, is_table}
use Rattle.meaning.proofs.Tests.{cases, clash, fails, and_left, or_cases, any_none}
use Rattle.meaning.proofs.OneValue.{remove_on}
use Rattle.meaning.proofs.RowLaws.{on_eq}
use Rattle.meaning.proofs.Steps.{add_not_rem}
use Rattle.meaning.proofs.Settling.{stored_codes}
use Rattle.meaning.proofs.TableFacts.{Facts, facts}
use Rattle.question_scan.specs.Showing.{shown, count_shown, value_shown}
use Rattle.question_scan.proofs.Showing.{Coded, list_shown, count_shown_lem, value_in_shown}

-- tests of codes
widen : (a p q r : Bool) → (a || (q && r)) ≡ true → (a || ((p || q) && r)) ≡ true
widen true p q r h = refl
widen false true true r h = h
widen false true false r h = absurd (false≢true h)
widen false false q r h = h

some_code : (a q r : Bool) → (a || (q && r)) ≡ true → (a || r) ≡ true
some_code true q r h = refl
some_code false true r h = h
some_code false false r h = absurd (false≢true h)

first_code : (a r : Bool) → (a || (false && r)) ≡ true → a ≡ true
first_code true r h = refl
first_code false r h = h

-- rows of kind 3 are adds
grown : (u : Operation) → storable grow_set u ≡ true → (eqb u.code adds || (remove_rows_count grow_set && eqb u.code removes)) ≡ true
unfolding storable code_allowed codes_of is_counter remove_rows_count removes_stand
grown u s = and_left (eqb u.code adds || false) (gets_row grow_set u) s

-- rows of kind 4 are adds or removes
two_phase : (u : Operation) → storable two_phase_set u ≡ true → (eqb u.code adds || (remove_rows_count two_phase_set && eqb u.code removes)) ≡ true
unfolding storable code_allowed codes_of is_counter remove_rows_count removes_stand
two_phase u s = either (eqb u.code adds) (eqb u.code removes) (and_left (eqb u.code adds || (eqb u.code removes || false)) (gets_row two_phase_set u) s)
  where
    either : (a r : Bool) → (a || (r || false)) ≡ true → (a || r) ≡ true
    either true r h = refl
    either false true h = refl
    either false false h = h

-- A stored row is an add, or a remove where removes count.
stored : (kind : ℕ) (u : Operation) → storable kind u ≡ true → (eqb u.code adds || (remove_rows_count kind && eqb u.code removes)) ≡ true
unfolding settled_only remove_rows_count
stored kind u s = cases (settled_only kind)
    (λ h. ⊎_elim
    (λ e. subst (λ (k : ℕ). storable k u ≡ true → (eqb u.code adds || (remove_rows_count k && eqb u.code removes)) ≡ true) (sym (eqb-true kind grow_set e)) (grown u) s)
    (λ e. subst (λ (k : ℕ). storable k u ≡ true → (eqb u.code adds || (remove_rows_count k && eqb u.code removes)) ≡ true) (sym (eqb-true kind two_phase_set e)) (two_phase u) s)
    (or_cases (eqb kind grow_set) (eqb kind two_phase_set) h))
    (λ h. widen (eqb u.code adds) (eqb kind two_phase_set) (removes_stand kind) (eqb u.code removes) (stored_codes kind u s h))

module _ (table : Table) (F : Facts table) (o : ℕ) where
  abbrev kind : ℕ
  kind = kind_in table.header o

  of_row : (row : Row) → Memᴰ row table.rows → (v : ℕ) → on o v row.operation ≡ true → (eqb row.operation.code adds || (remove_rows_count kind && eqb row.operation.code removes)) ≡ true
  of_row row m v p = stored kind row.operation (subst (λ (x : ℕ). storable (kind_in table.header x) row.operation ≡ true) (on_eq o v row.operation p).0 (F.row_facts row m).is_storable)

  coded : Coded o table.rows
  unfolding add_of remove_of
  coded row m v p = rw p (some_code (eqb row.operation.code adds) (remove_rows_count kind) (eqb row.operation.code removes) (of_row row m v p))

  only_adds : (row : Row) → Memᴰ row table.rows → (v : ℕ) → remove_rows_count kind ≡ false → on o v row.operation ≡ true → add_of o v row.operation ≡ true
  unfolding add_of
  only_adds row m v q p = rw p (first_code (eqb row.operation.code adds) (eqb row.operation.code removes) (subst (λ (b : Bool). (eqb row.operation.code adds || (b && eqb row.operation.code removes)) ≡ true) q (of_row row m v p)))

  no_removes : remove_rows_count kind ≡ false → (v : ℕ) → any (λ (r : Row). remove_of o v r.operation) table.rows ≡ false
  no_removes q v = any_none (λ (r : Row). remove_of o v r.operation) table.rows
      (λ row m. fails (remove_of o v row.operation) (λ x. clash (remove_of o v row.operation) x (add_not_rem o v row.operation (only_adds row m v q (remove_on o v row.operation x)))))

  list_of_facts : list_by_rows kind o table.rows ≡ shown o table.rows
  list_of_facts = list_shown kind o table.rows F.sorted coded no_removes

  count_of_facts : count_by_rows kind o table.rows ≡ count_shown o table.rows
  count_of_facts = count_shown_lem kind o table.rows F.sorted coded no_removes

-- In any table by the rules, and for every object.
pub table_list : (table : Table) (o : ℕ) → is_table table ≡ true → list_by_rows (kind_in table.header o) o table.rows ≡ shown o table.rows
table_list table o h = list_of_facts table (facts table h) o

pub table_count : (table : Table) (o : ℕ) → is_table table ≡ true → count_by_rows (kind_in table.header o) o table.rows ≡ count_shown o table.rows
table_count table o h = count_of_facts table (facts table h) o

pub table_in : (table : Table) (o v : ℕ) → is_table table ≡ true → is_in_by_rows (kind_in table.header o) o v table.rows ≡ value_shown o v table.rows
table_in table o v h = value_in_shown (kind_in table.header o) o v table.rows (table_list table o h)
