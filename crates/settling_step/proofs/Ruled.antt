-- What the table rules say of the rows beside a row that is due, and that a step keeps them.
use mathlib.Core.Path.{◌≡◌, refl, subst}
use mathlib.Core.Bool.{true, false, ◌&&◌, ◌||◌}
use mathlib.Core.List.{List, [], ◌∷◌, ◌++◌, Memᴰ}
use Prim.Native.Nat.{ℕ}
use lib.Dec.{eqb}
use Rattle.meaning.specs.Operations.{Operation, adds, removes, removes_stand}
use Rattle.meaning.specs.Rows.{Row, unsettled_row, settled_row}
use Rattle.meaning.specs.Arrival.{same_value}
use Rattle.meaning.specs.Settling.{step_at}
use Rattle.meaning.specs.Table.{Table, kind_in, storable, settled_only, is_table}
use Rattle.meaning.specs.Calls.{with_rows}
use Rattle.meaning.proofs.Tests.{clash, fails, mem_mid}
use Rattle.meaning.proofs.Ascending.{Sorted}
use Rattle.meaning.proofs.RowLaws.{on_eq}
use Rattle.meaning.proofs.Settling.{stored_codes}
use Rattle.meaning.proofs.TableFacts.{Facts, RowFacts, facts}
use Rattle.meaning.proofs.TableRules.{kept_by_step}
use Rattle.settling_step.specs.declared.Step.TheVariants.{Settles, Drops, DropsBoth}
use Rattle.settling_step.specs.Stepping.{step_among, beside_next, beside_last, decided}
use Rattle.settling_step.proofs.Deciding.{decides, settles_at, drops_at, both_at, both_some}

module _ (table : Table) (above below : List Row) (u : Operation) (ruled : is_table (with_rows table (above ++ (unsettled_row u ∷ below))) ≡ true) where
  abbrev rows : List Row
  rows = above ++ (unsettled_row u ∷ below)

  abbrev kind : ℕ
  kind = kind_in table.header u.object

  known : Facts (with_rows table rows)
  known = facts (with_rows table rows) ruled

  S : Sorted rows
  S = known.sorted

  own : RowFacts (with_rows table rows) (unsettled_row u)
  own = known.row_facts (unsettled_row u) (mem_mid above below (unsettled_row u))

  tagged : settled_only kind ≡ false
  tagged = fails (settled_only kind) (λ h. clash false (own.settled_only_lem h) refl)

  C : (r : Row) → Memᴰ r rows → same_value u r ≡ true → (eqb r.operation.code adds || (removes_stand kind && eqb r.operation.code removes)) ≡ true
  unfolding same_value
  C r m p = stored_codes kind r.operation (subst (λ (o : ℕ). storable (kind_in table.header o) r.operation ≡ true) (on_eq u.object u.value r.operation p).0 (known.row_facts r m).is_storable) tagged

  W : (r : Row) → Memᴰ r rows → r.settled ≡ true → r ≡ settled_row r.operation
  W r m h = (known.row_facts r m).without_tag h

  -- the neighbours decide the step
  pub decides_in : step_among kind u above below ≡ decided kind u.code (beside_last u above) (beside_next u below)
  decides_in = decides kind u above below S C W

  -- what each step leaves, in a table by the rules again
  abbrev Ruled : List Row → Type 0
  Ruled l = (step_at kind above u below ≡ l) × (is_table (with_rows table l) ≡ true)

  ruled_again : (l : List Row) → step_at kind above u below ≡ l → Ruled l
  ruled_again l e = (e, subst (λ (m : List Row). is_table (with_rows table m) ≡ true) e (kept_by_step table above below u ruled))

  pub settles_in : Settles ≡ step_among kind u above below → Ruled (above ++ (settled_row u ∷ below))
  settles_in e = ruled_again (above ++ (settled_row u ∷ below)) (settles_at kind u above below S C W e)

  pub drops_in : Drops ≡ step_among kind u above below → Ruled (above ++ below)
  drops_in e = ruled_again (above ++ below) (drops_at kind u above below S C W e)

  pub both_in : DropsBoth ≡ step_among kind u above below → (next : Row) (rest : List Row) → below ≡ next ∷ rest → Ruled (above ++ rest)
  both_in e next rest f = ruled_again (above ++ rest) (both_at kind u above below S C W e next rest f)

  pub some_in : DropsBoth ≡ step_among kind u above below → below ≡ [] → ⊥
  some_in e f = both_some kind u above below S C W e f
