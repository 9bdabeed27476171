-- One step at a row, in words: what becomes of the row by the rows beside it, and that the rows left may stand in a table.
use Prim.Native.Nat.{ℕ, ◌+◌, ◌-◌}
use mathlib.Core.Path.{◌≡◌, refl, sym, ap, ◌∙◌, subst}
use mathlib.Core.Bool.{Bool, true, false, not, false≢true}
use mathlib.Core.List.{List, [], ◌∷◌, ◌++◌, map}
use native.Mathlib.Omega.{arith}
use lib.ListN.{get_or, take, drop}
use Rattle.meaning.specs.Tests.{any}
use Rattle.meaning.specs.Order.{Vector}
use Rattle.meaning.specs.Operations.{Operation, removes_stand}
use Rattle.meaning.specs.Rows.{Row, unsettled_row, settled_row}
use Rattle.meaning.specs.Settling.{due, becomes_settled, dropped_with, step_at}
use Rattle.meaning.specs.Table.{kind_in, is_table}
use Rattle.meaning.specs.Calls.{with_rows}
use Rattle.meaning.proofs.Tests.{cases, clash, and_left, not_holds}
use Rattle.words_layout.specs.Words.{pieces}
use Rattle.words_layout.specs.Layout.{row_of, row_words}
use Rattle.words_layout.proofs.Pieces.{Each, map_back, word_at}
use Rattle.words_layout.proofs.RowWords.{row_read_lem}
use Rattle.words_layout.proofs.Whole.{back_each}
use Rattle.std.proofs.Common.{Option}
use Rattle.settling_step.specs.declared.Neighbour.{Neighbour}
use Rattle.settling_step.specs.Standing.{Standing, seen, stands_as}
use Rattle.settling_step.specs.declared.Step.{Step}
use Rattle.settling_step.specs.declared.Step.TheVariants.{Keeps, Settles, Drops, DropsBoth}
use Rattle.settling_step.specs.Stepping.{pick, step_among, step_for, beside_next, beside_last, remove_decided, add_decided, decided}
use Rattle.settling_step.specs.Held.{kind_at, Held}
use Rattle.settling_step.proofs.Testing.{row_at}
use Rattle.settling_step.proofs.Ruled.{decides_in, settles_in, drops_in, both_in, some_in}

-- what a step says of the row
abbrev pub is_keeps : Step → Bool
is_keeps Keeps = true
is_keeps Settles = false
is_keeps Drops = false
is_keeps DropsBoth = false

among_keeps : (b d : Bool) → is_keeps (pick b Settles (pick d DropsBoth Drops)) ≡ false
among_keeps true d = refl
among_keeps false true = refl
among_keeps false false = refl

module _ (kind_of : ℕ → ℕ) (low : Vector) (above : List Row) (row : Row) (below : List Row) (r : Step) (e : r ≡ step_for kind_of low above row below) where
  abbrev among : Step
  among = step_among (kind_of row.operation.object) row.operation above below

  pub kept_not_due : r ≡ Keeps → due low row ≡ false
  unfolding step_for step_among
  kept_not_due k = cases (due low row)
      (λ d. let f : r ≡ among = e ∙ rw d refl in absurd (false≢true (sym (among_keeps (becomes_settled (kind_of row.operation.object) row.operation (above ++ below)) (any (dropped_with (kind_of row.operation.object) row.operation (above ++ below)) below)) ∙ ap is_keeps (sym f ∙ k))))
      (λ d. d)

  pub step_due : is_keeps r ≡ false → (due low row ≡ true) × (r ≡ among)
  unfolding step_for
  step_due n = cases (due low row)
      (λ d. (d, e ∙ rw d refl))
      (λ d. let f : r ≡ Keeps = e ∙ rw d refl in clash (is_keeps r) (ap is_keeps f) n)

-- an unsettled row
unsettled_is : (row : Row) → row.settled ≡ false → row ≡ unsettled_row row.operation
unsettled_is row e = ap (λ (b : Bool). record { settled = b; operation = row.operation }) e

due_unsettled : (low : Vector) (row : Row) → due low row ≡ true → row.settled ≡ false
unfolding due
due_unsettled low row h = not_holds row.settled (and_left (not row.settled) _ h)

pub settled_not_due : (low : Vector) (u : Operation) → due low (settled_row u) ≡ false
unfolding due
settled_not_due low u = refl

-- rows in words, one after the other
pub map_append : (l m : List (List ℕ)) → map row_of (l ++ m) ≡ map row_of l ++ map row_of m
map_append [] m = refl
map_append (x ∷ l) m = ap (λ (k : List Row). row_of x ∷ k) (map_append l m)

module _ (P : List ℕ → Type 0) where
  each_swap : (l m : List (List ℕ)) (x y : List ℕ) → Each P (l ++ (x ∷ m)) → P y → Each P (l ++ (y ∷ m))
  each_swap [] m x y h p = (p, h.1)
  each_swap (z ∷ l) m x y h p = (h.0, each_swap l m x y h.1 p)

  each_without : (l m : List (List ℕ)) (x : List ℕ) → Each P (l ++ (x ∷ m)) → Each P (l ++ m)
  each_without [] m x h = h.1
  each_without (z ∷ l) m x h = (h.0, each_without l m x h.1)

  each_mid : (l m : List (List ℕ)) (x : List ℕ) → Each P (l ++ (x ∷ m)) → P x
  each_mid [] m x h = h.0
  each_mid (z ∷ l) m x h = each_mid l m x h.1

-- rows that may stand in a table, and the step at one of them
module _ (kinds low : List ℕ) (n : ℕ) (ls ms : List (List ℕ)) (ws : List ℕ) (H : Held kinds n (ls ++ (ws ∷ ms))) where
  abbrev above : List Row
  above = map row_of ls

  abbrev below : List Row
  below = map row_of ms

  abbrev u : Operation
  u = (row_of ws).operation

  abbrev kind : ℕ
  kind = kind_in H.table.header u.object

  rows_apart : map row_of (ls ++ (ws ∷ ms)) ≡ above ++ (row_of ws ∷ below)
  rows_apart = map_append ls (ws ∷ ms)

  each : Each (λ (x : List ℕ). row_words n (row_of x) ≡ x) (ls ++ (ws ∷ ms))
  each = back_each row_of (row_words n) (ls ++ (ws ∷ ms)) H.spelt

  pub row_spelt : row_words n (row_of ws) ≡ ws
  row_spelt = each_mid (λ (x : List ℕ). row_words n (row_of x) ≡ x) ls ms ws each

  module _ (h : due low (row_of ws) ≡ true) where
    ruled : is_table (with_rows H.table (above ++ (unsettled_row u ∷ below))) ≡ true
    ruled = subst (λ (l : List Row). is_table (with_rows H.table l) ≡ true) (rows_apart ∙ ap (λ (r : Row). above ++ (r ∷ below)) (unsettled_is (row_of ws) (due_unsettled low (row_of ws) h))) H.by_rules

    same_kind : kind_at kinds u.object ≡ kind
    same_kind = sym (H.kinds_are u.object)

    pub decides_words : step_among (kind_at kinds u.object) u above below ≡ decided (kind_at kinds u.object) u.code (beside_last u above) (beside_next u below)
    decides_words = rw same_kind (decides_in H.table above below u ruled)

    held_by : (l : List (List ℕ)) (rs : List Row) → map row_of l ≡ rs → is_table (with_rows H.table rs) ≡ true → Each (λ (x : List ℕ). row_words n (row_of x) ≡ x) l → Held kinds n l
    held_by l rs e t p = record { table = H.table; kinds_are = H.kinds_are; by_rules = subst (λ (k : List Row). is_table (with_rows H.table k) ≡ true) (sym e) t; spelt = map_back row_of (row_words n) l p }

    -- the row becomes settled
    abbrev settled_here : List ℕ
    settled_here = row_words n (settled_row u)

    reads_settled : row_of settled_here ≡ settled_row u
    reads_settled = row_read_lem n (settled_row u) (record { long = refl })

    pub settles_words : Settles ≡ step_among (kind_at kinds u.object) u above below → (step_at (kind_at kinds u.object) above u below ≡ above ++ (settled_row u ∷ below)) × Held kinds n (ls ++ (settled_here ∷ ms))
    settles_words e =
        let r = settles_in H.table above below u ruled (e ∙ rw same_kind refl) in
        (rw same_kind r.0, held_by (ls ++ (settled_here ∷ ms)) (above ++ (settled_row u ∷ below)) (map_append ls (settled_here ∷ ms) ∙ ap (λ (x : Row). above ++ (x ∷ below)) reads_settled) r.1 (each_swap (λ (x : List ℕ). row_words n (row_of x) ≡ x) ls ms ws settled_here each (ap (row_words n) reads_settled)))

    pub drops_words : Drops ≡ step_among (kind_at kinds u.object) u above below → (step_at (kind_at kinds u.object) above u below ≡ above ++ below) × Held kinds n (ls ++ ms)
    drops_words e =
        let r = drops_in H.table above below u ruled (e ∙ rw same_kind refl) in
        (rw same_kind r.0, held_by (ls ++ ms) (above ++ below) (map_append ls ms) r.1 (each_without (λ (x : List ℕ). row_words n (row_of x) ≡ x) ls ms ws each))

    pub both_words : DropsBoth ≡ step_among (kind_at kinds u.object) u above below → (next : List ℕ) (rest : List (List ℕ)) → ms ≡ next ∷ rest → (step_at (kind_at kinds u.object) above u below ≡ above ++ map row_of rest) × Held kinds n (ls ++ rest)
    both_words e next rest f =
        let r = both_in H.table above below u ruled (e ∙ rw same_kind refl) (row_of next) (map row_of rest) (ap (map row_of) f) in
        (rw same_kind r.0, held_by (ls ++ rest) (above ++ map row_of rest) (map_append ls rest) r.1 (each_without (λ (x : List ℕ). row_words n (row_of x) ≡ x) ls rest next (subst (λ (l : List (List ℕ)). Each (λ (x : List ℕ). row_words n (row_of x) ≡ x) (ls ++ l)) f (each_without (λ (x : List ℕ). row_words n (row_of x) ≡ x) ls ms ws each))))

    pub some_words : DropsBoth ≡ step_among (kind_at kinds u.object) u above below → ms ≡ [] → ⊥
    some_words e f = some_in H.table above below u ruled (e ∙ rw same_kind refl) (ap (map row_of) f)

-- what is told of the rows beside a row decides what they decide
remove_seen : (a b : Standing) → remove_decided (stands_as (seen a)) (stands_as (seen b)) ≡ remove_decided a b
unfolding remove_decided
remove_seen a b = cases b.same (λ q. rw q refl) (λ q. cases a.same (λ p. rw (p, q) refl) (λ p. rw (p, q) refl))

add_seen : (stands : Bool) (a b : Standing) → add_decided stands (stands_as (seen a)) (stands_as (seen b)) ≡ add_decided stands a b
unfolding add_decided
add_seen stands a b = cases a.same (λ p. rw p refl) (λ p. cases b.same (λ q. rw (p, q) refl) (λ q. rw (p, q) refl))

decided_seen : (kind code : ℕ) (a b : Standing) → decided kind code (stands_as (seen a)) (stands_as (seen b)) ≡ decided kind code a b
unfolding decided
decided_seen kind code a b = rw (remove_seen a b, add_seen (removes_stand kind) a b) refl

-- the step at a row, from its words
module _ (kinds low s : List ℕ) (n at more left : ℕ) (H : Held kinds n (pieces (7 + n) left s ++ (take (7 + n) (drop at s) ∷ pieces (7 + n) more (drop (at + (7 + n)) s)))) (d : Bool) (e : d ≡ due low (row_of (take (at + (7 + n) - at) (drop at s)))) where
  abbrev row : Row
  row = row_of (take (7 + n) (drop at s))

  abbrev over : List Row
  over = map row_of (pieces (7 + n) left s)

  abbrev under : List Row
  under = map row_of (pieces (7 + n) more (drop (at + (7 + n)) s))

  due_is : d ≡ due low row
  due_is = e ∙ rw (row_at s (7 + n) at) refl

  pub step_kept : d ≡ false → Keeps ≡ step_for (kind_at kinds) low over row under
  unfolding step_for
  step_kept f = rw (sym due_is ∙ f) refl

  pub step_decided : d ≡ true → (kind : ℕ) (before behind : Option Neighbour) (r : Step) → kind ≡ get_or kinds (get_or s at 0) 0 → before ≡ seen (beside_last row.operation over) → behind ≡ seen (beside_next row.operation under) →
      r ≡ decided kind (get_or s (at + 3) 0) (stands_as before) (stands_as behind) → r ≡ step_for (kind_at kinds) low over row under
  unfolding step_for kind_at
  step_decided t kind before behind r k a b f =
      let o : get_or (take (7 + n) (drop at s)) 0 0 ≡ get_or s at 0 = word_at s (7 + n) at 0 (omega arith) ∙ ap (λ (i : ℕ). get_or s i 0) (let z : at + 0 ≡ at = omega arith in z) in
      let c : get_or (take (7 + n) (drop at s)) 3 0 ≡ get_or s (at + 3) 0 = word_at s (7 + n) at 3 (omega arith) in
      let told : r ≡ decided (get_or kinds row.operation.object 0) row.operation.code (stands_as (seen (beside_last row.operation over))) (stands_as (seen (beside_next row.operation under))) = f ∙ rw (k, a, b, o, c) refl in
      let g : r ≡ decided (get_or kinds row.operation.object 0) row.operation.code (beside_last row.operation over) (beside_next row.operation under) = told ∙ decided_seen (get_or kinds row.operation.object 0) row.operation.code (beside_last row.operation over) (beside_next row.operation under) in
      rw (sym due_is ∙ t) (g ∙ sym (decides_words kinds low n (pieces (7 + n) left s) (pieces (7 + n) more (drop (at + (7 + n)) s)) (take (7 + n) (drop at s)) H (sym due_is ∙ t)))
