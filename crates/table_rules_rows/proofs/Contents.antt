-- What a row's kind lets it hold.
use Prim.Native.Nat.{ℕ, ◌+◌, ◌*◌, ◌<◌}
use mathlib.Core.Path.{◌≡◌, refl, sym, ◌∙◌}
use mathlib.Core.Bool.{Bool, true, false, not, ◌&&◌, ◌||◌, cond}
use mathlib.Core.List.{List, []}
use native.Mathlib.Omega.{arith}
use borrow.Author.Tests.{eqb-true, eqb-false, ne_eqb, lt-ltb, le-ltb}
use mir.Val.{Fits}
use mir.Syntax.{w32}
use lib.Dec.{eqb, ltb}
use lib.ListN.{get_or}
use Rattle.meaning.specs.Operations.{Operation, is_counter, is_flag, codes_of, code_allowed, value_allowed, value_limit}
use Rattle.meaning.specs.Arrival.{gets_row}
use Rattle.meaning.specs.Table.{storable}
use Rattle.meaning.proofs.Tests.{cases, and_left, and_right, not_holds}
use Rattle.words_layout.specs.Layout.{row_of}
use Rattle.table_kinds.specs.Kinds.{kind_number}
use Rattle.table_kinds.specs.declared.Kind.{Kind}
use Rattle.table_kinds.specs.declared.Kind.TheVariants.{GrowCounter, UpDownCounter, GrowSet, TwoPhaseSet, EnableWinsFlag, DisableWinsFlag, MultiValueRegister, AddWinsSet, RemoveWinsSet}
use Rattle.table_kinds.proofs.KindLaws.{no_codes}
use Rattle.std.specs.Prelude.{◌⊎◌}
use Rattle.std.proofs.Common.{inl, inr, subst}
use Rattle.table_rules_rows.specs.RowTests.{content_kept, row_kept}
use Rattle.words_layout.specs.Words.{word_limit}

-- what a code says of an operation, whatever else the operation is
abbrev stored_as : ℕ → ℕ → Bool
stored_as kind code = storable kind (record { object = 0; code = code; value = 0; sender = 0; vector = [] })

no_kind : (kind code : ℕ) → 9 < kind → code_allowed kind code ≡ false
unfolding code_allowed
no_kind kind code h = rw (no_codes kind h) refl

module _ (kind : ℕ) (row : List ℕ) where
  pub stores_no_counter : kind < 3 → false ≡ storable kind (row_of row).operation
  unfolding storable is_counter code_allowed codes_of
  stores_no_counter h = cases (eqb kind 1) (λ e. rw e refl) (λ n1. cases (eqb kind 2) (λ e. rw (n1, e) refl) (λ n2.
      let z : kind ≡ 0 = omega (arith, eqb-false kind 1 n1, eqb-false kind 2 n2) in rw z refl))

  stores_no_kind : 9 < kind → false ≡ storable kind (row_of row).operation
  unfolding storable
  stores_no_kind h = cases (is_counter kind) (λ e. rw e refl) (λ e. rw (e, no_kind kind (get_or row 3 0) h) refl)

  pub stores_unknown : kind < 1 ⊎ 9 < kind → false ≡ storable kind (row_of row).operation
  stores_unknown none = elim none [ inl below ↦ stores_no_counter (omega (arith, below)) | inr above ↦ stores_no_kind above ]

-- no row is kept whose object has no kind
pub kept_unknown : (kinds clock row : List ℕ) (kind : ℕ) → kind ≡ get_or kinds (get_or row 0 0) 0 → kind < 1 ⊎ 9 < kind → false ≡ row_kept kinds clock row
unfolding row_kept content_kept
kept_unknown kinds clock row kind k none = rw (← k, sym (stores_unknown kind row none)) refl

-- in which kinds removes bar a value or stand
abbrev pub keeps_removes : Kind → Bool
keeps_removes TwoPhaseSet = true
keeps_removes DisableWinsFlag = true
keeps_removes RemoveWinsSet = true
keeps_removes _ = false

-- a code is 1, 2, 3 or none of them
by_code : (P : ℕ → Type 0) (code : ℕ) → P 1 → P 2 → P 3 → (eqb code 1 ≡ false → eqb code 2 ≡ false → eqb code 3 ≡ false → P code) → P code
by_code P code p1 p2 p3 other =
    cases (eqb code 1) (λ e. subst P (sym (eqb-true code 1 e)) p1)
    (λ n1. cases (eqb code 2) (λ e. subst P (sym (eqb-true code 2 e)) p2)
    (λ n2. cases (eqb code 3) (λ e. subst P (sym (eqb-true code 3 e)) p3) (λ n3. other n1 n2 n3)))

pub stores_by_code : (kind : Kind) (code : ℕ) → stored_as (kind_number kind) code ≡ cond (eqb code 1) (not (is_counter (kind_number kind))) (eqb code 2 && keeps_removes kind)
unfolding storable is_counter code_allowed codes_of gets_row
stores_by_code GrowCounter code = by_code (λ c. stored_as (kind_number GrowCounter) c ≡ cond (eqb c 1) (not (is_counter (kind_number GrowCounter))) (eqb c 2 && keeps_removes GrowCounter)) code refl refl refl (λ n1 n2 n3. simp (n1, n2, n3) refl)
stores_by_code UpDownCounter code = by_code (λ c. stored_as (kind_number UpDownCounter) c ≡ cond (eqb c 1) (not (is_counter (kind_number UpDownCounter))) (eqb c 2 && keeps_removes UpDownCounter)) code refl refl refl (λ n1 n2 n3. simp (n1, n2, n3) refl)
stores_by_code GrowSet code = by_code (λ c. stored_as (kind_number GrowSet) c ≡ cond (eqb c 1) (not (is_counter (kind_number GrowSet))) (eqb c 2 && keeps_removes GrowSet)) code refl refl refl (λ n1 n2 n3. simp (n1, n2, n3) refl)
stores_by_code TwoPhaseSet code = by_code (λ c. stored_as (kind_number TwoPhaseSet) c ≡ cond (eqb c 1) (not (is_counter (kind_number TwoPhaseSet))) (eqb c 2 && keeps_removes TwoPhaseSet)) code refl refl refl (λ n1 n2 n3. simp (n1, n2, n3) refl)
stores_by_code EnableWinsFlag code = by_code (λ c. stored_as (kind_number EnableWinsFlag) c ≡ cond (eqb c 1) (not (is_counter (kind_number EnableWinsFlag))) (eqb c 2 && keeps_removes EnableWinsFlag)) code refl refl refl (λ n1 n2 n3. simp (n1, n2, n3) refl)
stores_by_code DisableWinsFlag code = by_code (λ c. stored_as (kind_number DisableWinsFlag) c ≡ cond (eqb c 1) (not (is_counter (kind_number DisableWinsFlag))) (eqb c 2 && keeps_removes DisableWinsFlag)) code refl refl refl (λ n1 n2 n3. simp (n1, n2, n3) refl)
stores_by_code MultiValueRegister code = by_code (λ c. stored_as (kind_number MultiValueRegister) c ≡ cond (eqb c 1) (not (is_counter (kind_number MultiValueRegister))) (eqb c 2 && keeps_removes MultiValueRegister)) code refl refl refl (λ n1 n2 n3. simp (n1, n2, n3) refl)
stores_by_code AddWinsSet code = by_code (λ c. stored_as (kind_number AddWinsSet) c ≡ cond (eqb c 1) (not (is_counter (kind_number AddWinsSet))) (eqb c 2 && keeps_removes AddWinsSet)) code refl refl refl (λ n1 n2 n3. simp (n1, n2, n3) refl)
stores_by_code RemoveWinsSet code = by_code (λ c. stored_as (kind_number RemoveWinsSet) c ≡ cond (eqb c 1) (not (is_counter (kind_number RemoveWinsSet))) (eqb c 2 && keeps_removes RemoveWinsSet)) code refl refl refl (λ n1 n2 n3. simp (n1, n2, n3) refl)

pub keeps_no_others : (kind : Kind) → (kind ≡ TwoPhaseSet → ⊥) → (kind ≡ DisableWinsFlag → ⊥) → (kind ≡ RemoveWinsSet → ⊥) → keeps_removes kind ≡ false
keeps_no_others GrowCounter a b d = refl
keeps_no_others UpDownCounter a b d = refl
keeps_no_others GrowSet a b d = refl
keeps_no_others TwoPhaseSet a b d = absurd (a refl)
keeps_no_others EnableWinsFlag a b d = refl
keeps_no_others DisableWinsFlag a b d = absurd (b refl)
keeps_no_others MultiValueRegister a b d = refl
keeps_no_others AddWinsSet a b d = refl
keeps_no_others RemoveWinsSet a b d = absurd (d refl)

pub stores_known : (kind : Kind) (row : List ℕ) (b : Bool) → b ≡ cond (eqb (get_or row 3 0) 1) (not (is_counter (kind_number kind))) (eqb (get_or row 3 0) 2 && keeps_removes kind) → b ≡ storable (kind_number kind) (row_of row).operation
unfolding storable gets_row
stores_known kind row b f = f ∙ sym (stores_by_code kind (get_or row 3 0))

-- where the code is storable, the value is 0 in flags and a word in the others
stored_facts : (kind : ℕ) (u : Operation) → storable kind u ≡ true → (is_counter kind ≡ false) × (eqb u.code 3 ≡ false)
unfolding storable gets_row
stored_facts kind u e =
    let three = eqb u.code 3 in
    let fewer = not (eqb u.code 2 && (eqb kind 5 || eqb kind 8)) in
    let known = code_allowed kind u.code in
    let h = and_right known (not three && fewer) (and_right (not (is_counter kind)) (known && (not three && fewer)) e) in
    (not_holds (is_counter kind) (and_left (not (is_counter kind)) (known && (not three && fewer)) e), not_holds three (and_left (not three) fewer h))

stored_value : (kind : ℕ) (u : Operation) → storable kind u ≡ true → content_kept kind u ≡ cond (is_flag kind) (eqb u.value 0) (ltb u.value value_limit)
unfolding content_kept value_allowed
stored_value kind u e =
    let f = stored_facts kind u e in
    cases (is_flag kind) (λ g. rw (e, f.0, f.1, g) refl) (λ g. rw (e, f.0, f.1, g) refl)

-- the tests of a row's code and value, by its words
pub content_tests : (kind : ℕ) (row : List ℕ) (stored flag : Bool) → stored ≡ storable kind (row_of row).operation → flag ≡ is_flag kind → ((i : ℕ) → Fits w32 (get_or row i 0))
    → content_kept kind (row_of row).operation ≡ (stored && (eqb (get_or row 1 0) 0 && (not flag || eqb (get_or row 2 0) 0)))
unfolding content_kept
content_tests kind row stored flag s f known =
    let high = get_or row 1 0 in
    let low = get_or row 2 0 in
    let value = high * word_limit + low in
    cases stored
    (λ e.
    let valued : content_kept kind (row_of row).operation ≡ cond (is_flag kind) (eqb value 0) (ltb value value_limit) = stored_value kind (row_of row).operation (sym s ∙ e) in
    rw e (valued ∙ rw (← f) (cases (eqb high 0)
    (λ h. let q : value ≡ low = omega (arith, eqb-true high 0 h) in rw (h, q) (cases flag (λ g. rw g refl) (λ g. rw g (lt-ltb low value_limit (omega (arith, known 2))))))
    (λ h. rw h (cases flag (λ g. rw g (ne_eqb value 0 (λ z. eqb-false high 0 h (omega arith)))) (λ g. rw g (le-ltb value value_limit (omega (arith, eqb-false high 0 h)))))))))
    (λ e. rw (sym s ∙ e, e) refl)
