-- Each row and the next.
use Prim.Native.Nat.{ℕ, zero, suc, ◌+◌, ◌-◌, ◌*◌, ◌≤◌, ◌<◌}
use mathlib.Core.Path.{◌≡◌, refl, sym, ap, ◌∙◌}
use mathlib.Core.Bool.{Bool, true, false, not, ◌&&◌, and-true}
use mathlib.Core.List.{List}
use native.Mathlib.Nat.{suc-mul}
use lib.Dec.{eqb}
use native.Mathlib.Omega.{arith}
use lib.ListN.{length, get_or, take, drop}
use lib.Seq.{drop-drop, take-take, take_all, get_or-take}
use Rattle.meaning.specs.Order.{same}
use Rattle.meaning.specs.Rows.{lower_key}
use Rattle.words_layout.specs.Words.{pieces}
use Rattle.table_rules_rows.specs.RowTests.{follows, chained}
use borrow.Author.Tests.{ne_eqb}
use Rattle.std.specs.Prelude.{Result}
use Rattle.std.proofs.Common.{Ok, Err, inl, inr}
use Rattle.std.specs.Result.{result_eq}
use Rattle.table_rules_rows.proofs.Scanning.{and_assoc}
use Rattle.table_kinds.specs.Kinds.{KindOf, kind_number}
use Rattle.table_kinds.specs.contracts.KindPartialEq.TheImpl.{eq-value}
use Rattle.table_kinds.specs.declared.UnknownKind.{UnknownKind}
use Rattle.table_kinds.specs.declared.Kind.{Kind}
use Rattle.table_kinds.specs.declared.Kind.TheVariants.{GrowCounter, UpDownCounter, GrowSet, TwoPhaseSet, EnableWinsFlag, DisableWinsFlag, MultiValueRegister, AddWinsSet, RemoveWinsSet}

-- whether the kind of a number is that of the two-phase set
two_phase_kind : (kind : Kind) → (eq-value).it kind TwoPhaseSet ≡ eqb (kind_number kind) 4
two_phase_kind GrowCounter = refl
two_phase_kind UpDownCounter = refl
two_phase_kind GrowSet = refl
two_phase_kind TwoPhaseSet = refl
two_phase_kind EnableWinsFlag = refl
two_phase_kind DisableWinsFlag = refl
two_phase_kind MultiValueRegister = refl
two_phase_kind AddWinsSet = refl
two_phase_kind RemoveWinsSet = refl

pub two_phase_told : (number : ℕ) (r : Result Kind UnknownKind) (same_error : UnknownKind → UnknownKind → Bool) → KindOf number r → result_eq (eq-value).it same_error r (Ok TwoPhaseSet) ≡ eqb number 4
two_phase_told number (Ok kind) same_error e = two_phase_kind kind ∙ ap (λ n. eqb n 4) e
two_phase_told number (Err e) same_error f = sym (ne_eqb number 4 (λ z. elim f.1 [ inl below ↦ omega (arith, z, below) | inr above ↦ omega (arith, z, above) ]))

-- one row and the next, by their keys: two tests of which the second is made where the first holds
pub both_tests : (one first second r both : Bool) → one ≡ first → one ≡ true → r ≡ second → both ≡ r → both ≡ (first && second)
both_tests one first second r both e t f g = g ∙ f ∙ rw (sym e ∙ t) refl

pub first_fails : (one first second both : Bool) → one ≡ first → one ≡ false → both ≡ one → both ≡ (first && second)
first_fails one first second both e t g = g ∙ rw (t, sym e ∙ t) refl

module _ (kinds before row : List ℕ) (k : ℕ) (e : k ≡ get_or kinds (get_or row 0 0) 0) (both : Bool) (b : both ≡ (eqb k 4 && same (take 3 before) (take 3 row))) where
  pub follows_repeated : both ≡ true → not both ≡ follows kinds before row
  unfolding follows
  follows_repeated t = rw (← e, ← b, t) refl

  pub follows_new : both ≡ false → length before ≡ 7 → length row ≡ 7 → (l : Bool) → l ≡ lower_key before row → l ≡ follows kinds before row
  unfolding follows
  follows_new t p q l lower = lower ∙ rw (← e, ← b, t, take_all 7 before (omega arith), take_all 7 row (omega arith)) refl

-- the keys decide
pub by_keys : (kinds x y : List ℕ) (w : ℕ) → 7 ≤ w → follows kinds (take 7 x) (take 7 y) ≡ follows kinds (take w x) (take w y)
unfolding follows
by_keys kinds x y w h =
    rw (get_or-take 7 y 0 0 (omega arith), get_or-take w y 0 0 (omega arith), take-take 3 7 x (omega arith), take-take 3 7 y (omega arith), take-take 7 7 x (omega arith), take-take 7 7 y (omega arith), take-take 3 w x (omega arith), take-take 3 w y (omega arith), take-take 7 w x h, take-take 7 w y h) refl

-- k rows are passed, and the last of these is the one to compare the next with
pub record Chaining (test : List ℕ → List ℕ → Bool) (w count : ℕ) (s : List ℕ) (good : Bool) (k : ℕ) : Type 0 where
  pub some : 1 ≤ k
  pub room : count * w ≤ length s
  pub whole : (good && chained test (pieces w (count - (k - 1)) (drop ((k - 1) * w) s))) ≡ chained test (pieces w count s)

pub chain_start : (test : List ℕ → List ℕ → Bool) (w count : ℕ) (s : List ℕ) → count * w ≤ length s → Chaining test w count s true 1
chain_start test w count s h = let z : count - 0 ≡ count = omega arith in let front : (1 - 1) * w ≡ 0 = omega arith in record { some = omega arith; room = h; whole = rw (z, front) refl }

at_most_one : (test : List ℕ → List ℕ → Bool) (w more : ℕ) (s : List ℕ) → more ≤ 1 → chained test (pieces w more s) ≡ true
at_most_one test w zero s h = refl
at_most_one test w (suc zero) s h = refl
at_most_one test w (suc (suc m)) s h = absurd (omega arith)

pub chain_done : (test : List ℕ → List ℕ → Bool) (w count : ℕ) (s : List ℕ) (good : Bool) (k : ℕ) → Chaining test w count s good k → count ≤ k → good ≡ chained test (pieces w count s)
chain_done test w count s good k C h = sym (and-true good) ∙ ap (λ (b : Bool). good && b) (sym (at_most_one test w (count - (k - 1)) (drop ((k - 1) * w) s) (omega (arith, C.some)))) ∙ C.whole

-- The first two of more rows, and what is left of the chain behind them.
pub two_ahead : (test : List ℕ → List ℕ → Bool) (w m at : ℕ) (s : List ℕ) → chained test (pieces w (suc (suc m)) (drop at s)) ≡ (test (take w (drop at s)) (take w (drop (at + w) s)) && chained test (pieces w (suc m) (drop (at + w) s)))
two_ahead test w m at s = ap (λ (behind : List ℕ). test (take w (drop at s)) (take w behind) && chained test (pieces w (suc m) behind)) (drop-drop w at s)

module _ (kinds : List ℕ) (w count : ℕ) (s : List ℕ) (good : Bool) (k : ℕ) (C : Chaining (follows kinds) w count s good k) (h : k < count) (wide : 7 ≤ w) where
  next_place : k * w ≡ (k - 1) * w + w
  next_place = let n : k ≡ suc (k - 1) = omega (arith, C.some) in ap (λ (n : ℕ). n * w) n ∙ suc-mul (k - 1) w

  pub chain_noted : (at : ℕ) → at ≡ k * w - w → (r : Bool) → r ≡ follows kinds (take (at + 7 - at) (drop at s)) (take (k * w + 7 - k * w) (drop (k * w) s)) → Chaining (follows kinds) w count s (good && r) (k + 1)
  chain_noted at p r e =
      let here : at ≡ (k - 1) * w = omega (arith, p, next_place) in
      let a : at + 7 - at ≡ 7 = omega arith in
      let b : k * w + 7 - k * w ≡ 7 = omega arith in
      let same : r ≡ follows kinds (take w (drop ((k - 1) * w) s)) (take w (drop ((k - 1) * w + w) s)) = ((rw (a, b) at e) ∙ by_keys kinds (drop at s) (drop (k * w) s) w wide) ∙ rw (here, next_place) refl in
      let more : count - (k - 1) ≡ suc (suc (count - k - 1)) = omega (arith, C.some) in
      let rest : count - (k + 1 - 1) ≡ suc (count - k - 1) = omega arith in
      let passed : (k + 1 - 1) * w ≡ (k - 1) * w + w = ap (λ (n : ℕ). n * w) (omega arith) ∙ next_place in
      let last = chained (follows kinds) (pieces w (suc (count - k - 1)) (drop ((k - 1) * w + w) s)) in
      record {
        some = omega arith;
        room = C.room;
        whole = rw (rest, passed) (and_assoc good r last ∙ ap (λ (b : Bool). good && b) (rw same refl ∙ sym (ap (λ (m : ℕ). chained (follows kinds) (pieces w m (drop ((k - 1) * w) s))) more ∙ two_ahead (follows kinds) w (count - k - 1) ((k - 1) * w) s)) ∙ C.whole);
      }
