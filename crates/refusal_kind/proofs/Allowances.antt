-- What numbers that are no kind's or no code's allow: nothing, and which questions fit them.
use Rattle.std.proofs.Common.{◌≡◌, ◌⊎◌, ◌≤◌, ◌<◌, ℕ, false, inl, inr, refl, sym, arith, lit≤}
use borrow.Author.Tests.{ne_eqb}
use lib.Dec.{eqb}
use Rattle.meaning.specs.Operations.{is_flag, codes_of, code_allowed, allowed}
use Rattle.table_kinds.specs.Kinds.{kind_number}
use Rattle.table_kinds.specs.declared.Kind.{Kind}
use Rattle.table_kinds.specs.declared.Kind.TheVariants as kind
use Rattle.table_kinds.proofs.KindLaws.{by_kind, no_codes}

-- a number that is no kind's
module _ (kind : ℕ) (none : kind < 1 ⊎ 9 < kind) where
  other : (of : ℕ) → 1 ≤ of → of ≤ 9 → eqb kind of ≡ false
  other of low high = ne_eqb kind of (λ e. elim none [ inl below ↦ omega (arith, e, below, low) | inr above ↦ omega (arith, e, above, high) ])

  pub none_flags : false ≡ is_flag kind
  unfolding is_flag
  none_flags = rw (other 5 (lit≤ tt) (lit≤ tt), other 6 (lit≤ tt) (lit≤ tt)) refl

  no_kind_allows : (code : ℕ) → false ≡ code_allowed kind code
  unfolding code_allowed codes_of
  no_kind_allows code = elim none [ inl below ↦ (let z : kind ≡ 0 = omega (arith, below) in rw z refl) | inr above ↦ rw (no_codes kind above) refl ]

  pub kind_unknown : (code value : ℕ) → false ≡ allowed kind code value
  unfolding allowed
  kind_unknown code value = rw (sym (no_kind_allows code)) refl

-- a number that is no code's
module _ (kind code : ℕ) (none : code < 1 ⊎ 3 < code) where
  other_code : (of : ℕ) → 1 ≤ of → of ≤ 3 → eqb code of ≡ false
  other_code of low high = ne_eqb code of (λ e. elim none [ inl below ↦ omega (arith, e, below, low) | inr above ↦ omega (arith, e, above, high) ])

  no_code_allowed : 1 ≤ kind → kind ≤ 9 → false ≡ code_allowed kind code
  unfolding code_allowed codes_of
  no_code_allowed low high =
      let f = other_code 1 (lit≤ tt) (lit≤ tt) in
      let g = other_code 2 (lit≤ tt) (lit≤ tt) in
      let h = other_code 3 (lit≤ tt) (lit≤ tt) in
      by_kind (λ (k : ℕ). false ≡ code_allowed k code) (rw f refl) (rw (f, g) refl) (rw f refl) (rw (f, g) refl) (rw (f, g) refl) (rw (f, g) refl) (rw (f, h) refl) (rw (f, g, h) refl) (rw (f, g, h) refl) kind low high

kind_least : (kind : Kind) → 1 ≤ kind_number kind
kind_least kind.GrowCounter = lit≤ tt
kind_least kind.UpDownCounter = lit≤ tt
kind_least kind.GrowSet = lit≤ tt
kind_least kind.TwoPhaseSet = lit≤ tt
kind_least kind.EnableWinsFlag = lit≤ tt
kind_least kind.DisableWinsFlag = lit≤ tt
kind_least kind.MultiValueRegister = lit≤ tt
kind_least kind.AddWinsSet = lit≤ tt
kind_least kind.RemoveWinsSet = lit≤ tt

kind_most : (kind : Kind) → kind_number kind ≤ 9
kind_most kind.GrowCounter = lit≤ tt
kind_most kind.UpDownCounter = lit≤ tt
kind_most kind.GrowSet = lit≤ tt
kind_most kind.TwoPhaseSet = lit≤ tt
kind_most kind.EnableWinsFlag = lit≤ tt
kind_most kind.DisableWinsFlag = lit≤ tt
kind_most kind.MultiValueRegister = lit≤ tt
kind_most kind.AddWinsSet = lit≤ tt
kind_most kind.RemoveWinsSet = lit≤ tt

pub code_unknown : (kind code value : ℕ) (of : Kind) → kind_number of ≡ kind → code < 1 ⊎ 3 < code → false ≡ allowed kind code value
unfolding allowed
code_unknown kind code value of e none = rw (sym e, sym (no_code_allowed (kind_number of) code none (kind_least of) (kind_most of))) refl
