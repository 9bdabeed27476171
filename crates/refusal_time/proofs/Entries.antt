-- The entries of a vector against D and against the sender's last vector.
use Prim.Native.Nat.{ℕ, suc, ◌+◌, ◌-◌, ◌*◌, ◌≤◌, ◌<◌}
use mathlib.Core.Path.{◌≡◌, refl, sym, ap, subst, ◌∙◌}
use mathlib.Core.Bool.{Bool, true, false, cond, ◌&&◌, and-true, and-false}
use mathlib.Core.List.{List, []}
use native.Mathlib.Omega.{arith}
use borrow.Author.Tests.{eqb-true, eqb-false}
use lib.Dec.{leb, eqb}
use lib.ListN.{length, get_or, take, drop, length-set, get_or-eq_default}
use lib.Seq.{get_or-set_other}
use Rattle.meaning.specs.Order.{Vector, at_most, raised}
use Rattle.meaning.proofs.Tests.{cases}
use Rattle.meaning.proofs.Vectors.{raised_at}
use Rattle.words_layout.specs.Words.{pieces}
use Rattle.words_layout.proofs.Pieces.{length_pieces, piece_at}
use Rattle.words_tags.proofs.Pairs.{Passed, at_most_by_pairs, start, pair_fails, pair_holds, done}
use Rattle.refusal_time.specs.Lasts.{last_of}

-- i entries are passed, with one that may be one more at the sender's place
pub record Timely (v clock : Vector) (at : ℕ) (good : Bool) (i : ℕ) : Type 0 where
  pub sized : length v ≡ length clock
  pub within : i ≤ length v
  pub passed : Passed at_most v (raised clock at) good i

pub time_start : (v clock : Vector) (at : ℕ) → length v ≡ length clock → Timely v clock at true 0
time_start v clock at l = record {
  sized = l;
  within = omega arith;
  passed = start at_most v (raised clock at) (l ∙ sym (length-set clock at (suc (get_or clock at 0))));
}

raised_entry : (clock : Vector) (sender i : ℕ) → i < length clock → get_or (raised clock sender) i 0 ≡ cond (eqb i sender) (suc (get_or clock i 0)) (get_or clock i 0)
raised_entry clock sender i h = cases (eqb i sender)
    (λ e. let q = eqb-true i sender e in rw e (subst (λ (s : ℕ). get_or (raised clock s) i 0 ≡ suc (get_or clock i 0)) q (raised_at clock i h)))
    (λ e. rw e (get_or-set_other clock sender i (suc (get_or clock sender 0)) 0 (eqb-false i sender e)))

module _ (v clock : Vector) (at : ℕ) (good : Bool) (i : ℕ) (T : Timely v clock at good i) where
  module _ (h : i < length v) (r : Bool) (e : r ≡ leb (get_or v i 0) (cond (eqb i at) (suc (get_or clock i 0)) (get_or clock i 0))) where
    entry_is : leb (get_or v i 0) (get_or (raised clock at) i 0) ≡ r
    entry_is = ap (leb (get_or v i 0)) (raised_entry clock at i (omega (arith, T.sized))) ∙ sym e

    time_fails : (noted : Bool) → noted ≡ false → r ≡ false → Timely v clock at noted (i + 1)
    time_fails noted n f = record { sized = T.sized; within = omega arith; passed = pair_fails at_most leb at_most_by_pairs v (raised clock at) good i T.passed h noted n (entry_is ∙ f) }

    time_holds : (noted : Bool) → noted ≡ good → r ≡ true → Timely v clock at noted (i + 1)
    time_holds noted n f = record { sized = T.sized; within = omega arith; passed = pair_holds at_most leb at_most_by_pairs v (raised clock at) good i T.passed h noted n (entry_is ∙ f) }

    pub time_turn : (noted : Bool) → noted ≡ (good && r) → Timely v clock at noted (i + 1)
    time_turn noted n = by r refl
      where
        by : (b : Bool) → r ≡ b → Timely v clock at noted (i + 1)
        by true e = time_holds noted (n ∙ ap (λ (b : Bool). good && b) e ∙ and-true good) e
        by false e = time_fails noted (n ∙ ap (λ (b : Bool). good && b) e ∙ and-false good) e

  pub time_done : length v ≤ i → (sender : ℕ) → at ≡ sender → good ≡ at_most v (raised clock sender)
  time_done h sender e = done at_most leb at_most_by_pairs v (raised clock at) good i T.passed h ∙ ap (λ (s : ℕ). at_most v (raised clock s)) e

-- the part of the lent words that is a station's last vector
module _ (v : Vector) (lasts : List ℕ) (sender at : ℕ) (e : at ≡ sender) where
  pub last_of_none : length v ≤ at → true ≡ at_most (last_of (length v) lasts sender) v
  last_of_none h =
      let l : length (pieces (length v) (length v) lasts) ≤ sender = omega (arith, e, length_pieces (length v) (length v) lasts) in
      rw (get_or-eq_default (pieces (length v) (length v) lasts) [] l) refl

  module _ (h : at < length v) where
    pub last_there : (r : Bool) → r ≡ at_most (take (at * length v + length v - at * length v) (drop (at * length v) lasts)) v → r ≡ at_most (last_of (length v) lasts sender) v
    last_there r f =
        let q : at * length v + length v - at * length v ≡ length v = omega arith in
        let there : take (at * length v + length v - at * length v) (drop (at * length v) lasts) ≡ last_of (length v) lasts sender = rw q (sym (piece_at (length v) (length v) at lasts h) ∙ ap (last_of (length v) lasts) e) in
        f ∙ ap (λ (u : Vector). at_most u v) there
