-- The lines that bring words of their own: D, a last vector, a total.
use Rattle.std.specs.Prelude.{Result, Ok, Err}
use mathlib.Core.Path.{◌≡◌, refl, sym, ap, ◌∙◌}
use mathlib.Core.Bool.{Bool, true, false, ◌&&◌}
use mathlib.Core.List.{List, [], ◌∷◌}
use Prim.Native.Nat.{ℕ, suc, ◌+◌, ◌*◌, ◌<◌, ◌-◌}
use native.Mathlib.Omega.{arith}
use borrow.Author.Tests.{eq-eqb, ne_eqb}
use lib.Dec.{eqb}
use lib.ListN.{drop, get_or, length, replicate, set, take}
use lib.Seq.{get_or-drop, get_or-take, paste}
use Rattle.meaning.specs.Table.{total_bound}
use Rattle.words_layout.specs.Words.{of_complement, of_two_words}
use Rattle.words_layout.specs.Layout.{objects_in, size_in, clock_at, totals_at}
use Rattle.table_rules.specs.TableTests.{clock_in, kinds_in}
use Rattle.table_rules_clock.specs.ClockTests.{last_kept, total_kept}
use Rattle.std.proofs.Common.{Some, None}
use Rattle.std.specs.Bool.{if◌then◌else◌}
use Rattle.meaning.proofs.Tests.{and_both, and_fails}
use Rattle.line_hex.specs.Choice.{pick}
use Rattle.line_hex.proofs.Picking.{passed, picked}
use Rattle.line_read.specs.declared.Clock.{Clock}
use Rattle.line_read.specs.declared.LastVector.{LastVector}
use Rattle.line_read.specs.declared.Total.{Total}
use Rattle.line_read.specs.SavedNamed.{clock_read, is_clock, is_last, is_total, last_read, total_read}
use Rattle.line_read.proofs.Readers.{given, none_given}
use Rattle.form_row.proofs.Joining.{part_of}
use Rattle.form_take.specs.declared.Loaded.{Loaded}
use Rattle.form_take.specs.declared.Loaded.TheVariants as loaded
use Rattle.form_take.specs.Taking.{clock_taken, last_taken, spoilt, took, total_taken}

-- zeros
pub all_spoilt : (s x : List ℕ) → x ≡ replicate (length s) 0 → (Err 15, x) ≡ spoilt s
unfolding spoilt
all_spoilt s x e = ap (λ (l : List ℕ). (Err 15, l)) e

-- words at a place
pub words_taken : (s new x : List ℕ) (at : ℕ) → x ≡ paste s at new (length new) → (Ok loaded.Taken, set x 6 (get_or s 6 0 + 1)) ≡ took s at new
unfolding took
words_taken s new x at e =
    let one : get_or s 6 0 + 1 ≡ suc (get_or s 6 0) = omega arith in
    rw (one, e) refl

-- D
module _ (s bytes : List ℕ) (n : ℕ) (e : n ≡ get_or s 1 0) where
  abbrev clock_way : Bool → Clock → Result Loaded ℕ × List ℕ
  clock_way is q = pick is (took s clock_at (take (size_in s) q.vector)) (spoilt s)

  clock_is : clock_way (is_clock n bytes) (clock_read n bytes) ≡ clock_taken bytes s
  unfolding clock_taken
  clock_is = ap (λ (k : ℕ). clock_way (is_clock k bytes) (clock_read k bytes)) e

  pub clock_wrong : None ≡ (if is_clock n bytes then Some (clock_read n bytes) else None) → (r : Result Loaded ℕ) (x : List ℕ) → (r, x) ≡ spoilt s → (r, x) ≡ clock_taken bytes s
  clock_wrong m r x g = g ∙ ap (λ (b : Bool). clock_way b (clock_read n bytes)) (sym (none_given (is_clock n bytes) (clock_read n bytes) m)) ∙ clock_is

  module _ (f : Clock) (h : Some f ≡ (if is_clock n bytes then Some (clock_read n bytes) else None)) where
    clock_told : (is_clock n bytes ≡ true) × (f ≡ clock_read n bytes)
    clock_told = given (is_clock n bytes) (clock_read n bytes) f h

    pub clock_right : (r : Result Loaded ℕ) (x : List ℕ) → (r, x) ≡ took s clock_at (take (n - 0) f.vector) → (r, x) ≡ clock_taken bytes s
    clock_right r x g =
        let z : n - 0 ≡ size_in s = omega arith in
        g ∙ ap (λ (k : ℕ). took s clock_at (take k f.vector)) z ∙ ap (clock_way true) clock_told.1 ∙ ap (λ (b : Bool). clock_way b (clock_read n bytes)) (sym clock_told.0) ∙ clock_is

-- a last vector
module _ (s bytes : List ℕ) (station n : ℕ) (e : n ≡ get_or s 1 0) where
  abbrev last_test : LastVector → Bool
  last_test q = last_kept (get_or s 2 0) (clock_in s) station (take (size_in s) q.vector)

  abbrev last_taken_lem : LastVector → Result Loaded ℕ × List ℕ
  last_taken_lem q = took s (clock_at + size_in s + station * size_in s) (take (size_in s) q.vector)

  abbrev last_way : Bool → LastVector → Result Loaded ℕ × List ℕ
  last_way is q = pick (is && (eqb q.station station && last_test q)) (last_taken_lem q) (spoilt s)

  last_is : last_way (is_last n bytes) (last_read n bytes) ≡ last_taken station bytes s
  unfolding last_taken
  last_is = ap (λ (k : ℕ). last_way (is_last k bytes) (last_read k bytes)) e

  pub last_misshapen : None ≡ (if is_last n bytes then Some (last_read n bytes) else None) → (r : Result Loaded ℕ) (x : List ℕ) → (r, x) ≡ spoilt s → (r, x) ≡ last_taken station bytes s
  last_misshapen m r x g = g ∙ ap (λ (b : Bool). last_way b (last_read n bytes)) (sym (none_given (is_last n bytes) (last_read n bytes) m)) ∙ last_is

  module _ (f : LastVector) (h : Some f ≡ (if is_last n bytes then Some (last_read n bytes) else None)) where
    last_told : (is_last n bytes ≡ true) × (f ≡ last_read n bytes)
    last_told = given (is_last n bytes) (last_read n bytes) f h

    last_judged : pick (eqb f.station station && last_test f) (last_taken_lem f) (spoilt s) ≡ last_taken station bytes s
    last_judged = ap (last_way true) last_told.1 ∙ ap (λ (b : Bool). last_way b (last_read n bytes)) (sym last_told.0) ∙ last_is

    last_spoilt : (eqb f.station station && last_test f) ≡ false → spoilt s ≡ last_taken station bytes s
    last_spoilt b = sym (passed (eqb f.station station && last_test f) (last_taken_lem f) (spoilt s) b) ∙ last_judged

    pub last_misplaced : (f.station ≡ station → ⊥) → (r : Result Loaded ℕ) (x : List ℕ) → (r, x) ≡ spoilt s → (r, x) ≡ last_taken station bytes s
    last_misplaced d r x g = g ∙ last_spoilt (ap (λ (b : Bool). b && last_test f) (ne_eqb f.station station d))

    module _ (t : Bool) (k : t ≡ last_kept (get_or s 2 0) (take (clock_at + n - clock_at) (drop clock_at s)) station (take (n - 0) f.vector)) where
      last_tested : t ≡ last_test f
      last_tested = let z : n - 0 ≡ size_in s = omega arith in k ∙ rw (part_of s clock_at n (size_in s) e, z) refl

      pub last_unruly : t ≡ false → (r : Result Loaded ℕ) (x : List ℕ) → (r, x) ≡ spoilt s → (r, x) ≡ last_taken station bytes s
      last_unruly b r x g = g ∙ last_spoilt (and_fails (eqb f.station station) (last_test f) (λ _. sym last_tested ∙ b))

      pub last_right : f.station ≡ station → t ≡ true → (w : ℕ) → w ≡ f.station → (r : Result Loaded ℕ) (x : List ℕ)
          → (r, x) ≡ took s (clock_at + n + w * n) (take (n - 0) f.vector) → (r, x) ≡ last_taken station bytes s
      last_right same b w q r x g =
          let z : n - 0 ≡ size_in s = omega arith in
          let there : w ≡ station = q ∙ same in
          g ∙ rw (there, z, e) refl
          ∙ sym (picked (eqb f.station station && last_test f) (last_taken_lem f) (spoilt s) (and_both (eqb f.station station) (last_test f) (eq-eqb f.station station same) (sym last_tested ∙ b)))
          ∙ last_judged

-- a total
module _ (s bytes : List ℕ) (object : ℕ) where
  abbrev total_test : Total → Bool
  total_test q = total_kept (total_bound (clock_in s)) (get_or (kinds_in s) object 0) (of_complement (of_two_words q.high q.low))

  abbrev total_taken_lem : Total → Result Loaded ℕ × List ℕ
  total_taken_lem q = took s (totals_at + object * 2) (q.high ∷ q.low ∷ [])

  abbrev total_way : Bool → Total → Result Loaded ℕ × List ℕ
  total_way is q = pick (is && (eqb q.object object && total_test q)) (total_taken_lem q) (spoilt s)

  total_is : total_way (is_total bytes) (total_read bytes) ≡ total_taken object bytes s
  unfolding total_taken
  total_is = refl

  pub total_misshapen : None ≡ (if is_total bytes then Some (total_read bytes) else None) → (r : Result Loaded ℕ) (x : List ℕ) → (r, x) ≡ spoilt s → (r, x) ≡ total_taken object bytes s
  total_misshapen m r x g = g ∙ ap (λ (b : Bool). total_way b (total_read bytes)) (sym (none_given (is_total bytes) (total_read bytes) m)) ∙ total_is

  module _ (f : Total) (h : Some f ≡ (if is_total bytes then Some (total_read bytes) else None)) where
    total_told : (is_total bytes ≡ true) × (f ≡ total_read bytes)
    total_told = given (is_total bytes) (total_read bytes) f h

    total_judged : pick (eqb f.object object && total_test f) (total_taken_lem f) (spoilt s) ≡ total_taken object bytes s
    total_judged = ap (total_way true) total_told.1 ∙ ap (λ (b : Bool). total_way b (total_read bytes)) (sym total_told.0) ∙ total_is

    total_spoilt : (eqb f.object object && total_test f) ≡ false → spoilt s ≡ total_taken object bytes s
    total_spoilt b = sym (passed (eqb f.object object && total_test f) (total_taken_lem f) (spoilt s) b) ∙ total_judged

    module _ (w : ℕ) (q : w ≡ f.object) where
      pub total_misplaced : (w ≡ object → ⊥) → (r : Result Loaded ℕ) (x : List ℕ) → (r, x) ≡ spoilt s → (r, x) ≡ total_taken object bytes s
      total_misplaced d r x g = g ∙ total_spoilt (ap (λ (b : Bool). b && total_test f) (ne_eqb f.object object (λ a. d (q ∙ a))))

    module _ (n : ℕ) (e : n ≡ get_or s 1 0) (k : object < objects_in s) (bound code : ℕ) (b : bound ≡ total_bound (take (clock_at + n - clock_at) (drop clock_at s))) (c : code ≡ of_two_words f.high f.low)
        (t : Bool) (z : t ≡ total_kept bound (get_or s (7 + object) 0) (of_complement code)) where
      total_tested : t ≡ total_test f
      total_tested = z ∙ rw (b, c, part_of s clock_at n (size_in s) e, get_or-take (objects_in s) (drop 7 s) object 0 k, get_or-drop 7 s object 0) refl

      pub total_unruly : t ≡ false → (r : Result Loaded ℕ) (x : List ℕ) → (r, x) ≡ spoilt s → (r, x) ≡ total_taken object bytes s
      total_unruly y r x g = g ∙ total_spoilt (and_fails (eqb f.object object) (total_test f) (λ _. sym total_tested ∙ y))

      pub total_right : (w : ℕ) → w ≡ f.object → w ≡ object → t ≡ true → (r : Result Loaded ℕ) (x : List ℕ)
          → (r, x) ≡ took s (totals_at + object * 2) (f.high ∷ f.low ∷ []) → (r, x) ≡ total_taken object bytes s
      total_right w q same y r x g =
          g ∙ sym (picked (eqb f.object object && total_test f) (total_taken_lem f) (spoilt s) (and_both (eqb f.object object) (total_test f) (eq-eqb f.object object (sym q ∙ same)) (sym total_tested ∙ y)))
          ∙ total_judged
