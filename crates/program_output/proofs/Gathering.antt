-- Output lines join those that wait, one after the other.
use Rattle.std.specs.Prelude.{Option, Some, None}
use Prim.Native.Nat.{ℕ, zero, suc, ◌+◌, ◌-◌, ◌≤◌, ◌<◌}
use mathlib.Core.Path.{◌≡◌, refl, sym, ap, ◌∙◌, subst}
use mathlib.Core.List.{List, [], ◌∷◌}
use native.Mathlib.Numerals.{add-one}
use native.Mathlib.Omega.{arith}
use borrow.Author.Tests.{le-leb, lt-leb}
use lib.ListN.{length, take, drop, drop_of_length-le}
use lib.Seq.{take_at}
use Rattle.line_hex.specs.Hex.{hex_line}
use Rattle.calls.specs.Answers.{longest_answer}
use Rattle.call_answer.specs.OutputLines.{printed_at}
use Rattle.program_output.specs.Gathering.{Gathered, gathered, HasRoom, joined, pushed}

-- the ways through push
module _ (pending : List ℕ) (count : ℕ) (text : List ℕ) (n : ℕ) (s : List ℕ) where
  pub pushed_joined : length text ≤ length pending - count → (n, s) ≡ joined pending count text → (n, s) ≡ pushed text (count, pending)
  unfolding pushed
  pushed_joined h e = rw (le-leb (length text) (length pending - count) h) e

  pub pushed_alone : length pending - count < length text → (n, s) ≡ joined pending 0 text → (n, s) ≡ pushed text (count, pending)
  unfolding pushed
  pushed_alone h e = rw (lt-leb (length text) (length pending - count) h) e

  module _ (H : HasRoom count pending) (long : length s ≡ length pending) where
    pub joined_room : length text ≤ length pending - count → (n, s) ≡ joined pending count text → HasRoom n s
    unfolding joined
    joined_room h e = record { within = omega (arith, ap (λ (q : ℕ × List ℕ). q.0) e, H.within); room = omega (arith, H.room) }

    pub alone_room : length text ≤ longest_answer → (n, s) ≡ joined pending 0 text → HasRoom n s
    unfolding joined
    alone_room h e = record { within = omega (arith, ap (λ (q : ℕ × List ℕ). q.0) e, H.room); room = omega (arith, H.room) }

-- the line at a place joins, and those behind it are left
abbrev Told : List (List ℕ) → ℕ → Option ℕ → List ℕ → Type 0
Told lines k (Some n) out = (waiting : Gathered) → gathered (drop k lines) waiting ≡ gathered (drop (suc k) lines) (pushed (take n out) waiting)
Told lines k None out = length lines ≤ k

told : (lines : List (List ℕ)) (k : ℕ) (out : List ℕ) → Told lines k (printed_at lines k out).0 (printed_at lines k out).1
unfolding printed_at gathered
told [] zero out = omega arith
told [] (suc k) out = omega arith
told (bytes ∷ rest) zero out = λ waiting. ap (λ (t : List ℕ). gathered rest (pushed t waiting)) (sym (take_at (hex_line bytes) (drop (length (hex_line bytes)) out) (length (hex_line bytes)) refl))
told (bytes ∷ rest) (suc k) out = by (printed_at rest k out).0 (printed_at rest k out).1 (told rest k out)
  where
    by : (r : Option ℕ) (y : List ℕ) → Told rest k r y → Told (bytes ∷ rest) (suc k) r y
    by (Some n) y t = t
    by None y t = omega (arith, t)

module _ (lines : List (List ℕ)) (waiting₀ : Gathered) (k count : ℕ) (pending : List ℕ) (left : gathered lines waiting₀ ≡ gathered (drop k lines) (count, pending)) (out : List ℕ) (r : Option ℕ) (y : List ℕ) (e : (r, y) ≡ printed_at lines k out) where
  as_told : Told lines k r y
  as_told = subst (λ (p : Option ℕ × List ℕ). Told lines k p.0 p.1) (sym e) (told lines k out)

  -- one more line
  pub one_more : (n m : ℕ) (p : List ℕ) → r ≡ Some n → (m, p) ≡ pushed (take (n - 0) y) (count, pending) → gathered lines waiting₀ ≡ gathered (drop (k + 1) lines) (m, p)
  one_more n m p f g =
      let z : n - 0 ≡ n = omega arith in
      let t : Told lines k (Some n) y = subst (λ (q : Option ℕ). Told lines k q y) f as_told in
      rw (add-one k) (left ∙ t (count, pending) ∙ ap (gathered (drop (suc k) lines)) (ap (λ (a : ℕ). pushed (take a y) (count, pending)) (sym z) ∙ sym g))

  -- there is none
  pub no_more : r ≡ None → gathered lines waiting₀ ≡ (count, pending)
  unfolding gathered
  no_more f =
      let t : length lines ≤ k = subst (λ (q : Option ℕ). Told lines k q y) f as_told in
      left ∙ ap (λ (l : List (List ℕ)). gathered l (count, pending)) (drop_of_length-le lines t)

-- nor behind as many as there are
pub all_gathered : (lines : List (List ℕ)) (waiting₀ : Gathered) (k count : ℕ) (pending : List ℕ) → gathered lines waiting₀ ≡ gathered (drop k lines) (count, pending) → length lines ≤ k → gathered lines waiting₀ ≡ (count, pending)
unfolding gathered
all_gathered lines waiting₀ k count pending left h = left ∙ ap (λ (l : List (List ℕ)). gathered l (count, pending)) (drop_of_length-le lines h)
