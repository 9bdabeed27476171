-- The loop of a pass, with the width of a row in hand.
use Prim.Native.Nat.{ℕ, ◌+◌, ◌-◌, ◌*◌, ◌≤◌, ◌<◌}
use mathlib.Core.Path.{◌≡◌, refl, ◌∙◌, subst}
use mathlib.Core.Logic.{◌⊎◌}
use mathlib.Core.List.{List, ◌∷◌, ◌++◌, map}
use native.Mathlib.Omega.{arith}
use lib.ListN.{length, take, drop}
use lib.Seq.{paste}
use mir.Val.{Fits}
use mir.Syntax.{w64}
use Rattle.meaning.specs.Rows.{Row, settled_row}
use Rattle.words_layout.specs.Words.{pieces, flat, padded, word_limit}
use Rattle.words_layout.specs.Layout.{row_of, row_words}
use Rattle.table_drop.proofs.Dropping.{next_size}
use Rattle.settling_step.specs.declared.Step.{Step}
use Rattle.settling_step.specs.declared.Step.TheVariants.{Keeps, Settles, Drops, DropsBoth}
use Rattle.settling_step.specs.Stepping.{step_for}
use Rattle.settling_step.specs.Held.{kind_at, Held}
use Rattle.settling_step.proofs.OneStep.{row_spelt}
use Rattle.settling_pass.specs.Passing.{rows_then, steps_then, closed_up}
use Rattle.settling_pass.proofs.Passing.{Passing, passing_start, passing_keep, passing_settle, passing_drop, both_more, passing_both, held_ahead, here_room, passing_steps, passing_count, passing_done}
use Rattle.meaning.specs.Table.{greatest_size}

-- Beside the pass: the width, and bounds that a sum of places asks for.
pub record Loop (kinds low : List ℕ) (limit : ℕ) (s₀ : List ℕ) (n w count : ℕ) (s : List ℕ) (from to more left taken : ℕ) : Type 0 where
  pub wide : w ≡ 7 + n
  pub few : n ≤ greatest_size
  pub within : from ≤ length s
  pub below : to ≤ from
  pub fewer : left + more ≤ count
  pub steps : taken + more ≤ count
  pub word : count < word_limit
  pub pass : Passing kinds low limit s₀ n count s from to more left taken

looped : (kinds low : List ℕ) (limit : ℕ) (s₀ : List ℕ) (n w count : ℕ) (s : List ℕ) (from to more left taken : ℕ) → w ≡ 7 + n → n ≤ greatest_size → count < word_limit → taken + more ≤ count → Passing kinds low limit s₀ n count s from to more left taken → Loop kinds low limit s₀ n w count s from to more left taken
looped kinds low limit s₀ n w count s from to more left taken e f g k P =
    record { wide = e; few = f; within = omega (arith, P.place.size, P.place.room); below = P.below; fewer = P.fewer; steps = k; word = g; pass = P }

pub loop_start : (kinds low : List ℕ) (limit : ℕ) (s : List ℕ) (n w count more : ℕ) → w ≡ 7 + n → n ≤ greatest_size → count * (7 + n) ≤ length s → Held kinds n (pieces (7 + n) count s) → more ≡ count → more < word_limit → Loop kinds low limit s n w more s 0 0 more 0 0
loop_start kinds low limit s n w count more e f h H g k = looped kinds low limit s n w more s 0 0 more 0 0 e f k (omega arith) (rw g (passing_start kinds low limit s n count h H))

module _ (kinds low : List ℕ) (limit : ℕ) (s₀ : List ℕ) (n w count : ℕ) (s : List ℕ) (from to more left taken : ℕ) (L : Loop kinds low limit s₀ n w count s from to more left taken) (some : 0 < more) where
  abbrev D : Passing kinds low limit s₀ n count s from to more left taken
  D = L.pass

  next : (s' : List ℕ) (from' to' more' left' taken' : ℕ) → taken' + more' ≤ taken + more → Passing kinds low limit s₀ n count s' from' to' more' left' taken' → Loop kinds low limit s₀ n w count s' from' to' more' left' taken'
  next s' from' to' more' left' taken' h P = looped kinds low limit s₀ n w count s' from' to' more' left' taken' L.wide L.few L.word (omega (arith, L.steps)) P

  pub row_within : from + (7 + n) ≤ length s
  row_within = here_room kinds low limit s₀ n count s from to more left taken D some

  pub copy_within : from + w ≤ length s
  copy_within = rw L.wide row_within

  pub resume_fits : length s₀ * 4 < 9223372036854775808 → from + w < 9223372036854775808
  resume_fits h = omega (arith, copy_within, L.pass.long)

  pub resume_fits_again : length s₀ * 4 < 9223372036854775808 → (g : ℕ) → g ≡ from + w → g + w < 9223372036854775808
  resume_fits_again h g e = omega (arith, copy_within, L.pass.long, L.wide, L.few, e)

  pub copy_again : (s₁ : List ℕ) → length s₁ ≡ length s → from + w ≤ length s₁
  copy_again s₁ e = rw e copy_within

  -- what the test of a row asks
  pub kept_below : left * (7 + n) ≤ from
  kept_below = omega (arith, D.kept, D.below)

  pub rest_within : from + (7 + n) + (more - 1) * (7 + n) ≤ length s
  rest_within = omega (arith, next_size s (7 + n) count from more D.place some, D.place.room)

  pub rows_held : Held kinds n (pieces (7 + n) left s ++ (take (7 + n) (drop from s) ∷ pieces (7 + n) (more - 1) (drop (from + (7 + n)) s)))
  rows_held = held_ahead kinds low limit s₀ n count s from to more left taken D some

  pub here_spelt : row_words n (row_of (take (7 + n) (drop from s))) ≡ take (7 + n) (drop from s)
  here_spelt = row_spelt kinds low n (pieces (7 + n) left s) (pieces (7 + n) (more - 1) (drop (from + (7 + n)) s)) (take (7 + n) (drop from s)) rows_held

  module _ (r : Step) (e : r ≡ step_for (kind_at kinds) low (map row_of (pieces (7 + n) left s)) (row_of (take (7 + n) (drop from s))) (map row_of (pieces (7 + n) (more - 1) (drop (from + (7 + n)) s)))) where
    pub loop_keep : (f : ℕ) → f ≡ from + w → (s' : List ℕ) → s' ≡ paste s to (drop from s) w → r ≡ Keeps → Loop kinds low limit s₀ n w count s' f (to + w) (more - 1) (left + 1) taken
    loop_keep f g s' p k = rw g (next s' (from + w) (to + w) (more - 1) (left + 1) taken (omega arith) (rw L.wide (passing_keep kinds low limit s₀ n count s from to more left taken D some s' (rw L.wide at p) r e k)))

    module _ (less : taken < limit) where
      pub loop_settle : (g : ℕ) → g ≡ from + w → (s₁ s' : List ℕ) → s₁ ≡ take from s ++ (row_words n (settled_row (row_of (take (7 + n) (drop from s))).operation) ++ drop (from + (7 + n)) s) → s' ≡ paste s₁ to (drop from s₁) w → r ≡ Settles →
          Loop kinds low limit s₀ n w count s' g (to + w) (more - 1) (left + 1) (taken + 1)
      loop_settle g h s₁ s' f p k = rw h (next s' (from + w) (to + w) (more - 1) (left + 1) (taken + 1) (omega arith) (rw L.wide (passing_settle kinds low limit s₀ n count s from to more left taken D some less r e k s₁ s' f (rw L.wide at p))))

      pub loop_drop : (g : ℕ) → g ≡ from + w → r ≡ Drops → Loop kinds low limit s₀ n w count s g to (more - 1) left (taken + 1)
      loop_drop g h k = rw h (next s (from + w) to (more - 1) left (taken + 1) (omega arith) (rw L.wide (passing_drop kinds low limit s₀ n count s from to more left taken D some less r e k)))

      pub two_more : r ≡ DropsBoth → 1 ≤ more - 1
      two_more k = both_more kinds low limit s₀ n count s from to more left taken D some less r e k

      pub loop_both : (g₁ g : ℕ) → g₁ ≡ from + w → g ≡ g₁ + w → r ≡ DropsBoth → Loop kinds low limit s₀ n w count s g to (more - 1 - 1) left (taken + 1)
      loop_both g₁ g h₁ h k = rw (h, h₁) (next s (from + w + w) to (more - 1 - 1) left (taken + 1) (omega arith) (rw L.wide (passing_both kinds low limit s₀ n count s from to more left taken D some less r e k)))

-- the end
module _ (kinds low : List ℕ) (limit : ℕ) (s₀ : List ℕ) (n w count : ℕ) (s : List ℕ) (from to more left taken : ℕ) (L : Loop kinds low limit s₀ n w count s from to more left taken) where
  -- the rows that were not passed, as a run of words
  module _ (m : ℕ) (e : m ≡ more) where
    pub run_within : from + m * w ≤ length s
    run_within = rw (e, L.wide) (omega (arith, L.pass.place.size, L.pass.place.room))

    pub run_fits : length s₀ * 4 < 9223372036854775808 → Fits w64 (m * w)
    run_fits h = omega (arith, run_within, L.pass.long)

  module _ (rows : ℕ) (c : count ≡ rows) (stop : (limit ≤ taken) ⊎ (more ≤ 0)) where
    abbrev R₀ : List Row
    R₀ = map row_of (pieces (7 + n) rows s₀)

    at_rows : Passing kinds low limit s₀ n rows s from to more left taken
    at_rows = subst (λ (k : ℕ). Passing kinds low limit s₀ n k s from to more left taken) c L.pass

    pub loop_count : left + more ≡ length (rows_then kinds low limit R₀)
    loop_count = passing_count kinds low limit s₀ n rows s from to more left taken at_rows stop

    pub loop_steps : taken ≡ steps_then kinds low limit R₀
    loop_steps = passing_steps kinds low limit s₀ n rows s from to more left taken at_rows stop

    pub loop_done : (m : ℕ) → m ≡ more → (s' : List ℕ) → s' ≡ closed_up s from to (m * w) → s' ≡ padded (rows * (7 + n)) (flat (map (row_words n) (rows_then kinds low limit R₀))) ++ drop (rows * (7 + n)) s₀
    loop_done m e s' f = passing_done kinds low limit s₀ n rows s from to more left taken at_rows stop s' (f ∙ rw (e, L.wide) refl)
