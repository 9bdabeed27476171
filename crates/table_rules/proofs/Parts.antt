-- The parts of a table, as the code lends them.
use Prim.Native.Nat.{ℕ, ◌+◌, ◌-◌, ◌*◌, ◌≤◌}
use mathlib.Core.Path.{◌≡◌, refl, sym, ap, ◌∙◌}
use mathlib.Core.Bool.{Bool, true, false}
use mathlib.Core.List.{List}
use native.Mathlib.Omega.{arith}
use native.Mathlib.Nat.{mul-le-mul_right}
use lib.ListN.{length, get_or, take, drop, length-drop}
use lib.Seq.{length-take-le}
use Rattle.meaning.specs.Tests.{every, every_at, between}
use Rattle.meaning.specs.Table.{total_bound, most_objects}
use Rattle.words_layout.specs.Words.{all_zero, pieces}
use Rattle.words_layout.specs.Layout.{rows_in, space_for, size_in, capacity_in, objects_in, count_in, clock_at, totals_at, totals_width}
use Rattle.table_rules_rows.specs.RowTests.{rows_kept}
use Rattle.table_rules_rows.proofs.Tagging.{rest_is}
use Rattle.table_rules_clock.specs.ClockTests.{total_kept_at, last_kept}
use Rattle.table_rules.specs.TableTests.{Headed, kinds_in, clock_in, kinds_kept, totals_kept, lasts_kept, unused_kept}

-- the kinds
module _ (s : List ℕ) (k : List ℕ) (ek : k ≡ kinds_in s) (r : Bool) (er : r ≡ every (between 1 9) k) where
  kinds_told : r ≡ every (between 1 9) (kinds_in s)
  kinds_told = er ∙ ap (every (between 1 9)) ek

  pub kinds_wrong : r ≡ false → r ≡ kinds_kept s
  unfolding kinds_kept
  kinds_wrong h = h ∙ rw (sym kinds_told ∙ h) refl

  pub kinds_beyond : r ≡ true → (o : ℕ) → o ≡ get_or s 4 0 → (z : Bool) → z ≡ all_zero (take (totals_at - (7 + o)) (drop (7 + o) s)) → z ≡ kinds_kept s
  unfolding kinds_kept
  kinds_beyond h o eo z e =
      let q : totals_at - (7 + o) ≡ most_objects - get_or s 4 0 = omega arith in
      rw (sym kinds_told ∙ h) (e ∙ rw (q, eo) refl)

-- the clock and the kinds, where their ends equal what the head says
module _ (s : List ℕ) (H : Headed s) where
  pub clock_is : (n : ℕ) → n ≡ get_or s 1 0 → take (clock_at + n - clock_at) (drop clock_at s) ≡ clock_in s
  clock_is n e = let q : clock_at + n - clock_at ≡ get_or s 1 0 = omega arith in ap (λ (k : ℕ). take k (drop clock_at s)) q

  pub kinds_are : (o : ℕ) → o ≡ get_or s 4 0 → take (7 + o - 7) (drop 7 s) ≡ kinds_in s
  kinds_are o e = let q : 7 + o - 7 ≡ get_or s 4 0 = omega arith in ap (λ (k : ℕ). take k (drop 7 s)) q

  pub clock_long : length (clock_in s) ≡ size_in s
  clock_long = length-take-le (size_in s) (drop clock_at s) (simp length-drop (omega (arith, H.room)))

  pub kinds_long : length (kinds_in s) ≡ objects_in s
  kinds_long = length-take-le (objects_in s) (drop 7 s) (simp length-drop (omega (arith, H.room, H.objects)))

  pub row_area : count_in s * (7 + size_in s) ≤ capacity_in s * (7 + size_in s)
  row_area = mul-le-mul_right (7 + size_in s) H.within

  -- the totals
  module _ (k d : List ℕ) (bound : ℕ) (ek : k ≡ kinds_in s) (ed : d ≡ clock_in s) (eb : bound ≡ total_bound d) (r : Bool)
      (er : r ≡ every_at (total_kept_at bound k) 0 (pieces 2 (length k) (take (length s - totals_at) (drop totals_at s)))) where
    totals_told : r ≡ every_at (total_kept_at (total_bound (clock_in s)) (kinds_in s)) 0 (pieces 2 (objects_in s) (drop totals_at s))
    totals_told = er ∙ rw (ek, kinds_long, eb, ed, rest_is s totals_at) refl

    pub totals_wrong : r ≡ false → r ≡ totals_kept s
    unfolding totals_kept
    totals_wrong h = h ∙ rw (sym totals_told ∙ h) refl

    pub totals_beyond : r ≡ true → (o : ℕ) → o ≡ get_or s 4 0 → (z : Bool) → z ≡ all_zero (take (clock_at - (totals_at + o * 2)) (drop (totals_at + o * 2) s)) → z ≡ totals_kept s
    unfolding totals_kept
    totals_beyond h o eo z e =
        let q : clock_at - (totals_at + o * 2) ≡ totals_width - get_or s 4 0 * 2 = omega arith in
        rw (sym totals_told ∙ h) (e ∙ rw (q, eo) refl)

  -- the vectors of the last frames
  module _ (n : ℕ) (en : n ≡ get_or s 1 0) (d : List ℕ) (ed : d ≡ clock_in s) where
    pub lasts_room : length d * length d ≤ length (take (length s - (clock_at + n)) (drop (clock_at + n) s))
    lasts_room = rw (ed, clock_long, rest_is s (clock_at + n), en) (simp length-drop (omega (arith, H.room)))

    pub lasts_told : (r : Bool) → r ≡ every_at (last_kept (get_or s 2 0) d) 0 (pieces (length d) (length d) (take (length s - (clock_at + n)) (drop (clock_at + n) s))) → r ≡ lasts_kept s
    unfolding lasts_kept
    lasts_told r er = er ∙ rw (ed, clock_long, rest_is s (clock_at + n), en) refl

    pub row_wide : 7 + n ≡ 7 + length d
    row_wide = rw (ed, clock_long, en) refl

  module _ (n : ℕ) (en : n ≡ get_or s 1 0) where
    -- the rows
    module _ (start : ℕ) (es : start ≡ clock_at + n + n * n) where
      pub rows_start : start ≤ length s
      rows_start = rw (es, en) (omega (arith, H.room))

      pub rows_room : get_or s 5 0 * (7 + n) ≤ length (take (length s - start) (drop start s))
      rows_room = rw (rest_is s start, es, en) (simp length-drop (omega (arith, H.room, row_area)))

      pub rows_told : (k d : List ℕ) → k ≡ kinds_in s → d ≡ clock_in s → (r : Bool) → r ≡ rows_kept k d (pieces (7 + n) (get_or s 5 0) (take (length s - start) (drop start s))) → r ≡ rows_kept (kinds_in s) (clock_in s) (rows_in s)
      rows_told k d ek ed r er = er ∙ rw (ek, ed, rest_is s start, es, en) refl

    -- the words behind the rows
    pub unused_end : (to : ℕ) → to ≡ space_for n (get_or s 3 0) → to ≤ length s
    unused_end to et = rw (et, en) H.room

    module _ (from to : ℕ) (ef : from ≡ space_for n (get_or s 5 0)) (et : to ≡ space_for n (get_or s 3 0)) where
      pub unused_start : from ≤ to
      unused_start = rw (ef, et, en) (omega (arith, row_area))

      pub unused_told : (z : Bool) → z ≡ all_zero (take (to - from) (drop from s)) → z ≡ unused_kept s
      unfolding unused_kept
      unused_told z e =
          let q : space_for (get_or s 1 0) (get_or s 3 0) - space_for (get_or s 1 0) (get_or s 5 0) ≡ capacity_in s * (7 + size_in s) - count_in s * (7 + size_in s) = omega arith in
          e ∙ rw (ef, et, en) (ap (λ (m : ℕ). all_zero (take m (drop (space_for (get_or s 1 0) (get_or s 5 0)) s))) q)
