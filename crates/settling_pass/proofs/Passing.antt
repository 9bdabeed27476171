-- A pass over rows in words: what its loop knows at its head, and how it goes on. `more` rows are still to be read, from place `from`;
-- `left` rows are kept, up to place `to`; `taken` steps were taken.
use Prim.Native.Nat.{ℕ, zero, suc, ◌+◌, ◌-◌, ◌*◌, ◌≤◌, ◌<◌}
use mathlib.Core.Path.{◌≡◌, refl, sym, ap, ◌∙◌, subst}
use mathlib.Core.Bool.{true, false}
use mathlib.Core.Logic.{◌⊎◌, inl, inr}
use mathlib.Core.List.{List, [], ◌∷◌, ◌++◌, map, append_assoc, append-nil}
use native.Mathlib.Omega.{arith}
use native.Mathlib.Nat.{suc-mul, zero-mul}
use native.Mathlib.Numerals.{add-one}
use lib.ListN.{length, take, drop, replicate, length-drop, length-append, take-append-drop, length-map}
use lib.Seq.{paste, take_at, drop_at, take-append-le, length-take-le, drop-drop, drop-paste, take-paste, length-paste, take-take, take-add}
use Rattle.meaning.specs.Tests.{any}
use Rattle.meaning.specs.Operations.{number_of}
use Rattle.meaning.specs.Rows.{Row, settled_row}
use Rattle.meaning.specs.Settling.{due, step_at, settled_rows, steps_taken}
use Rattle.words_layout.specs.Words.{pieces, flat, padded}
use Rattle.words_layout.specs.Layout.{row_of, row_words}
use Rattle.words_layout.proofs.Pieces.{Wide, length_pieces, flat_pieces, wide_pieces, pieces_at}
use Rattle.words_layout.proofs.RowWords.{row_read_lem, length_row}
use Rattle.words_moves.proofs.Moving.{drop_more}
use Rattle.table_drop.proofs.Dropping.{Place, place_start, next_size, row_room, place_next, ahead}
use Rattle.settling_step.specs.declared.Step.{Step}
use Rattle.settling_step.specs.declared.Step.TheVariants.{Keeps, Settles, Drops, DropsBoth}
use Rattle.settling_step.specs.Stepping.{step_among, step_for}
use Rattle.settling_step.specs.Held.{kind_at, Held}
use Rattle.settling_step.proofs.Testing.{map_last}
use Rattle.settling_step.proofs.OneStep.{is_keeps, kept_not_due, step_due, settled_not_due, map_append, settles_words, drops_words, both_words, some_words}
use Rattle.settling_pass.specs.Passing.{rows_then, steps_then, closed_up}
use Rattle.settling_pass.proofs.Turns.{Left, left_start, left_keep, left_step, left_done}

-- the words of a row that is settled where it stands
settled_words : (n zeros : ℕ) (ws : List ℕ) → zeros ≡ 3 + n → row_words n (row_of ws) ≡ ws → row_words n (settled_row (row_of ws).operation) ≡ take 4 ws ++ replicate zeros 0
unfolding number_of
settled_words n zeros ws f e =
    let z : n - 0 ≡ n = omega arith in
    let k : zeros ≡ suc (suc (suc n)) = omega arith in
    rw (z, k) (ap (λ (l : List ℕ). take 4 l ++ (0 ∷ 0 ∷ 0 ∷ replicate n 0)) e)

-- settling a row where it stands
pub settled_here_lem : (s t : List ℕ) (at n : ℕ) → at + (7 + n) ≤ length s → row_words n (row_of (take (7 + n) (drop at s))) ≡ take (7 + n) (drop at s) →
    t ≡ take (at + 4) s ++ replicate (at + 7 + n - (at + 4)) 0 ++ drop (at + 7 + n) s → t ≡ take at s ++ (row_words n (settled_row (row_of (take (7 + n) (drop at s))).operation) ++ drop (at + (7 + n)) s)
settled_here_lem s t at n h e f =
    let ws = take (7 + n) (drop at s) in
    let zeros = at + 7 + n - (at + 4) in
    let k : zeros ≡ 3 + n = omega arith in
    let four : take 4 ws ≡ take 4 (drop at s) = take-take 4 (7 + n) (drop at s) (omega arith) in
    let a : at + 7 + n ≡ at + (7 + n) = omega arith in
    f ∙ ap (λ (l : List ℕ). (l ++ replicate zeros 0) ++ drop (at + 7 + n) s) (take-add at 4 s)
    ∙ append_assoc (take at s ++ take 4 (drop at s)) (replicate zeros 0) (drop (at + 7 + n) s)
    ∙ append_assoc (take at s) (take 4 (drop at s)) (replicate zeros 0 ++ drop (at + 7 + n) s)
    ∙ ap (λ (l : List ℕ). take at s ++ l) (sym (append_assoc (take 4 (drop at s)) (replicate zeros 0) (drop (at + 7 + n) s))
    ∙ ap (λ (l : List ℕ). (l ++ replicate zeros 0) ++ drop (at + 7 + n) s) (sym four)
    ∙ ap (λ (l : List ℕ). l ++ drop (at + 7 + n) s) (sym (settled_words n zeros ws k e))
    ∙ ap (λ (i : ℕ). row_words n (settled_row (row_of ws).operation) ++ drop i s) a)

-- pieces that words begin with
pieces_of : (w k : ℕ) (l : List (List ℕ)) (s : List ℕ) → Wide w l → length l ≡ k → take (k * w) s ≡ flat l → pieces w k s ≡ l
pieces_of w k l s h e f = ap (pieces w k) (sym (take-append-drop (k * w) s) ∙ ap (λ (m : List ℕ). m ++ drop (k * w) s) f) ∙ pieces_at w k l (drop (k * w) s) h e

-- the same front has the same pieces
pieces_front : (w k : ℕ) (s t : List ℕ) → k * w ≤ length t → take (k * w) s ≡ take (k * w) t → pieces w k s ≡ pieces w k t
pieces_front w k s t h e = pieces_of w k (pieces w k t) s (wide_pieces w k t h) (length_pieces w k t) (e ∙ sym (flat_pieces w k t))

flat_last : (l : List (List ℕ)) (x : List ℕ) → flat (l ++ (x ∷ [])) ≡ flat l ++ x
flat_last [] x = append-nil x
flat_last (y ∷ l) x = ap (λ (m : List ℕ). y ++ m) (flat_last l x) ∙ sym (append_assoc y (flat l) x)

wide_last : (w : ℕ) (l : List (List ℕ)) (x : List ℕ) → Wide w l → length x ≡ w → Wide w (l ++ (x ∷ []))
wide_last w [] x h e = (e, tt)
wide_last w (y ∷ l) x h e = (h.0, wide_last w l x h.1 e)

pub record Passing (kinds low : List ℕ) (limit : ℕ) (s₀ : List ℕ) (n count : ℕ) (s : List ℕ) (from to more left taken : ℕ) : Type 0 where
  pub place : Place (7 + n) count s from more
  pub below : to ≤ from
  pub kept : to ≡ left * (7 + n)
  pub long : length s ≡ length s₀
  pub fewer : left + more ≤ count
  pub held : Held kinds n (pieces (7 + n) left s ++ pieces (7 + n) more (drop from s))
  pub left_is : Left limit (kind_at kinds) low (map row_of (pieces (7 + n) count s₀)) (map row_of (pieces (7 + n) left s)) (map row_of (pieces (7 + n) more (drop from s))) taken
  pub beyond : drop (count * (7 + n)) s ≡ drop (count * (7 + n)) s₀

pub passing_start : (kinds low : List ℕ) (limit : ℕ) (s : List ℕ) (n count : ℕ) → count * (7 + n) ≤ length s → Held kinds n (pieces (7 + n) count s) → Passing kinds low limit s n count s 0 0 count 0 0
passing_start kinds low limit s n count h H = record {
  place = place_start s (7 + n) count h;
  below = omega arith;
  kept = sym (zero-mul (7 + n));
  long = refl;
  fewer = omega arith;
  held = H;
  left_is = left_start limit (kind_at kinds) low (map row_of (pieces (7 + n) count s));
  beyond = refl;
}

-- a turn
module _ (kinds low : List ℕ) (limit : ℕ) (s₀ : List ℕ) (n count : ℕ) (s : List ℕ) (from to more left taken : ℕ) (D : Passing kinds low limit s₀ n count s from to more left taken) (h : 0 < more) where
  abbrev w : ℕ
  w = 7 + n

  abbrev ls : List (List ℕ)
  ls = pieces w left s

  abbrev ws : List ℕ
  ws = take w (drop from s)

  abbrev ms : List (List ℕ)
  ms = pieces w (more - 1) (drop (from + w) s)

  pub read_ahead : pieces w more (drop from s) ≡ ws ∷ ms
  read_ahead = let q : from + w - from ≡ w = omega arith in ahead s w count from more D.place h ∙ rw q refl

  pub held_ahead : Held kinds n (ls ++ (ws ∷ ms))
  held_ahead = subst (λ (l : List (List ℕ)). Held kinds n (ls ++ l)) read_ahead D.held

  left_ahead : Left limit (kind_at kinds) low (map row_of (pieces w count s₀)) (map row_of ls) (row_of ws ∷ map row_of ms) taken
  left_ahead = subst (λ (l : List (List ℕ)). Left limit (kind_at kinds) low (map row_of (pieces w count s₀)) (map row_of ls) (map row_of l) taken) read_ahead D.left_is

  pub here_room : from + w ≤ length s
  here_room = row_room s w count from more D.place h

  -- a row that is kept moves down to the others
  module _ (s' : List ℕ) (p : s' ≡ paste s to (drop from s) w) where
    wide : w ≤ length (drop from s)
    wide = simp length-drop (omega (arith, here_room))

    fit : to ≤ length s
    fit = omega (arith, D.below, here_room)

    front : take (to + w) s' ≡ take to s ++ ws
    front = ap (take (to + w)) p ∙ take-paste s to (drop from s) w fit wide

    tail : drop (to + w) s' ≡ drop (to + w) s
    tail = ap (drop (to + w)) p ∙ drop-paste s to (drop from s) w fit wide

    len : length s' ≡ length s
    len = ap length p ∙ length-paste s to (drop from s) w (omega (arith, D.below, here_room)) wide

    later_same : drop (from + w) s' ≡ drop (from + w) s
    later_same = drop_more s' s (to + w) (from + w) (omega (arith, D.below)) tail

    pub pieces_kept : pieces w (left + 1) s' ≡ ls ++ (ws ∷ [])
    pieces_kept =
        let area : left * w ≤ length s = omega (arith, fit, D.kept) in
        let one : (left + 1) * w ≡ to + w = omega (arith, add-one left, suc-mul left w, D.kept) in
        pieces_of w (left + 1) (ls ++ (ws ∷ [])) s' (wide_last w ls ws (wide_pieces w left s area) (length-take-le w (drop from s) wide))
        (length-append ls (ws ∷ []) ∙ omega (arith, length_pieces w left s))
        (ap (λ (k : ℕ). take k s') one ∙ front ∙ ap (λ (l : List ℕ). l ++ ws) (ap (λ (k : ℕ). take k s) D.kept ∙ sym (flat_pieces w left s)) ∙ sym (flat_last ls ws))

    -- a row that is not due
    pub moved_down : due low (row_of ws) ≡ false → Passing kinds low limit s₀ n count s' (from + w) (to + w) (more - 1) (left + 1) taken
    moved_down d =
        let one : (left + 1) * w ≡ to + w = omega (arith, add-one left, suc-mul left w, D.kept) in
        let now_above : map row_of (pieces w (left + 1) s') ≡ map row_of ls ++ (row_of ws ∷ []) = ap (map row_of) pieces_kept ∙ map_last ls ws in
        let now_below : map row_of (pieces w (more - 1) (drop (from + w) s')) ≡ map row_of ms = ap (λ (l : List ℕ). map row_of (pieces w (more - 1) l)) later_same in
        record {
          place = record { size = next_size s w count from more D.place h; room = rw len D.place.room };
          below = omega (arith, D.below);
          kept = sym one;
          long = len ∙ D.long;
          fewer = omega (arith, D.fewer);
          held = subst (λ (l : List (List ℕ)). Held kinds n l) (sym (rw (pieces_kept, later_same) (append_assoc ls (ws ∷ []) ms))) held_ahead;
          left_is = rw (now_above, now_below) (left_keep limit (kind_at kinds) low (map row_of (pieces w count s₀)) (map row_of ls) (map row_of ms) taken (row_of ws) left_ahead d);
          beyond = drop_more s' s (to + w) (count * w) (omega (arith, D.below, next_size s w count from more D.place h)) tail ∙ D.beyond;
        }

    pub passing_keep : (r : Step) → r ≡ step_for (kind_at kinds) low (map row_of ls) (row_of ws) (map row_of ms) → r ≡ Keeps → Passing kinds low limit s₀ n count s' (from + w) (to + w) (more - 1) (left + 1) taken
    passing_keep r e k = moved_down (kept_not_due (kind_at kinds) low (map row_of ls) (row_of ws) (map row_of ms) r e k)

  -- a step is taken
  module _ (less : taken < limit) (r : Step) (e : r ≡ step_for (kind_at kinds) low (map row_of ls) (row_of ws) (map row_of ms)) where
    abbrev asked : Step
    asked = step_among (kind_at kinds (row_of ws).operation.object) (row_of ws).operation (map row_of ls) (map row_of ms)

    taken_step : (step : Step) → is_keeps step ≡ false → r ≡ step → (due low (row_of ws) ≡ true) × (step ≡ asked)
    taken_step step n k =
        let d = step_due (kind_at kinds) low (map row_of ls) (row_of ws) (map row_of ms) r e (ap is_keeps k ∙ n) in
        (d.0, sym k ∙ d.1)

    next_left : (above' below' : List Row) → due low (row_of ws) ≡ true → step_at (kind_at kinds (row_of ws).operation.object) (map row_of ls) (row_of ws).operation (map row_of ms) ≡ above' ++ below' → any (due low) above' ≡ false →
        Left limit (kind_at kinds) low (map row_of (pieces w count s₀)) above' below' (taken + 1)
    next_left above' below' d f p = left_step limit (kind_at kinds) low (map row_of (pieces w count s₀)) (map row_of ls) (map row_of ms) taken (row_of ws) above' below' left_ahead less d f p

    pub passing_drop : r ≡ Drops → Passing kinds low limit s₀ n count s (from + w) to (more - 1) left (taken + 1)
    passing_drop k =
        let t = taken_step Drops refl k in
        let x = drops_words kinds low n ls ms ws held_ahead t.0 t.1 in
        record {
          place = place_next s w count from more D.place h;
          below = omega (arith, D.below);
          kept = D.kept;
          long = D.long;
          fewer = omega (arith, D.fewer);
          held = x.1;
          left_is = next_left (map row_of ls) (map row_of ms) t.0 x.0 D.left_is.passed;
          beyond = D.beyond;
        }

    -- and the next row goes with it
    some_behind : r ≡ DropsBoth → (k : ℕ) → k ≡ more - 1 → 0 < k
    some_behind b zero f =
        let t = taken_step DropsBoth refl b in
        absurd (some_words kinds low n ls ms ws held_ahead t.0 t.1 (rw (sym f) refl))
    some_behind b (suc k) f = omega arith

    pub both_more : r ≡ DropsBoth → 1 ≤ more - 1
    both_more b = some_behind b (more - 1) refl

    pub passing_both : r ≡ DropsBoth → Passing kinds low limit s₀ n count s (from + w + w) to (more - 1 - 1) left (taken + 1)
    passing_both b =
        let t = taken_step DropsBoth refl b in
        let place' = place_next s w count from more D.place h in
        let q : from + w + w - (from + w) ≡ w = omega arith in
        let behind : ms ≡ take w (drop (from + w) s) ∷ pieces w (more - 1 - 1) (drop (from + w + w) s) = ahead s w count (from + w) (more - 1) place' (both_more b) ∙ rw q refl in
        let x = both_words kinds low n ls ms ws held_ahead t.0 t.1 (take w (drop (from + w) s)) (pieces w (more - 1 - 1) (drop (from + w + w) s)) behind in
        record {
          place = place_next s w count (from + w) (more - 1) place' (both_more b);
          below = omega (arith, D.below);
          kept = D.kept;
          long = D.long;
          fewer = omega (arith, D.fewer);
          held = x.1;
          left_is = next_left (map row_of ls) (map row_of (pieces w (more - 1 - 1) (drop (from + w + w) s))) t.0 x.0 D.left_is.passed;
          beyond = D.beyond;
        }

    -- it becomes settled where it stands
    module _ (s₁ : List ℕ) (f : s₁ ≡ take from s ++ (row_words n (settled_row (row_of ws).operation) ++ drop (from + w) s)) where
      abbrev sw : List ℕ
      sw = row_words n (settled_row (row_of ws).operation)

      sw_long : length sw ≡ w
      sw_long = length_row n (settled_row (row_of ws).operation) (omega arith)

      ahead_long : length (take from s) ≡ from
      ahead_long = length-take-le from s (omega (arith, here_room))

      from_here : drop from s₁ ≡ sw ++ drop (from + w) s
      from_here = ap (drop from) f ∙ drop_at (take from s) (sw ++ drop (from + w) s) from ahead_long

      row_now : take w (drop from s₁) ≡ sw
      row_now = ap (take w) from_here ∙ take_at sw (drop (from + w) s) w sw_long

      later_now : drop (from + w) s₁ ≡ drop (from + w) s
      later_now = let c : w + from ≡ from + w = omega arith in sym (drop-drop w from s₁) ∙ ap (drop w) from_here ∙ drop_at sw (drop (from + w) s) w sw_long

      above_now : pieces w left s₁ ≡ ls
      above_now = pieces_front w left s₁ s (omega (arith, D.kept, D.below, here_room))
          (ap (take (left * w)) f ∙ take-append-le (left * w) (take from s) (sw ++ drop (from + w) s) (omega (arith, D.kept, D.below, ahead_long)) ∙ take-take (left * w) from s (omega (arith, D.kept, D.below)))

      long_now : length s₁ ≡ length s
      long_now = ap length f ∙ length-append (take from s) (sw ++ drop (from + w) s) ∙ omega (arith, ahead_long, length-append sw (drop (from + w) s), sw_long, length-drop (from + w) s, here_room)

      pieces_now : pieces w more (drop from s₁) ≡ sw ∷ ms
      pieces_now = go more h
        where
          go : (m : ℕ) → 0 < m → pieces w m (drop from s₁) ≡ sw ∷ pieces w (m - 1) (drop (from + w) s)
          go zero k = absurd (omega arith)
          go (suc m) k = let p : suc m - 1 ≡ m = omega arith in rw (p, row_now, drop-drop w from s₁, later_now) refl

      settled_in_place : r ≡ Settles → Passing kinds low limit s₀ n count s₁ from to more left (taken + 1)
      settled_in_place k =
          let t = taken_step Settles refl k in
          let x = settles_words kinds low n ls ms ws held_ahead t.0 t.1 in
          let below_now : map row_of (pieces w more (drop from s₁)) ≡ settled_row (row_of ws).operation ∷ map row_of ms = ap (map row_of) pieces_now ∙ ap (λ (row : Row). row ∷ map row_of ms) (row_read_lem n (settled_row (row_of ws).operation) (record { long = refl })) in
          record {
            place = record { size = D.place.size; room = rw long_now D.place.room };
            below = D.below;
            kept = D.kept;
            long = long_now ∙ D.long;
            fewer = D.fewer;
            held = rw (above_now, pieces_now) x.1;
            left_is = rw (above_now, below_now) (next_left (map row_of ls) (settled_row (row_of ws).operation ∷ map row_of ms) t.0 x.0 D.left_is.passed);
            beyond = drop_more s₁ s (from + w) (count * w) (omega (arith, next_size s w count from more D.place h)) later_now ∙ D.beyond;
          }

      now_settled : due low (row_of (take w (drop from s₁))) ≡ false
      now_settled = rw (row_now, row_read_lem n (settled_row (row_of ws).operation) (record { long = refl })) (settled_not_due low (row_of ws).operation)

-- so that it is kept as a settled row
pub passing_settle : (kinds low : List ℕ) (limit : ℕ) (s₀ : List ℕ) (n count : ℕ) (s : List ℕ) (from to more left taken : ℕ) → Passing kinds low limit s₀ n count s from to more left taken → 0 < more → taken < limit →
    (r : Step) → r ≡ step_for (kind_at kinds) low (map row_of (pieces (7 + n) left s)) (row_of (take (7 + n) (drop from s))) (map row_of (pieces (7 + n) (more - 1) (drop (from + (7 + n)) s))) → r ≡ Settles →
    (s₁ s' : List ℕ) → s₁ ≡ take from s ++ (row_words n (settled_row (row_of (take (7 + n) (drop from s))).operation) ++ drop (from + (7 + n)) s) → s' ≡ paste s₁ to (drop from s₁) (7 + n) →
    Passing kinds low limit s₀ n count s' (from + (7 + n)) (to + (7 + n)) (more - 1) (left + 1) (taken + 1)
passing_settle kinds low limit s₀ n count s from to more left taken D h less r e k s₁ s' f p =
    moved_down kinds low limit s₀ n count s₁ from to more left (taken + 1)
    (settled_in_place kinds low limit s₀ n count s from to more left taken D h less r e s₁ f k) h s' p
    (now_settled kinds low limit s₀ n count s from to more left taken D h less r e s₁ f)

-- the end: what was not passed moves down to the rest, with zeros behind
module _ (kinds low : List ℕ) (limit : ℕ) (s₀ : List ℕ) (n count : ℕ) (s : List ℕ) (from to more left taken : ℕ) (D : Passing kinds low limit s₀ n count s from to more left taken) (stop : (limit ≤ taken) ⊎ (more ≤ 0)) where
  abbrev R₀ : List Row
  R₀ = map row_of (pieces (7 + n) count s₀)

  abbrev all : List (List ℕ)
  all = pieces (7 + n) left s ++ pieces (7 + n) more (drop from s)

  none : (m : ℕ) → m ≡ more → (limit ≤ taken) ⊎ (m ≤ 0) → (limit - taken ≡ 0) ⊎ (map row_of (pieces (7 + n) m (drop from s)) ≡ [])
  none m f (inl g) = inl (omega arith)
  none zero f (inr g) = inr refl
  none (suc m) f (inr g) = absurd (omega arith)

  ended : (settled_rows limit (kind_at kinds) low R₀ ≡ map row_of all) × (steps_taken limit (kind_at kinds) low R₀ ≡ taken)
  ended =
      let x = left_done limit (kind_at kinds) low R₀ (map row_of (pieces (7 + n) left s)) (map row_of (pieces (7 + n) more (drop from s))) taken D.left_is (none more refl stop) in
      (x.0 ∙ sym (map_append (pieces (7 + n) left s) (pieces (7 + n) more (drop from s))), x.1)

  pub passing_steps : taken ≡ steps_then kinds low limit R₀
  unfolding steps_then
  passing_steps = sym ended.1

  pub passing_count : left + more ≡ length (rows_then kinds low limit R₀)
  unfolding rows_then
  passing_count = sym (ap length ended.0 ∙ length-map all row_of ∙ length-append (pieces (7 + n) left s) (pieces (7 + n) more (drop from s)) ∙ omega (arith, length_pieces (7 + n) left s, length_pieces (7 + n) more (drop from s)))

  flat_both : (l m : List (List ℕ)) → flat (l ++ m) ≡ flat l ++ flat m
  flat_both [] m = refl
  flat_both (x ∷ l) m = ap (λ (k : List ℕ). x ++ k) (flat_both l m) ∙ sym (append_assoc x (flat l) (flat m))

  words_are : flat (map (row_words n) (rows_then kinds low limit R₀)) ≡ take to s ++ take (more * (7 + n)) (drop from s)
  unfolding rows_then
  words_are = ap (λ (rows : List Row). flat (map (row_words n) rows)) ended.0 ∙ ap flat D.held.spelt ∙ flat_both (pieces (7 + n) left s) (pieces (7 + n) more (drop from s))
      ∙ rw (flat_pieces (7 + n) left s, flat_pieces (7 + n) more (drop from s), ← D.kept) refl

  pub run_room : from + more * (7 + n) ≤ length s
  run_room = omega (arith, D.place.size, D.place.room)

  pub passing_done : (s' : List ℕ) → s' ≡ closed_up s from to (more * (7 + n)) → s' ≡ padded (count * (7 + n)) (flat (map (row_words n) (rows_then kinds low limit R₀))) ++ drop (count * (7 + n)) s₀
  unfolding closed_up
  passing_done s' f =
      let run = more * (7 + n) in
      let a : length (take to s) ≡ to = length-take-le to s (omega (arith, D.below, run_room)) in
      let c : length (take run (drop from s)) ≡ run = length-take-le run (drop from s) (simp length-drop (omega (arith, run_room))) in
      let size : count * (7 + n) ≡ from + run = sym D.place.size in
      let zeros : count * (7 + n) - length (take to s ++ take run (drop from s)) ≡ from - to = omega (arith, length-append (take to s) (take run (drop from s)), a, c, size, D.below) in
      f ∙ rw (words_are, zeros, ← D.beyond, size) (simp append_assoc)

-- a run moved down, and zeros behind it
pub closed : (s t u : List ℕ) (from to run : ℕ) → to ≤ from → from + run ≤ length s → t ≡ paste s to (drop from s) run → u ≡ take (to + run) t ++ replicate (from + run - (to + run)) 0 ++ drop (from + run) t → u ≡ closed_up s from to run
unfolding closed_up
closed s t u from to run h k e f =
    let wide : run ≤ length (drop from s) = simp length-drop (omega arith) in
    let front : take (to + run) t ≡ take to s ++ take run (drop from s) = ap (take (to + run)) e ∙ take-paste s to (drop from s) run (omega arith) wide in
    let tail : drop (to + run) t ≡ drop (to + run) s = ap (drop (to + run)) e ∙ drop-paste s to (drop from s) run (omega arith) wide in
    let behind : drop (from + run) t ≡ drop (from + run) s = drop_more t s (to + run) (from + run) (omega arith) tail in
    let zeros : from + run - (to + run) ≡ from - to = omega arith in
    f ∙ rw (front, behind, zeros) (simp append_assoc)
