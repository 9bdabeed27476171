-- Loops that pass rows once: what they know at their head, and how they go on. `more` rows are still to be read, from place `from`.
use Prim.Native.Nat.{ℕ, zero, suc, ◌+◌, ◌-◌, ◌*◌, ◌≤◌, ◌<◌}
use mathlib.Core.Path.{◌≡◌, refl, sym, ap, ◌∙◌}
use mathlib.Core.Bool.{Bool, true, false}
use native.Mathlib.Numerals.{add-one}
use mathlib.Core.List.{List, ◌∷◌, ◌++◌, append_assoc, append-nil}
use native.Mathlib.Nat.{suc-mul}
use native.Mathlib.Omega.{arith}
use lib.ListN.{length, take, drop, replicate, length-drop}
use lib.Seq.{paste, drop-paste, take-paste, length-paste, drop-drop, length-take-le}
use Rattle.words_layout.specs.Words.{pieces, flat, padded}
use Rattle.table_drop.specs.Arriving.{left_by}
use Rattle.words_moves.proofs.Moving.{drop_more}

-- where a pass stands
pub record Place (w count : ℕ) (s : List ℕ) (from more : ℕ) : Type 0 where
  pub size : from + more * w ≡ count * w
  pub room : count * w ≤ length s

pub place_start : (s : List ℕ) (w count : ℕ) → count * w ≤ length s → Place w count s 0 count
place_start s w count h = record { size = omega arith; room = h }

-- a row ahead: there is one, and it is as wide as it should be
module _ (s : List ℕ) (w count from more : ℕ) (P : Place w count s from more) (h : 0 < more) where
  one : more ≡ suc (more - 1)
  one = omega arith

  pub next_size : from + w + (more - 1) * w ≡ count * w
  next_size = omega (arith, (rw one at P).size, suc-mul (more - 1) w)

  pub row_room : from + w ≤ length s
  row_room = omega (arith, next_size, P.room)

  pub place_next : Place w count s (from + w) (more - 1)
  place_next = record { size = next_size; room = P.room }

  -- the pieces ahead begin with the row that the code lends
  pub ahead : pieces w more (drop from s) ≡ take (from + w - from) (drop from s) ∷ pieces w (more - 1) (drop (from + w) s)
  ahead = go more h
    where
      q : from + w - from ≡ w
      q = omega arith

      go : (m : ℕ) → 0 < m → pieces w m (drop from s) ≡ take (from + w - from) (drop from s) ∷ pieces w (m - 1) (drop (from + w) s)
      go zero h = absurd (omega arith)
      go (suc k) h = let p : suc k - 1 ≡ k = omega arith in rw (p, q, drop-drop w from s) refl

pub row_wide : (s v : List ℕ) (w from : ℕ) → w ≡ 7 + length v → from + w ≤ length s → length (take (from + w - from) (drop from s)) ≡ 7 + length v
row_wide s v w from e h =
    let q : from + w - from ≡ w = omega arith in
    rw q (length-take-le w (drop from s) (simp length-drop (omega arith)) ∙ e)

-- the rows that a test leaves
stays_one : (g : List ℕ → Bool) (row : List ℕ) (l : List (List ℕ)) → g row ≡ false → left_by g (row ∷ l) ≡ row ∷ left_by g l
unfolding left_by
stays_one g row l e = rw e refl

goes_one : (g : List ℕ → Bool) (row : List ℕ) (l : List (List ℕ)) → g row ≡ true → left_by g (row ∷ l) ≡ left_by g l
unfolding left_by
goes_one g row l e = rw e refl

-- dropping the others where they stand: s₀ is the slice at entry; the kept rows end at place `to`
pub record Dropping (g : List ℕ → Bool) (s₀ : List ℕ) (w count : ℕ) (s : List ℕ) (from to more left : ℕ) : Type 0 where
  pub place : Place w count s from more
  pub below : to ≤ from
  pub long : length s ≡ length s₀
  pub fewer : left + more ≤ count
  pub kept : flat (left_by g (pieces w count s₀)) ≡ take to s ++ flat (left_by g (pieces w more (drop from s)))
  pub number : length (left_by g (pieces w count s₀)) ≡ left + length (left_by g (pieces w more (drop from s)))
  pub beyond : drop (count * w) s ≡ drop (count * w) s₀

module _ (g : List ℕ → Bool) (s₀ : List ℕ) (w count : ℕ) (s : List ℕ) (from to more left : ℕ) (D : Dropping g s₀ w count s from to more left) (h : 0 < more) where
  abbrev here : List ℕ
  here = take (from + w - from) (drop from s)

  abbrev later : List (List ℕ)
  later = pieces w (more - 1) (drop (from + w) s)

  pub dropping_skip : (r : Bool) → r ≡ g here → r ≡ true → Dropping g s₀ w count s (from + w) to (more - 1) left
  dropping_skip r e t =
      let next = ahead s w count from more D.place h in
      record {
        place = place_next s w count from more D.place h;
        below = omega (arith, D.below);
        long = D.long;
        fewer = omega (arith, D.fewer);
        kept = D.kept ∙ ap (λ (l : List (List ℕ)). take to s ++ flat (left_by g l)) next ∙ rw (goes_one g here later (sym e ∙ t)) refl;
        number = D.number ∙ ap (λ (l : List (List ℕ)). left + length (left_by g l)) next ∙ rw (goes_one g here later (sym e ∙ t)) refl;
        beyond = D.beyond;
      }

  pub dropping_keep : (r : Bool) (s' : List ℕ) → r ≡ g here → r ≡ false → s' ≡ paste s to (drop from s) w → Dropping g s₀ w count s' (from + w) (to + w) (more - 1) (left + 1)
  dropping_keep r s' e t p =
      let big : from + w ≤ length s = row_room s w count from more D.place h in
      let wide : w ≤ length (drop from s) = simp length-drop (omega arith) in
      let fit : to ≤ length s = omega (arith, D.below) in
      let tail : drop (to + w) s' ≡ drop (to + w) s = ap (drop (to + w)) p ∙ drop-paste s to (drop from s) w fit wide in
      let len : length s' ≡ length s = ap length p ∙ length-paste s to (drop from s) w (omega (arith, D.below)) wide in
      let front : take (to + w) s' ≡ take to s ++ take w (drop from s) = ap (take (to + w)) p ∙ take-paste s to (drop from s) w fit wide in
      let same : drop (from + w) s' ≡ drop (from + w) s = drop_more s' s (to + w) (from + w) (omega (arith, D.below)) tail in
      let next = ahead s w count from more D.place h in
      let q : from + w - from ≡ w = omega arith in
      record {
        place = record { size = next_size s w count from more D.place h; room = rw len D.place.room };
        below = omega (arith, D.below);
        long = len ∙ D.long;
        fewer = omega (arith, D.fewer);
        kept = D.kept ∙ ap (λ (l : List (List ℕ)). take to s ++ flat (left_by g l)) next ∙ rw (stays_one g here later (sym e ∙ t), q, front, same) (sym (append_assoc (take to s) (take w (drop from s)) (flat (left_by g later))));
        number = D.number ∙ ap (λ (l : List (List ℕ)). left + length (left_by g l)) next ∙ rw (stays_one g here later (sym e ∙ t), same) (omega arith);
        beyond = drop_more s' s (to + w) (count * w) (omega (arith, D.below, next_size s w count from more D.place h)) tail ∙ D.beyond;
      }

-- the end
module _ (g : List ℕ → Bool) (s₀ : List ℕ) (w count : ℕ) (s : List ℕ) (from to more left : ℕ) (D : Dropping g s₀ w count s from to more left) (h : more ≤ 0) where
  none : more ≡ 0
  none = omega arith

  all_read : from ≡ count * w
  all_read = omega (arith, (rw none at D).place.size)

  pub dropping_count : left ≡ length (left_by g (pieces w count s₀))
  unfolding left_by
  dropping_count = sym ((rw none at D).number ∙ omega arith)

  pub dropping_done : (s' : List ℕ) → s' ≡ take to s ++ replicate (from - to) 0 ++ drop from s → s' ≡ padded (count * w) (flat (left_by g (pieces w count s₀))) ++ drop (count * w) s₀
  unfolding left_by
  dropping_done s' e =
      let all : flat (left_by g (pieces w count s₀)) ≡ take to s = (rw none at D).kept ∙ append-nil (take to s) in
      let len : length (take to s) ≡ to = length-take-le to s (omega (arith, all_read, D.below, D.place.room)) in
      rw (all, len, ← D.beyond, ← all_read) e

-- a turn at row i, which stands at place `from` and is left or not
module _ (g : List ℕ → Bool) (s₀ : List ℕ) (w count : ℕ) (s : List ℕ) (i to left : ℕ) (D : Dropping g s₀ w count s (i * w) to (count - i) left) (h : i < count) (from : ℕ) (at : from ≡ i * w) where
  turned : Dropping g s₀ w count s from to (count - i) left
  turned = rw at D

  next : (s' : List ℕ) (to' left' : ℕ) → Dropping g s₀ w count s' (from + w) to' (count - i - 1) left' → Dropping g s₀ w count s' ((i + 1) * w) to' (count - (i + 1)) left'
  next s' to' left' E =
      let e : (i + 1) * w ≡ from + w = rw (at, add-one i) (omega (arith, suc-mul i w)) in
      let f : count - (i + 1) ≡ count - i - 1 = omega arith in
      rw (e, f) E

  pub row_kept : false ≡ g (take (from + w - from) (drop from s)) → (s' : List ℕ) (to' left' : ℕ) → s' ≡ paste s to (drop from s) w → to' ≡ to + w → left' ≡ left + 1 → Dropping g s₀ w count s' ((i + 1) * w) to' (count - (i + 1)) left'
  row_kept t s' to' left' p e f = next s' to' left' (rw (e, f) (dropping_keep g s₀ w count s from to (count - i) left turned (omega arith) false s' t refl p))

  pub row_gone : true ≡ g (take (from + w - from) (drop from s)) → (s' : List ℕ) (to' left' : ℕ) → s' ≡ s → to' ≡ to → left' ≡ left → Dropping g s₀ w count s' ((i + 1) * w) to' (count - (i + 1)) left'
  row_gone t s' to' left' p e f = next s' to' left' (rw (p, e, f) (dropping_skip g s₀ w count s from to (count - i) left turned (omega arith) true t refl))

pub rows_dropped : (g : List ℕ → Bool) (s₀ : List ℕ) (w count : ℕ) (s : List ℕ) (i to left end : ℕ) → Dropping g s₀ w count s (i * w) to (count - i) left → i ≡ count → end ≡ count * w
    → (s' : List ℕ) → s' ≡ take to s ++ replicate (end - to) 0 ++ drop end s → (left ≡ length (left_by g (pieces w count s₀))) × (s' ≡ padded (count * w) (flat (left_by g (pieces w count s₀))) ++ drop (count * w) s₀)
rows_dropped g s₀ w count s i to left end D all e s' p =
    let q : end ≡ i * w = rw (all, e) refl in
    let z : count - i ≤ 0 = omega arith in
    (dropping_count g s₀ w count s (i * w) to (count - i) left D z, dropping_done g s₀ w count s (i * w) to (count - i) left D z s' (rw q at p))
