-- The least of the other stations' vectors, made one after the other.
use mathlib.Core.Path.{◌≡◌, refl, sym, ap, subst, ◌∙◌}
use mathlib.Core.Bool.{Bool, true, false, cond}
use mathlib.Core.List.{List, [], ◌∷◌, ◌++◌, append-nil}
use Prim.Native.Nat.{ℕ, zero, suc, ◌+◌, ◌-◌, ◌*◌, ◌≤◌, ◌<◌, min}
use native.Mathlib.Nat.{suc-mul}
use native.Mathlib.Omega.{arith}
use lib.Dec.{ltb, leb}
use lib.ListN.{length, take, drop, replicate, length-drop}
use lib.Seq.{paste, drop-drop, length-take-le, take_all, take_at, drop_at}
use borrow.Author.Tests.{lt-ltb, le-ltb, ltb-true, ltb-false, leb-true}
use Rattle.meaning.specs.Tests.{every}
use Rattle.meaning.specs.Order.{Vector, at_most, least, least_of, others_of, low_of}
use Rattle.meaning.proofs.Tests.{cases, and_left, and_right}
use Rattle.words_layout.specs.Words.{pieces, padded}
use Rattle.words_layout.proofs.Pieces.{Wide, wide_pieces}
use Rattle.words_layout.proofs.Whole.{zeros_drop}
use Rattle.settling.specs.Below.{is_below, others_below}
use Rattle.meaning.specs.Table.{greatest_size}

-- the others' vectors from station k on
abbrev rest_from : ℕ → ℕ → List Vector → List Vector
rest_from own k rest = cond (ltb own k) rest (others_of (own - k) rest)

rest_skips : (own k : ℕ) (first : Vector) (rest : List Vector) → k ≡ own → rest_from own k (first ∷ rest) ≡ rest_from own (k + 1) rest
rest_skips own k first rest e =
    let z : own - k ≡ 0 = omega arith in
    rw (le-ltb own k (omega arith), z, lt-ltb own (k + 1) (omega arith)) refl

rest_takes : (own k : ℕ) (first : Vector) (rest : List Vector) → (k ≡ own → ⊥) → rest_from own k (first ∷ rest) ≡ first ∷ rest_from own (k + 1) rest
rest_takes own k first rest n = cases (ltb own k)
    (λ h. let l = ltb-true own k h in rw (h, lt-ltb own (k + 1) (omega arith)) refl)
    (λ h. let l = ltb-false own k h in let p : own - k ≡ suc (own - (k + 1)) = omega arith in rw (h, le-ltb own (k + 1) (omega arith), p) refl)

pub record Lessening (own : ℕ) (low₀ lasts low : List ℕ) (k at : ℕ) : Type 0 where
  pub sized : length low ≡ length low₀
  pub within : k ≤ length low₀
  pub place : at + (length low₀ - k) * length low₀ ≡ length low₀ * length low₀
  pub room : length low₀ * length low₀ ≤ length lasts
  pub whole : least_of low₀ (others_of own (pieces (length low₀) (length low₀) lasts)) ≡ least_of low (rest_from own k (pieces (length low₀) (length low₀ - k) (drop at lasts)))

pub lessening_start : (own : ℕ) (low lasts : List ℕ) → length low * length low ≤ length lasts → Lessening own low lasts low 0 (0 * length low)
lessening_start own low lasts h =
    let z : length low - 0 ≡ length low = omega arith in
    let o : own - 0 ≡ own = omega arith in
    let first : 0 * length low ≡ 0 = omega arith in
    rw first (record { sized = refl; within = omega arith; place = rw z (omega arith); room = h; whole = rw (z, le-ltb own 0 (omega arith), o) refl })

module _ (own : ℕ) (low₀ lasts low : List ℕ) (k at : ℕ) (L : Lessening own low₀ lasts low k at) (h : k < length low₀) where
  abbrev n : ℕ
  n = length low₀

  one : n - k ≡ suc (n - (k + 1))
  one = omega (arith, L.sized)

  next_place : at + n + (n - (k + 1)) * n ≡ n * n
  next_place = omega (arith, rw one at L.place, suc-mul (n - (k + 1)) n)

  pub part_room : at + length low ≤ length lasts
  part_room = rw L.sized (omega (arith, next_place, L.room))

  pub part_long : length low ≡ length (take (at + length low - at) (drop at lasts))
  part_long =
      let q : at + length low - at ≡ length low = omega arith in
      rw q (sym (length-take-le (length low) (drop at lasts) (simp length-drop (omega (arith, part_room)))))

  ahead : pieces n (n - k) (drop at lasts) ≡ take n (drop at lasts) ∷ pieces n (n - (k + 1)) (drop (at + n) lasts)
  ahead = rw (one, drop-drop n at lasts) refl

  skipped : k ≡ own → Lessening own low₀ lasts low (k + 1) (at + length low)
  skipped e = rw L.sized (record {
    sized = L.sized;
    within = omega (arith, L.sized);
    place = next_place;
    room = L.room;
    whole = L.whole ∙ ap (λ (l : List Vector). least_of low (rest_from own k l)) ahead ∙ ap (least_of low) (rest_skips own k (take n (drop at lasts)) (pieces n (n - (k + 1)) (drop (at + n) lasts)) e);
  })

  pub lessening_skip : (low' : List ℕ) → low' ≡ low → k ≡ own → Lessening own low₀ lasts low' (k + 1) (at + length low)
  lessening_skip low' same e = subst (λ (l : List ℕ). Lessening own low₀ lasts l (k + 1) (at + length low)) (sym same) (skipped e)

  pub lessening_by : (low' : List ℕ) → length low' ≡ length low → (k ≡ own → ⊥) → low' ≡ least low (take (at + length low - at) (drop at lasts)) → Lessening own low₀ lasts low' (k + 1) (at + length low)
  lessening_by low' g ne e =
      let q : at + length low - at ≡ n = omega (arith, L.sized) in
      rw L.sized (record {
        sized = g ∙ L.sized;
        within = omega (arith, L.sized);
        place = next_place;
        room = L.room;
        whole = L.whole ∙ ap (λ (l : List Vector). least_of low (rest_from own k l)) ahead ∙ ap (least_of low) (rest_takes own k (take n (drop at lasts)) (pieces n (n - (k + 1)) (drop (at + n) lasts)) ne)
            ∙ ap (λ (v : Vector). least_of v (rest_from own (k + 1) (pieces n (n - (k + 1)) (drop (at + n) lasts)))) (sym (rw q at e));
      })

-- the place of the next station's vector, by the station
pub at_next : (own : ℕ) (low₀ lasts low : List ℕ) (k n : ℕ) → length low ≡ n → Lessening own low₀ lasts low (k + 1) (k * n + n) → Lessening own low₀ lasts low (k + 1) ((k + 1) * length low)
at_next own low₀ lasts low k n g L =
    let q : k * n + n ≡ (k + 1) * length low = rw g (omega (arith, suc-mul k n)) in
    subst (λ (at : ℕ). Lessening own low₀ lasts low (k + 1) at) q L

lessening_done : (own : ℕ) (low₀ lasts low : List ℕ) (k at : ℕ) → Lessening own low₀ lasts low k at → length low₀ ≤ k → low ≡ least_of low₀ (others_of own (pieces (length low₀) (length low₀) lasts))
lessening_done own low₀ lasts low k at L h =
    let z : length low₀ - k ≡ 0 = omega (arith, L.sized) in
    sym (L.whole ∙ rw z (none (ltb own k) (own - k)))
  where
    none : (b : Bool) (m : ℕ) → least_of low (cond b [] (others_of m [])) ≡ low
    none true m = refl
    none false m = refl

pub lessened_by : (own place : ℕ) (low₀ lasts low : List ℕ) (k at : ℕ) → place ≡ own → Lessening place low₀ lasts low k at → length low₀ ≤ k → low ≡ least_of low₀ (others_of own (pieces (length low₀) (length low₀) lasts))
lessened_by own place low₀ lasts low k at e L h = lessening_done place low₀ lasts low k at L h ∙ rw e refl

-- the least of the clock and vectors below it is the least of the vectors
least_below : (v clock : Vector) → at_most v clock ≡ true → length v ≡ length clock → least clock v ≡ v
least_below [] [] h e = refl
least_below [] (d ∷ clock) h e = absurd (omega arith)
least_below (x ∷ v) [] h e = absurd (omega arith)
least_below (x ∷ v) (d ∷ clock) h e =
    let le = leb-true x d (and_left (leb x d) (at_most v clock) h) in
    let m : min d x ≡ x = omega arith in
    rw (m, least_below v clock (and_right (leb x d) (at_most v clock) h) (omega arith)) refl

pub wide_others : (n own : ℕ) (l : List Vector) → Wide n l → Wide n (others_of own l)
wide_others n own [] h = tt
wide_others n zero (v ∷ l) h = h.1
wide_others n (suc own) (v ∷ l) h = (h.0, wide_others n own l h.1)

low_by_clock : (clock : Vector) (others : List Vector) → Wide (length clock) others → every (is_below clock) others ≡ true → least_of clock others ≡ low_of clock others
unfolding is_below
low_by_clock clock [] w h = refl
low_by_clock clock (v ∷ others) w h = ap (λ (u : Vector). least_of u others) (least_below v clock (and_left (at_most v clock) (every (is_below clock) others) h) w.0)

-- Low is as long as the clock
least_length : (u v : Vector) → length u ≡ length v → length (least u v) ≡ length u
least_length [] [] e = refl
least_length [] (y ∷ v) e = refl
least_length (x ∷ u) [] e = absurd (omega arith)
least_length (x ∷ u) (y ∷ v) e = ap suc (least_length u v (omega arith))

least_of_length : (n : ℕ) (u : Vector) (others : List Vector) → length u ≡ n → Wide n others → length (least_of u others) ≡ n
least_of_length n u [] e w = e
least_of_length n u (v ∷ others) e w = least_of_length n (least u v) others (least_length u v (e ∙ sym w.0) ∙ e) w.1

pub low_length : (n : ℕ) (clock : Vector) (others : List Vector) → length clock ≡ n → Wide n others → length (low_of clock others) ≡ n
low_length n clock [] e w = e
low_length n clock (v ∷ others) e w = least_of_length n v others w.0 w.1

-- the array that begins with Low
module _ (clock lasts low : List ℕ) (own : ℕ) (few : length clock ≤ greatest_size) (room : length clock * length clock ≤ length lasts) (laid : low ≡ paste (replicate greatest_size 0) 0 clock (length clock)) where
  abbrev size : ℕ
  size = length clock

  clock_laid : low ≡ clock ++ replicate (greatest_size - size) 0
  clock_laid = let z : 0 + length clock ≡ size = omega arith in laid ∙ rw (take_all size clock (omega arith), z) (ap (λ (l : List ℕ). clock ++ l) (ap (drop size) (sym (append-nil (replicate greatest_size 0))) ∙ zeros_drop greatest_size size [] few ∙ append-nil (replicate (greatest_size - size) 0)))

  front : take (size - 0) low ≡ clock
  front = ap (take (size - 0)) clock_laid ∙ take_at clock (replicate (greatest_size - size) 0) (size - 0) (omega arith)

  pub low_asks : length (take (size - 0) low) * length (take (size - 0) low) ≤ length lasts
  low_asks = rw front room

  pub low_is_lem : others_below clock own (pieces size size lasts) ≡ true → (x : List ℕ) → length x ≡ length (take (size - 0) low) → x ≡ least_of (take (size - 0) low) (others_of own (pieces (length (take (size - 0) low)) (length (take (size - 0) low)) lasts)) →
      x ++ drop (size - 0) low ≡ padded greatest_size (low_of clock (others_of own (pieces size size lasts)))
  unfolding others_below
  low_is_lem below x g f =
      let others = others_of own (pieces size size lasts) in
      let e : x ≡ least_of clock others = rw front at f in
      let l : x ≡ low_of clock others = e ∙ low_by_clock clock others (wide_others size own (pieces size size lasts) (wide_pieces size size lasts room)) below in
      let rest : drop (size - 0) low ≡ replicate (greatest_size - size) 0 = ap (drop (size - 0)) clock_laid ∙ drop_at clock (replicate (greatest_size - size) 0) (size - 0) (omega arith) in
      ap (λ (m : List ℕ). x ++ m) rest ∙ ap (λ (k : ℕ). x ++ replicate (greatest_size - k) 0) (sym (g ∙ ap length front)) ∙ ap (padded greatest_size) l
