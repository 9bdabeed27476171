-- Laws of pieces of one width in a list of words.
use Prim.Native.Nat.{ℕ, zero, suc, ◌+◌, ◌*◌, ◌≤◌, ◌<◌}
use mathlib.Core.Path.{◌≡◌, refl, sym, ap, ◌∙◌}
use mathlib.Core.Bool.{Bool, true, false, cond}
use mathlib.Core.List.{List, [], ◌∷◌, ◌++◌, append_assoc, map}
use native.Mathlib.Omega.{arith}
use native.Mathlib.Nat.{suc-mul, zero-mul}
use lib.ListN.{length, get_or, take, drop, length-drop, length-append}
use lib.Seq.{take-add, take_at, drop_at, drop-drop, length-take-le, get_or-take, get_or-drop}
use Rattle.meaning.specs.Tests.{those}
use Rattle.words_layout.specs.Words.{pieces, flat}

-- each piece w words wide
abbrev pub Wide : ℕ → List (List ℕ) → Type 0
Wide w [] = Unit {0}
Wide w (r ∷ rs) = (length r ≡ w) × Wide w rs

pub flat_pieces : (w k : ℕ) (s : List ℕ) → flat (pieces w k s) ≡ take (k * w) s
flat_pieces w zero s = let z : zero * w ≡ 0 = zero-mul w in rw z refl
flat_pieces w (suc k) s = let e : suc k * w ≡ w + k * w = omega (arith, suc-mul k w) in rw (flat_pieces w k (drop w s), e) (sym (take-add w (k * w) s))

pub length_pieces : (w k : ℕ) (s : List ℕ) → length (pieces w k s) ≡ k
length_pieces w zero s = refl
length_pieces w (suc k) s = ap suc (length_pieces w k (drop w s))

pub piece_at : (w count k : ℕ) (s : List ℕ) → k < count → get_or (pieces w count s) k [] ≡ take w (drop (k * w) s)
piece_at w zero k s h = absurd (omega arith)
piece_at w (suc count) zero s h = let z : 0 * w ≡ 0 = zero-mul w in rw z refl
piece_at w (suc count) (suc k) s h =
    let e : suc k * w ≡ w + k * w = omega (arith, suc-mul k w) in
    rw e (piece_at w count k (drop w s) (omega arith) ∙ ap (take w) (drop-drop (k * w) w s))

-- a word of the piece at a place
pub word_at : (s : List ℕ) (w at i : ℕ) → i < w → get_or (take w (drop at s)) i 0 ≡ get_or s (at + i) 0
word_at s w at i h = get_or-take w (drop at s) i 0 h ∙ get_or-drop at s i 0

pub length_flat : (w : ℕ) (rs : List (List ℕ)) → Wide w rs → length (flat rs) ≡ length rs * w
length_flat w [] h = sym (zero-mul w)
length_flat w (r ∷ rs) h = length-append r (flat rs) ∙ omega (arith, suc-mul (length rs) w, h.0, length_flat w rs h.1)

pub wide_pieces : (w k : ℕ) (s : List ℕ) → k * w ≤ length s → Wide w (pieces w k s)
wide_pieces w zero s h = tt
wide_pieces w (suc k) s h = (length-take-le w s (omega (arith, suc-mul k w)), wide_pieces w k (drop w s) (simp length-drop (omega (arith, suc-mul k w))))

pub pieces_flat : (w : ℕ) (rs : List (List ℕ)) (t : List ℕ) → Wide w rs → pieces w (length rs) (flat rs ++ t) ≡ rs
pieces_flat w [] t h = refl
pieces_flat w (r ∷ rs) t h = rw (append_assoc, take_at r (flat rs ++ t) w h.0, drop_at r (flat rs ++ t) w h.0, pieces_flat w rs t h.1) refl

pub pieces_at : (w k : ℕ) (rs : List (List ℕ)) (t : List ℕ) → Wide w rs → length rs ≡ k → pieces w k (flat rs ++ t) ≡ rs
pieces_at w k rs t h e = rw (sym e) (pieces_flat w rs t h)

pub wide_those : (f : List ℕ → Bool) (w : ℕ) (rs : List (List ℕ)) → Wide w rs → Wide w (those f rs)
wide_those f w [] h = tt
wide_those f w (r ∷ rs) h = elim (f r) as (λ b. Wide w (cond b (r ∷ those f rs) (those f rs))) [ true ↦ (h.0, wide_those f w rs h.1) | false ↦ wide_those f w rs h.1 ]

-- A test on what the pieces mean, made on the pieces: the filter moves pieces, the test reads them.
pub those_map : {A B : Type 0} (g : A → B) (f : B → Bool) (l : List A) → those f (map g l) ≡ map g (those (λ (x : A). f (g x)) l)
those_map g f [] = refl
those_map g f (x ∷ l) = elim (f (g x)) as (λ b. cond b (g x ∷ those f (map g l)) (those f (map g l)) ≡ map g (cond b (x ∷ those (λ y. f (g y)) l) (those (λ y. f (g y)) l))) [ true ↦ ap (λ (t : List _). g x ∷ t) (those_map g f l) | false ↦ those_map g f l ]

-- where writing undoes reading for each piece, it does so for what is left after a filter
abbrev pub Each : {A : Type 0} → (A → Type 0) → List A → Type 0
Each P [] = Unit {0}
Each P (x ∷ l) = P x × Each P l

pub each_those : {A : Type 0} (P : A → Type 0) (f : A → Bool) (l : List A) → Each P l → Each P (those f l)
each_those P f [] h = tt
each_those P f (x ∷ l) h = elim (f x) as (λ b. Each P (cond b (x ∷ those f l) (those f l))) [ true ↦ (h.0, each_those P f l h.1) | false ↦ each_those P f l h.1 ]

pub map_back : {A B : Type 0} (g : A → B) (k : B → A) (l : List A) → Each (λ (x : A). k (g x) ≡ x) l → map k (map g l) ≡ l
map_back g k [] h = refl
map_back g k (x ∷ l) h = rw (h.0, map_back g k l h.1) refl
