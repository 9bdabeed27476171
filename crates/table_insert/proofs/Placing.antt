-- The order of keys word by word; finding the place; the moves together are the insertion.
use Prim.Native.Nat.{ℕ, ◌+◌, ◌*◌, ◌≤◌, ◌<◌}
use mathlib.Core.Path.{◌≡◌, refl, sym, ap, ◌∙◌}
use mathlib.Core.Bool.{Bool, true, false, cond}
use mathlib.Core.List.{List, [], ◌∷◌, ◌++◌, append_assoc}
use native.Mathlib.Numerals.{add-one}
use native.Mathlib.Omega.{arith}
use lib.ListN.{length, take, drop, length-append}
use lib.Seq.{paste, slice, length-take-le, drop-drop, take-take, take-append-le, take-append-add, drop-append-add, drop_at, take_all, take-paste, drop-paste}
use Rattle.meaning.specs.Rows.{lower_key}
use Rattle.words_layout.specs.Words.{pieces, flat}
use Rattle.words_layout.proofs.Pieces.{Wide, flat_pieces, length_flat, length_pieces, wide_pieces}
use Rattle.std.specs.List.{AllWithin, HoldsAt}
use Rattle.std.specs.Option.{MatchOption, unwrap_or}
use Rattle.std.specs.Prelude.{Option}
use Rattle.std.proofs.lemmas.Iterator.{index_from_first}
use Rattle.table_insert.specs.Placing.{inserted, passed}

-- the place is behind the rows passed, each as wide as the others
length_passed : (key : List ℕ) (rows : List (List ℕ)) (r : Option ℕ)
    → MatchOption r (AllWithin (λ row. lower_key key (take 7 row) ≡ false) rows 0 (length rows)) (λ i. (i < length rows) × HoldsAt (λ row. lower_key key (take 7 row) ≡ true) rows i × AllWithin (λ row. lower_key key (take 7 row) ≡ false) rows 0 i)
    → length (passed key rows) ≡ unwrap_or r (length rows)
length_passed key =
    index_from_first (λ rows. length (passed key rows)) (λ row. lower_key key (take 7 row) ≡ true) (λ row. lower_key key (take 7 row) ≡ false) refl
    (λ row rows e. rw e refl) (λ row rows e. rw e (sym (add-one (length (passed key rows)))))

wide_passed : (w : ℕ) (key : List ℕ) (rows : List (List ℕ)) → Wide w rows → Wide w (passed key rows)
wide_passed w key [] h = tt
wide_passed w key (row ∷ rows) h = elim (lower_key key (take 7 row)) as (λ b. Wide w (cond b [] (row ∷ passed key rows))) [ true ↦ tt | false ↦ (h.0, wide_passed w key rows h.1) ]

pub place_found : (s key : List ℕ) (w count many : ℕ) (r : Option ℕ) → count * w ≤ length s → many ≡ count
    → MatchOption r (AllWithin (λ row. lower_key key (take 7 row) ≡ false) (pieces w count s) 0 (length (pieces w count s))) (λ i. (i < length (pieces w count s)) × HoldsAt (λ row. lower_key key (take 7 row) ≡ true) (pieces w count s) i × AllWithin (λ row. lower_key key (take 7 row) ≡ false) (pieces w count s) 0 i)
    → unwrap_or r many * w ≡ length (flat (passed key (pieces w count s)))
place_found s key w count many r room e first =
    let rows = pieces w count s in
    ap (λ n. unwrap_or r n * w) (e ∙ sym (length_pieces w count s)) ∙ ap (λ n. n * w) (sym (length_passed key rows r first)) ∙ sym (length_flat w (passed key rows) (wide_passed w key rows (wide_pieces w count s room)))

-- an insertion, as words: what is passed, the row, the rest
flat_inserted : (key v : List ℕ) (rs : List (List ℕ)) → flat (inserted key v rs) ≡ take (length (flat (passed key rs))) (flat rs) ++ ((key ++ v) ++ drop (length (flat (passed key rs))) (flat rs))
flat_inserted key v [] = refl
flat_inserted key v (x ∷ xs) = go (lower_key key (take 7 x)) (flat_inserted key v xs)
  where
    go : (b : Bool) → flat (inserted key v xs) ≡ take (length (flat (passed key xs))) (flat xs) ++ ((key ++ v) ++ drop (length (flat (passed key xs))) (flat xs)) →
        flat (cond b ((key ++ v) ∷ x ∷ xs) (x ∷ inserted key v xs)) ≡ take (length (flat (cond b [] (x ∷ passed key xs)))) (x ++ flat xs) ++ ((key ++ v) ++ drop (length (flat (cond b [] (x ∷ passed key xs)))) (x ++ flat xs))
    go true ih = refl
    go false ih = rw (length-append x (flat (passed key xs)), take-append-add, drop-append-add, ih) (simp append_assoc)

passed_short : (key : List ℕ) (rs : List (List ℕ)) → length (flat (passed key rs)) ≤ length (flat rs)
passed_short key [] = omega arith
passed_short key (x ∷ xs) = elim (lower_key key (take 7 x)) as (λ b. length (flat (cond b [] (x ∷ passed key xs))) ≤ length (x ++ flat xs)) [ true ↦ omega arith | false ↦ simp length-append (omega (arith, passed_short key xs)) ]

-- where the rows end, by their number as a place
pub row_room : (s : List ℕ) (w count many : ℕ) → many ≡ count → count * w + w ≤ length s → many * w + w ≤ length s
row_room s w count many e room = rw e room

-- the move and the two writes together are the insertion
module _ (s key v : List ℕ) (w count at : ℕ) (room : count * w + w ≤ length s) (wide : w ≡ 7 + length v) (k : length key ≡ 7) (found : at ≡ length (flat (passed key (pieces w count s)))) where
  place_low : at ≤ count * w
  place_low = omega (arith, found, passed_short key (pieces w count s), ap length (flat_pieces w count s) ∙ length-take-le (count * w) s (omega arith))

  pub place_below : (many : ℕ) → many ≡ count → at ≤ many * w
  place_below many e = rw e place_low

  pub key_room : (t : List ℕ) → length t ≡ length s → at + length key ≤ length t
  key_room t e = omega (arith, place_low)

  pub vector_room : (t u : List ℕ) → length t ≡ length s → length u ≡ length t → at + 7 + length v ≤ length u
  vector_room t u e f = omega (arith, place_low)

  pub insertion : (many : ℕ) (t u x : List ℕ) → many ≡ count → t ≡ take (at + w) s ++ slice at (many * w) s ++ drop (many * w + w) s → u ≡ paste t at key (length key) → x ≡ paste u (at + 7) v (length v) → x ≡ flat (inserted key v (pieces w count s)) ++ drop (count * w + w) s
  insertion many t u x m e₀ f g =
      let e : t ≡ take (at + w) s ++ slice at (count * w) s ++ drop (count * w + w) s = rw m at e₀ in
      let front : length (take (at + w) s) ≡ at + w = length-take-le (at + w) s (omega (arith, place_low)) in
      let tail : drop (at + w) t ≡ slice at (count * w) s ++ drop (count * w + w) s = rw (e, append_assoc) (drop_at (take (at + w) s) _ (at + w) front) in
      let head : take at t ≡ take at s = rw (e, append_assoc) (take-append-le at (take (at + w) s) (slice at (count * w) s ++ drop (count * w + w) s) (omega arith) ∙ take-take at (at + w) s (omega arith)) in
      let long : at + w ≤ length t = omega (arith, ap length e ∙ length-append (take (at + w) s ++ slice at (count * w) s) (drop (count * w + w) s), length-append (take (at + w) s) (slice at (count * w) s), front) in
      let n : at + w ≡ at + 7 + length v = omega arith in
      let u_front : take (at + 7) u ≡ take at t ++ key = ap (take (at + 7)) f ∙ rw (k) (take-paste t at key 7 (omega arith) (omega arith)) ∙ ap (λ (l : List ℕ). take at t ++ l) (take_all 7 key (omega arith)) in
      let u_tail : drop (at + 7) u ≡ drop (at + 7) t = ap (drop (at + 7)) f ∙ rw k (drop-paste t at key 7 (omega arith) (omega arith)) in
      let all : take (length v) v ≡ v = take_all (length v) v (omega arith) in
      let rest : drop (at + 7 + length v) u ≡ drop (at + 7 + length v) t = sym (drop-drop (length v) (at + 7) u) ∙ ap (drop (length v)) u_tail ∙ drop-drop (length v) (at + 7) t in
      g ∙ rw (all, u_front, rest, ← n, tail, head, flat_inserted key v (pieces w count s), ← found, flat_pieces w count s, take-take at (count * w) s place_low) (simp append_assoc)
