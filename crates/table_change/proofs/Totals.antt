-- A total where it stands.
use Rattle.std.proofs.Common.{◌≡◌, ℕ, zero, suc, ◌+◌, ◌*◌, ◌<◌, ◌≤◌, Bool, List, [], ◌∷◌, ◌++◌, map, length, get_or, take, drop, set, ℤ, pos, ◌+ℤ◌, sym, refl, ap, ◌∙◌, arith, length-drop, get_or-drop}
use Rattle.words_layout.specs.Words.{pieces}
use Rattle.words_layout.specs.Layout.{table_of, rewritten, objects_in, total_words, total_of_words, with_totals, totals_at}
use Rattle.words_layout.proofs.Changing.{put_total}
use Rattle.table_change.specs.TotalChange.{change}
use Rattle.table_change.specs.Changes.{Opened, totals_changed}
use Rattle.meaning.specs.Table.{most_objects}

-- two words set one after the other are a part put in
pub two_set : (s : List ℕ) (a x y : ℕ) → a + 2 ≤ length s → set (set s a x) (a + 1) y ≡ take a s ++ ((x ∷ y ∷ []) ++ drop 2 (drop a s))
two_set [] a x y h = absurd (omega arith)
two_set (p ∷ []) zero x y h = absurd (omega arith)
two_set (p ∷ q ∷ s) zero x y h = refl
two_set (p ∷ s) (suc a) x y h = let e : suc a + 1 ≡ suc (a + 1) = omega arith in rw e (ap (λ (l : List ℕ). p ∷ l) (two_set s a x y (omega arith)))

-- the words of a total
total_at_lem : (k : ℕ) (s : List ℕ) (o : ℕ) → o < k → k * 2 ≤ length s → get_or (map total_of_words (pieces 2 k s)) o (pos 0) ≡ total_of_words (get_or s (o * 2) 0 ∷ get_or s (o * 2 + 1) 0 ∷ [])
total_at_lem zero s o h r = absurd (omega arith)
total_at_lem (suc k) [] o h r = absurd (omega arith)
total_at_lem (suc k) (p ∷ []) o h r = absurd (omega arith)
total_at_lem (suc k) (p ∷ q ∷ s) zero h r = refl
total_at_lem (suc k) (p ∷ q ∷ s) (suc o) h r =
    let e : suc o * 2 ≡ suc (suc (o * 2)) = omega arith in
    let f : suc (suc (o * 2)) + 1 ≡ suc (suc (o * 2 + 1)) = omega arith in
    rw (e, f) (total_at_lem k s o (omega arith) (omega arith))

module _ (s : List ℕ) (n count o : ℕ) (O : Opened s n count) (h : o < objects_in s) where
  few : o < most_objects
  few = omega (arith, O.laid.objects)

  pub total_room : totals_at + o * 2 + 1 < length s
  total_room = omega (arith, few, O.room)

  pub old_total : total_of_words (get_or s (totals_at + o * 2) 0 ∷ get_or s (totals_at + o * 2 + 1) 0 ∷ []) ≡ get_or (table_of s).totals o (pos 0)
  unfolding table_of
  old_total =
      let r : objects_in s * 2 ≤ length (drop totals_at s) = simp length-drop (omega (arith, O.laid.objects, O.laid.room)) in
      let e : totals_at + o * 2 + 1 ≡ totals_at + (o * 2 + 1) = omega arith in
      sym (total_at_lem (objects_in s) (drop totals_at s) o h r ∙ rw (get_or-drop totals_at s (o * 2) 0, get_or-drop totals_at s (o * 2 + 1) 0, ← e) refl)

  pub total_put : (b : Bool) (amount x y : ℕ) → x ∷ y ∷ [] ≡ total_words (total_of_words (get_or s (totals_at + o * 2) 0 ∷ get_or s (totals_at + o * 2 + 1) 0 ∷ []) +ℤ change b amount) → set (set s (totals_at + o * 2) x) (totals_at + o * 2 + 1) y ≡ rewritten s (with_totals (table_of s) (totals_changed o amount b (table_of s)))
  unfolding totals_changed
  total_put b amount x y e =
      two_set s (totals_at + o * 2) x y (omega (arith, total_room))
      ∙ ap (λ (l : List ℕ). take (totals_at + o * 2) s ++ (l ++ drop 2 (drop (totals_at + o * 2) s))) (e ∙ ap (λ (z : ℤ). total_words (z +ℤ change b amount)) old_total)
      ∙ put_total s O.laid o (get_or (table_of s).totals o (pos 0) +ℤ change b amount) h
