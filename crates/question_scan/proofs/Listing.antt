-- What a list and a count of shown values are, from one found value to the next.
use Prim.Native.Nat.{ℕ, zero, suc, ◌+◌, ◌-◌, ◌*◌, ◌≤◌, ◌<◌}
use mathlib.Core.Path.{◌≡◌, refl, ap, ◌∙◌}
use mathlib.Core.List.{List, [], ◌∷◌, map}
use native.Mathlib.Nat.{suc-mul, zero-mul}
use native.Mathlib.Omega.{arith}
use lib.ListN.{length, take, drop, length-map}
use lib.Seq.{drop-drop}
use Rattle.meaning.specs.Rows.{Row}
use Rattle.meaning.proofs.Tests.{cases}
use Rattle.words_layout.specs.Words.{pieces}
use Rattle.words_layout.specs.Layout.{row_of}
use Rattle.words_layout.proofs.Pieces.{length_pieces}
use Rattle.question_scan.specs.Showing.{shows, shown, before_shown}

pub before_most : (o : ℕ) (rows : List Row) → before_shown o rows ≤ length rows
unfolding before_shown
before_most o [] = omega arith
before_most o (row ∷ rows) = cases (shows o row rows)
    (λ q. rw q (omega arith))
    (λ q. rw q (omega (arith, before_most o rows)))

-- The list is empty where all rows stand before the next that shows a value.
pub shown_none : (o : ℕ) (rows : List Row) → before_shown o rows ≡ length rows → shown o rows ≡ []
unfolding before_shown
shown_none o [] e = refl
shown_none o (row ∷ rows) e = cases (shows o row rows)
    (λ q. absurd (let z = rw q at e in omega (arith, z)))
    (λ q. rw q (let z = rw q at e in shown_none o rows (omega (arith, z))))

-- Else it is the value of the row there, and the list of the rows behind it.
pub shown_next : (o : ℕ) (rows : List Row) (row : Row) (behind : List Row) → drop (before_shown o rows) rows ≡ row ∷ behind → shown o rows ≡ row.operation.value ∷ shown o behind
unfolding before_shown
shown_next o [] row behind e = absurd (let z = ap (λ (l : List Row). length l) e in omega (arith, z))
shown_next o (first ∷ rows) row behind e = cases (shows o first rows)
    (λ q. rw q (let z = rw q at e in ap (λ (l : List Row). listed l) z))
    (λ q. rw q (let z = rw q at e in shown_next o rows row behind z))
  where
    listed : List Row → List ℕ
    listed [] = []
    listed (row ∷ behind) = row.operation.value ∷ shown o behind

-- So many rows of words from a place on, and what stands behind the first so many of them.
pub rows_number : (w more : ℕ) (s : List ℕ) → length (map row_of (pieces w more s)) ≡ more
rows_number w more s = length-map (pieces w more s) row_of ∙ length_pieces w more s

pub rows_behind : (w more k at : ℕ) (s : List ℕ) → k < more → drop k (map row_of (pieces w more (drop at s))) ≡ row_of (take w (drop (at + k * w) s)) ∷ map row_of (pieces w (more - (k + 1)) (drop (at + (k + 1) * w) s))
rows_behind w zero k at s h = absurd (omega arith)
rows_behind w (suc more) zero at s h =
    let a : at + 0 * w ≡ at = omega (arith, zero-mul w) in
    let b : at + (0 + 1) * w ≡ at + w = omega (arith, suc-mul 0 w, zero-mul w) in
    let c : suc more - (0 + 1) ≡ more = omega arith in
    rw (a, b, c, drop-drop w at s) refl
rows_behind w (suc more) (suc k) at s h =
    let a : at + suc k * w ≡ at + w + k * w = omega (arith, suc-mul k w) in
    let b : at + (suc k + 1) * w ≡ at + w + (k + 1) * w = omega (arith, suc-mul (k + 1) w) in
    let c : suc more - (suc k + 1) ≡ more - (k + 1) = omega arith in
    rw (a, b, c, drop-drop w at s) (rows_behind w more k (at + w) s (omega arith))
