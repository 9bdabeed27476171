-- A line kept a character at a time: its first characters stand in the space, and they get what the whole line gets.
use Prim.Native.Nat.{ℕ, suc, ◌+◌, ◌*◌, ◌≤◌, ◌<◌}
use mathlib.Core.Path.{◌≡◌, refl, sym, ap, ◌∙◌}
use mathlib.Core.Bool.{Bool, true, false}
use mathlib.Core.List.{List, [], ◌∷◌, ◌++◌, append-nil}
use native.Mathlib.Numerals.{add-one}
use native.Mathlib.Omega.{arith}
use borrow.Author.Tests.{le-ltb, lt-ltb, ltb-false, ltb-true}
use lib.Dec.{ltb}
use lib.ListN.{length, get_or, take, set, length-set}
use lib.Seq.{append_snoc, length-take-le, take_all, take_at, take-suc-set}
use Rattle.line_hex.specs.Hex.{lf}
use Rattle.line_hex.specs.Decoding.{decoded}
use Rattle.line_hex.specs.Keeping.{kept, kept_all, kept_of}
use Rattle.line_hex.proofs.Spelling.{cut_of_long}

-- the ways through keep
pub kept_room : (space : List ℕ) (have b : ℕ) → have < length space → (have + 1, set space have b) ≡ kept space have b
unfolding kept
kept_room space have b h = rw (lt-ltb have (length space) h) refl

pub kept_full : (space : List ℕ) (have b : ℕ) → length space ≤ have → (have, space) ≡ kept space have b
unfolding kept
kept_full space have b h = rw (le-ltb have (length space) h) refl

-- what is kept from any place on: the characters before it and the line's, as many as there is room for
kept_from : (line space : List ℕ) (have : ℕ) → have ≤ length space → take (kept_all space have line).0 (kept_all space have line).1 ≡ take (length space) (take have space ++ line)
unfolding kept_all
kept_from [] space have h = let short : length (take have space) ≡ have = length-take-le have space h in sym (ap (take (length space)) (append-nil (take have space)) ∙ take_all (length space) (take have space) (omega arith))
kept_from (b ∷ line) space have h = go (ltb have (length space)) refl (kept_from line (set space have b) (have + 1)) (kept_from line space have h)
  where
    go : (t : Bool) → ltb have (length space) ≡ t → (have + 1 ≤ length (set space have b) → take (kept_all (set space have b) (have + 1) line).0 (kept_all (set space have b) (have + 1) line).1 ≡ take (length (set space have b)) (take (have + 1) (set space have b) ++ line)) → take (kept_all space have line).0 (kept_all space have line).1 ≡ take (length space) (take have space ++ line) → take (kept_all (kept space have b).1 (kept space have b).0 line).0 (kept_all (kept space have b).1 (kept space have b).0 line).1 ≡ take (length space) (take have space ++ (b ∷ line))
    go true e room full =
        let less : have < length space = ltb-true have (length space) e in
        let fits : have + 1 ≤ length (set space have b) = rw (length-set space have b) (omega arith) in
        let next : take (have + 1) (set space have b) ++ line ≡ take have space ++ (b ∷ line) = rw (add-one have, take-suc-set space have b less) (append_snoc (take have space) b line) in
        rw (← kept_room space have b less) (room fits ∙ rw (length-set space have b, next) refl)
    go false e room full =
        let all : have ≡ length space = omega (arith, ltb-false have (length space) e) in
        let long : length (take have space) ≡ length space = length-take-le have space h ∙ all in
        rw (← kept_full space have b (ltb-false have (length space) e)) (full ∙ take_at (take have space) line (length space) long ∙ sym (take_at (take have space) (b ∷ line) (length space) long))

-- "A line longer than the named longest gets what its cut without LF gets": the characters kept are the line's first, as many as the space holds
pub kept_is_cut : (space line : List ℕ) → kept_of space line ≡ take (length space) line
unfolding kept_of
kept_is_cut space line = kept_from line space 0 (omega arith)

-- a line whose LF, if it has one, is its last character gets from what is kept of it what the whole of it gets
pub kept_decoded : (space line buffer : List ℕ) → length space ≡ 2 * length buffer + 1 → ((i : ℕ) → suc i < length line → get_or line i 0 ≡ lf → ⊥) → decoded (kept_of space line) buffer ≡ decoded line buffer
kept_decoded space line buffer e alone = rw (kept_is_cut space line, e) (go (ltb (2 * length buffer + 1) (length line)) refl)
  where
    go : (t : Bool) → ltb (2 * length buffer + 1) (length line) ≡ t → decoded (take (2 * length buffer + 1) line) buffer ≡ decoded line buffer
    go true f = let long : 2 * length buffer + 1 < length line = ltb-true (2 * length buffer + 1) (length line) f in cut_of_long line buffer long (alone (2 * length buffer) (omega arith))
    go false f = rw (take_all (2 * length buffer + 1) line (ltb-false (2 * length buffer + 1) (length line) f)) refl
