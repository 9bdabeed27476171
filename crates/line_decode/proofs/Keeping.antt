-- Characters kept in a space: how many, and which.
use Prim.Native.Nat.{ℕ, zero, suc, ◌+◌, ◌≤◌, ◌<◌}
use mathlib.Core.Path.{◌≡◌, refl, ◌∙◌}
use mathlib.Core.Bool.{Bool, true, false}
use mathlib.Core.List.{List, [], ◌∷◌, ◌++◌}
use native.Mathlib.Omega.{arith}
use borrow.Author.Tests.{lt-ltb, ltb-true}
use lib.Dec.{ltb}
use lib.ListN.{get_or, length, set, length-set}
use Rattle.line_hex.specs.Choice.{pick}
use Rattle.line_hex.specs.Hex.{lf}
use Rattle.line_hex.specs.Keeping.{kept, kept_all}
use Rattle.line_decode.specs.Feeding.{NoLf}

-- no more characters are kept than the space holds
pub kept_within : (space : List ℕ) (have b : ℕ) → have ≤ length space → (kept space have b).0 ≤ length (kept space have b).1
unfolding kept
kept_within space have b h = go (ltb have (length space)) refl
  where
    go : (t : Bool) → ltb have (length space) ≡ t → (pick {A = ℕ × List ℕ} t (have + 1, set space have b) (have, space)).0 ≤ length (pick {A = ℕ × List ℕ} t (have + 1, set space have b) (have, space)).1
    go true e = omega (arith, ltb-true have (length space) e, length-set space have b)
    go false e = h

pub kept_all_within : (space : List ℕ) (have : ℕ) (text : List ℕ) → have ≤ length space → (kept_all space have text).0 ≤ length (kept_all space have text).1
unfolding kept_all
kept_all_within space have [] h = h
kept_all_within space have (b ∷ text) h = kept_all_within (kept space have b).1 (kept space have b).0 text (kept_within space have b h)

-- characters kept one after the other
pub kept_append : (space : List ℕ) (have : ℕ) (a b : List ℕ) → kept_all space have (a ++ b) ≡ kept_all (kept_all space have a).1 (kept_all space have a).0 b
unfolding kept_all
kept_append space have [] b = refl
kept_append space have (x ∷ a) b = kept_append (kept space have x).1 (kept space have x).0 a b

length_kept : (space : List ℕ) (have b : ℕ) → length (kept space have b).1 ≡ length space
unfolding kept
length_kept space have b = go (ltb have (length space))
  where
    go : (t : Bool) → length (pick {A = ℕ × List ℕ} t (have + 1, set space have b) (have, space)).1 ≡ length space
    go true = length-set space have b
    go false = refl

pub length_kept_all : (space : List ℕ) (have : ℕ) (line : List ℕ) → length (kept_all space have line).1 ≡ length space
unfolding kept_all
length_kept_all space have [] = refl
length_kept_all space have (b ∷ line) = length_kept_all (kept space have b).1 (kept space have b).0 line ∙ length_kept space have b

-- no character that was kept is let go
kept_more : (space : List ℕ) (have b : ℕ) → have ≤ (kept space have b).0
unfolding kept
kept_more space have b = go (ltb have (length space))
  where
    go : (t : Bool) → have ≤ (pick {A = ℕ × List ℕ} t (have + 1, set space have b) (have, space)).0
    go true = omega arith
    go false = omega arith

kept_all_more : (space : List ℕ) (have : ℕ) (line : List ℕ) → have ≤ (kept_all space have line).0
unfolding kept_all
kept_all_more space have [] = omega arith
kept_all_more space have (b ∷ line) = omega (arith, kept_more space have b, kept_all_more (kept space have b).1 (kept space have b).0 line)

first_kept : (space : List ℕ) (b : ℕ) → 0 < length space → 0 < (kept space 0 b).0
unfolding kept
first_kept space b h = rw (lt-ltb 0 (length space) h) (omega arith)

pub some_kept : (space : List ℕ) (b : ℕ) (line : List ℕ) → 0 < length space → 0 < (kept_all space 0 (b ∷ line)).0
unfolding kept_all
some_kept space b line h = omega (arith, first_kept space b h, kept_all_more (kept space 0 b).1 (kept space 0 b).0 line)

-- LF stands only at the end of a line
pub no_lf_on : (line : List ℕ) (b : ℕ) → NoLf line → (b ≡ lf → ⊥) → NoLf (line ++ (b ∷ []))
unfolding NoLf
no_lf_on [] b n h = (h, tt)
no_lf_on (x ∷ line) b n h = (n.0, no_lf_on line b n.1 h)

pub only_last : (piece : List ℕ) → NoLf piece → (i : ℕ) → suc i < length (piece ++ (lf ∷ [])) → get_or (piece ++ (lf ∷ [])) i 0 ≡ lf → ⊥
unfolding NoLf
only_last [] n i h e = absurd (omega arith)
only_last (b ∷ piece) n zero h e = n.0 e
only_last (b ∷ piece) n (suc i) h e = only_last piece n.1 i (omega arith) e

pub nowhere : (piece : List ℕ) → NoLf piece → (i : ℕ) → i < length piece → get_or piece i 0 ≡ lf → ⊥
unfolding NoLf
nowhere [] n i h e = absurd (omega arith)
nowhere (b ∷ piece) n zero h e = n.0 e
nowhere (b ∷ piece) n (suc i) h e = nowhere piece n.1 i (omega arith) e
