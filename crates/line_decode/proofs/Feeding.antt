-- Lines fed in pieces: what is kept of a line when its LF comes gets what the whole line gets, if a line's bytes and type decide what it gets.
use Prim.Native.Nat.{ℕ, suc, ◌+◌, ◌-◌, ◌≤◌, ◌<◌}
use mathlib.Core.Path.{◌≡◌, refl, sym, ap, subst, ◌∙◌}
use mathlib.Core.Bool.{Bool, true, false}
use mathlib.Core.List.{List, [], ◌∷◌, ◌++◌}
use native.Mathlib.Numerals.{add-one}
use native.Mathlib.Omega.{arith}
use borrow.Author.Tests.{eq-eqb, eqb-false, eqb-true, ne_eqb}
use lib.Dec.{eqb}
use lib.ListN.{length, get_or, take, drop, drop_of_length-le}
use lib.Seq.{drop-cons}
use Rattle.line_hex.specs.Choice.{pick}
use Rattle.line_hex.specs.Hex.{lf}
use Rattle.line_hex.specs.Keeping.{kept, kept_all, kept_of}
use Rattle.line_decode.specs.Decoding.{bytes_of, type_of}
use Rattle.line_decode.specs.Feeding.{after_lines, at_end, fed, Going, held_fed, held_on, held_taken, Keeps, LastPiece, line_on, NoLf, rest_of, taken, WholeLines}
use Rattle.line_decode.proofs.Keeping.{kept_all_within, kept_append, kept_within, length_kept_all, no_lf_on, nowhere, only_last, some_kept}
use Rattle.line_decode.proofs.Said.{kept_bytes, kept_type}
use Rattle.line_read.specs.Types.{line_room}

-- the ways of a character
module _ (space : List ℕ) (have b n : ℕ) (s : List ℕ) (e : (n, s) ≡ kept space have b) where
  pub taken_joined : (b ≡ lf → ⊥) → (n, s) ≡ taken space have b
  unfolding taken
  taken_joined h = rw (ne_eqb b lf h, ← e) refl

  pub taken_ended : b ≡ lf → (0, s) ≡ taken space have b
  unfolding taken
  taken_ended h = rw (eq-eqb b lf h, ← e) refl

  pub have_within : have ≤ length space → n ≤ length s
  have_within h = subst (λ (q : ℕ × List ℕ). q.0 ≤ length q.1) (sym e) (kept_within space have b h)

  module _ {A : Type 0} (answer : List ℕ → A → A) (held : A) where
    pub held_joined : (b ≡ lf → ⊥) → held ≡ held_taken answer space have held b
    unfolding held_taken
    held_joined h = rw (ne_eqb b lf h) refl

    pub held_ended : (after : A) → b ≡ lf → after ≡ answer (take (n - 0) s) held → after ≡ held_taken answer space have held b
    unfolding held_taken
    held_ended after h f = let z : n - 0 ≡ n = omega arith in rw (eq-eqb b lf h, ← e, ← z) f

-- no more is kept of a line than the space holds
pub going_within : (space : List ℕ) (have : ℕ) → Going space have → have ≤ length space
going_within space have G = subst (λ (q : ℕ × List ℕ). q.0 ≤ length q.1) (sym G.keeps.same) (kept_all_within G.keeps.empty 0 G.line (omega arith))

-- the characters of the piece from `i` on are still to be taken
pub record Feeding {A : Type 0} (answer : List ℕ → A → A) (space₀ : List ℕ) (have₀ : ℕ) (held₀ : A) (piece space : List ℕ) (have : ℕ) (held : A) (i : ℕ) : Type 0 where
  pub left : fed space₀ have₀ piece ≡ fed space have (drop i piece)
  pub holds : held_fed answer space₀ have₀ held₀ piece ≡ held_fed answer space have held (drop i piece)
  pub place : i ≤ length piece
  pub within : have ≤ length space
  pub long : length space ≡ length space₀

module _ {A : Type 0} (answer : List ℕ → A → A) (space₀ : List ℕ) (have₀ : ℕ) (held₀ : A) (piece : List ℕ) where
  pub feeding_start : Going space₀ have₀ → Feeding answer space₀ have₀ held₀ piece space₀ have₀ held₀ 0
  feeding_start G = record { left = refl; holds = refl; place = omega arith; within = going_within space₀ have₀ G; long = refl }

  module _ (space : List ℕ) (have : ℕ) (held : A) (i : ℕ) (F : Feeding answer space₀ have₀ held₀ piece space have held i) where
    pub feeding_turn : (n : ℕ) (s : List ℕ) (after : A) → i < length piece → (n, s) ≡ taken space have (get_or piece i 0) → after ≡ held_taken answer space have held (get_or piece i 0) → n ≤ length s → length s ≡ length space → Feeding answer space₀ have₀ held₀ piece s n after (i + 1)
    unfolding fed held_fed
    feeding_turn n s after h e f a l =
        record {
          left = rw (add-one i) (F.left ∙ ap (fed space have) (drop-cons piece i 0 h) ∙ ap (λ (q : ℕ × List ℕ). fed q.1 q.0 (drop (suc i) piece)) (sym e));
          holds = rw (add-one i, f) (F.holds ∙ ap (held_fed answer space have held) (drop-cons piece i 0 h) ∙ ap (λ (q : ℕ × List ℕ). held_fed answer q.1 q.0 (held_taken answer space have held (get_or piece i 0)) (drop (suc i) piece)) (sym e));
          place = omega arith;
          within = a;
          long = l ∙ F.long;
        }

    pub feeding_done : length piece ≤ i → (have, space) ≡ fed space₀ have₀ piece
    unfolding fed
    feeding_done h = sym (F.left ∙ rw (drop_of_length-le piece h) refl)

    pub held_done : length piece ≤ i → held ≡ held_fed answer space₀ have₀ held₀ piece
    unfolding held_fed
    held_done h = sym (F.holds ∙ rw (drop_of_length-le piece h) refl)

-- pieces of input one after the other are fed as one
pub fed_append : (space : List ℕ) (have : ℕ) (a b : List ℕ) → fed space have (a ++ b) ≡ fed (fed space have a).1 (fed space have a).0 b
unfolding fed
fed_append space have [] b = refl
fed_append space have (x ∷ a) b = fed_append (taken space have x).1 (taken space have x).0 a b

pub held_append : {A : Type 0} (answer : List ℕ → A → A) (space : List ℕ) (have : ℕ) (held : A) (a b : List ℕ) → held_fed answer space have held (a ++ b) ≡ held_fed answer (fed space have a).1 (fed space have a).0 (held_fed answer space have held a) b
unfolding fed held_fed
held_append answer space have held [] b = refl
held_append answer space have held (x ∷ a) b = held_append answer (taken space have x).1 (taken space have x).0 (held_taken answer space have held x) a b

-- of no characters none are kept
pub keeps_none : (space : List ℕ) → length space ≡ line_room → Keeps [] space 0
unfolding kept_all NoLf
keeps_none space long = record { empty = space; long = long; open_ended = tt; same = refl }

-- a line goes on
module _ (line space : List ℕ) (have : ℕ) (K : Keeps line space have) where
  kept_on : (b : ℕ) → kept space have b ≡ kept_all K.empty 0 (line ++ (b ∷ []))
  unfolding kept_all
  kept_on b = ap (λ (q : ℕ × List ℕ). kept q.1 q.0 b) K.same ∙ sym (kept_append K.empty 0 line (b ∷ []))

  long_on : (b : ℕ) → length (kept space have b).1 ≡ line_room
  long_on b = ap (λ (q : ℕ × List ℕ). length q.1) (kept_on b) ∙ length_kept_all K.empty 0 (line ++ (b ∷ [])) ∙ K.long

  keeps_on : (b : ℕ) → Keeps (line_on line b) (taken space have b).1 (taken space have b).0
  unfolding taken line_on
  keeps_on b = go (eqb b lf) refl
    where
      go : (t : Bool) → eqb b lf ≡ t → Keeps (pick t [] (line ++ (b ∷ []))) (kept space have b).1 (pick t 0 (kept space have b).0)
      go true e = keeps_none (kept space have b).1 (long_on b)
      go false e = record { empty = K.empty; long = K.long; open_ended = no_lf_on line b K.open_ended (eqb-false b lf e); same = kept_on b }

fed_keeps : (piece line space : List ℕ) (have : ℕ) → Keeps line space have → Keeps (rest_of line piece) (fed space have piece).1 (fed space have piece).0
unfolding fed rest_of
fed_keeps [] line space have K = K
fed_keeps (b ∷ piece) line space have K = fed_keeps piece (line_on line b) (taken space have b).1 (taken space have b).0 (keeps_on line space have K b)

pub going_on : (space : List ℕ) (have : ℕ) (piece s : List ℕ) (n : ℕ) → (n, s) ≡ fed space have piece → Going space have → Going s n
going_on space have piece s n e G = record {
  line = rest_of G.line piece;
  keeps = subst (λ (q : ℕ × List ℕ). Keeps (rest_of G.line piece) q.1 q.0) (sym e) (fed_keeps piece G.line space have G.keeps);
}

-- lines that say the same bytes and have the same type get the same
module _ {A : Type 0} (answer : List ℕ → A → A) (alike : (a b : List ℕ) → bytes_of a ≡ bytes_of b → type_of a ≡ type_of b → (held : A) → answer a held ≡ answer b held) where
  -- when LF comes, what is kept of the line is answered, and it gets what the whole of it gets
  module _ (line space : List ℕ) (have : ℕ) (K : Keeps line space have) where
    pub line_answered : (held : A) → answer (take (kept space have lf).0 (kept space have lf).1) held ≡ answer (line ++ (lf ∷ [])) held
    unfolding kept_of
    line_answered held =
        let whole = line ++ (lf ∷ []) in
        ap (λ (q : ℕ × List ℕ). answer (take q.0 q.1) held) (kept_on line space have K lf) ∙ alike (kept_of K.empty whole) whole (kept_bytes K.empty whole K.long (only_last line K.open_ended)) (kept_type K.empty whole K.long (only_last line K.open_ended)) held

    -- and so a last piece without LF
    pub piece_answered : (held : A) → answer (take have space) held ≡ answer line held
    unfolding kept_of
    piece_answered held =
        let alone : (i : ℕ) → suc i < length line → get_or line i 0 ≡ lf → ⊥ = λ i h e. nowhere line K.open_ended i (omega arith) e in
        ap (λ (q : ℕ × List ℕ). answer (take q.0 q.1) held) K.same ∙ alike (kept_of K.empty line) line (kept_bytes K.empty line K.long alone) (kept_type K.empty line K.long alone) held

    held_on_lem : (held : A) (b : ℕ) → held_taken answer space have held b ≡ held_on answer line held b
    unfolding held_taken held_on
    held_on_lem held b = go (eqb b lf) refl
      where
        go : (t : Bool) → eqb b lf ≡ t → pick t (answer (take (kept space have b).0 (kept space have b).1) held) held ≡ pick t (answer (line ++ (b ∷ [])) held) held
        go true e = rw (eqb-true b lf e) (line_answered held)
        go false e = refl

  -- so whole lines are answered, in whatever pieces they come
  fed_whole : (piece line space : List ℕ) (have : ℕ) (held : A) → Keeps line space have → held_fed answer space have held piece ≡ after_lines answer line held piece
  unfolding held_fed after_lines
  fed_whole [] line space have held K = refl
  fed_whole (b ∷ piece) line space have held K =
      ap (λ (g : A). held_fed answer (taken space have b).1 (taken space have b).0 g piece) (held_on_lem line space have K held b) ∙ fed_whole piece (line_on line b) (taken space have b).1 (taken space have b).0 (held_on answer line held b) (keeps_on line space have K b)

  pub whole_lines : (space : List ℕ) (have : ℕ) (held : A) (piece : List ℕ) (after : A) → after ≡ held_fed answer space have held piece → WholeLines answer space have held piece after
  whole_lines space have held piece after e line K = e ∙ fed_whole piece line space have held K

  -- the end of the input
  module _ (space : List ℕ) (have : ℕ) (held : A) where
    pub nothing_left : have ≡ 0 → LastPiece answer space have held held
    unfolding at_end
    nothing_left z [] K = refl
    nothing_left z (b ∷ line) K = absurd (omega (arith, ap (λ (q : ℕ × List ℕ). q.0) K.same, some_kept K.empty b line (omega (arith, K.long))))

    pub piece_left : (after : A) → (have ≡ 0 → ⊥) → after ≡ answer (take (have - 0) space) held → LastPiece answer space have held after
    unfolding at_end kept_all
    piece_left after h e [] K = absurd (h (ap (λ (q : ℕ × List ℕ). q.0) K.same))
    piece_left after h e (b ∷ line) K = let z : have - 0 ≡ have = omega arith in e ∙ rw z (piece_answered (b ∷ line) space have K held)
