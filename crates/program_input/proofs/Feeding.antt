-- Lines that come in pieces, each played as it ends, and what is kept from one read to the next.
use Prim.Native.Nat.{ℕ, ◌+◌, ◌-◌, ◌≤◌, ◌<◌}
use mathlib.Core.Bool.{Bool, true, false, ◌&&◌}
use mathlib.Core.List.{List, [], ◌∷◌, ◌++◌}
use mathlib.Core.Path.{◌≡◌, refl, sym, ap, ap₂, subst, ◌∙◌}
use native.Mathlib.Omega.{arith}
use lib.ListN.{get_or, length, take}
use lib.Seq.{length-take-le}
use Rattle.words_layout.specs.Layout.{most_words}
use Rattle.line_hex.specs.Choice.{pick}
use Rattle.line_hex.specs.Hex.{lf}
use Rattle.line_hex.specs.Keeping.{kept}
use Rattle.line_read.specs.Types.{line_room}
use Rattle.line_decode.specs.Feeding.{fed, Going, held_fed, held_taken, Keeps, taken}
use Rattle.line_decode.proofs.Keeping.{length_kept_all}
use Rattle.line_decode.proofs.Feeding as keeping
use Rattle.calls.specs.Answers.{longest_answer}
use Rattle.program_output.specs.declared.Source.{Source}
use Rattle.program_output.specs.declared.Source.TheVariants as source
use Rattle.program_output.specs.Gathering.{HasRoom, pending_room, replied, reprinted}
use Rattle.program_input.specs.declared.Kept.{Kept}
use Rattle.std.specs.Prelude.{Option, Some, None}
use Rattle.program_play.specs.Lines.{ended, is_title, Part, played, responded, State, state_of, stepped, turned}
use Rattle.program_input.specs.Reading.{AfterRead, Read, Ready, WholeResponded}
use Rattle.program_input.proofs.Along.{fed_along}
use Rattle.program_play.proofs.Lines.{played_alike}

going_long : (space : List ℕ) (have : ℕ) → Going space have → length space ≡ line_room
going_long space have G = ap (λ (q : ℕ × List ℕ). length q.1) G.keeps.same ∙ length_kept_all G.keeps.empty 0 G.line ∙ G.keeps.long

-- what input that may go on says of lengths
pub ready_within : (have count : ℕ) (line pending : List ℕ) → Ready have count line pending → have ≤ length line
ready_within have count line pending R = keeping.going_within line have R.going

pub ready_short : (have count : ℕ) (line pending : List ℕ) → Ready have count line pending → length (take (have - 0) line) ≤ longest_answer
ready_short have count line pending R =
    let within = ready_within have count line pending R in
    omega (arith, going_long line have R.going, length-take-le (have - 0) line (omega (arith, within)), within)

-- before any input
pub ready_start : (have count : ℕ) (line pending : List ℕ) → have ≡ 0 → count ≡ 0 → length line ≡ line_room → length pending ≡ pending_room → Ready have count line pending
ready_start have count line pending z y l p = record {
  going = record { line = []; keeps = subst (λ (n : ℕ). Keeps [] line n) (sym z) (keeping.keeps_none line l) };
  has_room_lem = record { within = omega arith; room = omega arith };
}

-- what was read from a start that is known
pub begun : (titles : Bool) (line₀ : List ℕ) (have₀ : ℕ) (of₀ : Source) (words₀ line : List ℕ) (have : ℕ) (state : State) → have₀ ≡ 0 → (of : Source) → of₀ ≡ of → Read titles line₀ have₀ (of₀, words₀) line have state → Read titles line₀ 0 (of, words₀) line have state
begun titles line₀ have₀ of₀ words₀ line have state z of e read =
    subst (λ (n : ℕ). Read titles line₀ n (of, words₀) line have state) z (subst (λ (s : Source). Read titles line₀ have₀ (s, words₀) line have state) e read)

-- the ways through take
module _ (space : List ℕ) (have b n : ℕ) (s : List ℕ) (e : (n, s) ≡ kept space have b) (count : ℕ) (pending : List ℕ) (R : Ready have count space pending) where
  taken_going : (m : ℕ) → (m, s) ≡ taken space have b → Going s m
  unfolding fed
  taken_going m f = keeping.going_on space have (b ∷ []) s m f R.going

  pub ready_joined : (b ≡ lf → ⊥) → Ready n count s pending
  ready_joined h = record { going = taken_going n (keeping.taken_joined space have b n s e h); has_room_lem = R.has_room_lem }

  pub ready_ended : b ≡ lf → (m : ℕ) (p : List ℕ) → HasRoom m p → Ready 0 m s p
  ready_ended h m p w = record { going = taken_going 0 (keeping.taken_ended space have b n s e h); has_room_lem = w }

  pub kept_in : n ≤ length s
  kept_in = keeping.have_within space have b n s e (keeping.going_within space have R.going)

  pub kept_short : length s ≡ length space → length (take (n - 0) s) ≤ longest_answer
  kept_short l = omega (arith, going_long space have R.going, length-take-le (n - 0) s (omega (arith, kept_in)), kept_in)

-- the characters of the piece from `i` on are still to be taken
pub record Feeding (titles : Bool) (space₀ : List ℕ) (have₀ : ℕ) (part₀ : Part) (piece space : List ℕ) (have : ℕ) (of : Source) (words : List ℕ) (count : ℕ) (pending : List ℕ) (i : ℕ) : Type 0 where
  pub fed_so_far : keeping.Feeding (responded titles) space₀ have₀ part₀ piece space have (of, (words, (count, pending))) i
  pub place : i ≤ length piece
  pub ready : Ready have count space pending
  pub line_long : length space ≡ length space₀
  pub words_long : length words ≡ length part₀.1.0
  pub pending_long : length pending ≡ length part₀.1.1.1

module _ (titles : Bool) (space₀ : List ℕ) (have₀ : ℕ) (of₀ : Source) (words₀ : List ℕ) (count₀ : ℕ) (pending₀ piece : List ℕ) where
  abbrev part₀ : Part
  part₀ = (of₀, (words₀, (count₀, pending₀)))

  pub feeding_start : Ready have₀ count₀ space₀ pending₀ → Feeding titles space₀ have₀ part₀ piece space₀ have₀ of₀ words₀ count₀ pending₀ 0
  feeding_start R = record {
    fed_so_far = keeping.feeding_start (responded titles) space₀ have₀ part₀ piece R.going;
    place = omega arith;
    ready = R;
    line_long = refl;
    words_long = refl;
    pending_long = refl;
  }

  module _ (space : List ℕ) (have : ℕ) (of : Source) (words : List ℕ) (count : ℕ) (pending : List ℕ) (i : ℕ) (F : Feeding titles space₀ have₀ part₀ piece space have of words count pending i) where
    abbrev part : Part
    part = (of, (words, (count, pending)))

    pub feeding_turn : (n : ℕ) (s : List ℕ) (next : Source) (x : List ℕ) (m : ℕ) (p : List ℕ) → i < length piece → (n, s) ≡ taken space have (get_or piece i 0) → (next, (x, (m, p))) ≡ held_taken (responded titles) space have part (get_or piece i 0) → Ready n m s p → length s ≡ length space → length x ≡ length words → length p ≡ length pending → Feeding titles space₀ have₀ part₀ piece s n next x m p (i + 1)
    feeding_turn n s next x m p h e f R l v u = record {
      fed_so_far = keeping.feeding_turn (responded titles) space₀ have₀ part₀ piece space have part i F.fed_so_far n s (next, (x, (m, p))) h e f (ready_within n m s p R) l;
      place = omega arith;
      ready = R;
      line_long = l ∙ F.line_long;
      words_long = v ∙ F.words_long;
      pending_long = u ∙ F.pending_long;
    }

    module _ (h : length piece ≤ i) where
      pub feeding_done : (have, space) ≡ fed space₀ have₀ piece
      feeding_done = keeping.feeding_done (responded titles) space₀ have₀ part₀ piece space have part i F.fed_so_far h

      pub held_done : part ≡ held_fed (responded titles) space₀ have₀ part₀ piece
      held_done = keeping.held_done (responded titles) space₀ have₀ part₀ piece space have part i F.fed_so_far h

      pub whole_done : WholeResponded titles space₀ have₀ part₀ piece part
      whole_done = whole titles held_done
        where
          whole : (t : Bool) → part ≡ held_fed (responded t) space₀ have₀ part₀ piece → WholeResponded t space₀ have₀ part₀ piece part
          whole true e = tt
          whole false e = keeping.whole_lines (responded false) played_alike space₀ have₀ part₀ piece part e

-- the output that waits has no part in what becomes of a session or form
state_stepped : (titles : Bool) (line : List ℕ) (part : Part) → state_of (responded titles line part) ≡ stepped titles line (state_of part)
unfolding stepped responded turned played ended replied reprinted
state_stepped titles line (of, (words, waiting)) = by (titles && is_title line) of
  where
    by : (t : Bool) (of : Source) → state_of (pick t (turned line (of, (words, waiting))) (played line (of, (words, waiting)))) ≡ state_of (pick t (turned line (of, (words, (0, [])))) (played line (of, (words, (0, [])))))
    by true source.Session = refl
    by true (source.Form known) = refl
    by false source.Session = refl
    by false (source.Form known) = refl

-- what a read leaves
module _ (titles : Bool) (line₀ : List ℕ) (have₀ : ℕ) (part₀ part : Part) (piece line : List ℕ) (have : ℕ) (e : (have, line) ≡ fed line₀ have₀ piece) (f : part ≡ held_fed (responded titles) line₀ have₀ part₀ piece) where
  pub piece_read : Read titles line₀ have₀ (state_of part₀) line have (state_of part)
  piece_read = record { input = piece; kept_is = e; state_is = ap state_of f ∙ fed_along state_of (responded titles) (stepped titles) (state_stepped titles) piece line₀ have₀ part₀ }

pub nothing_read : (titles : Bool) (line : List ℕ) (have : ℕ) (state : State) → Read titles line have state line have state
unfolding fed held_fed
nothing_read titles line have state = record { input = []; kept_is = refl; state_is = refl }

-- what is written leaves room
pub ready_written : (have count m : ℕ) (line pending : List ℕ) → Ready have count line pending → m ≡ 0 → Ready have m line pending
ready_written have count m line pending R z = record { going = R.going; has_room_lem = record { within = omega arith; room = R.has_room_lem.room } }

-- what read keeps from one read to the next
pub record Reading (titles : Bool) (line₀ : List ℕ) (have₀ : ℕ) (of₀ : Source) (words₀ pending₀ line words pending : List ℕ) (have count : ℕ) (of : Source) : Type 0 where
  pub words_most : length words ≡ most_words
  pub ready : Ready have count line pending
  pub so_far : Read titles line₀ have₀ (of₀, words₀) line have (of, words)
  pub line_long : length line ≡ length line₀
  pub words_long : length words ≡ length words₀
  pub pending_long : length pending ≡ length pending₀

module _ (titles : Bool) (line₀ : List ℕ) (have₀ : ℕ) (of₀ : Source) (words₀ pending₀ : List ℕ) where
  pub reading_start : (count : ℕ) → length words₀ ≡ most_words → Ready have₀ count line₀ pending₀ → Reading titles line₀ have₀ of₀ words₀ pending₀ line₀ words₀ pending₀ have₀ count of₀
  reading_start count w R = record { words_most = w; ready = R; so_far = nothing_read titles line₀ have₀ (of₀, words₀); line_long = refl; words_long = refl; pending_long = refl }

  module _ (line words pending : List ℕ) (have count : ℕ) (of : Source) (G : Reading titles line₀ have₀ of₀ words₀ pending₀ line words pending have count of) (s x p : List ℕ) (r : Option Kept) (g : AfterRead titles line pending have (of, words) s p x r) where
    -- what was read now behind what was read before
    both : (k : Kept) → Read titles line have (of, words) s k.have (k.part.source, x) → Read titles line₀ have₀ (of₀, words₀) s k.have (k.part.source, x)
    both k S = record {
      input = G.so_far.input ++ S.input;
      kept_is = S.kept_is ∙ ap (λ (q : ℕ × List ℕ). fed q.1 q.0 S.input) G.so_far.kept_is ∙ sym (keeping.fed_append line₀ have₀ G.so_far.input S.input);
      state_is =
          S.state_is
          ∙ ap₂ (λ (q : ℕ × List ℕ) (st : State). held_fed (stepped titles) q.1 q.0 st S.input) G.so_far.kept_is G.so_far.state_is
          ∙ sym (keeping.held_append (stepped titles) line₀ have₀ (of₀, words₀) G.so_far.input S.input);
    }

    pub reading_turn : (k : Kept) → r ≡ Some k → length s ≡ length line → length x ≡ length words → length p ≡ length pending → Reading titles line₀ have₀ of₀ words₀ pending₀ s x p k.have k.part.waiting.count k.part.source
    reading_turn k e l w u =
        let h : AfterRead titles line pending have (of, words) s p x (Some k) = subst (λ (q : Option Kept). AfterRead titles line pending have (of, words) s p x q) e g in
        record { words_most = w ∙ G.words_most; ready = h.0; so_far = both k h.1; line_long = l ∙ G.line_long; words_long = w ∙ G.words_long; pending_long = u ∙ G.pending_long }

    same : r ≡ None → (s ≡ line) × ((p ≡ pending) × (x ≡ words))
    same e = subst (λ (q : Option Kept). AfterRead titles line pending have (of, words) s p x q) e g

    pub reading_ended : r ≡ None → Read titles line₀ have₀ (of₀, words₀) s have (of, x)
    reading_ended e = rw ((same e).0, (same e).1.1) G.so_far

    pub ready_still : r ≡ None → Ready have count s p
    ready_still e = rw ((same e).0, (same e).1.0) G.ready
