-- The ways of a line: what a title ends and starts, and what another line goes to.
use Prim.Native.Nat.{ℕ, ◌<◌}
use mathlib.Core.Path.{◌≡◌, refl, sym, ap, ap₂, ◌∙◌}
use mathlib.Core.Bool.{Bool, true, false, ◌&&◌}
use mathlib.Core.List.{List, [], ◌∷◌}
use native.Mathlib.Omega.{arith}
use borrow.Author.Tests.{eq-eqb, ne_eqb, eqb-true, eqb-false}
use lib.Dec.{eqb}
use lib.ListN.{length, get_or, replicate}
use Rattle.std.specs.List.{starts_with}
use Rattle.line_decode.specs.Decoding.{bytes_of, type_of}
use Rattle.form_judge.specs.declared.Judged.{Judged}
use Rattle.form_judge.specs.declared.Judged.TheVariants as judged
use Rattle.form_judge.specs.Judging.{judged_by, judged_end}
use Rattle.form_judge.proofs.Judging.{judged_alike}
use Rattle.program_output.specs.declared.Source.{Source}
use Rattle.program_output.specs.declared.Source.TheVariants as source
use Rattle.program_output.specs.Gathering.{Gathered, Held, pushed, put, reprinted}
use Rattle.program_output.proofs.Alike.{replied_alike}
use Rattle.program_play.specs.Lines.{begins, dash, ended, form_sign, is_title, Part, played, responded, turned}

-- two numbers are the same whichever is named first
eqb_swapped : (x y : ℕ) → eqb x y ≡ eqb y x
eqb_swapped x y = by (eqb y x) refl
  where
    by : (b : Bool) → eqb y x ≡ b → eqb x y ≡ b
    by true e = eq-eqb x y (sym (eqb-true y x e))
    by false e = ne_eqb x y (λ q. eqb-false y x e (sym q))

and_true : (b : Bool) → (b && true) ≡ b
and_true true = refl
and_true false = refl

pub starts_title : (line : List ℕ) → starts_with eqb line (dash ∷ dash ∷ []) ≡ is_title line
unfolding is_title
starts_title [] = refl
starts_title (a ∷ []) = ap (λ (b : Bool). b && false) (eqb_swapped dash a)
starts_title (a ∷ b ∷ line) = ap₂ (λ (p q : Bool). p && q) (eqb_swapped dash a) (and_true (eqb dash b) ∙ eqb_swapped dash b)

pub begins_short : (title : List ℕ) → length title < 3 → source.Session ≡ begins title
unfolding begins
begins_short [] h = refl
begins_short (a ∷ []) h = refl
begins_short (a ∷ b ∷ []) h = refl
begins_short (a ∷ b ∷ c ∷ title) h = absurd (omega arith)

pub begins_form : (title : List ℕ) → get_or title 2 0 ≡ form_sign → source.Form judged.Open ≡ begins title
unfolding begins
begins_form title h = rw (eq-eqb (get_or title 2 0) form_sign h) refl

pub begins_session : (title : List ℕ) → (get_or title 2 0 ≡ form_sign → ⊥) → source.Session ≡ begins title
unfolding begins
begins_session title h = rw (ne_eqb (get_or title 2 0) form_sign h) refl

module _ (of : Source) (words : List ℕ) (count : ℕ) (pending : List ℕ) where
  abbrev part : Part
  part = (of, (words, (count, pending)))

  pub session_ended : of ≡ source.Session → (words, (count, pending)) ≡ ended part
  unfolding ended
  session_ended e = ap (λ (q : Source). ended (q, (words, (count, pending)))) (sym e)

  pub form_ended : (known : Judged) → of ≡ source.Form known → (whole : Judged) (x : List ℕ) → (whole, x) ≡ judged_end (known, words) → (none : List ℕ) (after : Held) → after ≡ put (source.Form whole) none (x, (count, pending)) → after ≡ ended part
  unfolding ended put
  form_ended known e whole x f none after g = g ∙ ap (λ (j : Judged × List ℕ). reprinted j.0 (j.1, (count, pending))) f ∙ ap (λ (q : Source). ended (q, (words, (count, pending)))) (sym e)

  pub session_played : (line : List ℕ) → of ≡ source.Session → (after : Held) → after ≡ put source.Session line (words, (count, pending)) → (source.Session, after) ≡ played line part
  unfolding played put
  session_played line e after g = ap (λ (h : Held). (source.Session, h)) g ∙ ap (λ (q : Source). played line (q, (words, (count, pending)))) (sym e)

  pub form_played : (line : List ℕ) (known : Judged) → of ≡ source.Form known → (after : Judged) (x : List ℕ) → (after, x) ≡ judged_by line (known, words) → (source.Form after, (x, (count, pending))) ≡ played line part
  unfolding played
  form_played line known e after x f = ap (λ (j : Judged × List ℕ). (source.Form j.0, (j.1, (count, pending)))) f ∙ ap (λ (q : Source). played line (q, (words, (count, pending)))) (sym e)

  pub next_begun : (title x : List ℕ) (m : ℕ) (q : List ℕ) → (x, (m, q)) ≡ ended part → (n : ℕ) (s : List ℕ) → (n, s) ≡ pushed title (m, q) → (z : List ℕ) → z ≡ replicate (length x) 0 → (next : Source) → next ≡ begins title → (next, (z, (n, s))) ≡ turned title part
  unfolding turned
  next_begun title x m q e n s f z g next h =
      ap₂ (λ (p : Source) (w : Held). (p, w)) h
      (ap₂ (λ (l : List ℕ) (w : Gathered). (l, w)) (g ∙ ap (λ (w : Held). replicate (length w.0) 0) e) (f ∙ ap (λ (w : Held). pushed title w.1) e))

-- the ways of a line
module _ (titles : Bool) (line : List ℕ) (title : Bool) (t : title ≡ (titles && is_title line)) (part after : Part) where
  pub title_turned : title ≡ true → after ≡ turned line part → after ≡ responded titles line part
  unfolding responded
  title_turned y e = rw (sym t ∙ y) e

  pub line_played : title ≡ false → after ≡ played line part → after ≡ responded titles line part
  unfolding responded
  line_played y e = rw (sym t ∙ y) e

-- without titles a line gets what its bytes and its type decide
pub played_alike : (a b : List ℕ) → bytes_of a ≡ bytes_of b → type_of a ≡ type_of b → (part : Part) → responded false a part ≡ responded false b part
unfolding responded played
played_alike a b same type (source.Session, held) = ap (λ (h : Held). (source.Session, h)) (replied_alike a b same type held)
played_alike a b same type (source.Form known, (words, waiting)) = ap (λ (j : Judged × List ℕ). (source.Form j.0, (j.1, waiting))) (judged_alike a b same type (known, words))
