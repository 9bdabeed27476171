-- The pieces of one width in a list of words, as `chunks_exact` gives them.
use Prim.Native.Nat.{ℕ, zero, suc, ◌+◌, ◌*◌, ◌≤◌, ◌<◌}
use mathlib.Core.Path.{◌≡◌, refl, sym, ap, subst, ◌∙◌}
use mathlib.Core.List.{List, [], ◌∷◌}
use native.Mathlib.Omega.{arith}
use native.Mathlib.Nat.{suc-mul, zero-mul}
use lib.ListN.{length, get_or, take, drop, length-append, length-drop}
use Rattle.std.proofs.lemmas.List.{drop-take}
use lib.Seq.{take-take, take_at, drop_at, length-take-le}
use denote.Ref.{Bor}
use Rattle.std.specs.Iterator.{AlwaysYields}
use Rattle.std.specs.Slice.Iter.{chunks_exact_rest, chunks_exact_size, chunks_exact_steps}
use Rattle.std.specs.declared.slice.ChunksExact.{ChunksExact}
use Rattle.std.specs.Prelude.{Some}
use Rattle.std.proofs.lemmas.Iterator.{YieldsList}
use Rattle.words_layout.specs.Words.{pieces}
use Rattle.words_layout.proofs.Pieces.{Wide}

-- what is left starts with the chunk that came: the first piece, and the others are left
module _ (width : ℕ) (s t : ChunksExact ℕ) (words : List ℕ) (chunk : Bor (List ℕ)) (size : chunks_exact_size s ≡ width) (rest : chunks_exact_rest s ≡ words) (p : chunks_exact_steps s (Some chunk) t) where
  first : chunk.now ≡ take width words
  first = sym (ap (take width) (sym rest ∙ p.1.0) ∙ take_at chunk.now (chunks_exact_rest t) width (p.1.1 ∙ size))

  others : chunks_exact_rest t ≡ drop width words
  others = sym (ap (drop width) (sym rest ∙ p.1.0) ∙ drop_at chunk.now (chunks_exact_rest t) width (p.1.1 ∙ size))

wide_at : (width : ℕ) (rows : List (List ℕ)) (k : ℕ) (d : List ℕ) → Wide width rows → k < length rows → length (get_or rows k d) ≡ width
wide_at width [] k d w h = absurd (omega arith)
wide_at width (r ∷ rows) zero d w h = w.0
wide_at width (r ∷ rows) (suc k) d w h = wide_at width rows k d w.1 (omega arith)

chunks_give : (width count : ℕ) (s : ChunksExact ℕ) (words : List ℕ) → chunks_exact_size s ≡ width → chunks_exact_rest s ≡ words → length words ≡ count * width → 0 < width → AlwaysYields chunks_exact_steps (λ x. x.now) s (pieces width count words)
chunks_give width zero s words size rest long some = λ x j p. absurd (omega (arith, zero-mul width, ap length rest, ap length p.1.0, length-append x.now (chunks_exact_rest j), p.1.1))
chunks_give width (suc count) s words size rest long some = (
  (λ j p. absurd (omega (arith, suc-mul count width, ap length rest, p.1.0))),
  λ x j p. (
    first width s j words x size rest p,
    chunks_give width count j (drop width words) (p.0 ∙ size) (others width s j words x size rest p) (omega (arith, length-drop width words, suc-mul count width)) some,
  ),
)

pieces_take : (width count : ℕ) (words : List ℕ) → pieces width count (take (count * width) words) ≡ pieces width count words
pieces_take width zero words = refl
pieces_take width (suc count) words =
    let e : suc count * width ≡ width + count * width = omega (arith, suc-mul count width) in
    rw (e, take-take width (width + count * width) words (omega arith), drop-take width (count * width) words) (ap (λ l. take width words ∷ l) (pieces_take width count (drop width words)))

-- the chunks of the first words are the pieces of all
pub YieldsList-from_pieces : {s : ChunksExact ℕ} (width count : ℕ) (words : List ℕ) → chunks_exact_size s ≡ width → chunks_exact_rest s ≡ take (count * width) words → 0 < width → count * width ≤ length words
    → YieldsList chunks_exact_steps (λ x. x.now) s (pieces width count words)
YieldsList-from_pieces {s} width count words size rest some room = record {
  runs = subst (AlwaysYields chunks_exact_steps (λ x. x.now) s) (pieces_take width count words)
      (chunks_give width count s (take (count * width) words) size rest (length-take-le (count * width) words room) some);
}
