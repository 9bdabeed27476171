-- The loop that asks for every output line: those from the k-th on are still to be gathered.
use Rattle.std.specs.Prelude.{Option, Some, None}
use Prim.Native.Nat.{ℕ, zero, suc, ◌+◌, ◌-◌, ◌≤◌, ◌<◌}
use mathlib.Core.Path.{◌≡◌, refl, sym, ap, ap₂, ◌∙◌}
use mathlib.Core.Bool.{Bool, true, false, ◌&&◌}
use mathlib.Core.List.{List, [], ◌∷◌}
use native.Mathlib.Numerals.{add-one}
use native.Mathlib.Omega.{arith}
use borrow.Author.Tests.{ne_eqb}
use lib.ListN.{length, take, drop, replicate, length-replicate}
use Rattle.meaning.proofs.Tests.{cases}
use Rattle.words_layout.specs.Layout.{holds_table, table_of}
use Rattle.line_hex.specs.Choice.{pick}
use Rattle.line_read.specs.Named.{printing_read}
use Rattle.line_decode.specs.Decoding.{bytes_of}
use Rattle.form_write.specs.Forms.{saved_form, most_form_lines}
use Rattle.calls.specs.Answers.{answer_of, answered_by, lines_for, space_after}
use Rattle.call_answer.specs.OutputLines.{printed_at}
use Rattle.calls.proofs.Answering.{printing_kind, printing_stays}
use Rattle.calls.proofs.Counting.{lines_count}
use Rattle.form_judge.specs.declared.Judged.{Judged}
use Rattle.form_judge.specs.Judging.{resaved_by}
use Rattle.form_judge.proofs.Resaving.{resaved_count}
use Rattle.program_output.specs.Gathering.{Gathered, gathered, HasRoom, line_at, lines_of, pushed, put, replied, reprinted}
use Rattle.program_output.specs.declared.Source.{Source}
use Rattle.program_output.specs.declared.Source.TheVariants as source
use Rattle.program_output.proofs.Fitting.{told}
use Rattle.program_output.proofs.Gathering.{all_gathered, no_more, one_more}
use Rattle.call_answer.specs.Answering.{frame_room}

module _ (line words₀ : List ℕ) where
  -- the table space once the line is taken
  abbrev after : List ℕ
  after = (answer_of line words₀).1

  abbrev lines : List (List ℕ)
  lines = lines_for line words₀

  -- what is asked for behind the first line is asked of the space as the line left it, and is the same
  later_lines : (k : ℕ) (out : List ℕ) → printed_at (lines_for line after) (suc k) out ≡ printed_at lines (suc k) out
  unfolding lines_for printed_at space_after
  later_lines k out = cases (printing_read (bytes_of line))
      (λ q. ap (λ (w : List ℕ). printed_at (lines_for line w) (suc k) out) (printing_stays line words₀ (replicate frame_room 0) (printing_kind line q) (omega (arith, length-replicate {A = ℕ} frame_room 0)) 0))
      (λ q. rw q (by (holds_table after) (holds_table words₀) (answer_of line after).0 (answer_of line words₀).0))
    where
      by : (a b : Bool) (x y : List ℕ) → printed_at (pick (a && false) (saved_form (table_of after)) (x ∷ [])) (suc k) out ≡ printed_at (pick (b && false) (saved_form (table_of words₀)) (y ∷ [])) (suc k) out
      by true true x y = refl
      by true false x y = refl
      by false true x y = refl
      by false false x y = refl

  module _ (k : ℕ) (words out : List ℕ) (r : Option ℕ) (x y : List ℕ) (e : (r, (x, y)) ≡ answered_by line k words out) where
    first_told : k ≡ 0 → words ≡ words₀ → ((r, y) ≡ printed_at lines k out) × (x ≡ after)
    unfolding answered_by space_after
    first_told z w =
        let f : (r, (x, y)) ≡ answered_by line 0 words₀ out = e ∙ ap₂ (λ (n : ℕ) (v : List ℕ). answered_by line n v out) z w in
        (ap (λ (q : Option ℕ × (List ℕ × List ℕ)). (q.0, q.1.1)) f ∙ ap (λ (n : ℕ). printed_at lines n out) (sym z), ap (λ (q : Option ℕ × (List ℕ × List ℕ)). q.1.0) f)

    later_told : (i : ℕ) → k ≡ suc i → words ≡ after → ((r, y) ≡ printed_at lines k out) × (x ≡ after)
    unfolding answered_by space_after
    later_told i z w =
        let f : (r, (x, y)) ≡ answered_by line (suc i) after out = e ∙ ap₂ (λ (n : ℕ) (v : List ℕ). answered_by line n v out) z w in
        (ap (λ (q : Option ℕ × (List ℕ × List ℕ)). (q.0, q.1.1)) f ∙ later_lines i out ∙ ap (λ (n : ℕ). printed_at lines n out) (sym z), ap (λ (q : Option ℕ × (List ℕ × List ℕ)). q.1.0) f ∙ ap (λ (b : Bool). pick b (answer_of line after).1 after) (ne_eqb (suc i) 0 (λ (z : suc i ≡ 0). omega arith)))

-- the ways of one output line
module _ (of : Source) (line : List ℕ) (k : ℕ) (words out : List ℕ) (got : Option ℕ × (List ℕ × List ℕ)) where
  pub session_line : of ≡ source.Session → got ≡ answered_by line k words out → got ≡ line_at of line k words out
  unfolding line_at
  session_line e f = f ∙ ap (λ (q : Source). line_at q line k words out) (sym e)

  pub form_line : (known : Judged) → of ≡ source.Form known → got ≡ resaved_by known k words out → got ≡ line_at of line k words out
  unfolding line_at
  form_line known e f = f ∙ ap (λ (q : Source). line_at q line k words out) (sym e)

-- the table space once the first line is asked for
abbrev space_of : Source → List ℕ → List ℕ → List ℕ
space_of source.Session line words₀ = (answer_of line words₀).1
space_of (source.Form known) line words₀ = words₀

-- it is as it was until then
abbrev Space : ℕ → Source → List ℕ → List ℕ → List ℕ → Type 0
Space zero of line words₀ words = words ≡ words₀
Space (suc k) of line words₀ words = words ≡ space_of of line words₀

space_later : (k : ℕ) (of : Source) (line words₀ words : List ℕ) → (k ≡ 0 → ⊥) → Space k of line words₀ words → words ≡ space_of of line words₀
space_later zero of line words₀ words h s = absurd (h refl)
space_later (suc k) of line words₀ words h s = s

form_stays : (k : ℕ) (known : Judged) (line words₀ words : List ℕ) → Space k (source.Form known) line words₀ words → words ≡ words₀
form_stays zero known line words₀ words s = s
form_stays (suc k) known line words₀ words s = s

space_told : (of : Source) (k : ℕ) (line words₀ words out : List ℕ) (r : Option ℕ) (x y : List ℕ) → (r, (x, y)) ≡ line_at of line k words out → Space k of line words₀ words → ((r, y) ≡ printed_at (lines_of of line words₀) k out) × (x ≡ space_of of line words₀)
unfolding line_at lines_of resaved_by
space_told source.Session zero line words₀ words out r x y e s = first_told line words₀ 0 words out r x y e refl s
space_told source.Session (suc k) line words₀ words out r x y e s = later_told line words₀ (suc k) words out r x y e k refl s
space_told (source.Form known) k line words₀ words out r x y e s =
    let f : (r, (x, y)) ≡ resaved_by known k words₀ out = e ∙ ap (λ (w : List ℕ). resaved_by known k w out) (form_stays k known line words₀ words s) in
    (ap told f, ap (λ (q : Option ℕ × (List ℕ × List ℕ)). q.1.0) f)

all_count : (of : Source) (line words : List ℕ) → length (lines_of of line words) ≤ most_form_lines
unfolding lines_of
all_count source.Session line words = lines_count line words
all_count (source.Form known) line words = resaved_count known words

-- what is held once all is gathered
all_put : (of : Source) (line words₀ : List ℕ) (waiting₀ : Gathered) → (space_of of line words₀, gathered (lines_of of line words₀) waiting₀) ≡ put of line (words₀, waiting₀)
unfolding lines_of put replied reprinted
all_put source.Session line words₀ waiting₀ = refl
all_put (source.Form known) line words₀ waiting₀ = refl

pub record Replying (of : Source) (line words₀ : List ℕ) (count₀ : ℕ) (pending₀ words : List ℕ) (count : ℕ) (pending : List ℕ) (k : ℕ) : Type 0 where
  pub left : gathered (lines_of of line words₀) (count₀, pending₀) ≡ gathered (drop k (lines_of of line words₀)) (count, pending)
  pub space_is : Space k of line words₀ words
  pub place : k ≤ most_form_lines
  pub has_room_lem : HasRoom count pending
  pub words_long : length words ≡ length words₀
  pub pending_long : length pending ≡ length pending₀

module _ (of : Source) (line words₀ : List ℕ) (count₀ : ℕ) (pending₀ : List ℕ) where
  pub replying_start : HasRoom count₀ pending₀ → Replying of line words₀ count₀ pending₀ words₀ count₀ pending₀ 0
  replying_start h = record { left = refl; space_is = refl; place = omega arith; has_room_lem = h; words_long = refl; pending_long = refl }

  module _ (words : List ℕ) (count : ℕ) (pending : List ℕ) (k : ℕ) (R : Replying of line words₀ count₀ pending₀ words count pending k) where
    module _ (out : List ℕ) (r : Option ℕ) (x y : List ℕ) (e : (r, (x, y)) ≡ line_at of line k words out) where
      asked : ((r, y) ≡ printed_at (lines_of of line words₀) k out) × (x ≡ space_of of line words₀)
      asked = space_told of k line words₀ words out r x y e R.space_is

      pub replying_turn : k < most_form_lines → (n : ℕ) → r ≡ Some n → (m : ℕ) (p : List ℕ) → (m, p) ≡ pushed (take (n - 0) y) (count, pending) → HasRoom m p → length x ≡ length words → length p ≡ length pending → Replying of line words₀ count₀ pending₀ x m p (k + 1)
      replying_turn h n f m p g w v u = record {
        left = one_more (lines_of of line words₀) (count₀, pending₀) k count pending R.left out r y asked.0 n m p f g;
        space_is = rw (add-one k) asked.1;
        place = omega arith;
        has_room_lem = w;
        words_long = v ∙ R.words_long;
        pending_long = u ∙ R.pending_long;
      }

      pub replying_ended : r ≡ None → (x, (count, pending)) ≡ put of line (words₀, (count₀, pending₀))
      replying_ended f =
          ap₂ (λ (w : List ℕ) (g : Gathered). (w, g)) asked.1 (sym (no_more (lines_of of line words₀) (count₀, pending₀) k count pending R.left out r y asked.0 f))
          ∙ all_put of line words₀ (count₀, pending₀)

    pub replying_done : most_form_lines ≤ k → (words, (count, pending)) ≡ put of line (words₀, (count₀, pending₀))
    replying_done h =
        let many = all_count of line words₀ in
        ap₂ (λ (w : List ℕ) (g : Gathered). (w, g)) (space_later k of line words₀ words (λ z. omega arith) R.space_is) (sym (all_gathered (lines_of of line words₀) (count₀, pending₀) k count pending R.left (omega (arith, many))))
        ∙ all_put of line words₀ (count₀, pending₀)
