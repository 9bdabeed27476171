-- A form judged, way by way; and what the judgement says of the whole of it.
use Rattle.std.specs.Prelude.{Result, Ok, Err}
use mathlib.Core.Path.{◌≡◌, refl, sym, ap, subst, ◌∙◌}
use mathlib.Core.Bool.{true}
use mathlib.Core.List.{List, [], ◌∷◌}
use Prim.Native.Nat.{ℕ}
use Rattle.words_layout.specs.Layout.{holds_table}
use Rattle.line_decode.specs.Decoding.{bytes_of, type_of}
use Rattle.line_decode.specs.LineKinds.{kind_of}
use Rattle.line_decode.specs.declared.LineKind.{LineKind}
use Rattle.line_decode.specs.declared.LineKind.TheVariants as kind
use Rattle.call_checked.specs.Called.{opened_by}
use Rattle.form_take.specs.declared.Loaded.{Loaded}
use Rattle.form_take.specs.declared.Loaded.TheVariants as loaded
use Rattle.form_load.specs.Loading.{first_as, first_taken, loaded_by, load_ended}
use Rattle.form_load.proofs.Outcomes.{closes_to_table}
use Rattle.form_judge.specs.declared.Judged.{Judged}
use Rattle.form_judge.specs.declared.Judged.TheVariants as judged
use Rattle.form_judge.specs.Judging.{judged_all, judged_as, judged_by, judged_end, Judging}

-- the ways through verdict
module _ (l : Result Loaded ℕ) where
  pub as_refused : (number : ℕ) → l ≡ Err number → judged.Refused number ≡ judged_as l
  unfolding judged_as
  as_refused number e = sym (ap judged_as e)

  pub as_taken : l ≡ Ok loaded.Taken → judged.Open ≡ judged_as l
  unfolding judged_as
  as_taken e = sym (ap judged_as e)

  pub as_table : l ≡ Ok loaded.Table → judged.Closed ≡ judged_as l
  unfolding judged_as
  as_table e = sym (ap judged_as e)

-- through judge and judge_end
module _ (words : List ℕ) (before : Judged) where
  pub open_judged : (line : List ℕ) → before ≡ judged.Open → (l : Result Loaded ℕ) (x : List ℕ) → (l, x) ≡ loaded_by line words → (r : Judged) → r ≡ judged_as l → (r, x) ≡ judged_by line (before, words)
  unfolding judged_by
  open_judged line e l x p r q = ap (λ (v : Judged). (v, x)) q ∙ ap (λ (v : Result Loaded ℕ × List ℕ). (judged_as v.0, v.1)) p ∙ sym (ap (λ (v : Judged). judged_by line (v, words)) e)

  pub closed_judged : (line : List ℕ) → before ≡ judged.Closed → (wrong : ℕ) → wrong ≡ 15 → (judged.Refused wrong, words) ≡ judged_by line (before, words)
  unfolding judged_by
  closed_judged line e wrong w = ap (λ (n : ℕ). (judged.Refused n, words)) w ∙ sym (ap (λ (v : Judged). judged_by line (v, words)) e)

  pub refused_judged : (line : List ℕ) (number : ℕ) → before ≡ judged.Refused number → (judged.Refused number, words) ≡ judged_by line (before, words)
  unfolding judged_by
  refused_judged line number e = sym (ap (λ (v : Judged). judged_by line (v, words)) e)

  pub open_ended : before ≡ judged.Open → (l : Result Loaded ℕ) (x : List ℕ) → (l, x) ≡ load_ended words → (wrong : ℕ) → wrong ≡ 15 → (judged.Refused wrong, x) ≡ judged_end (before, words)
  unfolding judged_end
  open_ended e l x p wrong w = ap (λ (n : ℕ). (judged.Refused n, x)) w ∙ ap (λ (v : Result Loaded ℕ × List ℕ). (judged.Refused 15, v.1)) p ∙ sym (ap (λ (v : Judged). judged_end (v, words)) e)

  pub closed_ended : before ≡ judged.Closed → (judged.Closed, words) ≡ judged_end (before, words)
  unfolding judged_end
  closed_ended e = sym (ap (λ (v : Judged). judged_end (v, words)) e)

  pub refused_ended : (number : ℕ) → before ≡ judged.Refused number → (judged.Refused number, words) ≡ judged_end (before, words)
  unfolding judged_end
  refused_ended number e = sym (ap (λ (v : Judged). judged_end (v, words)) e)

-- the first refusal stays: no line after it changes anything
pub first_stays : (lines : List (List ℕ)) (number : ℕ) (words : List ℕ) → judged_end (judged_all lines (judged.Refused number, words)) ≡ (judged.Refused number, words)
unfolding judged_all judged_by judged_end
first_stays [] number words = refl
first_stays (line ∷ lines) number words = first_stays lines number words

-- "The second program gives 15 to any line after the closing one."
pub after_closing : (line : List ℕ) (lines : List (List ℕ)) (words : List ℕ) → judged_end (judged_all (line ∷ lines) (judged.Closed, words)) ≡ (judged.Refused 15, words)
unfolding judged_all judged_by
after_closing line lines words = first_stays lines 15 words

-- a form that is closed is a table by the rules
abbrev Tabled : Judged → List ℕ → Type 0
Tabled judged.Open words = Unit {0}
Tabled judged.Closed words = holds_table words ≡ true
Tabled (judged.Refused number) words = Unit {0}

loaded_tabled : (l : Result Loaded ℕ) (words : List ℕ) → (l ≡ Ok loaded.Table → holds_table words ≡ true) → Tabled (judged_as l) words
unfolding judged_as
loaded_tabled (Err number) words f = tt
loaded_tabled (Ok loaded.Taken) words f = tt
loaded_tabled (Ok loaded.Table) words f = f refl

by_tabled : (line : List ℕ) (verdict : Judged) (words : List ℕ) → Tabled verdict words → Tabled (judged_by line (verdict, words)).0 (judged_by line (verdict, words)).1
unfolding judged_by
by_tabled line judged.Open words t =
    loaded_tabled (loaded_by line words).0 (loaded_by line words).1
    (λ e. closes_to_table line words (loaded_by line words).1 (ap (λ (l : Result Loaded ℕ). (l, (loaded_by line words).1)) e))
by_tabled line judged.Closed words t = tt
by_tabled line (judged.Refused number) words t = tt

end_tabled : (verdict : Judged) (words : List ℕ) → Tabled verdict words → Tabled (judged_end (verdict, words)).0 (judged_end (verdict, words)).1
unfolding judged_end
end_tabled judged.Open words t = tt
end_tabled judged.Closed words t = t
end_tabled (judged.Refused number) words t = tt

all_tabled : (lines : List (List ℕ)) (verdict : Judged) (words : List ℕ) → Tabled verdict words → Tabled (judged_all lines (verdict, words)).0 (judged_all lines (verdict, words)).1
unfolding judged_all
all_tabled [] verdict words t = t
all_tabled (line ∷ lines) verdict words t = all_tabled lines (judged_by line (verdict, words)).0 (judged_by line (verdict, words)).1 (by_tabled line verdict words t)

pub closed_is_table : (lines : List (List ℕ)) (words after : List ℕ) → judged_end (judged_all lines (judged.Open, words)) ≡ (judged.Closed, after) → holds_table after ≡ true
closed_is_table lines words after e =
    let whole = judged_all lines (judged.Open, words) in
    subst (λ (j : Judging). Tabled j.0 j.1) e (end_tabled whole.0 whole.1 (all_tabled lines judged.Open words tt))

-- a line is judged by its bytes and its type
module _ (a b : List ℕ) (same : bytes_of a ≡ bytes_of b) (type : type_of a ≡ type_of b) where
  opened_alike : (words : List ℕ) → opened_by a words ≡ opened_by b words
  unfolding opened_by
  opened_alike words = rw same refl

  kinds_alike : (k : LineKind) (words : List ℕ) → first_as k a words ≡ first_as k b words
  unfolding first_as
  kinds_alike kind.Opening words = rw (opened_alike words) refl
  kinds_alike kind.Operation words = refl
  kinds_alike kind.Issue words = refl
  kinds_alike kind.Settling words = refl
  kinds_alike kind.Question words = refl
  kinds_alike kind.Printing words = refl
  kinds_alike kind.Saved words = refl
  kinds_alike kind.Unknown words = refl

  first_alike : (words : List ℕ) → first_taken a words ≡ first_taken b words
  unfolding first_taken
  first_alike words = rw type (kinds_alike (kind_of (type_of b)) words)

  loaded_alike : (words : List ℕ) → loaded_by a words ≡ loaded_by b words
  unfolding loaded_by
  loaded_alike words = rw (same, first_alike words) refl

  pub judged_alike : (judging : Judging) → judged_by a judging ≡ judged_by b judging
  unfolding judged_by
  judged_alike (judged.Open, words) = ap (λ (l : Result Loaded ℕ × List ℕ). (judged_as l.0, l.1)) (loaded_alike words)
  judged_alike (judged.Closed, words) = refl
  judged_alike (judged.Refused number, words) = refl
