-- The second program prints the form that it read, and every form that a table saves is printed again.
use Rattle.std.specs.Prelude.{Result, Ok, Err}
use mathlib.Core.Path.{◌≡◌, refl, sym, ap, subst, ◌∙◌}
use mathlib.Core.Bool.{true, false}
use mathlib.Core.List.{List, [], ◌∷◌, ◌++◌, map}
use Prim.Native.Nat.{ℕ, ◌≤◌}
use lib.ListN.{drop, length}
use Rattle.meaning.specs.Table.{Table, is_table}
use Rattle.words_layout.specs.Layout.{space_for, words_of}
use Rattle.arrival.proofs.Kept.{laid_back, laid_held}
use Rattle.line_hex.specs.Hex.{hex_line}
use Rattle.form_write.specs.Forms.{saved_form}
use Rattle.form_take.specs.declared.Loaded.{Loaded}
use Rattle.form_take.specs.declared.Loaded.TheVariants as loaded
use Rattle.form_load.specs.Loading.{loaded_by, under_load}
use Rattle.law_round_trip.specs.Restoring.{Loads}
use Rattle.law_round_trip.proofs.RoundTrip.{round_trip}
use Rattle.law_round_trip.proofs.OneForm.{form_that_loads}
use Rattle.form_judge.specs.declared.Judged.{Judged}
use Rattle.form_judge.specs.declared.Judged.TheVariants as judged
use Rattle.form_judge.specs.Judging.{judged_all, judged_as, judged_by, judged_end, Judging, resaved_lines}
use Rattle.form_judge.proofs.Resaving.{closed_prints}

abbrev Shut : Judged → Type 0
Shut judged.Open = ⊥
Shut judged.Closed = Unit {0}
Shut (judged.Refused number) = ⊥

shut : (verdict : Judged) → verdict ≡ judged.Closed → Shut verdict
shut verdict e = subst Shut (sym e) tt

refused_stays : (lines : List (List ℕ)) (number : ℕ) (words : List ℕ) → judged_all lines (judged.Refused number, words) ≡ (judged.Refused number, words)
unfolding judged_all judged_by
refused_stays [] number words = refl
refused_stays (line ∷ lines) number words = refused_stays lines number words

never_shut : (lines : List (List ℕ)) (number : ℕ) (words after : List ℕ) → judged_all lines (judged.Refused number, words) ≡ (judged.Closed, after) → ⊥
never_shut lines number words after e = shut (judged.Refused number) (ap (λ (j : Judging). j.0) (sym (refused_stays lines number words) ∙ e))

-- a form is closed by its last line, and by no other
last_closes : (l : Result Loaded ℕ) (x after : List ℕ) → ◌≡◌ {A = Judging} (judged_as l, x) (judged.Closed, after) → ◌≡◌ {A = Result Loaded ℕ × List ℕ} (l, x) (Ok loaded.Table, after)
unfolding judged_as
last_closes (Err number) x after e = absurd (shut (judged.Refused number) (ap (λ (j : Judging). j.0) e))
last_closes (Ok loaded.Taken) x after e = absurd (shut judged.Open (ap (λ (j : Judging). j.0) e))
last_closes (Ok loaded.Table) x after e = ap (λ (j : Judging). (Ok loaded.Table, j.1)) e

goes_on : (l : Result Loaded ℕ) (x next : List ℕ) (lines : List (List ℕ)) (after : List ℕ) → judged_all (next ∷ lines) (judged_as l, x) ≡ (judged.Closed, after) → (l ≡ Ok loaded.Taken) × (judged_all (next ∷ lines) (judged.Open, x) ≡ (judged.Closed, after))
unfolding judged_as judged_all judged_by
goes_on (Err number) x next lines after e = absurd (never_shut lines number x after e)
goes_on (Ok loaded.Taken) x next lines after e = (refl, e)
goes_on (Ok loaded.Table) x next lines after e = absurd (never_shut lines 15 x after e)

closed_loads : (lines : List (List ℕ)) (words after : List ℕ) → judged_all lines (judged.Open, words) ≡ (judged.Closed, after) → Loads lines words after
unfolding judged_all judged_by
closed_loads [] words after e = absurd (shut judged.Open (ap (λ (j : Judging). j.0) e))
closed_loads (line ∷ []) words after e = last_closes (loaded_by line words).0 (loaded_by line words).1 after e
closed_loads (line ∷ next ∷ lines) words after e =
    let G = goes_on (loaded_by line words).0 (loaded_by line words).1 next lines after e in
    (G.0, closed_loads (next ∷ lines) (loaded_by line words).1 after G.1)

loads_closed : (lines : List (List ℕ)) (words after : List ℕ) → Loads lines words after → judged_all lines (judged.Open, words) ≡ (judged.Closed, after)
unfolding judged_all judged_by judged_as
loads_closed [] words after h = absurd h
loads_closed (line ∷ []) words after h = ap (λ (l : Result Loaded ℕ × List ℕ). (judged_as l.0, l.1)) h
loads_closed (line ∷ next ∷ lines) words after h =
    ap (λ (l : Result Loaded ℕ). judged_all (next ∷ lines) (judged_as l, (loaded_by line words).1)) h.0 ∙ loads_closed (next ∷ lines) (loaded_by line words).1 after h.1

end_shut : (verdict : Judged) (x after : List ℕ) → judged_end (verdict, x) ≡ (judged.Closed, after) → ◌≡◌ {A = Judging} (verdict, x) (judged.Closed, after)
unfolding judged_end
end_shut judged.Open x after e = absurd (shut (judged.Refused 15) (ap (λ (j : Judging). j.0) e))
end_shut judged.Closed x after e = e
end_shut (judged.Refused number) x after e = absurd (shut (judged.Refused number) (ap (λ (j : Judging). j.0) e))

-- "prints it again": what is printed of a form that is not refused is what was read, character by character
pub prints_what_it_read : (lines : List (List ℕ)) (words after : List ℕ) → under_load words ≡ false → judged_end (judged_all lines (judged.Open, words)) ≡ (judged.Closed, after) → map hex_line (resaved_lines judged.Closed after) ≡ lines
prints_what_it_read lines words after idle e =
    let whole = judged_all lines (judged.Open, words) in
    let F = form_that_loads lines words after idle (closed_loads lines words after (end_shut whole.0 whole.1 after e)) in
    ap (map hex_line) (closed_prints after F.0) ∙ sym F.1

-- and no form that a table saves is refused
module _ (t : Table) (is : is_table t ≡ true) (words : List ℕ) (idle : under_load words ≡ false) (room : space_for t.header.size t.header.capacity ≤ length words) where
  abbrev after : List ℕ
  after = words_of t ++ drop (space_for t.header.size t.header.capacity) words

  pub saved_form_closes : judged_end (judged_all (map hex_line (saved_form t)) (judged.Open, words)) ≡ (judged.Closed, after)
  unfolding judged_end
  saved_form_closes = ap judged_end (loads_closed (map hex_line (saved_form t)) words after (round_trip t is words idle room))

  pub saved_form_again : resaved_lines judged.Closed after ≡ saved_form t
  saved_form_again = closed_prints after (laid_held t is (drop (space_for t.header.size t.header.capacity) words)) ∙ ap saved_form (laid_back t is (drop (space_for t.header.size t.header.capacity) words))
