-- "a form that loads is the form that its table saves", and two tables with the same form are the same table.
use Rattle.std.specs.Prelude.{Result}
use mathlib.Core.Path.{◌≡◌, refl, sym, ap, ap₂, ◌∙◌, subst}
use mathlib.Core.Bool.{true, false, not}
use mathlib.Core.List.{List, [], ◌∷◌, ◌++◌, map}
use Prim.Native.Nat.{ℕ, zero, suc, ◌+◌}
use native.Mathlib.Omega.{arith}
use lib.Dec.{eqb}
use lib.ListN.{length, drop, replicate, length-replicate}
use borrow.Author.Tests.{le-leb}
use Rattle.meaning.specs.Order.{Vector}
use Rattle.meaning.specs.Table.{Header, Table, is_table, opened}
use Rattle.meaning.proofs.Tests.{and_right}
use Rattle.words_layout.specs.Layout.{holds_table, is_spelt, space_for, table_of, with_clock, words_of}
use Rattle.arrival.proofs.Kept.{laid_back}
use Rattle.line_hex.specs.Hex.{hex_line}
use Rattle.form_lines.specs.FormLines.{clock_line, last_line, opening_line}
use Rattle.form_write.specs.Forms.{last_lines, lines_of, row_lines, saved_form, total_lines}
use Rattle.form_take.specs.declared.Loaded.{Loaded}
use Rattle.form_load.specs.Loading.{head_loads, loaded_by, next_after, under_load}
use Rattle.law_round_trip.specs.Restoring.{Loads}
use Rattle.law_round_trip.proofs.Under.{Fresh, under}
use Rattle.law_round_trip.proofs.Front.{others}
use Rattle.law_round_trip.proofs.StepsBack.{clock_back, goes_on}
use Rattle.law_round_trip.proofs.OpeningBack.{kept, opening_back}
use Rattle.law_round_trip.proofs.LastsBack.{lasts_from}
use Rattle.law_round_trip.proofs.RoundTrip.{round_trip}

-- the lines behind the opening line
behind_opening : (lines : List (List ℕ)) (header : Header) → Fresh (opened header) → (rest after : List ℕ) → Loads lines (under 1 (opened header) rest) after → (holds_table after ≡ true) × (hex_line (opening_line header) ∷ lines ≡ map hex_line (saved_form (table_of after)))
unfolding opened next_after saved_form last_lines
behind_opening [] header F rest after h = absurd h
behind_opening (line ∷ lines) header F rest after h =
    let t = opened header in
    let none : 2 ≡ suc (suc (others header.own 0)) = rw (le-leb 0 header.own (omega arith)) refl in
    let G = goes_on line lines (under 1 t rest) clock_line (with_clock t) 2 rest after (clock_back t F rest 1 line refl refl) h in
    let E = lasts_from header.size 0 2 lines (with_clock t G.what) G.fresh rest after (omega arith) none refl G.more in
    let u = table_of after in (
      E.held,
      ap₂ (λ (h : Header) (ls : List (List ℕ)). hex_line (opening_line h) ∷ ls) (sym E.header_is)
          (ap₂ (λ (l : List ℕ) (ls : List (List ℕ)). l ∷ ls) (G.line_is ∙ ap (λ (v : Vector). hex_line (clock_line v)) (sym E.clock_is))
          (E.lines_are ∙ ap (λ (h : Header). map hex_line (lines_of (λ (station : ℕ). not (eqb station h.own)) last_line 0 u.last ++ (total_lines u ++ row_lines u))) (sym E.header_is))),
    )

-- A form that loads leaves a table, and its lines are those that this table saves. What the space held before is free.
pub form_that_loads : (lines : List (List ℕ)) (words after : List ℕ) → under_load words ≡ false → Loads lines words after → (holds_table after ≡ true) × (lines ≡ map hex_line (saved_form (table_of after)))
form_that_loads [] words after idle h = absurd h
form_that_loads (line ∷ lines) words after idle h =
    let rest = kept line words idle in
    let G = goes_on line lines words opening_line opened 1 rest after (opening_back line words idle) h in
    let B = behind_opening lines G.what G.fresh rest after G.more in
    (B.0, ap (λ (l : List ℕ). l ∷ lines) G.line_is ∙ B.1)

-- what a form leaves in a space is one
pub loads_one : (lines : List (List ℕ)) (words a b : List ℕ) → Loads lines words a → Loads lines words b → a ≡ b
loads_one [] words a b e f = absurd e
loads_one (line ∷ []) words a b e f = ap (λ (o : Result Loaded ℕ × List ℕ). o.1) (sym e ∙ f)
loads_one (line ∷ second ∷ lines) words a b e f = loads_one (second ∷ lines) (loaded_by line words).1 a b e.1 f.1

idle_zeros : (n : ℕ) → under_load (replicate n 0) ≡ false
unfolding under_load head_loads
idle_zeros zero = refl
idle_zeros (suc n) = refl

-- two tables with the same form are the same table
pub one_form : (t u : Table) → is_table t ≡ true → is_table u ≡ true → map hex_line (saved_form t) ≡ map hex_line (saved_form u) → t ≡ u
one_form t u is is' e =
    let here = space_for t.header.size t.header.capacity in
    let there = space_for u.header.size u.header.capacity in
    let space : List ℕ = replicate (here + there) 0 in
    let long : length space ≡ here + there = length-replicate (here + there) 0 in
    let first = round_trip t is space (idle_zeros (here + there)) (omega arith) in
    let second = round_trip u is' space (idle_zeros (here + there)) (omega arith) in
    let same : words_of t ++ drop here space ≡ words_of u ++ drop there space = loads_one (map hex_line (saved_form t)) space (words_of t ++ drop here space) (words_of u ++ drop there space) first (subst (λ (ls : List (List ℕ)). Loads ls space (words_of u ++ drop there space)) (sym e) second) in
    sym (laid_back t is (drop here space)) ∙ ap table_of same ∙ laid_back u is' (drop there space)

-- and a form leaves the same table in every space
pub same_table_in_every_space : (lines : List (List ℕ)) (words after words' after' : List ℕ) → under_load words ≡ false → under_load words' ≡ false → Loads lines words after → Loads lines words' after' → table_of after ≡ table_of after'
unfolding holds_table
same_table_in_every_space lines words after words' after' idle idle' h h' =
    let A = form_that_loads lines words after idle h in
    let B = form_that_loads lines words' after' idle' h' in
    one_form (table_of after) (table_of after') (and_right (is_spelt after) (is_table (table_of after)) A.0) (and_right (is_spelt after') (is_table (table_of after')) B.0) (sym A.1 ∙ B.1)
