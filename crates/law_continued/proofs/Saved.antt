-- A table that is saved and loaded goes on with its history.
use Rattle.std.specs.Prelude.{Result}
use mathlib.Core.Path.{◌≡◌, refl, sym, ap, ◌∙◌, subst}
use mathlib.Core.Bool.{true, false}
use mathlib.Core.List.{List, [], ◌∷◌, ◌++◌, map}
use Prim.Native.Nat.{ℕ, ◌≤◌}
use lib.ListN.{drop, length}
use Rattle.meaning.specs.Operations.{Operation}
use Rattle.meaning.specs.Rows.{unsettled_count}
use Rattle.meaning.specs.Table.{Header, Table, in_range, is_table, most_rows}
use Rattle.meaning.specs.Calls as meaning
use Rattle.meaning.specs.History.{Event, Station, after_all, reached}
use Rattle.meaning.proofs.Agreement.{Within}
use Rattle.words_layout.specs.Layout.{capacity_in, rows_in, size_in, space_for, table_of, words_of}
use Rattle.refusal_kind.specs.Asking.{asked_from}
use Rattle.table_rules.proofs.Checking.{checked}
use Rattle.arrival.proofs.Kept.{laid_back, laid_held}
use Rattle.line_hex.specs.Choice.{pick}
use Rattle.line_hex.specs.Hex.{hex_line}
use Rattle.line_read.specs.Types.{question}
use Rattle.line_read.specs.Named.{question_read, is_question}
use Rattle.line_decode.specs.Decoding.{bytes_of, type_of}
use Rattle.form_write.specs.Forms.{row_lines, saved_form, total_lines}
use Rattle.form_write.proofs.Agreeing.{equal_lines}
use Rattle.call_question.specs.AnswerBytes.{refusal_bytes, reply_bytes}
use Rattle.call_answer.specs.Answering.{question_answer}
use Rattle.call_checked.specs.Called.{header_read}
use Rattle.form_take.specs.declared.Loaded.{Loaded}
use Rattle.form_load.specs.Loading.{loaded_all, loaded_by, under_load}
use Rattle.law_round_trip.specs.Restoring.{Loads}
use Rattle.law_round_trip.proofs.RoundTrip as restoring
use Rattle.calls.specs.Answers.{answer_of}
use Rattle.law_agreement.specs.Station.{events_of, events_of_all, words_after}
use Rattle.law_agreement.specs.Lines.{OpenedBy, calls_of, meant_answer}
use Rattle.law_agreement.proofs.Calling.{Holds, after_both, opening_in_range, reply_agrees, reply_meant, rows_agree}
use Rattle.law_agreement.proofs.Lines.{line_accepted, next_holds, opened_fresh, opened_holds, question_on}
-- a form that loads is the form that its table saves, and two tables with the same form are the same table
pub use Rattle.law_round_trip.proofs.OneForm.{form_that_loads, one_form, same_table_in_every_space}
-- each table rule is refused at the line that breaks it: a line is taken exactly when with it the lines still begin some table's form
pub use Rattle.law_round_trip.proofs.Beginnings.{each_rule_at_its_line, wrong_at_once}
-- so no rule is left to the closing line
pub use Rattle.law_round_trip.proofs.EachRule.{rules_kept, table_before_closing}
-- 1, 13 and 15 of a line of a form, exactly when
pub use Rattle.law_continued.proofs.LoadsExactly.{exactly_when}
use Rattle.law_continued.specs.Continuing.{Act, said, called, restored, Fitting, accepted_by_acts, act_after, acts_after}
use Rattle.law_continued.proofs.Called.{called_accepted, called_holds}

-- what a form leaves where all its lines are taken
all_loaded : (lines : List (List ℕ)) (words after : List ℕ) → Loads lines words after → (loaded_all lines words).1 ≡ after
unfolding loaded_all
all_loaded [] words after l = absurd l
all_loaded (line ∷ []) words after l = ap (λ (p : Result Loaded ℕ × List ℕ). p.1) l
all_loaded (line ∷ next ∷ lines) words after l = all_loaded (next ∷ lines) (loaded_by line words).1 after l.1

-- "Loading what a table wrote gives that table back": word for word in a space of any contents, and what lies beyond it stays.
pub round_trip : (t : Table) → is_table t ≡ true → (space : List ℕ) → under_load space ≡ false → space_for t.header.size t.header.capacity ≤ length space → Loads (map hex_line (saved_form t)) space (words_of t ++ drop (space_for t.header.size t.header.capacity) space)
round_trip t is space n room = restoring.round_trip t is space n room

-- what a space holds, its latest form's space holds
restored_holds : (words space : List ℕ) (s : Station) → Holds words s → under_load space ≡ false → space_for (size_in words) (capacity_in words) ≤ length space → Holds (act_after (restored space) words) s
unfolding act_after table_of
restored_holds words space s H n room =
    let t = table_of words in
    let is : is_table t ≡ true = (checked words H.held).by_rules in
    let rest = drop (space_for t.header.size t.header.capacity) space in
    let after : (loaded_all (map hex_line (saved_form t)) space).1 ≡ words_of t ++ rest = all_loaded (map hex_line (saved_form t)) space (words_of t ++ rest) (round_trip t is space n room) in
    subst (λ (w : List ℕ). Holds w s) (sym after) (record { table_is = laid_back t is rest ∙ H.table_is; held = laid_held t is rest })

-- what the acts are in the meaning
abbrev events_of_acts : List Act → List ℕ → List Event
events_of_acts [] words = []
events_of_acts (said line ∷ rest) words = events_of_all (calls_of line) words ++ events_of_acts rest (act_after (said line) words)
events_of_acts (called call ∷ rest) words = events_of call words ++ events_of_acts rest (act_after (called call) words)
events_of_acts (restored space ∷ rest) words = events_of_acts rest (act_after (restored space) words)

acts_hold : (acts : List Act) (words : List ℕ) (s : Station) → Fitting acts words → Holds words s → Holds (acts_after acts words) (after_all (events_of_acts acts words) s)
unfolding acts_after act_after Fitting after_all
acts_hold [] words s f H = H
acts_hold (said line ∷ rest) words s f H =
    subst (λ (t : Station). Holds (acts_after rest (answer_of line words).1) t) (sym (after_both (events_of_all (calls_of line) words) (events_of_acts rest (answer_of line words).1) s))
    (acts_hold rest (answer_of line words).1 (after_all (events_of_all (calls_of line) words) s) f (next_holds line [] words s H))
acts_hold (called call ∷ rest) words s f H =
    subst (λ (t : Station). Holds (acts_after rest (words_after call words)) t) (sym (after_both (events_of call words) (events_of_acts rest (words_after call words)) s))
    (acts_hold rest (words_after call words) (after_all (events_of call words) s) f (called_holds words s H call))
acts_hold (restored space ∷ rest) words s f H = acts_hold rest (act_after (restored space) words) s f.1.1 (restored_holds words space s H f.0 f.1.0)

acts_accepted : (acts : List Act) (words : List ℕ) (s : Station) → Fitting acts words → Holds words s → (after_all (events_of_acts acts words) s).accepted ≡ accepted_by_acts acts words s.accepted
unfolding accepted_by_acts act_after Fitting after_all
acts_accepted [] words s f H = refl
acts_accepted (said line ∷ rest) words s f H =
    let next = after_all (events_of_all (calls_of line) words) s in
    ap (λ (t : Station). t.accepted) (after_both (events_of_all (calls_of line) words) (events_of_acts rest (answer_of line words).1) s)
    ∙ acts_accepted rest (answer_of line words).1 next f (next_holds line [] words s H)
    ∙ ap (accepted_by_acts rest (answer_of line words).1) (line_accepted line words s H)
acts_accepted (called call ∷ rest) words s f H =
    ap (λ (t : Station). t.accepted) (after_both (events_of call words) (events_of_acts rest (words_after call words)) s)
    ∙ acts_accepted rest (words_after call words) (after_all (events_of call words) s) f (called_holds words s H call)
    ∙ ap (accepted_by_acts rest (words_after call words)) (called_accepted words s H call)
acts_accepted (restored space ∷ rest) words s f H = acts_accepted rest (act_after (restored space) words) s f.1.1 (restored_holds words space s H f.0 f.1.0)

-- from an opening line that was answered `00`, whatever befalls the table
module _ (line before words : List ℕ) (O : OpenedBy line before words) (acts : List Act) (fits : Fitting acts words) where
  abbrev header : Header
  header = header_read (bytes_of line)

  abbrev now : List ℕ
  now = acts_after acts words

  abbrev events : List Event
  events = events_of_acts acts words

  start : Holds words (reached header [])
  start = opened_holds line before words O

  pub continued_holds : Holds now (reached header events)
  unfolding reached after_all
  continued_holds = acts_hold acts words (reached header []) fits start

  accepted_is : (reached header events).accepted ≡ accepted_by_acts acts words []
  unfolding reached after_all
  accepted_is = acts_accepted acts words (reached header []) fits start

  -- "and continues its history": every question line gets what the definitions say over all operations accepted so far
  pub continues : (asking : List ℕ) → type_of asking ≡ question.type_byte → answer_of asking now ≡ (meant_answer header (accepted_by_acts acts words []) asking, now)
  unfolding question_answer meant_answer
  continues asking type =
      let asked = asked_from (question_read (bytes_of asking)).object (question_read (bytes_of asking)).question (question_read (bytes_of asking)).value in
      let reply : meaning.ask (table_of now) most_rows asked ≡ meaning.meant header (accepted_by_acts acts words []) most_rows asked =
      reply_meant header (opening_in_range line before words (opened_fresh line before words O)) events now continued_holds most_rows asked ∙ ap (λ (l : List Operation). meaning.meant header l most_rows asked) accepted_is in
      question_on asking now continued_holds.held type
      ∙ ap (λ (r : meaning.Reply). (pick (is_question (bytes_of asking)) (reply_bytes r) (refusal_bytes 1), now)) reply

-- two tables to which any of this befell, with the same objects, which accepted the same operations
module _ (line before words : List ℕ) (O : OpenedBy line before words) (acts : List Act) (fits : Fitting acts words)
    (line' before' words' : List ℕ) (O' : OpenedBy line' before' words') (acts' : List Act) (fits' : Fitting acts' words')
    (objects : (header_read (bytes_of line)).kinds ≡ (header_read (bytes_of line')).kinds)
    (to : Within (accepted_by_acts acts words []) (accepted_by_acts acts' words' []))
    (from : Within (accepted_by_acts acts' words' []) (accepted_by_acts acts words [])) where
  abbrev here : List ℕ
  here = acts_after acts words

  abbrev there : List ℕ
  there = acts_after acts' words'

  abbrev one : Station
  one = reached (header line before words O acts fits) (events line before words O acts fits)

  abbrev other : Station
  other = reached (header line' before' words' O' acts' fits') (events line' before' words' O' acts' fits')

  H : Holds here one
  H = continued_holds line before words O acts fits

  H' : Holds there other
  H' = continued_holds line' before' words' O' acts' fits'

  ranged : in_range (header_read (bytes_of line)) ≡ true
  ranged = opening_in_range line before words (opened_fresh line before words O)

  ranged' : in_range (header_read (bytes_of line')) ≡ true
  ranged' = opening_in_range line' before' words' (opened_fresh line' before' words' O')

  forth : Within one.accepted other.accepted
  forth = subst (λ (l : List Operation). Within l other.accepted) (sym (accepted_is line before words O acts fits)) (subst (Within (accepted_by_acts acts words [])) (sym (accepted_is line' before' words' O' acts' fits')) to)

  back : Within other.accepted one.accepted
  back = subst (λ (l : List Operation). Within l one.accepted) (sym (accepted_is line' before' words' O' acts' fits')) (subst (Within (accepted_by_acts acts' words' [])) (sym (accepted_is line before words O acts fits)) from)

  pub continued_answers : (asking : List ℕ) → type_of asking ≡ question.type_byte → (answer_of asking here).0 ≡ (answer_of asking there).0
  unfolding question_answer
  continued_answers asking type =
      let asked = asked_from (question_read (bytes_of asking)).object (question_read (bytes_of asking)).question (question_read (bytes_of asking)).value in
      ap (λ (q : List ℕ × List ℕ). q.0) (question_on asking here H.held type)
      ∙ ap (λ (r : meaning.Reply). pick (is_question (bytes_of asking)) (reply_bytes r) (refusal_bytes 1))
      (reply_agrees (header_read (bytes_of line)) ranged (events line before words O acts fits) here H (header_read (bytes_of line')) ranged' (events line' before' words' O' acts' fits') there H' objects forth back most_rows asked)
      ∙ sym (ap (λ (q : List ℕ × List ℕ). q.0) (question_on asking there H'.held type))

  pub continued_rows : (header_read (bytes_of line)).size ≡ (header_read (bytes_of line')).size → unsettled_count (table_of here).rows ≡ 0 → unsettled_count (table_of there).rows ≡ 0 → rows_in here ≡ rows_in there
  continued_rows sizes none none' =
      rows_agree (header_read (bytes_of line)) ranged (events line before words O acts fits) here H (header_read (bytes_of line')) ranged' (events line' before' words' O' acts' fits') there H' objects forth back sizes none none'

  -- "fully settled ones hold the same bytes": the lines of their forms behind the last vectors are the same, every `52`, every `53` and the `5f`
  pub continued_lines : (header_read (bytes_of line)).size ≡ (header_read (bytes_of line')).size → unsettled_count (table_of here).rows ≡ 0 → unsettled_count (table_of there).rows ≡ 0 → total_lines (table_of here) ++ row_lines (table_of here) ≡ total_lines (table_of there) ++ row_lines (table_of there)
  continued_lines sizes none none' =
      rw (H.table_is, H'.table_is)
      (equal_lines (header_read (bytes_of line)) (header_read (bytes_of line')) (events line before words O acts fits) (events line' before' words' O' acts' fits') ranged ranged' objects sizes forth back
      (sym (ap (λ (t : Table). unsettled_count t.rows) H.table_is) ∙ none) (sym (ap (λ (t : Table). unsettled_count t.rows) H'.table_is) ∙ none'))
