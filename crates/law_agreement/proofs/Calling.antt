-- Any calls, with any lines, one after the other over a space that was opened: what the space holds is what the meaning reaches.
use Rattle.question.specs.Told as reply
use Rattle.std.proofs.Common.{Result, Ok, Err}
use Rattle.line_read.specs.Named.{is_opening, is_operation, is_issue, is_settling, is_question, issue_read, opening_read, operation_read, question_read, settling_read}
use mathlib.Core.Path.{◌≡◌, refl, sym, ap, ap₂, ◌∙◌, subst}
use mathlib.Core.Bool.{Bool, true, false, ◌&&◌, false≢true}
use mathlib.Core.List.{List, [], ◌∷◌, ◌++◌, map}
use Prim.Native.Nat.{ℕ, ◌≤◌}
use lib.Dec.{eqb, leb}
use lib.ListN.{length, drop, set}
use borrow.Author.Tests.{eqb-true, le-leb}
use Rattle.meaning.specs.Operations.{Operation}
use Rattle.meaning.specs.Rows.{Row, unsettled_count}
use Rattle.meaning.specs.Table.{Header, Table, in_range, is_table, opened}
use Rattle.meaning.specs.Refusals.{Frame, Local, refusal_of_frame, refusal_of_local, refusal_of_settling, settling_refusals, issued_by, first_of, opening_refusals, greatest_limit}
use Rattle.meaning.specs.Questions.{Asked}
use Rattle.meaning.specs.Calls as meaning
use Rattle.meaning.specs.Calls.{outcome, after_arrival, with_rows, rows_settled, meant}
use Rattle.meaning.specs.History as history
use Rattle.meaning.specs.History.{Event, Station, after, after_all, after_outcome, after_settling, reached}
use Rattle.meaning.proofs.Tests.{cases}
use Rattle.meaning.proofs.Demand3 as demand3
use Rattle.meaning.proofs.Agreement as agreement
use Rattle.meaning.proofs.Agreement.{Within}
use Rattle.meaning.proofs.TableRules.{kept_by_frame, kept_by_local, kept_by_settling, opened_is_table}
use Rattle.words_layout.specs.Layout.{holds_table, table_of, rewritten, row_of, row_words, rows_in, size_in, space_for, words_of}
use Rattle.words_layout.proofs.Pieces.{map_back}
use Rattle.words_layout.proofs.Whole.{each_spelt}
use Rattle.refusal_kind.specs.Asking.{asked_from}
use Rattle.question.specs.Replies.{replied}
use Rattle.table_rules.specs.Checked.{Checked}
use Rattle.table_rules.proofs.Checking.{checked}
use Rattle.arrival.proofs.Kept.{table_back, table_held, laid_back, laid_held}
use Rattle.line_hex.specs.Choice.{pick}
use Rattle.line_hex.specs.Hex.{hex_line}
use Rattle.line_put.specs.Writing.{line_written}
use Rattle.line_decode.specs.Decoding.{bytes_of}
use Rattle.calls.specs.Calls as calls
use Rattle.call_checked.specs.Called.{frame_bytes, frame_of, framed_as, header_read, issued_as, issued_on, local_of, opened_as, opened_by, replied_on, received_as, received_on, settled_as, settled_on}
use Rattle.calls.specs.Calls.{replied_by, received_by, settled_by}
use Rattle.law_agreement.specs.Station.{Call, receives, issues, settles, words_after, words_after_all, frame_fits, events_of, events_of_all}
use Rattle.line_decode.proofs.Decoding.{decoded_bytes}
use Rattle.call_checked.proofs.Settling.{limit_read}
use Rattle.call_checked.proofs.Opening.{open_ranges}
use Rattle.line_hex.proofs.Picking.{picked}

-- the space holds the table that a station has
pub record Holds (words : List ℕ) (station : Station) : Type 0 where
  pub table_is : table_of words ≡ station.table
  pub held : holds_table words ≡ true

module _ (words : List ℕ) (station : Station) (H : Holds words station) where
  K : Checked words
  K = checked words H.held

  ruled : is_table station.table ≡ true
  ruled = subst (λ (t : Table). is_table t ≡ true) H.table_is K.by_rules

  -- a table put in the place of the other
  put : (next : Station) → is_table next.table ≡ true → Holds (rewritten words next.table) next
  put next is = record { table_is = table_back next.table is words; held = table_held next.table is words }

  -- an outcome: a table put in the place of the other, or nothing changed
  outcome_holds : (number : ℕ) (u : Operation) (t : Table) → (number ≡ 0 → is_table t ≡ true) → Holds (received_as words (outcome number u t)).1 (after_outcome station (outcome number u t))
  unfolding outcome received_as after_outcome
  outcome_holds number u t is = cases (eqb number 0)
      (λ q. rw q (put (record { table = t; accepted = u ∷ station.accepted }) (is (eqb-true number 0 q))))
      (λ q. rw q H)

  receive_event : (frame : Frame) → Holds (received_as words (meaning.receive (table_of words) frame)).1 (after (history.receives frame) station)
  unfolding after meaning.receive
  receive_event frame = subst (λ (t : Table). Holds (received_as words (meaning.receive (table_of words) frame)).1 (after_outcome station (meaning.receive t frame))) H.table_is
      (outcome_holds (refusal_of_frame (table_of words) frame) frame.operation (after_arrival (table_of words) frame.operation (set (table_of words).last frame.operation.sender frame.operation.vector)) (kept_by_frame (table_of words) frame K.by_rules))

  receive_holds : (line : List ℕ) → Holds (received_by line words).1 (after_all (events_of (receives line) words) station)
  unfolding received_by received_on events_of after_all
  receive_holds line = rw H.held (by (is_operation (bytes_of line)))
    where
      frame : Frame
      frame = frame_of (operation_read (bytes_of line))

      by : (b : Bool) → Holds (pick b (received_as words (meaning.receive (table_of words) frame)) (Err 1, words)).1 (after_all (pick b (history.receives frame ∷ []) []) station)
      by true = receive_event frame
      by false = H

  -- a settling call
  settle_event : (limit : ℕ) → limit ≤ greatest_limit → Holds (settled_as words (meaning.settle (table_of words) limit)).1 (after (history.settles limit) station)
  unfolding after meaning.settle settled_as after_settling refusal_of_settling settling_refusals
  settle_event limit h = subst (λ (t : Table). Holds (settled_as words (meaning.settle (table_of words) limit)).1 (after_settling station (meaning.settle t limit))) H.table_is
      (rw (le-leb limit greatest_limit h) (put (record { table = with_rows (table_of words) (rows_settled (table_of words) limit); accepted = station.accepted }) (kept_by_settling (table_of words) limit K.by_rules)))

  settle_holds : (line : List ℕ) → Holds (settled_by line words).1 (after_all (events_of (settles line) words) station)
  unfolding settled_by settled_on events_of after_all
  settle_holds line = rw H.held (by (is_settling (bytes_of line)))
    where
      limit : ℕ
      limit = (settling_read (bytes_of line)).limit

      by : (b : Bool) → Holds (pick b (settled_as words (meaning.settle (table_of words) limit)) (Err 1, words)).1 (after_all (pick b (history.settles limit ∷ []) []) station)
      by true = settle_event limit (limit_read (bytes_of line) (decoded_bytes line))
      by false = H

  -- a local operation, with room for its frame or without
  module _ (local : Local) (out : List ℕ) where
    abbrev fits : Bool
    fits = leb (length (hex_line (frame_bytes (issued_by (table_of words) local)))) (length out)

    issued_holds : (number : ℕ) (u : Operation) (t : Table) (b : Bool) → (number ≡ 0 → is_table t ≡ true) → b ≡ leb (length (hex_line (frame_bytes u))) (length out) →
        Holds (issued_as words out (outcome number u t)).1.0 (pick b (after_outcome station (outcome number u t)) station)
    unfolding outcome issued_as after_outcome framed_as line_written
    issued_holds number u t b is e = cases (eqb number 0)
        (λ q. rw q (cases b
        (λ f. rw (f, sym e ∙ f) (put (record { table = t; accepted = u ∷ station.accepted }) (is (eqb-true number 0 q))))
        (λ f. rw (f, sym e ∙ f) H)))
        (λ q. rw q (cases b (λ f. rw f H) (λ f. rw f H)))

    issue_event : Holds (issued_as words out (meaning.issue (table_of words) local)).1.0 (pick fits (after (history.issues local) station) station)
    unfolding after meaning.issue
    issue_event = subst (λ (t : Table). Holds (issued_as words out (meaning.issue (table_of words) local)).1.0 (pick fits (after_outcome station (meaning.issue t local)) station)) H.table_is
        (issued_holds (refusal_of_local (table_of words) local) (issued_by (table_of words) local) (after_arrival (table_of words) (issued_by (table_of words) local) (table_of words).last) fits (kept_by_local (table_of words) local K.by_rules) refl)

  issue_holds : (line out : List ℕ) → Holds (calls.issued_by line words out).1.0 (after_all (events_of (issues line out) words) station)
  unfolding calls.issued_by issued_on events_of after_all frame_fits
  issue_holds line out = rw H.held (by (is_issue (bytes_of line)) (fits local out) (issue_event local out))
    where
      local : Local
      local = local_of (issue_read (bytes_of line))

      by : (b c : Bool) → Holds (issued_as words out (meaning.issue (table_of words) local)).1.0 (pick c (after (history.issues local) station) station) →
          Holds (pick b (issued_as words out (meaning.issue (table_of words) local)) (Err 1, (words, out))).1.0 (after_all (pick (b && c) (history.issues local ∷ []) []) station)
      by true true h = h
      by true false h = h
      by false c h = H

  -- any call
  call_holds : (call : Call) → Holds (words_after call words) (after_all (events_of call words) station)
  unfolding words_after
  call_holds (receives line) = receive_holds line
  call_holds (issues line out) = issue_holds line out
  call_holds (settles line) = settle_holds line

-- events one after the other
pub after_both : (first rest : List Event) (station : Station) → after_all (first ++ rest) station ≡ after_all rest (after_all first station)
unfolding after_all
after_both [] rest station = refl
after_both (event ∷ first) rest station = after_both first rest (after event station)

pub calls_hold : (list : List Call) (words : List ℕ) (station : Station) → Holds words station → Holds (words_after_all list words) (after_all (events_of_all list words) station)
unfolding words_after_all events_of_all after_all
calls_hold [] words station H = H
calls_hold (call ∷ rest) words station H =
    subst (λ (s : Station). Holds (words_after_all rest (words_after call words)) s) (sym (after_both (events_of call words) (events_of_all rest (words_after call words)) station))
    (calls_hold rest (words_after call words) (after_all (events_of call words) station) (call_holds words station H call))

-- the words of a space's rows are those of the rows that it holds
rows_spelt : (s : List ℕ) → Checked s → rows_in s ≡ map (row_words (table_of s).header.size) (table_of s).rows
unfolding table_of
rows_spelt s K = sym (map_back row_of (row_words (size_in s)) (rows_in s) (each_spelt s K.laid))

-- a space that holds what the meaning reaches answers as the definitions say
module _ (header : Header) (ranged : in_range header ≡ true) (events : List Event) (now : List ℕ) (H : Holds now (reached header events)) where
  pub reply_meant : (room : ℕ) (asked : Asked) → meaning.ask (table_of now) room asked ≡ meant header (reached header events).accepted room asked
  reply_meant room asked = ap (λ (t : Table). meaning.ask t room asked) H.table_is ∙ demand3.every_answer header events ranged room asked

  -- and so does another with the same objects that accepted the same operations
  module _ (other : Header) (ranged' : in_range other ≡ true) (happened : List Event) (there : List ℕ) (H' : Holds there (reached other happened))
      (objects : header.kinds ≡ other.kinds)
      (to : Within (reached header events).accepted (reached other happened).accepted)
      (from : Within (reached other happened).accepted (reached header events).accepted) where
    pub reply_agrees : (room : ℕ) (asked : Asked) → meaning.ask (table_of now) room asked ≡ meaning.ask (table_of there) room asked
    reply_agrees room asked =
        ap (λ (t : Table). meaning.ask t room asked) H.table_is
        ∙ agreement.equal_answers header other events happened ranged ranged' objects to from room asked
        ∙ sym (ap (λ (t : Table). meaning.ask t room asked) H'.table_is)

    pub rows_agree : header.size ≡ other.size → unsettled_count (table_of now).rows ≡ 0 → unsettled_count (table_of there).rows ≡ 0 → rows_in now ≡ rows_in there
    rows_agree sizes none none' =
        let same : (table_of now).rows ≡ (table_of there).rows =
        ap (λ (t : Table). t.rows) H.table_is
        ∙ agreement.equal_rows header other events happened ranged ranged' objects to from
        (sym (ap (λ (t : Table). unsettled_count t.rows) H.table_is) ∙ none) (sym (ap (λ (t : Table). unsettled_count t.rows) H'.table_is) ∙ none')
        ∙ sym (ap (λ (t : Table). t.rows) H'.table_is) in
        let size : (table_of now).header.size ≡ (table_of there).header.size =
        ap (λ (t : Table). t.header.size) H.table_is ∙ ap (λ (h : Header). h.size) (demand3.reached_sound header events ranged).same_header ∙ sizes
        ∙ sym (ap (λ (t : Table). t.header.size) H'.table_is ∙ ap (λ (h : Header). h.size) (demand3.reached_sound other happened ranged').same_header) in
        rows_spelt now (checked now H.held) ∙ ap₂ (λ (n : ℕ) (rows : List Row). map (row_words n) rows) size same ∙ sym (rows_spelt there (checked there H'.held))

-- an opening that is taken
is_fresh : Result (Unit {0}) ℕ → Bool
is_fresh (Err number) = false
is_fresh (Ok u) = true

module _ (line before words : List ℕ) (e : opened_by line before ≡ (Ok tt, words)) where
  abbrev header : Header
  header = header_read (bytes_of line)

  abbrev laid : List ℕ
  laid = words_of (opened header) ++ drop (space_for header.size header.capacity) before

  abbrev needed : ℕ
  needed = space_for header.size header.capacity

  abbrev refusal : ℕ
  refusal = first_of (opening_refusals (length before) needed header)

  not_fresh : (number : ℕ) → ◌≡◌ {A = Result (Unit {0}) ℕ × List ℕ} (Err number, before) (Ok tt, words) → ⊥
  unfolding is_fresh
  not_fresh number f = false≢true (ap (λ (p : Result (Unit {0}) ℕ × List ℕ). is_fresh p.0) f)

  by_table : opened_as before (meaning.open_table (length before) needed header) ≡ (Ok tt, words) → (in_range header ≡ true) × (words ≡ laid)
  unfolding opened_as meaning.open_table opened
  by_table f = cases (eqb refusal 0)
      (λ q. (open_ranges before needed header (sym (eqb-true refusal 0 q)), sym (ap (λ (p : Result (Unit {0}) ℕ × List ℕ). p.1) (rw q at f))))
      (λ q. absurd (not_fresh refusal (rw q at f)))

  by_shape : (b : Bool) → pick b (opened_as before (meaning.open_table (length before) needed header)) (Err 1, before) ≡ (Ok tt, words) → (in_range header ≡ true) × (words ≡ laid)
  by_shape true f = by_table f
  by_shape false f = absurd (not_fresh 1 f)

  fresh_is : (in_range header ≡ true) × (words ≡ laid)
  unfolding opened_by
  fresh_is = by_shape (is_opening (bytes_of line)) e

  pub opening_in_range : in_range header ≡ true
  opening_in_range = fresh_is.0

  opened_holds : Holds words (reached header [])
  unfolding reached after_all
  opened_holds = subst (λ (w : List ℕ). Holds w (record { table = opened header; accepted = [] })) (sym fresh_is.1)
      (record { table_is = laid_back (opened header) (opened_is_table header opening_in_range) (drop (space_for header.size header.capacity) before); held = laid_held (opened header) (opened_is_table header opening_in_range) (drop (space_for header.size header.capacity) before) })

  module _ (list : List Call) where
    abbrev now_words : List ℕ
    now_words = words_after_all list words

    abbrev station : Station
    station = reached header (events_of_all list words)

    -- "from a fresh table, whatever was accepted": the space holds the table that the meaning reaches
    pub holds_reached : Holds now_words station
    unfolding reached after_all
    holds_reached = calls_hold list words (reached header []) opened_holds

    -- every question that is answered gets what the definitions say over all operations accepted so far, whatever settling came between
    pub every_answer : (question out : List ℕ) → is_question (bytes_of question) ≡ true →
        let asked = question_read (bytes_of question) in
        replied_by question now_words out ≡ replied (meant header station.accepted (length out) (asked_from asked.object asked.question asked.value)) out
    unfolding replied_by replied_on
    every_answer question out ok =
        let asked = asked_from (question_read (bytes_of question)).object (question_read (bytes_of question)).question (question_read (bytes_of question)).value in
        picked (holds_table now_words) (replied_on question now_words out) (reply.Refused 14, out) holds_reached.held
        ∙ picked (is_question (bytes_of question)) (replied (meaning.ask (table_of now_words) (length out) asked) out) (reply.Refused 1, out) ok
        ∙ ap (λ (r : meaning.Reply). replied r out) (reply_meant header opening_in_range (events_of_all list words) now_words holds_reached (length out) asked)

-- two spaces, each opened and used by any calls, whose stations have the same objects and have accepted the same operations
module _ (line before words : List ℕ) (e : opened_by line before ≡ (Ok tt, words)) (list : List Call)
    (line' before' words' : List ℕ) (e' : opened_by line' before' ≡ (Ok tt, words')) (list' : List Call)
    (objects : (header_read (bytes_of line)).kinds ≡ (header_read (bytes_of line')).kinds)
    (to : Within (station line before words e list).accepted (station line' before' words' e' list').accepted)
    (from : Within (station line' before' words' e' list').accepted (station line before words e list).accepted) where
  abbrev here : List ℕ
  here = words_after_all list words

  abbrev there : List ℕ
  there = words_after_all list' words'

  H : Holds here (station line before words e list)
  H = holds_reached line before words e list

  H' : Holds there (station line' before' words' e' list')
  H' = holds_reached line' before' words' e' list'

  -- "stations that accepted the same operations agree": every question line gets the same, in a list space of any contents
  pub equal_answers : (question out : List ℕ) → replied_by question here out ≡ replied_by question there out
  unfolding replied_by replied_on
  equal_answers question out =
      let asked = asked_from (question_read (bytes_of question)).object (question_read (bytes_of question)).question (question_read (bytes_of question)).value in
      let same : meaning.ask (table_of here) (length out) asked ≡ meaning.ask (table_of there) (length out) asked =
      reply_agrees (header_read (bytes_of line)) (opening_in_range line before words e) (events_of_all list words) here H
      (header_read (bytes_of line')) (opening_in_range line' before' words' e') (events_of_all list' words') there H' objects to from (length out) asked in
      picked (holds_table here) (replied_on question here out) (reply.Refused 14, out) H.held
      ∙ ap (λ (r : meaning.Reply). pick (is_question (bytes_of question)) (replied r out) (reply.Refused 1, out)) same
      ∙ sym (picked (holds_table there) (replied_on question there out) (reply.Refused 14, out) H'.held)

  -- "fully settled ones hold the same bytes": in groups of one size the words of their rows are the same
  pub equal_rows : (header_read (bytes_of line)).size ≡ (header_read (bytes_of line')).size → unsettled_count (table_of here).rows ≡ 0 → unsettled_count (table_of there).rows ≡ 0 → rows_in here ≡ rows_in there
  equal_rows sizes none none' =
      rows_agree (header_read (bytes_of line)) (opening_in_range line before words e) (events_of_all list words) here H
      (header_read (bytes_of line')) (opening_in_range line' before' words' e') (events_of_all list' words') there H' objects to from sizes none none'
