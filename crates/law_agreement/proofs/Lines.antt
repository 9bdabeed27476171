-- Any lines, one after the other, given to a space that an opening line was answered in: every question line gets what the definitions say.
use Rattle.std.proofs.Common.{Result, Ok, Err}
use Rattle.words_tags.specs.declared.RowCount.{RowCount}
use Rattle.line_put.specs.declared.TooShort.{TooShort}
use Rattle.line_read.specs.Named.{is_opening, is_operation, is_issue, is_settling, is_question, issue_read, opening_read, operation_read, question_read, settling_read}
use mathlib.Core.Path.{◌≡◌, refl, sym, ap, ◌∙◌, subst}
use mathlib.Core.Bool.{Bool, true, false, not, ◌&&◌, false≢true}
use mathlib.Core.List.{List, [], ◌∷◌, ◌++◌, append-nil, append_assoc}
use Prim.Native.Nat.{ℕ, ◌%◌, ◌≤◌, ◌<◌, ◌-◌}
use native.Mathlib.Omega.{arith}
use lib.Dec.{eqb, leb}
use lib.ListN.{get_or, length, drop, set, take}
use borrow.Author.Tests.{le-leb}
use Rattle.meaning.specs.Operations.{Operation}
use Rattle.meaning.specs.Rows.{unsettled_count}
use Rattle.meaning.specs.Table.{Header, Table, kind_in, zeros, most_rows}
use Rattle.meaning.specs.Refusals.{Frame, Local, issued_by, refusal_of_frame, refusal_of_local, declared, well_asked, asked_refusals, question_refusals}
use Rattle.meaning.specs.Questions as asks
use Rattle.meaning.specs.Calls as meaning
use Rattle.meaning.specs.Calls.{after_arrival, outcome}
use Rattle.meaning.specs.History as history
use Rattle.meaning.specs.History.{Event, Station, after, after_all, after_outcome, after_settling, reached}
use Rattle.meaning.proofs.Tests.{cases}
use Rattle.meaning.proofs.Agreement.{Within}
use Rattle.words_layout.specs.Layout.{holds_table, rows_in, table_of}
use Rattle.refusal_kind.specs.Asking.{asked_from}
use Rattle.table_rules.proofs.Checking.{checked}
use Rattle.line_hex.specs.Choice.{pick}
use Rattle.line_hex.specs.Hex.{hex_line}
use Rattle.line_hex.specs.Numbers.{big_endian}
use Rattle.line_hex.specs.Putting.{put_at}
use Rattle.line_shape.specs.Shapes.{written}
use Rattle.line_put.specs.Writing.{line_written, line_bytes}
use Rattle.line_read.specs.Types.{question, refused, longest_frame}
use Rattle.line_print.specs.Printed.{printed}
use Rattle.call_question.specs.AnswerBytes.{list_bytes, refusal_bytes, reply_bytes}
use Rattle.call_question.proofs.Told.{chain, never_long}
use Rattle.call_checked.specs.Called.{frame_bytes, frame_of, header_read, issued_on, local_of, opened_by, received_as, received_on, settled_on}
use Rattle.call_answer.specs.Answering.{answer_on, done_bytes, issue_answer, issued_bytes, outcome_bytes, question_answer, second_opening, settled_bytes, answered_after, frame_room}
use Rattle.call_answer.proofs.Framing.{frame_room_lem, issue_framed, issue_refused}
use Rattle.line_decode.specs.Decoding.{bytes_of, type_of}
use Rattle.line_decode.specs.LineKinds.{kind_of}
use Rattle.line_decode.specs.declared.LineKind.{LineKind}
use Rattle.line_decode.specs.declared.LineKind.TheVariants as kind
use Rattle.calls.specs.Answers.{answer_of, first_answer}
use Rattle.calls.specs.Calls as calls
use Rattle.calls.specs.Calls.{received_by, settled_by}
use Rattle.law_agreement.specs.Station.{Call, receives, issues, settles, words_after, words_after_all, frame_fits, events_of, events_of_all}
use Rattle.law_agreement.specs.Lines.{OpenedBy, accepted_by, accepted_by_all, calls_as, calls_of, calls_of_all, is_done, lines_after, meant_answer, offered_as, offered_by}
use Rattle.line_hex.proofs.Picking.{picked}
use Rattle.law_agreement.proofs.Calling.{Holds, after_both, calls_hold, holds_reached, opening_in_range, reply_agrees, reply_meant, rows_agree}

-- a refusal is none of `00`
refusal_not_done : (number : ℕ) → is_done (refusal_bytes number) ≡ false
unfolding is_done refusal_bytes line_bytes written big_endian
refusal_not_done number = refl

pub done_is_done : is_done done_bytes ≡ true
unfolding is_done done_bytes line_bytes written big_endian
done_is_done = refl

zeros_long : frame_room ≤ length (zeros frame_room)
unfolding zeros
zeros_long = omega arith

pub zeros_frame : length (zeros longest_frame) ≡ longest_frame
unfolding zeros
zeros_frame = refl

zeros_lent : take (length (zeros frame_room) - 2) (drop 2 (zeros frame_room)) ≡ zeros longest_frame
unfolding zeros
zeros_lent = refl

module _ (line words : List ℕ) (held : holds_table words ≡ true) where
  pub on_table : answer_of line words ≡ answer_on (kind_of (type_of line)) line words
  unfolding answer_of
  on_table = rw held refl

  -- a local operation leaves the same words with any room that every frame has
  module _ (out : List ℕ) (room : frame_room ≤ length out) where
    abbrev lent : List ℕ
    lent = take (length out - 2) (drop 2 out)

    abbrev x : List ℕ
    x = (issued_on line words lent).1.0

    abbrev y : List ℕ
    y = (issued_on line words lent).1.1

    abbrev space : List ℕ
    space = take 2 out ++ (y ++ drop (length out - 2) (drop 2 out))

    issue_by : (r : Result ℕ ℕ) → (r, (x, y)) ≡ issued_on line words lent → x ≡ (issue_answer line words).1
    unfolding answered_after
    issue_by (Err number) e = ap (λ (q : Result ℕ TooShort × (List ℕ × List ℕ)). q.1.0)
        (issue_refused words line out (checked words held) room (Err number) x y e number refl (line_written space (refusal_bytes number)).0 (line_written space (refusal_bytes number)).1 refl)
    issue_by (Ok n) e = ap (λ (q : Result ℕ TooShort × (List ℕ × List ℕ)). q.1.0)
        (issue_framed words line out (checked words held) room (Ok n) x y e n refl (put_at space 0 (big_endian 1 0)).0 (put_at space 0 (big_endian 1 0)).1 refl)

    issue_lent : x ≡ (issue_answer line words).1
    issue_lent = issue_by (issued_on line words lent).0 refl

  issue_words : (issue_answer line words).1 ≡ (issued_on line words (zeros longest_frame)).1.0
  issue_words = sym (subst (λ (l : List ℕ). (issued_on line words l).1.0 ≡ (issue_answer line words).1) zeros_lent (issue_lent (zeros frame_room) zeros_long))

  -- a line leaves what the call that it is leaves
  pub line_words_lem : (answer_of line words).1 ≡ words_after_all (calls_of line) words
  unfolding answer_on calls_as calls_of words_after words_after_all received_by calls.issued_by settled_by
  line_words_lem = ap (λ (q : List ℕ × List ℕ). q.1) on_table ∙ by (kind_of (type_of line))
    where
      by : (k : LineKind) → (answer_on k line words).1 ≡ words_after_all (calls_as k line) words
      by kind.Opening = refl
      by kind.Operation = sym (ap (λ (q : Result (Unit {0}) ℕ × List ℕ). q.1) (picked (holds_table words) (received_on line words) (Err 14, words) held))
      by kind.Issue = issue_words ∙ sym (ap (λ (q : Result ℕ ℕ × (List ℕ × List ℕ)). q.1.0) (picked (holds_table words) (issued_on line words (zeros longest_frame)) (Err 14, (words, zeros longest_frame)) held))
      by kind.Settling = sym (ap (λ (q : Result RowCount ℕ × List ℕ). q.1) (picked (holds_table words) (settled_on line words) (Err 14, words) held))
      by kind.Question = refl
      by kind.Printing = refl
      by kind.Saved = refl
      by kind.Unknown = refl

-- a question line at a table
pub question_on : (line words : List ℕ) → holds_table words ≡ true → type_of line ≡ question.type_byte → answer_of line words ≡ (question_answer line words, words)
unfolding answer_on kind_of
question_on line words held type = on_table line words held ∙ rw type refl

-- what one line brings to a station
module _ (line words : List ℕ) (s : Station) (H : Holds words s) where
  abbrev frame : Frame
  frame = frame_of (operation_read (bytes_of line))

  abbrev local : Local
  local = local_of (issue_read (bytes_of line))

  -- an outcome, as it is told
  frame_outcome : (number : ℕ) (u : Operation) (t : Table) → (after_outcome s (outcome number u t)).accepted ≡ pick (is_done (outcome_bytes (received_as words (outcome number u t)).0)) (u ∷ []) [] ++ s.accepted
  unfolding outcome received_as after_outcome outcome_bytes
  frame_outcome number u t = cases (eqb number 0)
      (λ q. rw (q, done_is_done) refl)
      (λ q. rw (q, refusal_not_done number) refl)

  issue_outcome : (number : ℕ) (u : Operation) (t : Table) → (after_outcome s (outcome number u t)).accepted ≡ pick (is_done (issued_bytes words (outcome number u t)).0) (u ∷ []) [] ++ s.accepted
  unfolding outcome after_outcome issued_bytes is_done
  issue_outcome number u t = cases (eqb number 0)
      (λ q. rw q refl)
      (λ q. rw (q, refusal_not_done number) refl)

  frame_taken : (after_outcome s (meaning.receive s.table frame)).accepted ≡ pick (is_done (outcome_bytes (received_as words (meaning.receive (table_of words) frame)).0)) (frame.operation ∷ []) [] ++ s.accepted
  unfolding meaning.receive
  frame_taken = ap (λ (t : Table). (after_outcome s (meaning.receive t frame)).accepted) (sym H.table_is)
      ∙ frame_outcome (refusal_of_frame (table_of words) frame) frame.operation (after_arrival (table_of words) frame.operation (set (table_of words).last frame.operation.sender frame.operation.vector))

  frame_accepted : (after_all (events_of (receives line) words) s).accepted ≡ pick (is_done (outcome_bytes (received_on line words).0)) (frame.operation ∷ []) [] ++ s.accepted
  unfolding events_of after_all after received_on outcome_bytes
  frame_accepted = by (is_operation (bytes_of line))
    where
      by : (b : Bool) → (after_all (pick b (history.receives frame ∷ []) []) s).accepted ≡ pick (is_done (outcome_bytes (pick b (received_as words (meaning.receive (table_of words) frame)) (Err 1, words)).0)) (frame.operation ∷ []) [] ++ s.accepted
      by true = frame_taken
      by false = rw (refusal_not_done 1) refl

  issue_taken : (after_outcome s (meaning.issue s.table local)).accepted ≡ pick (is_done (issued_bytes words (meaning.issue (table_of words) local)).0) (issued_by (table_of words) local ∷ []) [] ++ s.accepted
  unfolding meaning.issue
  issue_taken = ap (λ (t : Table). (after_outcome s (meaning.issue t local)).accepted) (sym H.table_is)
      ∙ issue_outcome (refusal_of_local (table_of words) local) (issued_by (table_of words) local) (after_arrival (table_of words) (issued_by (table_of words) local) (table_of words).last)

  issue_accepted : (after_all (events_of (issues line (zeros longest_frame)) words) s).accepted ≡ pick (is_done (issue_answer line words).0) (issued_by (table_of words) local ∷ []) [] ++ s.accepted
  unfolding events_of after_all after issue_answer frame_fits
  issue_accepted = by (is_issue (bytes_of line)) (leb (length (hex_line (frame_bytes (issued_by (table_of words) local)))) (length (zeros longest_frame))) fitted
    where
      fitted : leb (length (hex_line (frame_bytes (issued_by (table_of words) local)))) (length (zeros longest_frame)) ≡ true
      fitted = rw zeros_frame (le-leb (length (hex_line (frame_bytes (issued_by (table_of words) local)))) longest_frame (frame_room_lem words (checked words H.held) local))

      by : (b c : Bool) → c ≡ true → (after_all (pick (b && c) (history.issues local ∷ []) []) s).accepted ≡ pick (is_done (pick b (issued_bytes words (meaning.issue (table_of words) local)) (refusal_bytes 1, words)).0) (issued_by (table_of words) local ∷ []) [] ++ s.accepted
      by true true e = issue_taken
      by true false e = absurd (false≢true e)
      by false c e = rw (refusal_not_done 1) refl

  -- a settling call brings none
  settling_accepts : (x : meaning.Settled) → (after_settling s x).accepted ≡ s.accepted
  unfolding after_settling
  settling_accepts (meaning.Settled.refused number) = refl
  settling_accepts (meaning.Settled.settled steps table) = refl

  pub settle_accepted : (after_all (events_of (settles line) words) s).accepted ≡ s.accepted
  unfolding events_of after_all after
  settle_accepted = by (is_settling (bytes_of line))
    where
      by : (b : Bool) → (after_all (pick b (history.settles (settling_read (bytes_of line)).limit ∷ []) []) s).accepted ≡ s.accepted
      by true = settling_accepts (meaning.settle s.table (settling_read (bytes_of line)).limit)
      by false = refl

  -- a line that offers no operation brings none, whatever its answer
  none_offered : (b : Bool) → s.accepted ≡ pick {A = List Operation} b [] [] ++ s.accepted
  none_offered true = refl
  none_offered false = refl

  one_event : (call : Call) → (after_all (events_of_all (call ∷ []) words) s).accepted ≡ (after_all (events_of call words) s).accepted
  unfolding events_of_all
  one_event call = ap (λ (l : List Event). (after_all l s).accepted) (append-nil (events_of call words))

  -- the operation of a line that was answered `00`, and no other
  pub line_accepted : (after_all (events_of_all (calls_of line) words) s).accepted ≡ accepted_by line words ++ s.accepted
  unfolding answer_on calls_as calls_of accepted_by offered_as offered_by after_all events_of_all
  line_accepted =
      by (kind_of (type_of line))
      ∙ ap (λ (q : List ℕ × List ℕ). pick (is_done q.0) (offered_by line words) [] ++ s.accepted) (sym (on_table line words H.held))
    where
      by : (k : LineKind) → (after_all (events_of_all (calls_as k line) words) s).accepted ≡ pick (is_done (answer_on k line words).0) (offered_as k line words) [] ++ s.accepted
      by kind.Opening = none_offered (is_done (second_opening line))
      by kind.Operation = one_event (receives line) ∙ frame_accepted
      by kind.Issue = one_event (issues line (zeros longest_frame)) ∙ issue_accepted
      by kind.Settling = one_event (settles line) ∙ settle_accepted ∙ none_offered (is_done (settled_bytes (settled_on line words).0))
      by kind.Question = none_offered (is_done (question_answer line words))
      by kind.Printing = none_offered (is_done (refusal_bytes 1))
      by kind.Saved = none_offered (is_done (refusal_bytes 1))
      by kind.Unknown = none_offered (is_done (refusal_bytes 1))

-- calls and their events, in two parts
words_both : (first rest : List Call) (words : List ℕ) → words_after_all (first ++ rest) words ≡ words_after_all rest (words_after_all first words)
unfolding words_after_all
words_both [] rest words = refl
words_both (call ∷ first) rest words = words_both first rest (words_after call words)

events_both : (first rest : List Call) (words : List ℕ) → events_of_all (first ++ rest) words ≡ events_of_all first words ++ events_of_all rest (words_after_all first words)
unfolding words_after_all events_of_all
events_both [] rest words = refl
events_both (call ∷ first) rest words = ap (λ (l : List Event). events_of call words ++ l) (events_both first rest (words_after call words)) ∙ sym (append_assoc (events_of call words) (events_of_all first (words_after call words)) (events_of_all rest (words_after_all first (words_after call words))))

-- lines one after the other are the calls that they are, one after the other
module _ (line : List ℕ) (rest : List (List ℕ)) (words : List ℕ) (s : Station) (H : Holds words s) where
  abbrev next : List ℕ
  next = (answer_of line words).1

  abbrev next_station : Station
  next_station = after_all (events_of_all (calls_of line) words) s

  pub next_holds : Holds next next_station
  next_holds = subst (λ (w : List ℕ). Holds w next_station) (sym (line_words_lem line words H.held)) (calls_hold (calls_of line) words s H)

  next_words : words_after_all (calls_of line ++ calls_of_all rest) words ≡ words_after_all (calls_of_all rest) next
  next_words = words_both (calls_of line) (calls_of_all rest) words ∙ ap (words_after_all (calls_of_all rest)) (sym (line_words_lem line words H.held))

  next_events : after_all (events_of_all (calls_of line ++ calls_of_all rest) words) s ≡ after_all (events_of_all (calls_of_all rest) next) next_station
  next_events =
      ap (λ (l : List Event). after_all l s) (events_both (calls_of line) (calls_of_all rest) words)
      ∙ after_both (events_of_all (calls_of line) words) (events_of_all (calls_of_all rest) (words_after_all (calls_of line) words)) s
      ∙ ap (λ (w : List ℕ). after_all (events_of_all (calls_of_all rest) w) next_station) (sym (line_words_lem line words H.held))

pub lines_words : (lines : List (List ℕ)) (words : List ℕ) (s : Station) → Holds words s → lines_after lines words ≡ words_after_all (calls_of_all lines) words
unfolding lines_after calls_of_all words_after_all
lines_words [] words s H = refl
lines_words (line ∷ rest) words s H =
    lines_words rest (next line rest words s H) (next_station line rest words s H) (next_holds line rest words s H)
    ∙ sym (next_words line rest words s H)

pub lines_accepted : (lines : List (List ℕ)) (words : List ℕ) (s : Station) → Holds words s → (after_all (events_of_all (calls_of_all lines) words) s).accepted ≡ accepted_by_all lines words s.accepted
unfolding accepted_by_all calls_of_all events_of_all after_all
lines_accepted [] words s H = refl
lines_accepted (line ∷ rest) words s H =
    ap (λ (t : Station). t.accepted) (next_events line rest words s H)
    ∙ lines_accepted rest (next line rest words s H) (next_station line rest words s H) (next_holds line rest words s H)
    ∙ ap (accepted_by_all rest (next line rest words s H)) (line_accepted line words s H)

-- an opening line that was answered `00` opened the space
module _ (line before words : List ℕ) (O : OpenedBy line before words) where
  not_done : (bytes after : List ℕ) → is_done bytes ≡ false → ◌≡◌ {A = List ℕ × List ℕ} (bytes, after) (done_bytes, words) → ⊥
  not_done bytes after f e = false≢true (sym f ∙ ap (λ (q : List ℕ × List ℕ). is_done q.0) e ∙ done_is_done)

  by_opened : (r : Result (Unit {0}) ℕ) (x : List ℕ) → ◌≡◌ {A = List ℕ × List ℕ} (outcome_bytes r, x) (done_bytes, words) → ◌≡◌ {A = Result (Unit {0}) ℕ × List ℕ} (r, x) (Ok tt, words)
  unfolding outcome_bytes
  by_opened (Err number) x e = absurd (not_done (refusal_bytes number) x (refusal_not_done number) e)
  by_opened (Ok tt) x e = ap (λ (q : List ℕ × List ℕ). (Ok tt, q.1)) e

  pub opened_fresh : opened_by line before ≡ (Ok tt, words)
  unfolding answer_of answer_on first_answer kind_of second_opening
  opened_fresh = by (holds_table before) (subst (λ (type : ℕ). pick (holds_table before) (answer_on (kind_of type) line before) (first_answer (kind_of type) line before) ≡ (done_bytes, words)) O.is_opening O.answered)
    where
      by : (b : Bool) → pick {A = List ℕ × List ℕ} b (second_opening line, before) (outcome_bytes (opened_by line before).0, (opened_by line before).1) ≡ (done_bytes, words) → opened_by line before ≡ (Ok tt, words)
      by true e = absurd (not_done (second_opening line) before (refusal_not_done (pick (is_opening (bytes_of line)) 13 1)) e)
      by false e = by_opened (opened_by line before).0 (opened_by line before).1 e

  abbrev header : Header
  header = header_read (bytes_of line)

  pub opened_holds : Holds words (reached header [])
  unfolding words_after_all events_of_all
  opened_holds = holds_reached line before words opened_fresh []

  module _ (lines : List (List ℕ)) where
    abbrev now : List ℕ
    now = lines_after lines words

    abbrev accepted : List Operation
    accepted = accepted_by_all lines words []

    abbrev events : List Event
    events = events_of_all (calls_of_all lines) words

    now_is : now ≡ words_after_all (calls_of_all lines) words
    now_is = lines_words lines words (reached header []) opened_holds

    accepted_is : (reached header events).accepted ≡ accepted
    unfolding reached after_all
    accepted_is = lines_accepted lines words (reached header []) opened_holds

    pub lines_hold : Holds now (reached header events)
    lines_hold = subst (λ (w : List ℕ). Holds w (reached header events)) (sym now_is) (holds_reached line before words opened_fresh (calls_of_all lines))

    -- every question line gets what the definitions say over all operations that were accepted so far, and changes nothing
    pub every_answer : (asking : List ℕ) → type_of asking ≡ question.type_byte → answer_of asking now ≡ (meant_answer header accepted asking, now)
    unfolding question_answer meant_answer
    every_answer asking type =
        let asked = asked_from (question_read (bytes_of asking)).object (question_read (bytes_of asking)).question (question_read (bytes_of asking)).value in
        let reply : meaning.ask (table_of now) most_rows asked ≡ meaning.meant header accepted most_rows asked =
        reply_meant header (opening_in_range line before words opened_fresh) events now lines_hold most_rows asked ∙ ap (λ (l : List Operation). meaning.meant header l most_rows asked) accepted_is in
        question_on asking now lines_hold.held type
        ∙ ap (λ (r : meaning.Reply). (pick (is_question (bytes_of asking)) (reply_bytes r) (refusal_bytes 1), now)) reply

-- two spaces, each opened by a line that was answered `00` and given any lines, which declared the same objects and accepted the same operations
module _ (line before words : List ℕ) (O : OpenedBy line before words) (lines : List (List ℕ))
    (line' before' words' : List ℕ) (O' : OpenedBy line' before' words') (lines' : List (List ℕ))
    (objects : (header_read (bytes_of line)).kinds ≡ (header_read (bytes_of line')).kinds)
    (to : Within (accepted_by_all lines words []) (accepted_by_all lines' words' []))
    (from : Within (accepted_by_all lines' words' []) (accepted_by_all lines words [])) where
  abbrev here : List ℕ
  here = lines_after lines words

  abbrev there : List ℕ
  there = lines_after lines' words'

  abbrev one : Station
  one = reached (header line before words O) (events line before words O lines)

  abbrev other : Station
  other = reached (header line' before' words' O') (events line' before' words' O' lines')

  H : Holds here one
  H = lines_hold line before words O lines

  H' : Holds there other
  H' = lines_hold line' before' words' O' lines'

  same : Within (accepted_by_all lines words []) (accepted_by_all lines' words' []) → Within one.accepted other.accepted
  same w = subst (λ (l : List Operation). Within l other.accepted) (sym (accepted_is line before words O lines)) (subst (Within (accepted_by_all lines words [])) (sym (accepted_is line' before' words' O' lines')) w)

  same' : Within (accepted_by_all lines' words' []) (accepted_by_all lines words []) → Within other.accepted one.accepted
  same' w = subst (λ (l : List Operation). Within l one.accepted) (sym (accepted_is line' before' words' O' lines')) (subst (Within (accepted_by_all lines' words' [])) (sym (accepted_is line before words O lines)) w)

  -- "stations that accepted the same operations agree": every question line is answered with the same bytes
  pub equal_answers : (asking : List ℕ) → type_of asking ≡ question.type_byte → (answer_of asking here).0 ≡ (answer_of asking there).0
  unfolding question_answer
  equal_answers asking type =
      let asked = asked_from (question_read (bytes_of asking)).object (question_read (bytes_of asking)).question (question_read (bytes_of asking)).value in
      let reply : meaning.ask (table_of here) most_rows asked ≡ meaning.ask (table_of there) most_rows asked =
      reply_agrees (header line before words O) (opening_in_range line before words (opened_fresh line before words O)) (events line before words O lines) here H
      (header line' before' words' O') (opening_in_range line' before' words' (opened_fresh line' before' words' O')) (events line' before' words' O' lines') there H' objects (same to) (same' from) most_rows asked in
      ap (λ (q : List ℕ × List ℕ). q.0) (question_on asking here H.held type)
      ∙ ap (λ (r : meaning.Reply). pick (is_question (bytes_of asking)) (reply_bytes r) (refusal_bytes 1)) reply
      ∙ sym (ap (λ (q : List ℕ × List ℕ). q.0) (question_on asking there H'.held type))

  -- "fully settled ones hold the same bytes": in groups of one size the words of their rows are the same
  pub equal_rows : (header_read (bytes_of line)).size ≡ (header_read (bytes_of line')).size → unsettled_count (table_of here).rows ≡ 0 → unsettled_count (table_of there).rows ≡ 0 → rows_in here ≡ rows_in there
  equal_rows sizes none none' =
      rows_agree (header line before words O) (opening_in_range line before words (opened_fresh line before words O)) (events line before words O lines) here H
      (header line' before' words' O') (opening_in_range line' before' words' (opened_fresh line' before' words' O')) (events line' before' words' O' lines') there H' objects (same to) (same' from) sizes none none'

-- an answer is none of 11's line
answered_done : (answer : asks.Answer) → is_done (reply_bytes (meaning.answered answer)) ≡ true
unfolding is_done reply_bytes list_bytes line_bytes written big_endian
answered_done (asks.total z) = refl
answered_done (asks.flag on) = refl
answered_done (asks.list values) = refl
answered_done (asks.count number) = refl
answered_done (asks.holds there) = refl

numbers_apart : (number : ℕ) → number < 256 → refusal_bytes number ≡ refusal_bytes 11 → number ≡ 11
unfolding refusal_bytes line_bytes written big_endian
numbers_apart number h e = let same : number % 256 ≡ 11 = ap (λ (l : List ℕ). get_or l 1 0) e in omega (arith, same)

chain_not_eleven : (source : asks.Source) (asked : asks.Asked) (a b c : Bool) → reply_bytes (chain source asked a b c false) ≡ refusal_bytes 11 → ⊥
unfolding reply_bytes meaning.reply_of
chain_not_eleven source asked true b c e = omega (arith, numbers_apart 1 (omega arith) e)
chain_not_eleven source asked false true c e = omega (arith, numbers_apart 3 (omega arith) e)
chain_not_eleven source asked false false true e = omega (arith, numbers_apart 12 (omega arith) e)
chain_not_eleven source asked false false false e = false≢true (sym (refusal_not_done 11) ∙ ap is_done (sym e) ∙ answered_done (asks.answer_from source asked))

-- a line has room for every list, so that 11 is never given
pub never_eleven : (line words : List ℕ) → holds_table words ≡ true → type_of line ≡ question.type_byte → (answer_of line words).0 ≡ refusal_bytes 11 → ⊥
unfolding question_answer meaning.ask meaning.ask_of question_refusals asked_refusals
never_eleven line words held type e = by (is_question (bytes_of line)) (sym (ap (λ (q : List ℕ × List ℕ). q.0) (question_on line words held type)) ∙ e)
  where
    object : ℕ
    object = (question_read (bytes_of line)).object

    asking : ℕ
    asking = (question_read (bytes_of line)).question

    value : ℕ
    value = (question_read (bytes_of line)).value

    asked : asks.Asked
    asked = asked_from object asking value

    told : reply_bytes (meaning.ask (table_of words) most_rows asked) ≡ refusal_bytes 11 → ⊥
    told f = chain_not_eleven (asks.by_rows (table_of words)) asked (not (well_asked asked)) (not (declared (table_of words).header object)) (not (asks.fits asking (kind_in (table_of words).header object)))
        (subst (λ (d : Bool). reply_bytes (chain (asks.by_rows (table_of words)) asked (not (well_asked asked)) (not (declared (table_of words).header object)) (not (asks.fits asking (kind_in (table_of words).header object))) d) ≡ refusal_bytes 11) (never_long words (checked words held) object asking value) f)

    by : (b : Bool) → pick b (reply_bytes (meaning.ask (table_of words) most_rows asked)) (refusal_bytes 1) ≡ refusal_bytes 11 → ⊥
    by true f = told f
    by false f = omega (arith, numbers_apart 1 (omega arith) f)
