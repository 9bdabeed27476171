-- The station program's answer to a line of each type is what the call of that type answers.
use Rattle.question.specs.Told as reply
use Rattle.std.proofs.Common.{Result, Ok, Err, Option, Some, None}
use Rattle.line_read.specs.Named.{is_opening, is_operation, is_issue, is_settling, is_question, issue_read, opening_read, operation_read, printing_read, question_read, settling_read}
use mathlib.Core.Path.{◌≡◌, refl, sym, ap, ◌∙◌}
use mathlib.Core.Logic.{◌≢◌}
use mathlib.Core.Bool.{Bool, true, false, cond, false≢true}
use mathlib.Core.List.{List, [], ◌∷◌}
use Prim.Native.Nat.{ℕ, ◌≤◌}
use native.Mathlib.Omega.{arith}
use borrow.Author.Tests.{le-leb}
use lib.Dec.{eqb, leb}
use lib.ListN.{drop, length, length-replicate}
use lib.Seq.{take_at}
use Rattle.meaning.specs.Operations.{Operation}
use Rattle.meaning.specs.Table.{Table, zeros, most_rows}
use Rattle.meaning.specs.Refusals.{Local, issued_by, refusal_of_local}
use Rattle.meaning.specs.Questions as asks
use Rattle.meaning.specs.Calls as meaning
use Rattle.meaning.specs.Calls.{after_arrival, outcome}
use Rattle.words_layout.specs.Layout.{holds_table, rewritten, space_for, table_of}
use Rattle.refusal_kind.specs.Asking.{asked_from}
use Rattle.table_rules.proofs.Checking.{checked}
use Rattle.question.specs.Replies.{replied}
use Rattle.line_hex.specs.Choice.{pick}
use Rattle.line_hex.specs.Hex.{digit_of, digits_of, hex_line}
use Rattle.line_hex.specs.Numbers.{big_endian}
use Rattle.line_shape.specs.Shapes.{written}
use Rattle.line_put.specs.Writing.{line_bytes, line_written}
use Rattle.line_read.specs.Types.{issue, opening, operation, printing, question, settling, longest_frame}
use Rattle.call_question.specs.AnswerBytes.{list_bytes, refusal_bytes, reply_bytes}
use Rattle.call_checked.specs.Called.{frame_bytes, frame_of, framed_as, header_read, issued_as, issued_on, local_of, opened_as, opened_by, received_as, received_on, replied_on, settled_as, settled_on}
use Rattle.call_answer.specs.Answering.{answer_on, changing, issue_answer, issued_bytes, outcome_bytes, question_answer, second_opening, settled_bytes, frame_room}
use Rattle.line_decode.specs.Decoding.{bytes_of, type_of}
use Rattle.line_decode.specs.LineKinds.{kind_of}
use Rattle.line_decode.specs.declared.LineKind.{LineKind}
use Rattle.line_decode.specs.declared.LineKind.TheVariants as kind
use Rattle.line_decode.proofs.KindOfType.{shaped_type}
use Rattle.call_answer.proofs.Framing.{frame_room_lem}
use Rattle.form_write.specs.Forms.{saved_form}
use Rattle.form_save.specs.Saving.{saved_by}
use Rattle.calls.specs.Answers.{answer_of, answered_by, first_answer, lines_for, longest_answer}
use Rattle.call_answer.specs.OutputLines.{printed_at}
use Rattle.calls.specs.Calls as calls
use Rattle.calls.specs.Calls.{received_by, replied_by, settled_by}
use Rattle.calls.proofs.Answering.{answer_formed, first_cases, form_there, form_refused, one_line}
use Rattle.law_agreement.specs.Conditions.{is_line_of}
use Rattle.law_agreement.specs.Lines.{ByType, is_done, issued_answer, replied_answer, saved_answer}
use Rattle.law_agreement.proofs.Shaping.{printing_shaped}
use Rattle.law_agreement.proofs.Lines.{done_is_done, zeros_frame}

module _ (line words : List ℕ) where
  -- at a table, and before an accepted opening
  pub by_table : (k : LineKind) → kind_of (type_of line) ≡ k → answer_of line words ≡ pick (holds_table words) (answer_on k line words) (first_answer k line words)
  unfolding answer_of
  by_table k z = rw z refl

  told_frame : type_of line ≡ operation.type_byte → answer_of line words ≡ changing outcome_bytes (received_by line words)
  unfolding answer_on first_answer kind_of received_by outcome_bytes
  told_frame z = by_table kind.Operation (rw z refl) ∙ by (holds_table words)
    where
      by : (b : Bool) → pick {A = List ℕ × List ℕ} b (outcome_bytes (received_on line words).0, (received_on line words).1) (refusal_bytes 14, words) ≡ changing outcome_bytes (pick b (received_on line words) (Err 14, words))
      by true = refl
      by false = refl

  told_settling : type_of line ≡ settling.type_byte → answer_of line words ≡ changing settled_bytes (settled_by line words)
  unfolding answer_on first_answer kind_of settled_by settled_bytes
  told_settling z = by_table kind.Settling (rw z refl) ∙ by (holds_table words)
    where
      by : (b : Bool) → pick {A = List ℕ × List ℕ} b (settled_bytes (settled_on line words).0, (settled_on line words).1) (refusal_bytes 14, words) ≡ changing settled_bytes (pick b (settled_on line words) (Err 14, words))
      by true = refl
      by false = refl

  told_opening : type_of line ≡ opening.type_byte → holds_table words ≡ false → answer_of line words ≡ changing outcome_bytes (opened_by line words)
  unfolding first_answer kind_of
  told_opening z f = by_table kind.Opening (rw z refl) ∙ rw f refl

  told_second : type_of line ≡ opening.type_byte → holds_table words ≡ true → answer_of line words ≡ (second_opening line, words)
  unfolding answer_on kind_of
  told_second z t = by_table kind.Opening (rw z refl) ∙ rw t refl

-- a reply, as it stands in a list space and as it is told
reply_told : (r : meaning.Reply) (out : List ℕ) → reply_bytes r ≡ replied_answer (replied r out)
unfolding reply_bytes replied_answer replied
reply_told (meaning.Reply.refused number) out = refl
reply_told (meaning.Reply.too_long needed) out = refl
reply_told (meaning.Reply.answered (asks.total z)) out = refl
reply_told (meaning.Reply.answered (asks.flag on)) out = refl
reply_told (meaning.Reply.answered (asks.list values)) out = ap list_bytes (sym (take_at values (drop (length values) out) (length values) refl))
reply_told (meaning.Reply.answered (asks.count number)) out = refl
reply_told (meaning.Reply.answered (asks.holds there)) out = refl

-- room for every list
list_room : length (zeros most_rows) ≡ most_rows
unfolding zeros
list_room = length-replicate {A = ℕ} most_rows 0

question_told : (line words : List ℕ) → question_answer line words ≡ replied_answer (replied_on line words (zeros most_rows))
unfolding question_answer replied_on replied_answer
question_told line words = by (is_question (bytes_of line))
  where
    asked : asks.Asked
    asked = asked_from (question_read (bytes_of line)).object (question_read (bytes_of line)).question (question_read (bytes_of line)).value

    by : (b : Bool) → pick b (reply_bytes (meaning.ask (table_of words) most_rows asked)) (refusal_bytes 1) ≡ replied_answer (pick b (replied (meaning.ask (table_of words) (length (zeros most_rows)) asked) (zeros most_rows)) (reply.Refused 1, zeros most_rows))
    by true = ap (λ (n : ℕ). reply_bytes (meaning.ask (table_of words) n asked)) (sym list_room) ∙ reply_told (meaning.ask (table_of words) (length (zeros most_rows)) asked) (zeros most_rows)
    by false = refl

-- a frame, as it stands in a frame space and as it is told
abbrev characters : List ℕ × List ℕ → List ℕ × List ℕ
characters (bytes, words) = (hex_line bytes, words)

zero_first : (bytes : List ℕ) → hex_line (0 ∷ bytes) ≡ 48 ∷ 48 ∷ hex_line bytes
unfolding hex_line digits_of digit_of
zero_first bytes = refl

frame_told : (words out : List ℕ) (u : Operation) (t : Table) → leb (length (hex_line (frame_bytes u))) (length out) ≡ true →
    characters (issued_bytes words (meaning.Outcome.accepted u t)) ≡ issued_answer (issued_as words out (meaning.Outcome.accepted u t))
unfolding issued_bytes issued_as issued_answer framed_as line_written
frame_told words out u t fits = rw fits
    (ap (λ (l : List ℕ). (l, rewritten words t)) (zero_first (frame_bytes u) ∙ ap (λ (l : List ℕ). 48 ∷ 48 ∷ l) (sym (take_at (hex_line (frame_bytes u)) (drop (length (hex_line (frame_bytes u))) out) (length (hex_line (frame_bytes u))) refl))))

outcome_told : (words out : List ℕ) (number : ℕ) (u : Operation) (t : Table) → leb (length (hex_line (frame_bytes u))) (length out) ≡ true →
    characters (issued_bytes words (outcome number u t)) ≡ issued_answer (issued_as words out (outcome number u t))
unfolding outcome issued_bytes issued_as issued_answer
outcome_told words out number u t fits = by (eqb number 0)
  where
    by : (b : Bool) → characters (issued_bytes words (cond b (meaning.Outcome.accepted u t) (meaning.Outcome.refused number))) ≡ issued_answer (issued_as words out (cond b (meaning.Outcome.accepted u t) (meaning.Outcome.refused number)))
    by true = frame_told words out u t fits
    by false = refl

issue_told : (line words : List ℕ) → holds_table words ≡ true → characters (issue_answer line words) ≡ issued_answer (issued_on line words (zeros longest_frame))
unfolding issue_answer issued_on issued_answer meaning.issue
issue_told line words held = by (is_issue (bytes_of line))
  where
    local : Local
    local = local_of (issue_read (bytes_of line))

    u : Operation
    u = issued_by (table_of words) local

    fits : leb (length (hex_line (frame_bytes u))) (length (zeros longest_frame)) ≡ true
    fits = rw zeros_frame (le-leb (length (hex_line (frame_bytes u))) longest_frame (frame_room_lem words (checked words held) local))

    by : (b : Bool) → characters (pick b (issued_bytes words (meaning.issue (table_of words) local)) (refusal_bytes 1, words)) ≡ issued_answer (pick b (issued_as words (zeros longest_frame) (meaning.issue (table_of words) local)) (Err 1, (words, zeros longest_frame)))
    by true = outcome_told words (zeros longest_frame) (refusal_of_local (table_of words) local) u (after_arrival (table_of words) u (table_of words).last) fits
    by false = refl

-- a `60` line to a table
told_whole : (line words : List ℕ) → is_line_of printing 0 line ≡ true → holds_table words ≡ true → lines_for line words ≡ saved_form (table_of words)
unfolding lines_for
told_whole line words m h = let read : printing_read (bytes_of line) ≡ true = printing_shaped line ∙ m in rw (h, read) refl

-- saving, as it stands in a line space and as it is told
module _ (line words : List ℕ) (t : type_of line ≡ printing.type_byte) where
  prints : kind_of (type_of line) ≡ kind.Printing
  unfolding kind_of
  prints = rw t refl

  module _ (place : ℕ) (out : List ℕ) (long : length out ≡ longest_answer) where
    abbrev given : Result (Option ℕ) ℕ × List ℕ
    given = saved_by line words place out

    room : frame_room ≤ length out
    room = omega (arith, long)

    at_place : (a : Option ℕ) (y : List ℕ) → (a, y) ≡ printed_at (lines_for line words) place out → answered_by line place words out ≡ (a, (words, y))
    at_place a y e = sym (answer_formed line words out (kind_of (type_of line)) refl prints place long a y e)

    told_saved : (q : Result (Option ℕ) ℕ) → given.0 ≡ q → answered_by line place words out ≡ saved_answer words place (q, given.1)
    unfolding saved_answer
    told_saved (Err number) h =
        let told = printed_at (refusal_bytes number ∷ []) place given.1 in
        at_place told.0 told.1 (form_refused line words out prints room place given.0 given.1 refl number h told.0 told.1 refl)
    told_saved (Ok (Some n)) h = at_place (Some n) given.1 (form_there line words out prints room place given.0 given.1 refl (Some n) h)
    told_saved (Ok None) h = at_place None given.1 (form_there line words out prints room place given.0 given.1 refl None h)

  told_form : (place : ℕ) (out : List ℕ) → length out ≡ longest_answer → answered_by line place words out ≡ saved_answer words place (saved_by line words place out)
  told_form place out long = told_saved place out long (saved_by line words place out).0 refl

  told_no_form : holds_table words ≡ false → lines_for line words ≡ refusal_bytes 14 ∷ []
  unfolding lines_for first_answer
  told_no_form f = rw (by_table line words kind.Printing prints, f) refl

  told_misshapen : is_line_of printing 0 line ≡ false → holds_table words ≡ true → lines_for line words ≡ refusal_bytes 1 ∷ []
  unfolding lines_for answer_on
  told_misshapen m h = let unread : printing_read (bytes_of line) ≡ false = printing_shaped line ∙ m in rw (by_table line words kind.Printing prints, h, unread) refl

module _ (line words : List ℕ) where
  told_question : type_of line ≡ question.type_byte → answer_of line words ≡ (replied_answer (replied_by line words (zeros most_rows)), words)
  unfolding answer_on first_answer kind_of replied_by replied_answer
  told_question z = by_table line words kind.Question (rw z refl) ∙ by (holds_table words)
    where
      by : (b : Bool) → pick {A = List ℕ × List ℕ} b (question_answer line words, words) (refusal_bytes 14, words) ≡ (replied_answer (pick b (replied_on line words (zeros most_rows)) (reply.Refused 14, zeros most_rows)), words)
      by true = ap (λ (l : List ℕ). (l, words)) (question_told line words)
      by false = refl

  told_issue : type_of line ≡ issue.type_byte → characters (answer_of line words) ≡ issued_answer (calls.issued_by line words (zeros longest_frame))
  unfolding answer_on first_answer kind_of calls.issued_by issued_answer
  told_issue z = ap characters (by_table line words kind.Issue (rw z refl)) ∙ by (holds_table words) (issue_told line words)
    where
      by : (b : Bool) → (b ≡ true → characters (issue_answer line words) ≡ issued_answer (issued_on line words (zeros longest_frame))) →
          characters (pick b (issue_answer line words) (refusal_bytes 14, words)) ≡ issued_answer (pick b (issued_on line words (zeros longest_frame)) (Err 14, (words, zeros longest_frame)))
      by true f = f refl
      by false f = refl

  told_one_line : type_of line ≢ printing.type_byte → lines_for line words ≡ (answer_of line words).0 ∷ []
  unfolding printing_read
  told_one_line n = one_line line words (λ read. n (shaped_type printing 0 line read))

  -- so a refusal number is given to a line exactly when its call gives it (`exactly_when`), and to no other
  pub by_type : ByType line words
  by_type = record {
    frame = told_frame line words;
    local = told_issue;
    settled = told_settling line words;
    asked = told_question;
    opened = told_opening line words;
    second = told_second line words;
    one_line = told_one_line;
    form = told_form line words;
    whole_form = told_whole line words;
    no_form = told_no_form line words;
    misshapen = told_misshapen line words;
  }

-- "a refusal changes no byte": what each answer leaves, where it does not begin with `00`
module _ (line words : List ℕ) where
  abbrev Quiet : List ℕ × List ℕ → Type 0
  Quiet (bytes, after) = is_done bytes ≡ false → after ≡ words

  quiet_frame : (x : meaning.Outcome) → Quiet (changing outcome_bytes (received_as words x))
  unfolding received_as outcome_bytes
  quiet_frame (meaning.Outcome.refused number) f = refl
  quiet_frame (meaning.Outcome.accepted u table) f = absurd (false≢true (sym f ∙ done_is_done))

  quiet_issue : (x : meaning.Outcome) → Quiet (issued_bytes words x)
  unfolding issued_bytes is_done
  quiet_issue (meaning.Outcome.refused number) f = refl
  quiet_issue (meaning.Outcome.accepted u table) f = absurd (false≢true (sym f))

  quiet_settling : (x : meaning.Settled) → Quiet (changing settled_bytes (settled_as words x))
  unfolding settled_as settled_bytes is_done line_bytes written big_endian
  quiet_settling (meaning.Settled.refused number) f = refl
  quiet_settling (meaning.Settled.settled steps table) f = absurd (false≢true (sym f))

  quiet_opening : (x : meaning.Opening) → Quiet (changing outcome_bytes (opened_as words x))
  unfolding opened_as outcome_bytes
  quiet_opening (meaning.Opening.refused number) f = refl
  quiet_opening (meaning.Opening.fresh table) f = absurd (false≢true (sym f ∙ done_is_done))

  quiet_table : (k : LineKind) → Quiet (answer_on k line words)
  unfolding answer_on received_on issue_answer settled_on
  quiet_table kind.Opening = λ _. refl
  quiet_table kind.Operation = by (is_operation (bytes_of line))
    where
      by : (b : Bool) → Quiet (changing outcome_bytes (pick b (received_as words (meaning.receive (table_of words) (frame_of (operation_read (bytes_of line))))) (Err 1, words)))
      by true = quiet_frame (meaning.receive (table_of words) (frame_of (operation_read (bytes_of line))))
      by false = λ _. refl
  quiet_table kind.Issue = by (is_issue (bytes_of line))
    where
      by : (b : Bool) → Quiet (pick b (issued_bytes words (meaning.issue (table_of words) (local_of (issue_read (bytes_of line))))) (refusal_bytes 1, words))
      by true = quiet_issue (meaning.issue (table_of words) (local_of (issue_read (bytes_of line))))
      by false = λ _. refl
  quiet_table kind.Settling = by (is_settling (bytes_of line))
    where
      by : (b : Bool) → Quiet (changing settled_bytes (pick b (settled_as words (meaning.settle (table_of words) (settling_read (bytes_of line)).limit)) (Err 1, words)))
      by true = quiet_settling (meaning.settle (table_of words) (settling_read (bytes_of line)).limit)
      by false = λ _. refl
  quiet_table kind.Question = λ _. refl
  quiet_table kind.Printing = λ _. refl
  quiet_table kind.Saved = λ _. refl
  quiet_table kind.Unknown = λ _. refl

  quiet_opened : Quiet (changing outcome_bytes (opened_by line words))
  unfolding opened_by
  quiet_opened = by (is_opening (bytes_of line))
    where
      opens : meaning.Opening
      opens = meaning.open_table (length words) (space_for (header_read (bytes_of line)).size (header_read (bytes_of line)).capacity) (header_read (bytes_of line))

      by : (b : Bool) → Quiet (changing outcome_bytes (pick b (opened_as words opens) (Err 1, words)))
      by true = quiet_opening opens
      by false = λ _. refl

  pub refused_changes_nothing : is_done (answer_of line words).0 ≡ false → (answer_of line words).1 ≡ words
  unfolding answer_of
  refused_changes_nothing = by (holds_table words)
    where
      k : LineKind
      k = kind_of (type_of line)

      by : (b : Bool) → Quiet (pick b (answer_on k line words) (first_answer k line words))
      by true = quiet_table k
      by false = first_cases line words (λ _ answer. Quiet answer) quiet_opened (λ _ _. refl) k
