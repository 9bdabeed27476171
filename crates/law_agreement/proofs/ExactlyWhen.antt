-- Each call gives each number exactly when 01 says, in its own order and only then; a refusal changes no word and no byte.
use Rattle.question.specs.Told as reply
use Rattle.question.specs.Told.{Told}
use Rattle.std.proofs.Common.{Result, Err, Option}
use Rattle.words_tags.specs.declared.RowCount.{RowCount}
use Rattle.line_read.specs.Named.{is_opening, is_operation, is_issue, is_settling, is_question, stations_of, issue_read, opening_read, operation_read, printing_read, question_read, settling_read}
use mathlib.Core.Path.{◌≡◌, refl, sym, ap, ◌∙◌}
use mathlib.Core.Bool.{Bool, true, false, not, ◌&&◌, ◌||◌, cond, false≢true}
use mathlib.Core.Logic.{◌≢◌, ◌↔◌}
use mathlib.Core.List.{List, [], ◌∷◌, map}
use Prim.Native.Nat.{ℕ, ◌≤◌, ◌<◌}
use native.Mathlib.Omega.{arith}
use lib.Dec.{eqb, leb, ltb}
use lib.ListN.{length, drop, get_or, set}
use borrow.Author.Tests.{eqb-true, eq-eqb, ne_eqb, le-leb, le-ltb, leb-true, leb-false, lt-ltb, ltb-true, ltb-false}
use Rattle.meaning.specs.Operations as meant
use Rattle.meaning.specs.Table as tables
use Rattle.meaning.specs.Table.{Table, in_range, greatest_size}
use Rattle.meaning.specs.Questions.{Answer, Asked, Source, total, flag, list, count, holds, by_rows, answer_from}
use Rattle.meaning.specs.Refusals.{Refusal, first_of, Frame, Local, well_shaped, operation_allowed, frame_refusals, arrival_refusals, refusal_of_frame, issued_by, issue_refusals, local_refusals, refusal_of_local, settling_refusals, refusal_of_settling, well_asked, asked_refusals, question_refusals, opening_refusals, greatest_limit}
use Rattle.meaning.specs.Calls as meaning
use Rattle.meaning.specs.Calls.{outcome, after_arrival, with_rows, rows_settled, steps, reply_of}
use Rattle.meaning.proofs.Tests.{cases}
use Rattle.meaning.proofs.Refusals.{number_at, given_at, distinct, exact}
use Rattle.words_layout.specs.Layout.{holds_table, table_of, size_in, space_for}
use Rattle.refusal_kind.specs.Asking.{asked_from}
use Rattle.question.specs.Replies.{number_of, replied}
use Rattle.table_rules.specs.Checked.{Checked}
use Rattle.table_rules.proofs.Checking.{checked}
use Rattle.line_hex.specs.Choice.{pick}
use Rattle.line_hex.specs.Hex.{hex_line}
use Rattle.line_put.specs.Writing.{line_written}
use Rattle.line_read.specs.Types.{operation}
use Rattle.line_decode.specs.Decoding.{bytes_of}
use Rattle.form_write.specs.Forms.{line_at, saved_form}
use Rattle.form_write.proofs.Lines.{line_none, line_there, line_too_short}
use Rattle.form_save.specs.Saving.{saved_as, saved_by, saved_on}
use Rattle.calls.specs.Calls as calls
use Rattle.call_checked.specs.Called.{frame_bytes, frame_of, framed_as, header_read, issued_as, issued_on, local_of, opened_as, opened_by, received_as, received_on, replied_on, settled_as, settled_on}
use Rattle.calls.specs.Calls.{received_by, replied_by, settled_by}
use Rattle.law_agreement.specs.Conditions.{is_line_of, open_conditions, receive_conditions, issue_conditions, settle_conditions, ask_conditions, save_conditions, number_in, ask_refusal, open_result, receive_result, issue_result, settle_result, ask_result, save_result}
use Rattle.line_decode.proofs.Decoding.{decoded_bytes}
use Rattle.call_checked.proofs.Settling.{limit_read}
use Rattle.law_agreement.proofs.Shaping.{opening_shaped, operation_shaped, issue_shaped, settling_shaped, question_shaped, printing_shaped, frame_shaped}

-- What a call answers and what it leaves in the spaces that are lent to it, by the conditions of its refusals. `numbers` is its own order of them.
pub record Exactly {A S : Type 0} (number : A → ℕ) (refuse : ℕ → A) (numbers : List ℕ) (conditions : List Refusal) (before : S) (result call : A × S) : Type 0 where
  pub in_order_lem : map (λ (refusal : Refusal). refusal.number) conditions ≡ numbers
  -- a number is given exactly when its condition holds and none before it does
  pub given : (i : ℕ) → i < length conditions → (number call.0 ≡ number_at conditions i) ↔ ((given_at conditions i ≡ true) × ((j : ℕ) → j < i → given_at conditions j ≡ false))
  -- there is no refusal exactly when no condition holds
  pub none : (number call.0 ≡ 0) ↔ ((i : ℕ) → i < length conditions → given_at conditions i ≡ false)
  -- "A refusal returns its number", and changes no word and no byte
  pub refused : number call.0 ≢ 0 → call ≡ (refuse (number call.0), before)
  pub taken : number call.0 ≡ 0 → call ≡ result

-- a call that answers by the first condition that holds
module _ {A S : Type 0} (number : A → ℕ) (refuse : ℕ → A) (conditions : List Refusal) (before : S) (result call : A × S) where
  abbrev first : ℕ
  first = first_of conditions

  module _ (numbered : (n : ℕ) → number (refuse n) ≡ n) (z : number result.0 ≡ 0) (e : call ≡ cond (eqb first 0) result (refuse first, before)) where
    number_is : number call.0 ≡ first
    number_is = cases (eqb first 0)
        (λ q. let f : call ≡ result = e ∙ rw q refl in ap (λ (p : A × S). number p.0) f ∙ z ∙ sym (eqb-true first 0 q))
        (λ q. let f : call ≡ (refuse first, before) = e ∙ rw q refl in ap (λ (p : A × S). number p.0) f ∙ numbered first)

    pub exactly : distinct conditions ≡ true → Exactly number refuse (map (λ (refusal : Refusal). refusal.number) conditions) conditions before result call
    exactly d =
        let when = exact conditions d in
        record {
          in_order_lem = refl;
          given = λ i h. (λ f. when.given_when i h (sym number_is ∙ f), λ f. number_is ∙ when.when_given i f.0 f.1);
          none = (λ f i h. when.none_when (sym number_is ∙ f) i, λ f. number_is ∙ when.when_none f);
          refused = λ d. e ∙ rw (ne_eqb first 0 (λ f. d (number_is ∙ f))) (ap (λ (n : ℕ). (refuse n, before)) (sym number_is));
          taken = λ f. e ∙ rw (eq-eqb first 0 (sym number_is ∙ f)) refl;
        }

-- 14, or the call on a table
on_table : {B : Type 0} (told : ℕ → B) (b : Bool) (x : B) (r : ℕ) → (b ≡ true → x ≡ told r) → pick b x (told 14) ≡ told (cond (not b) 14 r)
on_table told true x r f = f refl
on_table told false x r f = refl

-- an opening
module _ (line words : List ℕ) where
  abbrev header : tables.Header
  header = header_read (bytes_of line)

  abbrev opens : ℕ → Result (Unit {0}) ℕ × List ℕ
  opens r = cond (eqb r 0) (open_result line words) (Err r, words)

  pub open_told : opened_by line words ≡ opens (first_of (open_conditions line words))
  unfolding opened_by open_conditions open_result opened_as meaning.open_table opening_refusals tables.opened
  open_told = by (is_opening (bytes_of line)) wrong ∙ ap (λ (b : Bool). opens (cond (not b) 1 (cond wrong 13 0))) (opening_shaped line)
    where
      wrong : Bool
      wrong = not (in_range header) || ltb (length words) (space_for header.size header.capacity)

      by : (b t : Bool) → pick b (opened_as words (cond (eqb (cond t 13 0) 0) (meaning.Opening.fresh (tables.opened header)) (meaning.Opening.refused (cond t 13 0)))) (Err 1, words) ≡ opens (cond (not b) 1 (cond t 13 0))
      by true true = refl
      by true false = refl
      by false t = refl

-- a frame
module _ (line words : List ℕ) where
  abbrev table : Table
  table = table_of words

  abbrev size : ℕ
  size = stations_of (bytes_of line)

  abbrev frame : Frame
  frame = frame_of (operation_read (bytes_of line))

  abbrev next : Table
  next = after_arrival table frame.operation (set table.last frame.operation.sender frame.operation.vector)

  abbrev hears : ℕ → Result (Unit {0}) ℕ × List ℕ
  hears r = cond (eqb r 0) (receive_result line words) (Err r, words)

  by_number : (r : ℕ) → received_as words (outcome r frame.operation next) ≡ hears r
  unfolding received_as outcome receive_result
  by_number r = cases (eqb r 0) (λ q. rw q refl) (λ q. rw q refl)

  -- a line that reads is of its type, with at most 16 stations; no table has more
  by_shape : (ok few shaped well same : Bool) (rest : ℕ) → ok ≡ (few && shaped) → (ok ≡ true → well ≡ same) → (few ≡ false → same ≡ false) →
      pick ok (received_as words (outcome (cond (not well) 1 rest) frame.operation next)) (Err 1, words) ≡ hears (cond (not shaped || not same) 1 rest)
  by_shape true true true well same rest a w f = rw (w refl) (by_number (cond (not same) 1 rest))
  by_shape true true false well same rest a w f = absurd (false≢true (sym a))
  by_shape true false shaped well same rest a w f = absurd (false≢true (sym a))
  by_shape false true true well same rest a w f = absurd (false≢true a)
  by_shape false true false well same rest a w f = refl
  by_shape false false true well same rest a w f = rw (f refl) refl
  by_shape false false false well same rest a w f = refl

  other_size : Checked words → leb size greatest_size ≡ false → eqb size table.header.size ≡ false
  unfolding table_of
  other_size K f = ne_eqb size (size_in words) (λ e. let more = leb-false size greatest_size f in let few = K.few in omega arith)

  receive_told : received_by line words ≡ hears (first_of (receive_conditions line words))
  unfolding received_by received_on receive_conditions meaning.receive refusal_of_frame arrival_refusals frame_refusals
  receive_told = on_table hears (holds_table words) _ _ (λ h.
      by_shape (is_operation (bytes_of line)) (leb size greatest_size) (is_line_of operation size line) (well_shaped table.header frame) (eqb size table.header.size) _
      (operation_shaped line) (λ ok. frame_shaped (bytes_of line) (decoded_bytes line) ok table.header) (other_size (checked words h)))

-- a local operation
module _ (line words out : List ℕ) where
  abbrev issues_to : Table
  issues_to = table_of words

  abbrev local : Local
  local = local_of (issue_read (bytes_of line))

  abbrev u : meant.Operation
  u = issued_by issues_to local

  abbrev after : Table
  after = after_arrival issues_to u issues_to.last

  abbrev spelt : List ℕ
  spelt = hex_line (frame_bytes u)

  abbrev issues : ℕ → Result ℕ ℕ × (List ℕ × List ℕ)
  issues r = cond (eqb r 0) (issue_result line words out) (Err r, (words, out))

  framed : framed_as words after out (line_written out (frame_bytes u)) ≡ issues (cond (ltb (length out) (length spelt)) 10 0)
  unfolding framed_as line_written issue_result
  framed = cases (leb (length spelt) (length out))
      (λ q. rw (q, le-ltb (length out) (length spelt) (leb-true (length spelt) (length out) q)) refl)
      (λ q. rw (q, lt-ltb (length out) (length spelt) (leb-false (length spelt) (length out) q)) refl)

  issued_by_number : (r : ℕ) → issued_as words out (outcome r u after) ≡ issues (cond (eqb r 0) (cond (ltb (length out) (length spelt)) 10 0) r)
  unfolding issued_as outcome
  issued_by_number r = cases (eqb r 0) (λ q. rw q framed) (λ q. rw (q, q) refl)

  ten_last : (a b c d e : Bool) →
      ◌≡◌ {A = ℕ} (cond (eqb (cond a 3 (cond b 4 (cond c 9 (cond d 8 0)))) 0) (cond e 10 0) (cond a 3 (cond b 4 (cond c 9 (cond d 8 0))))) (cond a 3 (cond b 4 (cond c 9 (cond d 8 (cond e 10 0)))))
  ten_last true b c d e = refl
  ten_last false true c d e = refl
  ten_last false false true d e = refl
  ten_last false false false true e = refl
  ten_last false false false false e = refl

  abbrev behind : ℕ
  behind = first_of (drop 2 (issue_conditions line words out))

  ten_behind : cond (eqb (refusal_of_local issues_to local) 0) (cond (ltb (length out) (length spelt)) 10 0) (refusal_of_local issues_to local) ≡ behind
  unfolding issue_conditions refusal_of_local local_refusals issue_refusals operation_allowed issued_by
  ten_behind =
      let test : ℕ → Bool = given_at (issue_conditions line words out) in
      ten_last (test 2) (test 3) (test 4) (test 5) (test 6)

  issue_told : calls.issued_by line words out ≡ issues (first_of (issue_conditions line words out))
  unfolding calls.issued_by issued_on issue_conditions meaning.issue
  issue_told = on_table issues (holds_table words) _ _ (λ h.
      by (is_issue (bytes_of line)) _ (issued_by_number (refusal_of_local issues_to local) ∙ ap issues ten_behind)
      ∙ ap (λ (b : Bool). issues (cond (not b) 1 behind)) (issue_shaped line))
    where
      by : (b : Bool) (x : Result ℕ ℕ × (List ℕ × List ℕ)) → x ≡ issues behind → pick b x (Err 1, (words, out)) ≡ issues (cond (not b) 1 behind)
      by true x f = f
      by false x f = refl

-- a settling call
module _ (line words : List ℕ) where
  abbrev limit : ℕ
  limit = (settling_read (bytes_of line)).limit

  abbrev settles : ℕ → Result RowCount ℕ × List ℕ
  settles r = cond (eqb r 0) (settle_result line words) (Err r, words)

  limit_taken : (n : ℕ) → n ≤ greatest_limit → meaning.settle (table_of words) n ≡ meaning.Settled.settled (steps (table_of words) n) (with_rows (table_of words) (rows_settled (table_of words) n))
  unfolding meaning.settle refusal_of_settling settling_refusals
  limit_taken n h = rw (le-leb n greatest_limit h) refl

  settle_told : settled_by line words ≡ settles (first_of (settle_conditions line words))
  unfolding settled_by settled_on settle_conditions settle_result settled_as
  settle_told = on_table settles (holds_table words) _ _ (λ h.
      by (is_settling (bytes_of line)) _ (ap (settled_as words) (limit_taken limit (limit_read (bytes_of line) (decoded_bytes line))))
      ∙ ap (λ (b : Bool). settles (cond (not b) 1 0)) (settling_shaped line))
    where
      by : (b : Bool) (x : Result RowCount ℕ × List ℕ) → x ≡ settles 0 → pick b x (Err 1, words) ≡ settles (cond (not b) 1 0)
      by true x f = f
      by false x f = refl

-- a question
module _ (line words out : List ℕ) where
  abbrev asked : Asked
  asked = asked_from (question_read (bytes_of line)).object (question_read (bytes_of line)).question (question_read (bytes_of line)).value

  abbrev source : Source
  source = by_rows (table_of words)

  abbrev answers : ℕ → Told × List ℕ
  answers r = cond (eqb r 0) (ask_result line words out) (ask_refusal line words r, out)

  replied_by_number : (r : ℕ) → replied (reply_of r source asked) out ≡ answers r
  unfolding reply_of ask_refusal ask_result replied
  replied_by_number r = cases (eqb r 0) (λ q. rw q refl) (λ q. cases (eqb r 11) (λ p. rw (q, p) refl) (λ p. rw (q, p) refl))

  ask_told : replied_by line words out ≡ answers (first_of (ask_conditions line words out))
  unfolding replied_by replied_on ask_conditions meaning.ask meaning.ask_of question_refusals asked_refusals ask_refusal
  ask_told = on_table answers (holds_table words) _ _ (λ h.
      by (is_question (bytes_of line)) (well_asked asked) behind
      ∙ ap (λ (b : Bool). answers (cond (not b || not (well_asked asked)) 1 behind)) (question_shaped line))
    where
      behind : ℕ
      behind = first_of (drop 2 (ask_conditions line words out))

      by : (b well : Bool) (rest : ℕ) → pick b (replied (reply_of (cond (not well) 1 rest) source asked) out) (reply.Refused 1, out) ≡ answers (cond (not b || not well) 1 rest)
      by true well rest = replied_by_number (cond (not well) 1 rest)
      by false well rest = refl

  answer_number : (a : Answer) → number_of (replied (meaning.Reply.answered a) out).0 ≡ 0
  unfolding replied number_of
  answer_number (total z) = refl
  answer_number (flag on) = refl
  answer_number (list values) = refl
  answer_number (count number) = refl
  answer_number (holds there) = refl

  ask_number : number_of (ask_result line words out).0 ≡ 0
  unfolding ask_result
  ask_number = answer_number (answer_from source asked)

  reply_number : (n : ℕ) → number_of (ask_refusal line words n) ≡ n
  unfolding ask_refusal number_of
  reply_number n = cases (eqb n 11) (λ q. rw q (sym (eqb-true n 11 q))) (λ q. rw q refl)

-- saving
module _ (line words : List ℕ) (place : ℕ) (out : List ℕ) where
  abbrev form : List (List ℕ)
  form = saved_form (table_of words)

  abbrev asked_for : List ℕ
  asked_for = hex_line (get_or form place [])

  abbrev saves : ℕ → Result (Option ℕ) ℕ × List ℕ
  saves r = cond (eqb r 0) (save_result words place out) (Err r, out)

  abbrev short : ℕ
  short = first_of (drop 2 (save_conditions line words place out))

  place_told : saved_as out (line_at form place out) ≡ saves short
  unfolding saved_as save_conditions save_result
  place_told = cases (ltb place (length form)) there (λ q. rw (q, line_none form place out (ltb-false place (length form) q)) refl)
    where
      there : ltb place (length form) ≡ true → saved_as out (line_at form place out) ≡ saves short
      there q = let h = ltb-true place (length form) q in cases (ltb (length out) (length asked_for))
          (λ p. rw (q, p, line_too_short form place out h (ltb-true (length out) (length asked_for) p)) refl)
          (λ p. rw (q, p, line_there form place out h (ltb-false (length out) (length asked_for) p)) refl)

  save_told : saved_by line words place out ≡ saves (first_of (save_conditions line words place out))
  unfolding saved_by saved_on save_conditions
  save_told = on_table saves (holds_table words) _ _ (λ h.
      by (printing_read (bytes_of line)) _ place_told
      ∙ ap (λ (b : Bool). saves (cond (not b) 1 short)) (printing_shaped line))
    where
      by : (b : Bool) (x : Result (Option ℕ) ℕ × List ℕ) → x ≡ saves short → pick b x (Err 1, out) ≡ saves (cond (not b) 1 short)
      by true x f = f
      by false x f = refl

  save_number : number_in (save_result words place out).0 ≡ 0
  unfolding save_result number_in
  save_number = cases (ltb place (length form)) (λ q. rw q refl) (λ q. rw q refl)

-- Each call: "Given exactly when", in "the order they are tried".
pub record EachCall : Type 0 where
  pub opening : (line words : List ℕ) → Exactly number_in Err (1 ∷ 13 ∷ []) (open_conditions line words) words (open_result line words) (opened_by line words)
  pub frame : (line words : List ℕ) → Exactly number_in Err (14 ∷ 1 ∷ 2 ∷ 3 ∷ 4 ∷ 5 ∷ 6 ∷ 7 ∷ 8 ∷ []) (receive_conditions line words) words (receive_result line words) (received_by line words)
  pub local : (line words out : List ℕ) → Exactly number_in Err (14 ∷ 1 ∷ 3 ∷ 4 ∷ 9 ∷ 8 ∷ 10 ∷ []) (issue_conditions line words out) (words, out) (issue_result line words out) (calls.issued_by line words out)
  pub settling : (line words : List ℕ) → Exactly number_in Err (14 ∷ 1 ∷ []) (settle_conditions line words) words (settle_result line words) (settled_by line words)
  pub question : (line words out : List ℕ) → Exactly number_of (ask_refusal line words) (14 ∷ 1 ∷ 3 ∷ 12 ∷ 11 ∷ []) (ask_conditions line words out) out (ask_result line words out) (replied_by line words out)
  pub saving : (line words : List ℕ) (place : ℕ) (out : List ℕ) → Exactly number_in Err (14 ∷ 1 ∷ 10 ∷ []) (save_conditions line words place out) out (save_result words place out) (saved_by line words place out)

-- "Bad input gets exactly the refusal number that document 01 gives, in 01's order and only then, and a refusal changes no byte".
pub exactly_when : EachCall
unfolding number_in open_conditions receive_conditions issue_conditions settle_conditions ask_conditions save_conditions open_result receive_result issue_result settle_result
exactly_when = record {
  opening = λ line words. exactly number_in Err (open_conditions line words) words (open_result line words) (opened_by line words) (λ n. refl) refl (open_told line words) refl;
  frame = λ line words. exactly number_in Err (receive_conditions line words) words (receive_result line words) (received_by line words) (λ n. refl) refl (receive_told line words) refl;
  local = λ line words out. exactly number_in Err (issue_conditions line words out) (words, out) (issue_result line words out) (calls.issued_by line words out) (λ n. refl) refl (issue_told line words out) refl;
  settling = λ line words. exactly number_in Err (settle_conditions line words) words (settle_result line words) (settled_by line words) (λ n. refl) refl (settle_told line words) refl;
  question = λ line words out. exactly number_of (ask_refusal line words) (ask_conditions line words out) out (ask_result line words out) (replied_by line words out) (reply_number line words out) (ask_number line words out) (ask_told line words out) refl;
  saving = λ line words place out. exactly number_in Err (save_conditions line words place out) out (save_result words place out) (saved_by line words place out) (λ n. refl) (save_number line words place out) (save_told line words place out) refl;
}
