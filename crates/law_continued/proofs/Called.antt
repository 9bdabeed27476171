-- What one call of the library brings to a station.
use Rattle.std.specs.Prelude.{Err}
use mathlib.Core.Path.{◌≡◌, refl, sym, ap, ◌∙◌, subst}
use mathlib.Core.Bool.{Bool, true, false, ◌&&◌}
use mathlib.Core.List.{List, [], ◌∷◌, ◌++◌, append-nil}
use Prim.Native.Nat.{ℕ}
use lib.Dec.{eqb, leb}
use lib.ListN.{length, set}
use Rattle.meaning.specs.Operations.{Operation}
use Rattle.meaning.specs.Table.{Table}
use Rattle.meaning.specs.Refusals.{Frame, Local, issued_by, refusal_of_frame, refusal_of_local}
use Rattle.meaning.specs.Calls as meaning
use Rattle.meaning.specs.Calls.{after_arrival, outcome}
use Rattle.meaning.specs.History as history
use Rattle.meaning.specs.History.{Event, Station, after, after_all, after_outcome}
use Rattle.meaning.proofs.Tests.{cases}
use Rattle.words_layout.specs.Layout.{table_of}
use Rattle.line_hex.specs.Choice.{pick}
use Rattle.line_hex.specs.Hex.{hex_line}
use Rattle.line_put.specs.Writing.{line_written}
use Rattle.line_read.specs.Named.{issue_read, is_issue, operation_read, is_operation}
use Rattle.line_decode.specs.Decoding.{bytes_of}
use Rattle.call_checked.specs.Called.{frame_bytes, frame_of, framed_as, issued_as, issued_on, local_of, received_as, received_on}
use Rattle.calls.specs.Calls as calls
use Rattle.calls.specs.Calls.{received_by}
use Rattle.law_agreement.specs.Conditions.{number_in}
use Rattle.law_agreement.specs.Station.{Call, receives, issues, settles, words_after, words_after_all, frame_fits, events_of, events_of_all}
use Rattle.law_agreement.proofs.Calling.{Holds, calls_hold}
use Rattle.law_agreement.proofs.Lines.{settle_accepted}
use Rattle.law_continued.specs.Continuing.{accepted_by_call}

module _ (words : List ℕ) (s : Station) (H : Holds words s) where
  -- the space holds the table that the meaning reaches
  pub called_holds : (call : Call) → Holds (words_after call words) (after_all (events_of call words) s)
  unfolding words_after_all events_of_all
  called_holds call = subst (λ (l : List Event). Holds (words_after call words) (after_all l s)) (append-nil (events_of call words)) (calls_hold (call ∷ []) words s H)

  refused_brings_none : (number : ℕ) (u : Operation) → eqb number 0 ≡ false → s.accepted ≡ pick (eqb number 0) (u ∷ []) [] ++ s.accepted
  refused_brings_none number u q = rw q refl

  -- an outcome brings its operation where it gives no number
  frame_outcome : (number : ℕ) (u : Operation) (t : Table) → (after_outcome s (outcome number u t)).accepted ≡ pick (eqb (number_in (received_as words (outcome number u t)).0) 0) (u ∷ []) [] ++ s.accepted
  unfolding outcome received_as after_outcome number_in
  frame_outcome number u t = cases (eqb number 0) (λ q. rw q refl) (λ q. rw q (refused_brings_none number u q))

  frame_taken : (frame : Frame) → (after (history.receives frame) s).accepted ≡ pick (eqb (number_in (received_as words (meaning.receive (table_of words) frame)).0) 0) (frame.operation ∷ []) [] ++ s.accepted
  unfolding after meaning.receive
  frame_taken frame = ap (λ (t : Table). (after_outcome s (meaning.receive t frame)).accepted) (sym H.table_is)
      ∙ frame_outcome (refusal_of_frame (table_of words) frame) frame.operation (after_arrival (table_of words) frame.operation (set (table_of words).last frame.operation.sender frame.operation.vector))

  receive_accepted : (line : List ℕ) → (after_all (events_of (receives line) words) s).accepted ≡ accepted_by_call (receives line) words ++ s.accepted
  unfolding events_of after_all received_by received_on accepted_by_call number_in
  receive_accepted line = rw H.held (by (is_operation (bytes_of line)))
    where
      frame : Frame
      frame = frame_of (operation_read (bytes_of line))

      by : (b : Bool) → (after_all (pick b (history.receives frame ∷ []) []) s).accepted ≡ pick (eqb (number_in (pick b (received_as words (meaning.receive (table_of words) frame)) (Err 1, words)).0) 0) (frame.operation ∷ []) [] ++ s.accepted
      by true = frame_taken frame
      by false = refl

  -- a local operation, with room for its frame or without
  issue_outcome : (out : List ℕ) (number : ℕ) (u : Operation) (t : Table) (b : Bool) → b ≡ leb (length (hex_line (frame_bytes u))) (length out) →
      (pick b (after_outcome s (outcome number u t)) s).accepted ≡ pick (eqb (number_in (issued_as words out (outcome number u t)).0) 0) (u ∷ []) [] ++ s.accepted
  unfolding outcome issued_as after_outcome framed_as line_written number_in
  issue_outcome out number u t b e = cases (eqb number 0)
      (λ q. rw q (cases b (λ f. rw (f, sym e ∙ f) refl) (λ f. rw (f, sym e ∙ f) refl)))
      (λ q. rw q (cases b (λ f. rw f (refused_brings_none number u q)) (λ f. rw f (refused_brings_none number u q))))

  issue_taken : (local : Local) (out : List ℕ) → (pick (leb (length (hex_line (frame_bytes (issued_by (table_of words) local)))) (length out)) (after (history.issues local) s) s).accepted
      ≡ pick (eqb (number_in (issued_as words out (meaning.issue (table_of words) local)).0) 0) (issued_by (table_of words) local ∷ []) [] ++ s.accepted
  unfolding after meaning.issue
  issue_taken local out =
      let fits = leb (length (hex_line (frame_bytes (issued_by (table_of words) local)))) (length out) in
      ap (λ (t : Table). (pick fits (after_outcome s (meaning.issue t local)) s).accepted) (sym H.table_is)
      ∙ issue_outcome out (refusal_of_local (table_of words) local) (issued_by (table_of words) local) (after_arrival (table_of words) (issued_by (table_of words) local) (table_of words).last) fits refl

  issue_accepted : (line out : List ℕ) → (after_all (events_of (issues line out) words) s).accepted ≡ accepted_by_call (issues line out) words ++ s.accepted
  unfolding events_of after_all frame_fits calls.issued_by issued_on accepted_by_call number_in
  issue_accepted line out = rw H.held (by (is_issue (bytes_of line)) (leb (length (hex_line (frame_bytes (issued_by (table_of words) local)))) (length out)) (issue_taken local out))
    where
      local : Local
      local = local_of (issue_read (bytes_of line))

      by : (b c : Bool) → (pick c (after (history.issues local) s) s).accepted ≡ pick (eqb (number_in (issued_as words out (meaning.issue (table_of words) local)).0) 0) (issued_by (table_of words) local ∷ []) [] ++ s.accepted →
          (after_all (pick (b && c) (history.issues local ∷ []) []) s).accepted ≡ pick (eqb (number_in (pick b (issued_as words out (meaning.issue (table_of words) local)) (Err 1, (words, out))).0) 0) (issued_by (table_of words) local ∷ []) [] ++ s.accepted
      by true true h = h
      by true false h = h
      by false c h = refl

  -- the operation of a call that gave no refusal, and no other
  pub called_accepted : (call : Call) → (after_all (events_of call words) s).accepted ≡ accepted_by_call call words ++ s.accepted
  unfolding accepted_by_call
  called_accepted (receives line) = receive_accepted line
  called_accepted (issues line out) = issue_accepted line out
  called_accepted (settles line) = settle_accepted line words s H
