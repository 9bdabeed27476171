-- A frame, way by way.
use mathlib.Core.Path.{◌≡◌, refl, sym, ap, ◌∙◌}
use mathlib.Core.Bool.{true, false}
use mathlib.Core.List.{List}
use Prim.Native.Nat.{ℕ, ◌≤◌, ◌-◌}
use native.Mathlib.Omega.{arith}
use lib.Dec.{eqb}
use lib.ListN.{length, take, drop, take-append-drop, length-append}
use borrow.Author.Tests.{eq-eqb, eqb-true, ne_eqb}
use Rattle.meaning.specs.Refusals.{Frame, well_shaped, frame_refusals, arrival_refusals, refusal_of_frame}
use Rattle.meaning.specs.Operations as meant
use Rattle.meaning.specs.Table.{Table, greatest_size}
use Rattle.meaning.specs.Calls as meaning
use Rattle.meaning.proofs.Tests.{cases}
use Rattle.meaning.specs.Calls.{outcome}
use Rattle.words_layout.specs.Layout.{table_of, rewritten, size_in}
use Rattle.refusal_order.specs.declared.Sent.{Sent}
use Rattle.refusal_order.specs.Fields.{frame_from}
use Rattle.arrival_frame.specs.Receiving as receiving
use Rattle.arrival_frame.specs.Receiving.{outcome_in}
use Rattle.line_hex.proofs.Picking.{picked}
use Rattle.line_read.specs.declared.Operation.{Operation}
use Rattle.line_read.specs.Named.{is_operation, operation_read}
use Rattle.line_read.proofs.Named.{operation_stations_few, operation_vector_length}
use Rattle.line_decode.specs.Decoding.{bytes_of}
use Rattle.call_checked.proofs.Shaped.{read_right, read_fields}
use Rattle.std.proofs.Common.{Result, Ok, Err, Some, None}
use Rattle.std.specs.Bool.{if◌then◌else◌}
use Rattle.refusal_number.specs.declared.Refusal.{Refusal}
use Rattle.refusal_number.specs.Numbers.{number_of, refused, numbered}
use Rattle.refusal_number.proofs.Numbers.{number_above}
use Rattle.call_checked.specs.Called.{frame_of, received_as, received_on}

-- an outcome, by its number
module _ (words : List ℕ) (r : Result (Unit {0}) Refusal) (x : List ℕ) (number : ℕ) (u : meant.Operation) (t : Table) (e : (refused r, x) ≡ outcome_in words (outcome number u t)) where
  number_is : refused r ≡ number
  unfolding outcome_in outcome
  number_is = cases (eqb number 0)
      (λ b. let f : ◌≡◌ {A = ℕ × List ℕ} (refused r, x) (0, rewritten words t) = e ∙ rw b refl in ap (λ (p : ℕ × List ℕ). p.0) f ∙ sym (eqb-true number 0 b))
      (λ b. let f : ◌≡◌ {A = ℕ × List ℕ} (refused r, x) (number, words) = e ∙ rw b refl in ap (λ (p : ℕ × List ℕ). p.0) f)

  as_refused : (refusal : Refusal) → r ≡ Err refusal → (numbered r, x) ≡ received_as words (outcome number u t)
  unfolding outcome_in outcome received_as
  as_refused refusal is =
      let given : refused r ≡ number_of refusal = rw is refl in
      let b : eqb number 0 ≡ false = ne_eqb number 0 (λ z. number_above refusal (sym given ∙ number_is ∙ z)) in
      let f : ◌≡◌ {A = ℕ × List ℕ} (refused r, x) (number, words) = e ∙ rw b refl in
      rw (b, is) (ap (λ (p : ℕ × List ℕ). (Err p.0, p.1)) (rw is at f))

  as_accepted : r ≡ Ok tt → (numbered r, x) ≡ received_as words (outcome number u t)
  unfolding outcome_in outcome received_as
  as_accepted is =
      let given : refused r ≡ 0 = rw is refl in
      let b : eqb number 0 ≡ true = eq-eqb number 0 (sym number_is ∙ given) in
      let f : ◌≡◌ {A = ℕ × List ℕ} (refused r, x) (0, rewritten words t) = e ∙ rw b refl in
      rw (b, is) (ap (λ (p : ℕ × List ℕ). (Ok tt, p.1)) (rw is at f))

by_result : (words : List ℕ) (r : Result (Unit {0}) Refusal) (x : List ℕ) (number : ℕ) (u : meant.Operation) (t : Table) → (refused r, x) ≡ outcome_in words (outcome number u t) → (numbered r, x) ≡ received_as words (outcome number u t)
by_result words (Ok u₁) x number u t e = as_accepted words (Ok u₁) x number u t e refl
by_result words (Err refusal) x number u t e = as_refused words (Err refusal) x number u t e refusal refl

-- a frame that was read
module _ (words : List ℕ) (f : Operation) where
  -- "a frame's N not the table's"
  other_size : (frame : Frame) → (frame.size ≡ size_in words → ⊥) → meaning.receive (table_of words) frame ≡ meaning.Outcome.refused 1
  unfolding meaning.receive refusal_of_frame arrival_refusals frame_refusals well_shaped table_of outcome
  other_size frame n = rw (ne_eqb frame.size (size_in words) n) refl

  pub receive_other_size : (f.stations ≡ size_in words → ⊥) → (Err 1, words) ≡ received_as words (meaning.receive (table_of words) (frame_of f))
  unfolding received_as frame_of
  receive_other_size n = sym (ap (received_as words) (other_size (frame_of f) n))

  module _ (long : length (take f.stations f.vector) ≡ f.stations) (end : ℕ) (e : end ≡ f.stations) where
    lent : end - 0 ≡ f.stations
    lent = omega arith

    pub vector_room : end ≤ length f.vector
    vector_room = omega (arith, e, long, ap length (take-append-drop f.stations f.vector), length-append (take f.stations f.vector) (drop f.stations f.vector))

    pub vector_long : f.stations ≡ size_in words → length (take (end - 0) f.vector) ≡ size_in words
    vector_long s = rw lent (long ∙ s)

    -- the frame that is taken is the line's
    abbrev sent : Sent
    sent = record { sender = record { 0 = f.sender }; object = f.object; code = f.code; value = record { 0 = f.value } }

    frame_same : frame_from sent (take (end - 0) f.vector) ≡ frame_of f
    unfolding frame_of
    frame_same = rw (lent, long) refl

    pub receive_told : (r : Result (Unit {0}) Refusal) (x : List ℕ) → (refused r, x) ≡ receiving.received_by words (frame_from sent (take (end - 0) f.vector)) → (numbered r, x) ≡ received_as words (meaning.receive (table_of words) (frame_of f))
    unfolding receiving.received_by meaning.receive
    receive_told r x g = by_result words r x _ _ _ (g ∙ ap (λ (frame : Frame). outcome_in words (meaning.receive (table_of words) frame)) frame_same)

pub receive_misshapen : (line words : List ℕ) → is_operation (bytes_of line) ≡ false → (Err 1, words) ≡ received_on line words
unfolding received_on
receive_misshapen line words h = rw h refl

module _ (line words : List ℕ) (f : Operation) (e : Some f ≡ (if is_operation (bytes_of line) then Some (operation_read (bytes_of line)) else None)) where
  right : is_operation (bytes_of line) ≡ true
  right = read_right (is_operation (bytes_of line)) (operation_read (bytes_of line)) f e

  fields : f ≡ operation_read (bytes_of line)
  fields = read_fields (is_operation (bytes_of line)) (operation_read (bytes_of line)) f e

  pub receive_shaped : (r : Result (Unit {0}) ℕ) (x : List ℕ) → (r, x) ≡ received_as words (meaning.receive (table_of words) (frame_of f)) → (r, x) ≡ received_on line words
  unfolding received_on
  receive_shaped r x g = g ∙ ap (λ (q : Operation). received_as words (meaning.receive (table_of words) (frame_of q))) fields
      ∙ sym (picked (is_operation (bytes_of line)) (received_as words (meaning.receive (table_of words) (frame_of (operation_read (bytes_of line))))) (Err 1, words) right)

  pub read_few : f.stations ≤ greatest_size
  read_few = rw (ap (λ (q : Operation). q.stations) fields) (operation_stations_few (bytes_of line) right)

  pub read_long : length (take f.stations f.vector) ≡ f.stations
  read_long = rw fields (operation_vector_length (bytes_of line) right)
