-- The line that `issue` writes says the operation that the table accepted, and another table that hears it hears that operation.
use Rattle.std.proofs.Common.{Result, Ok, Err}
use Rattle.line_read.specs.Named.{is_operation, issue_read, operation_read}
use mathlib.Core.Path.{◌≡◌, refl, sym, ap, ◌∙◌, subst}
use mathlib.Core.Bool.{Bool, true, false, cond}
use mathlib.Core.List.{List, ◌∷◌, ◌++◌}
use Prim.Native.Nat.{ℕ, ◌<◌, ◌-◌}
use native.Mathlib.Omega.{arith}
use lib.ListN.{length, take, drop, replicate, length-replicate}
use lib.Seq.{take_at}
use borrow.Author.Tests.{not-false}
use Rattle.meaning.specs.Operations as meant
use Rattle.meaning.specs.Table.{Table, greatest_size}
use Rattle.meaning.specs.Refusals.{Frame, Local, operation_allowed, issued_by, issue_refusals, local_refusals, refusal_of_local}
use Rattle.meaning.specs.Calls as meaning
use Rattle.meaning.specs.Calls.{outcome, after_arrival}
use Rattle.meaning.proofs.Tests.{cases}
use Rattle.meaning.proofs.Refusals.{given_at}
use Rattle.meaning.proofs.TableFacts.{Facts, facts}
use Rattle.meaning.proofs.TableRules.{kept_by_local}
use Rattle.words_layout.specs.Layout.{holds_table, table_of, rewritten, size_in}
use Rattle.table_rules.specs.Checked.{Checked}
use Rattle.table_rules.proofs.Checking.{checked}
use Rattle.line_hex.specs.Hex.{hex_line}
use Rattle.line_hex.specs.Numbers.{AllBytes}
use Rattle.line_hex.proofs.Bytes.{all_bytes_drop}
use Rattle.line_shape.specs.Reading.{fields_read, has_shape, is_shaped, padded}
use Rattle.line_shape.specs.Shapes.{Fitting, read, length_of}
use Rattle.line_read.specs.declared.Operation as lines
use Rattle.line_read.specs.Types.{line_read, operation, shape_of, longest}
use Rattle.line_read.proofs.Longest.{operation_at_most_longest}
use Rattle.line_read.proofs.Named.{operation_reads_back}
use Rattle.line_read.proofs.Spelling.{all_bytes_line_of}
use Rattle.line_decode.specs.Decoding.{bytes_of}
use Rattle.line_decode.proofs.Decoding.{bytes_back, decoded_bytes}
use Rattle.form_write.proofs.ReadsBack.{below_every, fit_each}
use Rattle.calls.specs.Calls as calls
use Rattle.call_checked.specs.Called.{frame_bytes, frame_of, local_of, received_as, received_on}
use Rattle.calls.specs.Calls.{received_by}
use Rattle.law_agreement.specs.Conditions.{issue_conditions, issue_result, number_in}
use Rattle.line_hex.proofs.Picking.{picked}
use Rattle.law_agreement.proofs.Shaping.{one_byte, four_bytes}
use Rattle.law_agreement.proofs.ExactlyWhen.{exactly_when}
use Rattle.meaning.specs.Operations.{value_limit}

-- the fields of an issue line fit the bytes of a frame
pub record Narrow (local : Local) : Type 0 where
  pub object : local.object < 256
  pub code : local.code < 256
  pub value : local.value < value_limit

issue_narrow : (bytes : List ℕ) → AllBytes bytes → Narrow (local_of (issue_read bytes))
unfolding local_of issue_read line_read fields_read is_shaped read padded has_shape length_of
issue_narrow bytes h =
    let one = all_bytes_drop 1 bytes h in
    let two = all_bytes_drop 1 (drop 1 bytes) one in
    let three = all_bytes_drop 1 (drop 1 (drop 1 bytes)) two in
    cases (has_shape 33 7 bytes)
    (λ b. rw b (record { object = one_byte (drop 1 bytes) one; code = one_byte (drop 1 (drop 1 bytes)) two; value = four_bytes (drop 1 (drop 1 (drop 1 bytes))) three }))
    (λ b. rw b (record { object = omega arith; code = omega arith; value = omega arith }))

-- the frame of a local operation that a table accepts
module _ (words : List ℕ) (K : Checked words) (local : Local) (ok : refusal_of_local (table_of words) local ≡ 0) (narrow : Narrow local) where
  abbrev u : meant.Operation
  u = issued_by (table_of words) local

  abbrev sent : Frame
  sent = record { size = (table_of words).header.size; operation = u }

  kept : Facts (after_arrival (table_of words) u (table_of words).last)
  kept = facts (after_arrival (table_of words) u (table_of words).last) (kept_by_local (table_of words) local K.by_rules ok)

  long : length u.vector ≡ size_in words
  unfolding after_arrival issued_by table_of
  long = kept.clock_length

  fitting : Fitting (shape_of operation (length u.vector)) (32 ∷ length u.vector ∷ u.sender ∷ u.object ∷ u.code ∷ u.value ∷ u.vector)
  unfolding Fitting after_arrival issued_by table_of
  fitting =
      let few = K.few in
      let own = K.own in
      (omega arith, (omega (arith, long), (omega arith, (narrow.object, (narrow.code, (narrow.value, fit_each 4 u.vector (below_every u.vector kept.clock_words)))))))

  back : (is_operation (frame_bytes u) ≡ true) × (operation_read (frame_bytes u) ≡ record { stations = length u.vector; sender = u.sender; object = u.object; code = u.code; value = u.value; vector = padded greatest_size u.vector })
  unfolding frame_bytes
  back = operation_reads_back u.sender u.object u.code u.value u.vector (let few = K.few in omega (arith, long)) fitting

  reads_ok : is_operation (frame_bytes u) ≡ true
  reads_ok = back.0

  reads_frame : frame_of (operation_read (frame_bytes u)) ≡ sent
  unfolding frame_of padded table_of issued_by
  reads_frame = ap frame_of back.1 ∙ rw (take_at u.vector (replicate (greatest_size - length u.vector) 0) (length u.vector) refl, long) refl

  line_back : bytes_of (hex_line (frame_bytes u)) ≡ frame_bytes u
  unfolding frame_bytes
  line_back = bytes_back (frame_bytes u) (replicate longest 0) (all_bytes_line_of operation _ _) (length-replicate {A = ℕ} longest 0) (operation_at_most_longest (frame_bytes u) reads_ok)

-- what the characters of an issued frame say, and what the space holds that issued it
pub record Says (words words' : List ℕ) (local : Local) (characters : List ℕ) : Type 0 where
  pub issued_one : meant.Operation
  pub table_after : Table
  pub accepted : meaning.issue (table_of words) local ≡ meaning.Outcome.accepted issued_one table_after
  pub space_after_lem : words' ≡ rewritten words table_after
  pub shaped : is_operation (bytes_of characters) ≡ true
  pub frame : frame_of (operation_read (bytes_of characters)) ≡ record { size = (table_of words).header.size; operation = issued_one }
  -- another table that hears this line is offered this operation
  pub heard : (other : List ℕ) → holds_table other ≡ true → received_by characters other ≡ received_as other (meaning.receive (table_of other) (record { size = (table_of words).header.size; operation = issued_one }))

module _ (words : List ℕ) (K : Checked words) (local : Local) (ok : refusal_of_local (table_of words) local ≡ 0) (narrow : Narrow local) (characters : List ℕ) (e : bytes_of characters ≡ frame_bytes (issued_by (table_of words) local)) where
  abbrev after : Table
  after = after_arrival (table_of words) (issued_by (table_of words) local) (table_of words).last

  accepts : meaning.issue (table_of words) local ≡ meaning.Outcome.accepted (issued_by (table_of words) local) after
  unfolding meaning.issue outcome
  accepts = rw ok refl

  shaped_line : is_operation (bytes_of characters) ≡ true
  shaped_line = ap (λ (l : List ℕ). (is_operation l)) e ∙ reads_ok words K local ok narrow

  frame_line : frame_of (operation_read (bytes_of characters)) ≡ sent words K local ok narrow
  frame_line = ap (λ (l : List ℕ). frame_of (operation_read l)) e ∙ reads_frame words K local ok narrow

  hears_frame : (other : List ℕ) → holds_table other ≡ true → received_by characters other ≡ received_as other (meaning.receive (table_of other) (sent words K local ok narrow))
  unfolding received_by received_on
  hears_frame other h =
      picked (holds_table other) (received_on characters other) (Err 14, other) h
      ∙ picked (is_operation (bytes_of characters)) (received_as other (meaning.receive (table_of other) (frame_of (operation_read (bytes_of characters))))) (Err 1, other) shaped_line
      ∙ ap (λ (f : Frame). received_as other (meaning.receive (table_of other) f)) frame_line

  says : Says words (rewritten words after) local characters
  says = record { issued_one = issued_by (table_of words) local; table_after = after; accepted = accepts; space_after_lem = refl; shaped = shaped_line; frame = frame_line; heard = hears_frame }

-- the call
frame_length : Result ℕ ℕ → ℕ
frame_length (Err number) = 0
frame_length (Ok n) = n

none_given : (a b c d : Bool) → a ≡ false → b ≡ false → c ≡ false → d ≡ false → ◌≡◌ {A = ℕ} (cond a 3 (cond b 4 (cond c 9 (cond d 8 0)))) 0
none_given a b c d e f g h = rw (e, f, g, h) refl

module _ (line words out : List ℕ) (n : ℕ) (words' out' : List ℕ) (e : calls.issued_by line words out ≡ (Ok n, (words', out'))) where
  abbrev local : Local
  local = local_of (issue_read (bytes_of line))

  abbrev bytes : List ℕ
  bytes = frame_bytes (issued_by (table_of words) local)

  no_number : number_in (calls.issued_by line words out).0 ≡ 0
  unfolding number_in
  no_number = ap (λ (p : Result ℕ ℕ × (List ℕ × List ℕ)). number_in p.0) e

  none : (i : ℕ) → i < 7 → given_at (issue_conditions line words out) i ≡ false
  unfolding issue_conditions
  none = (exactly_when.local line words out).none.0 no_number

  held : holds_table words ≡ true
  unfolding issue_conditions
  held = not-false (holds_table words) (none 0 (omega arith))

  taken : refusal_of_local (table_of words) local ≡ 0
  unfolding issue_conditions refusal_of_local local_refusals issue_refusals operation_allowed issued_by
  taken = none_given _ _ _ _ (none 2 (omega arith)) (none 3 (omega arith)) (none 4 (omega arith)) (none 5 (omega arith))

  answer : (Ok n, (words', out')) ≡ issue_result line words out
  answer = sym e ∙ (exactly_when.local line words out).taken no_number

  characters : take n out' ≡ hex_line bytes
  unfolding issue_result frame_length
  characters =
      let count : n ≡ length (hex_line bytes) = ap (λ (p : Result ℕ ℕ × (List ℕ × List ℕ)). frame_length p.0) answer in
      let space : out' ≡ hex_line bytes ++ drop (length (hex_line bytes)) out = ap (λ (p : Result ℕ ℕ × (List ℕ × List ℕ)). p.1.1) answer in
      ap (take n) space ∙ take_at (hex_line bytes) (drop (length (hex_line bytes)) out) n (sym count)

  table_words_lem : words' ≡ rewritten words (after_arrival (table_of words) (issued_by (table_of words) local) (table_of words).last)
  unfolding issue_result
  table_words_lem = ap (λ (p : Result ℕ ℕ × (List ℕ × List ℕ)). p.1.0) answer

  pub issued_line_reads_back : Says words words' local (take n out')
  issued_line_reads_back =
      let K = checked words held in
      let narrow = issue_narrow (bytes_of line) (decoded_bytes line) in
      subst (λ (w : List ℕ). Says words w local (take n out')) (sym table_words_lem)
      (says words K local taken narrow (take n out') (ap bytes_of characters ∙ line_back words K local taken narrow))
