-- An issued frame behind `00`.
use Rattle.std.proofs.Common.{Result, Ok, Err}
use Rattle.line_put.specs.declared.TooShort.{TooShort}
use Rattle.line_read.specs.Named.{is_issue, issue_read}
use mathlib.Core.Path.{◌≡◌, refl, sym, ap, ◌∙◌, subst}
use mathlib.Core.Bool.{Bool, true, false, cond}
use mathlib.Core.List.{List, [], ◌∷◌, ◌++◌, append-nil}
use Prim.Native.Nat.{ℕ, zero, suc, ◌+◌, ◌≤◌, ◌-◌}
use native.Mathlib.Omega.{arith}
use mir.Val.{Fits}
use mir.Syntax.{w64}
use lib.Dec.{eqb, leb}
use lib.ListN.{length, get_or, take, drop, length-append, length-drop, length-set, take-append-drop, drop_of_length-le}
use lib.Seq.{drop-drop, drop_at, length-take-le, take_all}
use borrow.Author.Tests.{le-leb}
use Rattle.meaning.specs.Operations as meant
use Rattle.meaning.specs.Table.{Table, greatest_size}
use Rattle.meaning.specs.Refusals.{Local, refusal_of_local, issued_by}
use Rattle.meaning.specs.Calls as meaning
use Rattle.meaning.specs.Calls.{outcome, after_arrival}
use Rattle.words_layout.specs.Layout.{table_of, rewritten, size_in, own_in, clock_at}
use Rattle.table_rules.specs.Checked.{Checked}
use Rattle.line_hex.specs.Choice.{pick}
use Rattle.line_hex.specs.Hex.{digits_of, digit_of, hex_line}
use Rattle.line_hex.specs.Numbers.{big_endian}
use Rattle.line_hex.specs.Putting.{digits_at, put_at}
use Rattle.line_shape.specs.Shapes.{length_of, written}
use Rattle.line_shape.proofs.Spelling.{length_written}
use Rattle.line_put.specs.Writing.{line_bytes, line_written, written_each}
use Rattle.line_put.proofs.Laying.{length_written_each}
use Rattle.line_put.proofs.Whole.{length_hex_line}
use Rattle.line_read.specs.Types.{operation, head_of, longest_frame}
use Rattle.line_decode.specs.Decoding.{bytes_of}
use Rattle.call_question.specs.AnswerBytes.{refusal_bytes, longest_answer_bytes}
use Rattle.call_question.proofs.Short.{refusal_long}
use Rattle.call_checked.specs.Called.{frame_bytes, framed_as, issued_as, issued_on, local_of}
use Rattle.call_answer.specs.Answering.{issue_answer, issued_bytes, answered_after, frame_room}

take_most : (n : ℕ) (l : List ℕ) → length (take n l) ≤ n
take_most zero l = omega arith
take_most (suc n) [] = omega arith
take_most (suc n) (x ∷ l) = omega (arith, take_most n l)

-- no frame of a table is longer than the longest
frame_few : (u : meant.Operation) → length u.vector ≤ greatest_size → length (hex_line (frame_bytes u)) ≤ longest_frame
unfolding frame_bytes line_bytes length_of
frame_few u h =
    let head = written (head_of operation) (32 ∷ length u.vector ∷ u.sender ∷ u.object ∷ u.code ∷ u.value ∷ []) in
    let first : length head ≡ 9 = length_written (head_of operation) (32 ∷ length u.vector ∷ u.sender ∷ u.object ∷ u.code ∷ u.value ∷ []) refl in
    omega (arith, length_hex_line (frame_bytes u), length-append head (written_each 4 u.vector), first, length_written_each 4 u.vector)

next_few : (words : List ℕ) → Checked words → (local : Local) → length (issued_by (table_of words) local).vector ≤ greatest_size
unfolding issued_by table_of
next_few words K local =
    let clock = take (size_in words) (drop clock_at words) in
    omega (arith, length-set clock (own_in words) (suc (get_or clock (own_in words) 0)), take_most (size_in words) (drop clock_at words), K.few)

-- every frame that is issued has room
pub frame_room_lem : (words : List ℕ) → Checked words → (local : Local) → length (hex_line (frame_bytes (issued_by (table_of words) local))) ≤ longest_frame
frame_room_lem words K local = frame_few (issued_by (table_of words) local) (next_few words K local)

-- what the call leaves against the answer's bytes and the space
abbrev Fit : Result ℕ ℕ × (List ℕ × List ℕ) → List ℕ × List ℕ → List ℕ → Type 0
Fit (Err number, (x, y)) (bytes, words) room = (bytes ≡ refusal_bytes number) × ((x ≡ words) × (y ≡ room))
Fit (Ok n, (x, y)) (bytes, words) room =
    (n + 2 ≡ length (hex_line bytes)) × ((n ≤ longest_frame) × ((x ≡ words) × (48 ∷ 48 ∷ y ≡ hex_line bytes ++ drop n room)))

module _ (words room : List ℕ) (long : longest_frame ≤ length room) where
  frame_fit : (u : meant.Operation) (t : Table) → length u.vector ≤ greatest_size → Fit (framed_as words t room (line_written room (frame_bytes u))) (0 ∷ frame_bytes u, rewritten words t) room
  unfolding framed_as line_written hex_line digits_of digit_of
  frame_fit u t few =
      let short = frame_few u few in
      rw (le-leb (length (hex_line (frame_bytes u))) (length room) (omega (arith, short)))
      (omega arith, (short, (refl, refl)))

  outcome_fit : (number : ℕ) (u : meant.Operation) (t : Table) → length u.vector ≤ greatest_size → Fit (issued_as words room (outcome number u t)) (issued_bytes words (outcome number u t)) room
  unfolding issued_as issued_bytes outcome
  outcome_fit number u t few = by (eqb number 0)
    where
      by : (b : Bool) → Fit (issued_as words room (cond b (meaning.Outcome.accepted u t) (meaning.Outcome.refused number))) (issued_bytes words (cond b (meaning.Outcome.accepted u t) (meaning.Outcome.refused number))) room
      by true = frame_fit u t few
      by false = (refl, (refl, refl))

  issue_fit : Checked words → (line : List ℕ) → Fit (issued_on line words room) (issue_answer line words) room
  unfolding issued_on issue_answer meaning.issue
  issue_fit K line = by (is_issue (bytes_of line))
    where
      local : Local
      local = local_of (issue_read (bytes_of line))

      by : (b : Bool) → Fit (pick b (issued_as words room (meaning.issue (table_of words) local)) (Err 1, (words, room))) (pick b (issued_bytes words (meaning.issue (table_of words) local)) (refusal_bytes 1, words)) room
      by true = outcome_fit (refusal_of_local (table_of words) local) (issued_by (table_of words) local) (after_arrival (table_of words) (issued_by (table_of words) local) (table_of words).last) (next_few words K local)
      by false = (refl, (refl, refl))

-- the answer's length
pub issue_short : (words : List ℕ) → Checked words → (line : List ℕ) → length (issue_answer line words).0 ≤ longest_answer_bytes
unfolding issue_answer issued_bytes meaning.issue outcome
issue_short words K line = by (is_issue (bytes_of line)) (eqb (refusal_of_local (table_of words) local) 0)
  where
    local : Local
    local = local_of (issue_read (bytes_of line))

    u : meant.Operation
    u = issued_by (table_of words) local

    short : (number : ℕ) → length (refusal_bytes number) ≤ longest_answer_bytes
    short number = omega (arith, refusal_long number)

    by : (b c : Bool) → length (pick b (issued_bytes words (cond c (meaning.Outcome.accepted u (after_arrival (table_of words) u (table_of words).last)) (meaning.Outcome.refused (refusal_of_local (table_of words) local)))) (refusal_bytes 1, words)).0 ≤ longest_answer_bytes
    by true true = omega (arith, frame_few u (next_few words K local), length_hex_line (frame_bytes u))
    by true false = short (refusal_of_local (table_of words) local)
    by false c = short 1

-- from what the call knows
module _ (words line out : List ℕ) (K : Checked words) (room : frame_room ≤ length out) (r : Result ℕ ℕ) (x y : List ℕ) (e : (r, (x, y)) ≡ issued_on line words (take (length out - 2) (drop 2 out))) where
  abbrev lent : List ℕ
  lent = take (length out - 2) (drop 2 out)

  lent_is : lent ≡ drop 2 out
  lent_is = take_all (length out - 2) (drop 2 out) (rw (length-drop 2 out) (omega arith))

  abbrev bytes : List ℕ
  bytes = (issue_answer line words).0

  fit : Fit (r, (x, y)) (issue_answer line words) lent
  fit = subst (λ (p : Result ℕ ℕ × (List ℕ × List ℕ)). Fit p (issue_answer line words) lent) (sym e) (issue_fit words lent (rw (lent_is, length-drop 2 out) (omega arith)) K line)

  pub issue_refused : (number : ℕ) → r ≡ Err number → (w : Result ℕ TooShort) (z : List ℕ) → (w, z) ≡ line_written (take 2 out ++ (y ++ drop (length out - 2) (drop 2 out))) (refusal_bytes number) → (w, (x, z)) ≡ answered_after out (issue_answer line words)
  unfolding answered_after
  issue_refused number h w z p =
      let f = subst (λ (q : Result ℕ ℕ). Fit (q, (x, y)) (issue_answer line words) lent) h fit in
      let same : take 2 out ++ (y ++ drop (length out - 2) (drop 2 out)) ≡ out = rw (f.1.1, take-append-drop (length out - 2) (drop 2 out)) (take-append-drop 2 out) in
      let told : ◌≡◌ {A = Result ℕ TooShort × List ℕ} (w, z) (line_written out bytes) = p ∙ rw (same, f.0) refl in
      ap (λ (q : Result ℕ TooShort × List ℕ). (q.0, (x, q.1))) told ∙ ap (λ (l : List ℕ). ((line_written out bytes).0, (l, (line_written out bytes).1))) f.1.0

  module _ (n : ℕ) (h : r ≡ Ok n) (p : ℕ) (z : List ℕ) (g : (p, z) ≡ put_at (take 2 out ++ (y ++ drop (length out - 2) (drop 2 out))) 0 (big_endian 1 0)) where
    framed : Fit (Ok n, (x, y)) (issue_answer line words) lent
    framed = subst (λ (q : Result ℕ ℕ). Fit (q, (x, y)) (issue_answer line words) lent) h fit

    two : p ≡ 2
    unfolding put_at big_endian
    two = ap (λ (q : ℕ × List ℕ). q.0) g

    pub frame_fits_lem : Fits w64 (p + n)
    frame_fits_lem = omega (arith, two, framed.1.0)

    space_is : z ≡ 48 ∷ 48 ∷ y
    unfolding put_at digits_at digits_of digit_of big_endian
    space_is =
        let none : drop (length out - 2) (drop 2 out) ≡ [] = drop_of_length-le (drop 2 out) {i = length out - 2} (omega (arith, length-drop 2 out)) in
        let whole : drop 2 (take 2 out ++ (y ++ drop (length out - 2) (drop 2 out))) ≡ y = drop_at (take 2 out) (y ++ drop (length out - 2) (drop 2 out)) 2 (length-take-le 2 out (omega arith)) ∙ rw none (append-nil y) in
        ap (λ (q : ℕ × List ℕ). q.1) g ∙ ap (λ (l : List ℕ). 48 ∷ 48 ∷ l) whole

    pub issue_framed : (Ok (p + n), (x, z)) ≡ answered_after out (issue_answer line words)
    unfolding answered_after line_written
    issue_framed =
        let size : p + n ≡ length (hex_line bytes) = omega (arith, two, framed.0) in
        let fits : leb (length (hex_line bytes)) (length out) ≡ true = le-leb (length (hex_line bytes)) (length out) (omega (arith, framed.0, framed.1.0)) in
        let place : 2 + n ≡ length (hex_line bytes) = omega (arith, framed.0) in
        let rest : drop n lent ≡ drop (length (hex_line bytes)) out = rw lent_is (drop-drop n 2 out ∙ ap (λ (i : ℕ). drop i out) place) in
        let whole : z ≡ hex_line bytes ++ drop (length (hex_line bytes)) out = space_is ∙ framed.1.1.1 ∙ ap (λ (l : List ℕ). hex_line bytes ++ l) rest in
        rw (fits, size, whole, framed.1.1.0) refl
