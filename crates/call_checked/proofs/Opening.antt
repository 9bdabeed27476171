-- The opening call, way by way.
use mathlib.Core.Path.{◌≡◌, refl, sym, ap, ◌∙◌}
use mathlib.Core.Bool.{true, false, not, ◌||◌}
use mathlib.Core.List.{List, ◌++◌}
use Prim.Native.Nat.{ℕ, ◌+◌, ◌-◌, ◌≤◌}
use native.Mathlib.Omega.{arith}
use lib.Dec.{ltb}
use lib.ListN.{length, drop, take}
use lib.Seq.{take-add, drop_at, length-take-le}
use borrow.Author.Tests.{ltb-false, ne_eqb, not-false}
use Rattle.meaning.specs.Refusals.{first_of, opening_refusals}
use Rattle.meaning.specs.Table.{Header, in_range, opened}
use Rattle.meaning.specs.Calls as meaning
use Rattle.meaning.proofs.Tests.{cases, or_left_fails, or_right_fails}
use Rattle.words_layout.specs.Layout.{space_for, words_of}
use Rattle.table_ranges.specs.Headers.{header_of}
use Rattle.line_read.specs.declared.Opening.{Opening}
use Rattle.line_read.specs.Named.{is_opening, opening_read}
use Rattle.line_read.proofs.Longest.{opening_size}
use Rattle.line_decode.specs.Decoding.{bytes_of, decoded_into}
use Rattle.line_decode.proofs.Decoding.{heard_front, heard_room}
use Rattle.call_checked.proofs.Shaped.{read_right, read_fields, read_wrong}
use Rattle.std.proofs.Common.{Result, Ok, Err, Some, None}
use Rattle.std.specs.Bool.{if◌then◌else◌}
use Rattle.refusal_number.specs.declared.Refusal.{Refusal}
use Rattle.refusal_number.specs.Numbers.{number_of}
use Rattle.refusal_number.proofs.Numbers.{number_above}
use Rattle.call_checked.specs.Called.{opened_as, header_read, opened_by}
use Rattle.line_read.specs.Types.{longest}

module _ (words : List ℕ) (needed : ℕ) (header : Header) where
  pub open_refused : (refusal : Refusal) → number_of refusal ≡ first_of (opening_refusals (length words) needed header) → (Err (number_of refusal), words) ≡ opened_as words (meaning.open_table (length words) needed header)
  unfolding opened_as meaning.open_table
  open_refused refusal e = rw (sym e, ne_eqb (number_of refusal) 0 (number_above refusal)) refl

  module _ (e : 0 ≡ first_of (opening_refusals (length words) needed header)) where
    none_given : (not (in_range header) || ltb (length words) needed) ≡ false
    unfolding opening_refusals
    none_given = cases (not (in_range header) || ltb (length words) needed)
        (λ t. absurd (let k : ◌≡◌ {A = ℕ} 0 13 = e ∙ rw t refl in omega arith))
        (λ t. t)

    pub open_ranges : in_range header ≡ true
    open_ranges = not-false (in_range header) (or_left_fails (not (in_range header)) (ltb (length words) needed) none_given)

    pub open_room : needed ≤ length words
    open_room = ltb-false (length words) needed (or_right_fails (not (in_range header)) (ltb (length words) needed) none_given)

    open_taken : meaning.open_table (length words) needed header ≡ meaning.Opening.fresh (opened header)
    unfolding meaning.open_table
    open_taken = rw (sym e) refl

    pub open_fresh : (x : List ℕ) → x ≡ words_of (opened header) ++ drop (space_for header.size header.capacity) words → (Ok tt, x) ≡ opened_as words (meaning.open_table (length words) needed header)
    unfolding opened_as opened
    open_fresh x f = ap (λ (l : List ℕ). (Ok tt, l)) f ∙ sym (ap (opened_as words) open_taken)

-- the line
pub open_misshapen : (line words : List ℕ) → is_opening (bytes_of line) ≡ false → (Err 1, words) ≡ opened_by line words
unfolding opened_by
open_misshapen line words f = rw f refl

module _ (line buffer : List ℕ) (long : length buffer ≡ longest) (n : ℕ) (x : List ℕ) (h : (n, x) ≡ decoded_into line buffer) where
  bytes_are : take (n - 0) x ≡ bytes_of line
  bytes_are = heard_front line buffer long n x h

  pub misshapen : None ≡ (if is_opening (take (n - 0) x) then Some (opening_read (take (n - 0) x)) else None) → is_opening (bytes_of line) ≡ false
  misshapen e = ap is_opening (sym bytes_are) ∙ read_wrong (is_opening (take (n - 0) x)) (opening_read (take (n - 0) x)) e

  module _ (asked : Opening) (e : Some asked ≡ (if is_opening (take (n - 0) x) then Some (opening_read (take (n - 0) x)) else None)) where
    asked_is : asked ≡ opening_read (bytes_of line)
    asked_is = read_fields (is_opening (take (n - 0) x)) (opening_read (take (n - 0) x)) asked e ∙ ap opening_read bytes_are

    right : is_opening (bytes_of line) ≡ true
    right = ap is_opening (sym bytes_are) ∙ read_right (is_opening (take (n - 0) x)) (opening_read (take (n - 0) x)) asked e

    count_is : n ≡ length (bytes_of line)
    unfolding decoded_into
    count_is = ap (λ (p : ℕ × List ℕ). p.0) h

    pub kinds_start : 6 ≤ n
    kinds_start = omega (arith, count_is, opening_size (bytes_of line) right)

    kinds_are : take (n - 6) (drop 6 x) ≡ drop 6 (bytes_of line)
    kinds_are =
        let whole : n - 0 ≡ 6 + (n - 6) = omega (arith, kinds_start) in
        let six : length (take 6 x) ≡ 6 = length-take-le 6 x (omega (arith, kinds_start, heard_room line buffer long n x h)) in
        sym (drop_at (take 6 x) (take (n - 6) (drop 6 x)) 6 six) ∙ ap (drop 6) (sym (take-add 6 (n - 6) x) ∙ ap (λ (i : ℕ). take i x) (sym whole) ∙ bytes_are)

    pub open_heard : (words y : List ℕ) (r : Result (Unit {0}) ℕ) →
        (r, y) ≡ opened_as words (meaning.open_table (length words) (space_for asked.stations asked.capacity) (header_of asked.stations asked.own asked.capacity (take (n - 6) (drop 6 x)))) → (r, y) ≡ opened_by line words
    unfolding opened_by header_read
    open_heard words y r g = rw right (g ∙ rw (kinds_are, asked_is) refl)
