-- "every frame and saved line we write reads back as what was written, and nothing else is accepted as its spelling": lines of hexadecimal.
use Prim.Native.Nat.{ℕ, zero, suc, ◌+◌, ◌*◌, ◌/◌, ◌%◌, ◌≤◌, ◌<◌}
use mathlib.Core.Path.{◌≡◌, refl, ap}
use mathlib.Core.Bool.{Bool, true, false, ◌&&◌}
use mathlib.Core.List.{List, [], ◌∷◌, ◌++◌}
use native.Mathlib.Omega.{arith}
use borrow.Author.Tests.{eqb-false, eqb-true, ne_eqb}
use lib.Dec.{eqb}
use lib.ListN.{length, get_or, take, drop, drop_of_length-le, length-drop, take-append-drop}
use lib.Seq.{drop_at, drop-cons, get_or-take, length-take-le, take_at}
use Rattle.std.proofs.Common.{Some, None}
use Rattle.line_hex.specs.Choice.{pick}
use Rattle.line_hex.specs.Hex.{digits_of, hex_line, is_digit, lf, value_of}
use Rattle.line_hex.specs.Numbers.{AllBytes}
use Rattle.line_hex.specs.Decoding.{byte_of, decoded, is_line, just_lf, line_type, pair_of, pairs, refusal_of}
use Rattle.line_hex.proofs.Digits.{and_left, and_right, digit_digit_of, digit_small, digit_value_of, value_digit_of}
use Rattle.line_hex.proofs.Writing.{length_digits}

pairs_written : (room : ℕ) (bs : List ℕ) → AllBytes bs → length bs ≤ room → pairs room (digits_of bs ++ (lf ∷ [])) ≡ bs
unfolding pairs digits_of AllBytes
pairs_written zero [] h k = refl
pairs_written (suc room) [] h k = refl
pairs_written zero (b ∷ bs) h k = absurd (omega arith)
pairs_written (suc room) (b ∷ bs) h k =
    let small : b < 256 = h.0 in
    let whole : b / 16 * 16 + b % 16 ≡ b = omega arith in
    rw (digit_digit_of (b / 16) (omega arith), digit_digit_of (b % 16) (omega arith), value_digit_of (b / 16) (omega arith), value_digit_of (b % 16) (omega arith), whole, pairs_written room bs h.1 (omega arith)) refl

-- what is written reads back, wherever it fits
pub line_reads_back : (bs buffer : List ℕ) → AllBytes bs → length bs ≤ length buffer → decoded (hex_line bs) buffer ≡ (Some (length bs), bs ++ drop (length bs) buffer)
unfolding decoded is_line hex_line just_lf
line_reads_back bs buffer h k = rw (pairs_written (length buffer) bs h k, drop_at (digits_of bs) (lf ∷ []) (2 * length bs) (length_digits bs)) refl

-- the digits of the leading pairs are the characters that stand there
digits_pairs : (room : ℕ) (line : List ℕ) → digits_of (pairs room line) ≡ take (2 * length (pairs room line)) line
unfolding pairs digits_of
digits_pairs zero line = refl
digits_pairs (suc room) [] = refl
digits_pairs (suc room) (h ∷ []) = refl
digits_pairs (suc room) (h ∷ l ∷ line) = go (is_digit h && is_digit l) refl (digits_pairs room line)
  where
    go : (t : Bool) → is_digit h && is_digit l ≡ t → digits_of (pairs room line) ≡ take (2 * length (pairs room line)) line → digits_of (pick t (byte_of h l ∷ pairs room line) []) ≡ take (2 * length (pick t (byte_of h l ∷ pairs room line) [])) (h ∷ l ∷ line)
    go false e rest = refl
    go true e rest =
        let dh : is_digit h ≡ true = and_left (is_digit h) (is_digit l) e in
        let dl : is_digit l ≡ true = and_right (is_digit h) (is_digit l) e in
        let kh : value_of h < 16 = digit_small h dh in
        let kl : value_of l < 16 = digit_small l dl in
        let q : byte_of h l / 16 ≡ value_of h = omega arith in
        let r : byte_of h l % 16 ≡ value_of l = omega arith in
        let two : 2 * suc (length (pairs room line)) ≡ suc (suc (2 * length (pairs room line))) = omega arith in
        rw (q, r, digit_value_of h dh, digit_value_of l dl, two, rest) refl

just_lf_lem : (l : List ℕ) → just_lf l ≡ true → l ≡ lf ∷ []
unfolding just_lf
just_lf_lem [] h = absurd (let z : ◌≡◌ {A = ℕ} 0 1 = cc in omega arith)
just_lf_lem (c ∷ []) h = ap (λ (x : ℕ). x ∷ []) (eqb-true c lf h)
just_lf_lem (c ∷ d ∷ l) h = absurd (let z : ◌≡◌ {A = ℕ} 0 1 = cc in omega arith)

-- whatever is read is what would be written
pub line_only_spelling : (room : ℕ) (line : List ℕ) → is_line room line ≡ true → hex_line (pairs room line) ≡ line
unfolding is_line hex_line
line_only_spelling room line h = rw (digits_pairs room line, ← just_lf_lem (drop (2 * length (pairs room line)) line) h) (take-append-drop (2 * length (pairs room line)) line)

-- the same of the answer: where `count` bytes are given, their spelling is the line
pub decoded_only_spelling : (line buffer : List ℕ) (count : ℕ) → (decoded line buffer).0 ≡ Some count → hex_line (take count (decoded line buffer).1) ≡ line
unfolding decoded
decoded_only_spelling line buffer count = go (is_line (length buffer) line) refl
  where
    go : (t : Bool) → is_line (length buffer) line ≡ t → pick t (Some (length (pairs (length buffer) line))) None ≡ Some count → hex_line (take count (pairs (length buffer) line ++ drop (length (pairs (length buffer) line)) buffer)) ≡ line
    go true e f = let many : length (pairs (length buffer) line) ≡ count = cc in rw (take_at (pairs (length buffer) line) (drop (length (pairs (length buffer) line)) buffer) count many) (line_only_spelling (length buffer) line e)
    go false e f = absurd (let z : ◌≡◌ {A = ℕ} 0 1 = cc in omega arith)

-- what is read is bytes
pub all_bytes_pairs : (room : ℕ) (line : List ℕ) → AllBytes (pairs room line)
unfolding pairs AllBytes
all_bytes_pairs zero line = tt
all_bytes_pairs (suc room) [] = tt
all_bytes_pairs (suc room) (h ∷ []) = tt
all_bytes_pairs (suc room) (h ∷ l ∷ line) = go (is_digit h && is_digit l) refl (all_bytes_pairs room line)
  where
    go : (t : Bool) → is_digit h && is_digit l ≡ t → AllBytes (pairs room line) → AllBytes (pick t (byte_of h l ∷ pairs room line) [])
    go false e rest = tt
    go true e rest =
        let kh : value_of h < 16 = digit_small h (and_left (is_digit h) (is_digit l) e) in
        let kl : value_of l < 16 = digit_small l (and_right (is_digit h) (is_digit l) e) in
        (omega arith, rest)

pub all_bytes_decoded : (line buffer : List ℕ) (count : ℕ) → (decoded line buffer).0 ≡ Some count → AllBytes (take count (decoded line buffer).1)
unfolding decoded
all_bytes_decoded line buffer count = go (is_line (length buffer) line)
  where
    go : (t : Bool) → pick t (Some (length (pairs (length buffer) line))) None ≡ Some count → AllBytes (take count (pairs (length buffer) line ++ drop (length (pairs (length buffer) line)) buffer))
    go true f = let many : length (pairs (length buffer) line) ≡ count = cc in rw (take_at (pairs (length buffer) line) (drop (length (pairs (length buffer) line)) buffer) count many) (all_bytes_pairs (length buffer) line)
    go false f = absurd (let z : ◌≡◌ {A = ℕ} 0 1 = cc in omega arith)

-- a line that is too long for the buffer, and its first characters without LF

long_no_lf : (l : List ℕ) → 2 ≤ length l → just_lf l ≡ false
unfolding just_lf
long_no_lf [] h = absurd (omega arith)
long_no_lf (c ∷ []) h = absurd (omega arith)
long_no_lf (c ∷ d ∷ l) h = refl

at_most_room : (room : ℕ) (line : List ℕ) → length (pairs room line) ≤ room
unfolding pairs
at_most_room zero line = omega arith
at_most_room (suc room) [] = omega arith
at_most_room (suc room) (h ∷ []) = omega arith
at_most_room (suc room) (h ∷ l ∷ line) = go (is_digit h && is_digit l) (at_most_room room line)
  where
    go : (t : Bool) → length (pairs room line) ≤ room → length (pick t (byte_of h l ∷ pairs room line) []) ≤ suc room
    go true rest = omega arith
    go false rest = omega arith

pairs_cut : (room n : ℕ) (line : List ℕ) → 2 * room ≤ n → pairs room (take n line) ≡ pairs room line
unfolding pairs
pairs_cut zero n line h = refl
pairs_cut (suc room) zero line h = absurd (omega arith)
pairs_cut (suc room) (suc zero) line h = absurd (omega arith)
pairs_cut (suc room) (suc (suc n)) [] h = refl
pairs_cut (suc room) (suc (suc n)) (c ∷ []) h = refl
pairs_cut (suc room) (suc (suc n)) (c ∷ d ∷ line) h = rw (pairs_cut room n line (omega arith)) refl

last_no_lf : (room count : ℕ) (line : List ℕ) → count ≤ room → 2 * room + 1 < length line → (get_or line (2 * room) 0 ≡ lf → ⊥) → just_lf (drop (2 * count) (take (2 * room + 1) line)) ≡ false
unfolding just_lf
last_no_lf room count line k h other = go (eqb count room) refl
  where
    long : length (take (2 * room + 1) line) ≡ 2 * room + 1
    long = length-take-le (2 * room + 1) line (omega arith)

    go : (t : Bool) → eqb count room ≡ t → just_lf (drop (2 * count) (take (2 * room + 1) line)) ≡ false
    go true e =
        let all : 2 * count ≡ 2 * room = omega (arith, eqb-true count room e) in
        let past : length (take (2 * room + 1) line) ≤ suc (2 * room) = omega (arith, long) in
        rw (all, drop-cons (take (2 * room + 1) line) (2 * room) 0 (omega (arith, long)), drop_of_length-le (take (2 * room + 1) line) past, get_or-take (2 * room + 1) line (2 * room) 0 (omega arith), ne_eqb (get_or line (2 * room) 0) lf other) refl
    go false e = long_no_lf (drop (2 * count) (take (2 * room + 1) line)) (rw (length-drop (2 * count) (take (2 * room + 1) line), long) (omega (arith, eqb-false count room e)))

-- A line of more bytes than the buffer holds gets what its first characters get, as many as the longest line has, where no LF ends them.
pub cut_of_long : (line buffer : List ℕ) → 2 * length buffer + 1 < length line → (get_or line (2 * length buffer) 0 ≡ lf → ⊥) → decoded (take (2 * length buffer + 1) line) buffer ≡ decoded line buffer
unfolding decoded is_line
cut_of_long line buffer h other =
    let count : length (pairs (length buffer) line) ≤ length buffer = at_most_room (length buffer) line in
    let past : 2 ≤ length (drop (2 * length (pairs (length buffer) line)) line) = rw (length-drop (2 * length (pairs (length buffer) line)) line) (omega arith) in
    rw (pairs_cut (length buffer) (2 * length buffer + 1) line (omega arith), long_no_lf (drop (2 * length (pairs (length buffer) line)) line) past, last_no_lf (length buffer) (length (pairs (length buffer) line)) line count h other) refl

-- and its type
pub cut_type : (line : List ℕ) (n : ℕ) → line_type (take (suc (suc n)) line) ≡ line_type line
unfolding pair_of
cut_type [] n = refl
cut_type (c ∷ []) n = refl
cut_type (c ∷ d ∷ line) n = refl

-- refused with 1 exactly where it is no line
pub refused_unless_line : (line buffer : List ℕ) → refusal_of (decoded line buffer).0 ≡ pick (is_line (length buffer) line) 0 1
unfolding decoded
refused_unless_line line buffer = go (is_line (length buffer) line)
  where
    go : (t : Bool) → refusal_of (pick t (Some (length (pairs (length buffer) line))) None) ≡ pick t 0 1
    go true = refl
    go false = refl
