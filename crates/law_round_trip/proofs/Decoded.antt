-- A line that is decoded is the one spelling of its bytes, and what is read of it.
use Prim.Native.Nat.{ℕ, zero, suc, ◌+◌, ◌*◌, ◌≤◌, ◌<◌, ◌-◌}
use mathlib.Core.Path.{◌≡◌, refl, sym, ap, ◌∙◌}
use mathlib.Core.Bool.{Bool, true, false, ◌&&◌, false≢true}
use mathlib.Core.List.{List, [], ◌∷◌, ◌++◌}
use native.Mathlib.Omega.{arith}
use lib.Dec.{leb, ltb}
use lib.ListN.{length, get_or, take, drop, length-replicate, replicate}
use lib.Seq.{take_at, drop-drop}
use borrow.Author.Tests.{lt-ltb}
use Rattle.meaning.specs.Tests.{every}
use Rattle.meaning.specs.Order.{entry_limit}
use Rattle.line_hex.specs.Choice.{pick}
use Rattle.line_hex.specs.Hex.{hex_line}
use Rattle.line_hex.specs.Numbers.{AllBytes, big_endian, number_from, number_of}
use Rattle.line_hex.specs.Decoding.{is_line, pairs}
use Rattle.line_hex.proofs.Spelling.{line_only_spelling}
use Rattle.line_hex.proofs.Bytes.{all_bytes_drop, all_bytes_take}
use Rattle.line_shape.specs.declared.Fields.{Fields}
use Rattle.line_shape.specs.Reading as shapes
use Rattle.line_shape.specs.Reading.{is_shaped, entries, fields_read, has_shape, size_of, unread}
use Rattle.line_shape.specs.Shapes.{length_of, read, written}
use Rattle.line_shape.proofs.Spelling.{length_read}
use Rattle.line_put.specs.Writing.{line_bytes}
use Rattle.line_read.specs.Types.{is_line_of, Line, head_of, line_of, line_read, longest}
use Rattle.line_read.specs.SavedNamed.{row_read, total_read}
use Rattle.line_decode.specs.Decoding.{bytes_of}
use Rattle.meaning.specs.Table.{greatest_size}
use Rattle.meaning.specs.Operations.{value_limit}
use Rattle.words_layout.specs.Words.{word_limit}

decoded_spelt : (line : List ℕ) → (bytes_of line ≡ [] → ⊥) → hex_line (bytes_of line) ≡ line
unfolding bytes_of
decoded_spelt line some = by (is_line longest line) refl some
  where
    by : (b : Bool) → is_line longest line ≡ b → (pick b (pairs longest line) [] ≡ [] → ⊥) → hex_line (pick b (pairs longest line) []) ≡ line
    by true e n = line_only_spelling longest line e
    by false e n = absurd (n refl)

-- no line has no bytes
line_some : (type : Line) (fields more : List ℕ) → line_of type fields more ≡ [] → ⊥
unfolding line_bytes written big_endian
line_some type fields more e = let none = ap length e in omega arith

-- so the bytes of a line say which line it was
pub line_said : (type : Line) (fields more line : List ℕ) → line_of type fields more ≡ bytes_of line → line ≡ hex_line (line_of type fields more)
line_said type fields more line e = sym (ap hex_line e ∙ decoded_spelt line (λ z. line_some type fields more (e ∙ z)))

-- a vector that was read has zeros behind it
padded_by : (b : Bool) (stations : ℕ) (head found : List ℕ) → length found ≡ stations →
    let whole : Fields = record { head = head; vector = found ++ replicate (greatest_size - length found) 0 } in
    b ≡ true → (pick b whole unread).vector ≡ take stations (pick b whole unread).vector ++ replicate (greatest_size - length (take stations (pick b whole unread).vector)) 0
padded_by true stations head found long e = rw (take_at found (replicate (greatest_size - length found) 0) stations long) refl
padded_by false stations head found long e = absurd (let z : ◌≡◌ {A = ℕ} 0 1 = cc in omega arith)

pub vector_padded : (type : Line) (stations : ℕ) (bytes : List ℕ) → is_line_of type stations bytes ≡ true → (line_read type stations bytes).vector ≡ shapes.padded greatest_size (take stations (line_read type stations bytes).vector)
unfolding line_read is_line_of is_shaped fields_read entries shapes.padded
vector_padded type stations bytes =
    padded_by (leb stations greatest_size && has_shape type.type_byte (size_of (head_of type) stations) bytes) stations (shapes.padded 6 (read (head_of type) bytes)) (read (replicate stations 4) (drop (length_of (head_of type)) bytes))
    (length_read (replicate stations 4) (drop (length_of (head_of type)) bytes) ∙ length-replicate stations 4)

length_take_most : (k : ℕ) (l : List ℕ) → length (take k l) ≤ k
length_take_most zero l = omega arith
length_take_most (suc k) [] = omega arith
length_take_most (suc k) (x ∷ l) = omega (arith, length_take_most k l)

-- four bytes make a word
four_small : (bs : List ℕ) → AllBytes bs → length bs ≤ 4 → number_of bs < word_limit
unfolding number_from AllBytes
four_small [] h k = omega arith
four_small (a ∷ []) h k = omega (arith, h.0)
four_small (a ∷ b ∷ []) h k = omega (arith, h.0, h.1.0)
four_small (a ∷ b ∷ c ∷ []) h k = omega (arith, h.0, h.1.0, h.1.1.0)
four_small (a ∷ b ∷ c ∷ d ∷ []) h k = omega (arith, h.0, h.1.0, h.1.1.0, h.1.1.1.0)
four_small (a ∷ b ∷ c ∷ d ∷ e ∷ bs) h k = absurd (omega arith)

word_small : (k : ℕ) (bs : List ℕ) → AllBytes bs → number_of (take 4 (drop k bs)) < word_limit
word_small k bs h = four_small (take 4 (drop k bs)) (all_bytes_take 4 (drop k bs) (all_bytes_drop k bs h)) (length_take_most 4 (drop k bs))

-- "N unsigned 32-bit entries"
entries_small : (n : ℕ) (bs : List ℕ) → AllBytes bs → every (λ (entry : ℕ). ltb entry entry_limit) (read (replicate n 4) bs) ≡ true
unfolding read
entries_small zero bs h = refl
entries_small (suc n) bs h = rw (lt-ltb (number_of (take 4 bs)) entry_limit (word_small 0 bs h)) (entries_small n (drop 4 bs) (all_bytes_drop 4 bs h))

small_by : (b : Bool) (stations : ℕ) (head found : List ℕ) → length found ≡ stations → every (λ (entry : ℕ). ltb entry entry_limit) found ≡ true →
    let whole : Fields = record { head = head; vector = found ++ replicate (greatest_size - length found) 0 } in
    b ≡ true → every (λ (entry : ℕ). ltb entry entry_limit) (take stations (pick b whole unread).vector) ≡ true
small_by true stations head found long small e = rw (take_at found (replicate (greatest_size - length found) 0) stations long) small
small_by false stations head found long small e = absurd (false≢true e)

pub vector_small : (type : Line) (stations : ℕ) (bytes : List ℕ) → AllBytes bytes → is_line_of type stations bytes ≡ true → every (λ (entry : ℕ). ltb entry entry_limit) (take stations (line_read type stations bytes).vector) ≡ true
unfolding line_read is_line_of is_shaped fields_read entries shapes.padded
vector_small type stations bytes h =
    let behind = drop (length_of (head_of type)) bytes in
    small_by (leb stations greatest_size && has_shape type.type_byte (size_of (head_of type) stations) bytes) stations (shapes.padded 6 (read (head_of type) bytes)) (read (replicate stations 4) behind)
    (length_read (replicate stations 4) behind ∙ length-replicate stations 4) (entries_small stations behind (all_bytes_drop (length_of (head_of type)) bytes h))

words_by : (b : Bool) (head vector : List ℕ) (i : ℕ) → get_or head i 0 < word_limit →
    let whole : Fields = record { head = head; vector = vector } in
    get_or (pick b whole unread).head i 0 < word_limit
words_by true head vector i h = h
words_by false head vector i h = zeros_small 6 i
  where
    zeros_small : (n i : ℕ) → get_or (replicate n 0) i 0 < word_limit
    zeros_small zero zero = omega arith
    zeros_small zero (suc i) = omega arith
    zeros_small (suc n) zero = omega arith
    zeros_small (suc n) (suc i) = zeros_small n i

module _ (bytes : List ℕ) (h : AllBytes bytes) where
  word_at : (k : ℕ) (l : List ℕ) → l ≡ drop k bytes → number_of (take 4 l) < word_limit
  word_at k l e = rw e (word_small k bytes h)

  pub high_small : (total_read bytes).high < word_limit
  unfolding total_read line_read fields_read is_shaped shapes.padded read length_of
  high_small = words_by (leb 0 greatest_size && has_shape 82 (10 + 4 * 0) bytes) _ _ 2 (word_at 2 _ (drop-drop 1 1 bytes))

  pub low_small : (total_read bytes).low < word_limit
  unfolding total_read line_read fields_read is_shaped shapes.padded read length_of
  low_small = words_by (leb 0 greatest_size && has_shape 82 (10 + 4 * 0) bytes) _ _ 3 (word_at 6 (drop 4 (drop 1 (drop 1 bytes))) (rw (drop-drop 1 1 bytes, drop-drop 4 2 bytes) refl))

  pub value_small : (size : ℕ) → (row_read size bytes).value < value_limit
  unfolding row_read line_read fields_read is_shaped shapes.padded read length_of
  value_small size = words_by (leb size greatest_size && has_shape 83 (9 + 4 * size) bytes) _ _ 5 (word_at 5 (drop 1 (drop 1 (drop 1 (drop 1 (drop 1 bytes))))) (rw (drop-drop 1 1 bytes, drop-drop 1 2 bytes, drop-drop 1 3 bytes, drop-drop 1 4 bytes) refl))
