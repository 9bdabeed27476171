-- What a reader finds right is a line of its type and length, and the other way.
use Rattle.line_read.specs.Named.{is_opening, is_operation, is_issue, is_settling, is_question, count_of, stations_of, opening_of, issue_read, opening_read, operation_read, printing_read, question_read, settling_read}
use mathlib.Core.Path.{◌≡◌, refl, sym, ap, ◌∙◌}
use mathlib.Core.Bool.{Bool, true, false, ◌&&◌}
use mathlib.Core.List.{List, [], ◌∷◌, ◌++◌}
use Prim.Native.Nat.{ℕ, zero, suc, ◌+◌, ◌-◌, ◌*◌, ◌<◌}
use native.Mathlib.Omega.{arith}
use lib.Dec.{eqb, leb, ltb}
use lib.ListN.{length, take, drop, replicate}
use borrow.Author.Tests.{lt-ltb}
use Rattle.meaning.specs.Tests.{every}
use Rattle.meaning.specs.Order.{entry_limit}
use Rattle.meaning.specs.Table.{Header, greatest_size}
use Rattle.meaning.specs.Refusals.{well_shaped}
use Rattle.meaning.proofs.Tests.{and_both, and_fails, and_left, and_right}
use Rattle.line_hex.specs.Choice.{pick}
use Rattle.line_hex.specs.Decoding.{is_line, pairs}
use Rattle.line_hex.specs.Numbers.{AllBytes, number_from, number_of}
use Rattle.line_hex.proofs.Bytes.{all_bytes_drop}
use Rattle.line_shape.specs.Reading.{entries, fields_read, has_shape, is_shaped, padded, size_of, starts_with, unread}
use Rattle.line_shape.specs.Shapes.{length_of, read}
use Rattle.line_shape.specs.declared.Fields.{Fields}
use Rattle.line_read.specs.Types as types
use Rattle.line_read.specs.Types.{Line, head_of, is_of, line_read, opening, operation, issue, settling, question, printing, longest}
use Rattle.line_read.proofs.Named.{operation_stations, operation_vector_length}
use Rattle.line_decode.specs.Decoding.{bytes_of}
use Rattle.call_checked.specs.Called.{frame_of}
use Rattle.law_agreement.specs.Conditions.{is_line_of}
use Rattle.words_layout.specs.Words.{word_limit}

-- no bytes are no line
none_of : (type : Line) (more : ℕ) → is_of type more [] ≡ false
unfolding is_of has_shape starts_with
none_of type more = and_fails (eqb 0 (length_of (head_of type) + type.each * more)) false (λ _. refl)

line_of : (type : Line) (more : ℕ) (line : List ℕ) → is_line_of type more line ≡ is_of type more (bytes_of line)
unfolding is_line_of bytes_of
line_of type more line = by (is_line longest line)
  where
    by : (b : Bool) → (b && is_of type more (pick b (pairs longest line) [])) ≡ is_of type more (pick b (pairs longest line) [])
    by true = refl
    by false = sym (none_of type more)

-- a line of vectors: at most 16 entries, and its shape
shaped_is : (type : Line) → type.each ≡ 4 → (stations : ℕ) (bytes : List ℕ) → types.is_line_of type stations bytes ≡ (leb stations greatest_size && is_of type stations bytes)
unfolding types.is_line_of is_shaped is_of
shaped_is type four stations bytes = ap (λ (w : ℕ). leb stations greatest_size && has_shape type.type_byte (length_of (head_of type) + w * stations) bytes) (sym four)

module _ (line : List ℕ) where
  abbrev bytes : List ℕ
  bytes = bytes_of line

  pub opening_shaped : is_opening bytes ≡ is_line_of opening (count_of bytes) line
  unfolding is_opening
  opening_shaped = sym (line_of opening (count_of bytes) line)

  pub issue_shaped : is_issue bytes ≡ is_line_of issue 0 line
  unfolding is_issue
  issue_shaped = shaped_is issue refl 0 bytes ∙ sym (line_of issue 0 line)

  pub settling_shaped : is_settling bytes ≡ is_line_of settling 0 line
  unfolding is_settling
  settling_shaped = shaped_is settling refl 0 bytes ∙ sym (line_of settling 0 line)

  pub question_shaped : is_question bytes ≡ is_line_of question 0 line
  unfolding is_question
  question_shaped = shaped_is question refl 0 bytes ∙ sym (line_of question 0 line)

  pub printing_shaped : printing_read bytes ≡ is_line_of printing 0 line
  unfolding printing_read
  printing_shaped = sym (line_of printing 0 line)

  pub operation_shaped : is_operation bytes ≡ (leb (stations_of bytes) greatest_size && is_line_of operation (stations_of bytes) line)
  unfolding is_operation
  operation_shaped = shaped_is operation refl (stations_of bytes) bytes ∙ ap (λ (b : Bool). leb (stations_of bytes) greatest_size && b) (sym (line_of operation (stations_of bytes) line))

-- fields of one byte and of four
pub one_byte : (bs : List ℕ) → AllBytes bs → number_of (take 1 bs) < 256
unfolding AllBytes number_from
one_byte [] h = omega arith
one_byte (a ∷ bs) h = omega (arith, h.0)

pub four_bytes : (bs : List ℕ) → AllBytes bs → number_of (take 4 bs) < word_limit
unfolding AllBytes number_from
four_bytes [] h = omega arith
four_bytes (a ∷ []) h = omega (arith, h.0)
four_bytes (a ∷ b ∷ []) h = omega (arith, h.0, h.1.0)
four_bytes (a ∷ b ∷ c ∷ []) h = omega (arith, h.0, h.1.0, h.1.1.0)
four_bytes (a ∷ b ∷ c ∷ d ∷ bs) h = omega (arith, h.0, h.1.0, h.1.1.0, h.1.1.1.0)

-- "N unsigned 32-bit entries"
abbrev small : ℕ → Bool
small entry = ltb entry entry_limit

small_read : (n : ℕ) (bs : List ℕ) → AllBytes bs → every small (read (replicate n 4) bs) ≡ true
unfolding read
small_read zero bs h = refl
small_read (suc n) bs h = rw (lt-ltb (number_of (take 4 bs)) entry_limit (four_bytes bs h)) (small_read n (drop 4 bs) (all_bytes_drop 4 bs h))

small_zeros : (n : ℕ) → every small (replicate n 0) ≡ true
small_zeros zero = refl
small_zeros (suc n) = small_zeros n

small_append : (a b : List ℕ) → every small a ≡ true → every small b ≡ true → every small (a ++ b) ≡ true
small_append [] b h k = k
small_append (x ∷ a) b h k = and_both (small x) (every small (a ++ b)) (and_left (small x) (every small a) h) (small_append a b (and_right (small x) (every small a) h) k)

small_take : (n : ℕ) (l : List ℕ) → every small l ≡ true → every small (take n l) ≡ true
small_take zero l h = refl
small_take (suc n) [] h = refl
small_take (suc n) (x ∷ l) h = and_both (small x) (every small (take n l)) (and_left (small x) (every small l) h) (small_take n l (and_right (small x) (every small l) h))

module _ (bytes : List ℕ) (h : AllBytes bytes) where
  small_vector : every small (operation_read bytes).vector ≡ true
  unfolding operation_read line_read fields_read is_shaped padded entries
  small_vector = by (leb (stations_of bytes) greatest_size && has_shape 32 (size_of (head_of operation) (stations_of bytes)) bytes)
    where
      vector : List ℕ
      vector = read (replicate (stations_of bytes) 4) (drop (length_of (head_of operation)) bytes)

      by : (b : Bool) → every small (pick b (record { head = padded 6 (read (head_of operation) bytes); vector = vector ++ replicate (greatest_size - length vector) 0 }) unread).vector ≡ true
      by true = small_append vector (replicate (greatest_size - length vector) 0) (small_read (stations_of bytes) (drop (length_of (head_of operation)) bytes) (all_bytes_drop (length_of (head_of operation)) bytes h)) (small_zeros (greatest_size - length vector))
      by false = small_zeros greatest_size

  -- "a frame's N not the table's" is all that is left of 1 where the line is right
  pub frame_shaped : is_operation bytes ≡ true → (header : Header) → well_shaped header (frame_of (operation_read bytes)) ≡ eqb (stations_of bytes) header.size
  unfolding well_shaped frame_of
  frame_shaped ok header =
      let f = operation_read bytes in
      rw (operation_vector_length bytes ok, operation_stations bytes ok, small_take (stations_of bytes) (operation_read bytes).vector small_vector) (twice (eqb (stations_of bytes) header.size))
    where
      twice : (b : Bool) → (b && (b && true)) ≡ b
      twice true = refl
      twice false = refl
