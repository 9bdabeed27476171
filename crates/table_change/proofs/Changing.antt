-- A change of the words at one part is the change of the record at that part.
use Rattle.std.proofs.Common.{◌≡◌, ℕ, ◌+◌, ◌-◌, ◌*◌, ◌≤◌, not, List, [], ◌++◌, length, take, drop, set, sym, refl, ap, ◌∙◌, append-nil, mul-le-mul, arith, length-drop, drop_of_length-le, take_all}
use lib.ListN.{length-map}
use Rattle.meaning.specs.Tests.{those}
use Rattle.meaning.specs.Order.{Vector}
use Rattle.meaning.specs.Rows.{Row}
use Rattle.meaning.specs.Calls.{with_rows}
use Rattle.words_layout.specs.Words.{flat, padded}
use Rattle.words_layout.specs.Layout.{Laid, row_of, table_of, rewritten, size_in, count_in, rows_in, rows_at, row_width}
use Rattle.words_layout.proofs.Pieces.{those_map}
use Rattle.words_layout.proofs.Whole.{area, put_filtered}
use Rattle.table_drop.specs.Arriving.{operation_of, goes, row_goes, left_by, staying}
use Rattle.table_drop.specs.declared.Arrival.{Arrival}
use Rattle.table_change.specs.Changes.{Opened, rows_left}
use Rattle.meaning.specs.Table.{greatest_size, greatest_capacity}

pub opened : (s : List ℕ) (n count : ℕ) → Laid s → n ≡ size_in s → count ≡ count_in s → Opened s n count
opened s n count T en ec =
    let few : n ≤ greatest_size = omega (arith, T.few) in
    let less : count ≤ greatest_capacity n = omega (arith, T.within, T.small) in
    record {
      laid = T;
      size_is = en;
      count_is = ec;
      few = few;
      less = less;
      square = mul-le-mul few few;
      area = mul-le-mul less (let q : 7 + n ≤ row_width greatest_size = omega arith in q);
      room = rw (en, ec) (omega (arith, T.room, area s T));
    }

-- the part from a place to the end
pub all_of : (s : List ℕ) (a : ℕ) → take (length s - a) (drop a s) ≡ drop a s
all_of s a = take_all (length s - a) (drop a s) (simp length-drop (omega arith))

pub nothing_behind : (s : List ℕ) (a : ℕ) → drop (length s - a) (drop a s) ≡ []
nothing_behind s a = drop_of_length-le (drop a s) {i = length s - a} (simp length-drop (omega arith))

-- rows dropped
module _ (s : List ℕ) (n count : ℕ) (a : Arrival) (v : Vector) (O : Opened s n count) (base : ℕ) (start : base ≡ rows_at n) where
  abbrev part : List ℕ
  part = take (length s - base) (drop base s)

  left_words : List (List ℕ)
  left_words = those (λ (ws : List ℕ). not (row_goes a v ws)) (rows_in s)

  staying_is : staying a v (7 + n) count part ≡ left_words
  unfolding left_by left_words
  staying_is = rw (all_of s base, start, O.size_is, O.count_is) refl

  rows_are_lem : length (rows_left a v (table_of s)) ≡ length left_words
  unfolding rows_left table_of left_words
  rows_are_lem = rw (those_map row_of (λ (row : Row). not (goes a.kind (operation_of a v) row)) (rows_in s), length-map) refl

  pub left_count : (k : ℕ) → k ≡ length (staying a v (7 + n) count part) → k ≡ length (rows_left a v (table_of s))
  left_count k e = e ∙ ap length staying_is ∙ sym rows_are_lem

  pub dropped : (k : ℕ) (x : List ℕ) → k ≡ length (staying a v (7 + n) count part) → x ≡ padded (count * (7 + n)) (flat (staying a v (7 + n) count part)) ++ drop (count * (7 + n)) part →
      set (take base s ++ (x ++ drop (length s - base) (drop base s))) 5 k ≡ rewritten s (with_rows (table_of s) (rows_left a v (table_of s)))
  unfolding rows_left left_words
  dropped k x c e =
      rw (nothing_behind s base, append-nil, start, O.size_is)
      (put_filtered s O.laid (λ (row : Row). not (goes a.kind (operation_of a v) row)) x k
      (rw (staying_is, all_of s base, start, O.size_is, O.count_is) at e)
      (rw staying_is at c))
