-- Arrays that a loop fills from the front with the fields of bytes.
use Rattle.std.proofs.Common.{◌≡◌, ℕ, suc, ◌+◌, ◌-◌, ◌≤◌, ◌<◌, true, List, [], ◌∷◌, ◌++◌, length, get_or, take, drop, set, replicate, min, refl, sym, ◌∙◌, ap, arith, add-one, drop-cons, append-nil}
use lib.ListN.{drop_of_length-le, length-set, take-append-drop, length-replicate}
use lib.Seq.{append_snoc, drop-drop, drop-set-lt, length-take-le, take-suc-set}
use Rattle.std.proofs.lemmas.List.{drop_min, take_min}
use Rattle.line_hex.specs.Numbers.{number_of}
use Rattle.line_shape.specs.Shapes.{narrow, read}
use Rattle.line_shape.specs.Reading.{padded}
use Rattle.line_shape.proofs.Spelling.{narrow_at}

-- of `all`, `i` numbers stand in an array of m, and `left` are to come
pub record Filling (m : ℕ) (all array left : List ℕ) (i : ℕ) : Type 0 where
  pub same : all ≡ take i array ++ left
  pub rest : drop i array ≡ replicate (m - i) 0
  pub long : length array ≡ m

filling_turn : (m : ℕ) (all array left : List ℕ) (i n : ℕ) (more : List ℕ) → Filling m all array left i → left ≡ n ∷ more → i < m → Filling m all (set array i n) more (i + 1)
filling_turn m all array left i n more F e h =
    let fits : i < length array = omega (arith, F.long) in
    let one : m - i ≡ suc (m - (i + 1)) = omega arith in
    record {
      same = F.same ∙ rw (e, add-one i, take-suc-set array i n fits) (sym (append_snoc (take i array) n more));
      rest = drop-set-lt (i + 1) array i n (omega arith) ∙ rw (← drop-drop 1 i array, F.rest, one) refl;
      long = length-set array i n ∙ F.long;
    }

filling_done : (m : ℕ) (all array left : List ℕ) (i : ℕ) → Filling m all array left i → left ≡ [] → i ≤ m → array ≡ padded m all
unfolding padded
filling_done m all array left i F e h =
    let whole : all ≡ take i array = F.same ∙ rw (e, append-nil) refl in
    let many : length all ≡ i = ap length whole ∙ length-take-le i array (omega (arith, F.long)) in
    rw (many, whole, ← F.rest) (sym (take-append-drop i array))

-- `i` fields stand in an array of m, and `rest` is behind them
pub record Heading (m : ℕ) (bytes widths fields rest : List ℕ) (i : ℕ) : Type 0 where
  pub filled : Filling m (read widths bytes) fields (read (drop i widths) rest) i
  pub within : i ≤ length widths

pub heading_start : (m : ℕ) (bytes widths : List ℕ) → Heading m bytes widths (replicate m 0) bytes 0
heading_start m bytes widths = record { filled = record { same = refl; rest = let whole : m - 0 ≡ m = omega arith in rw whole refl; long = length-replicate m 0 }; within = omega arith }

-- a field is as long as its width, or as what is left
pub field_narrow : (widths rest field : List ℕ) (i w n : ℕ) → narrow widths ≡ true → w ≡ get_or widths i 0 → n ≡ min w (length rest) → length field ≡ n → length field ≤ 4
field_narrow widths rest field i w n H e f g = omega (arith, narrow_at widths i H)

module _ (m : ℕ) (bytes widths fields rest : List ℕ) (i : ℕ) (F : Heading m bytes widths fields rest i) (few : length widths ≤ m) where
  pub heading_turn : (w n number : ℕ) (field behind : List ℕ) → i < length widths → w ≡ get_or widths i 0 → n ≡ min w (length rest) → field ≡ take n rest → behind ≡ drop n rest → number ≡ number_of field
      → Heading m bytes widths (set fields i number) behind (i + 1)
  unfolding read
  heading_turn w n number field behind h e f g k c =
      let front : field ≡ take (get_or widths i 0) rest = g ∙ rw (f, e) (take_min (get_or widths i 0) rest) in
      let back : behind ≡ drop (get_or widths i 0) rest = k ∙ rw (f, e) (drop_min (get_or widths i 0) rest) in
      let next : read (drop i widths) rest ≡ number ∷ read (drop (i + 1) widths) behind = rw (add-one i, drop-cons widths i 0 h, c, front, back) refl in
      record {
        filled = filling_turn m (read widths bytes) fields (read (drop i widths) rest) i number _ F.filled next (omega arith);
        within = omega arith;
      }

  pub heading_done : length widths ≤ i → fields ≡ padded m (read widths bytes)
  unfolding read
  heading_done h = filling_done m (read widths bytes) fields (read (drop i widths) rest) i F.filled (rw (drop_of_length-le widths h) refl) (omega (arith, F.within))
