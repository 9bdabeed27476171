-- Numbers and bytes: one spelling at each width.
use Prim.Native.Nat.{ℕ, zero, suc, ◌+◌, ◌*◌, ◌/◌, ◌%◌, ◌<◌, ◌^◌}
use mathlib.Core.Path.{◌≡◌, refl, sym, ap, ◌∙◌}
use mathlib.Core.List.{List, [], ◌∷◌, ◌++◌, append_assoc, append-nil}
use native.Mathlib.Nat.{mul_assoc, mul_comm, pow-succ'}
use native.Mathlib.Omega.{arith}
use lib.ListN.{length, get_or, take, drop, length-append}
use lib.Seq.{take-suc, length-take-le, take_all}
use Rattle.line_hex.specs.Numbers.{AllBytes, big_endian, eight_of, number_from, number_of}

-- the bytes that follow count beside what came first
pub number_append : (n : ℕ) (a b : List ℕ) → number_from n (a ++ b) ≡ number_from (number_from n a) b
unfolding number_from
number_append n [] b = refl
number_append n (x ∷ a) b = number_append (n * 256 + x) a b

pub number_last : (n : ℕ) (a : List ℕ) (b : ℕ) → number_from n (a ++ (b ∷ [])) ≡ number_from n a * 256 + b
unfolding number_from
number_last n a b = number_append n a (b ∷ [])

pub length_big_endian : (width n : ℕ) → length (big_endian width n) ≡ width
unfolding big_endian
length_big_endian zero n = refl
length_big_endian (suc width) n = length-append (big_endian width (n / 256)) (n % 256 ∷ []) ∙ rw (length_big_endian width (n / 256)) (omega arith)

pub all_bytes_append : (a b : List ℕ) → AllBytes a → AllBytes b → AllBytes (a ++ b)
unfolding AllBytes
all_bytes_append [] b h k = k
all_bytes_append (x ∷ a) b h k = (h.0, all_bytes_append a b h.1 k)

pub all_bytes_big_endian : (width n : ℕ) → AllBytes (big_endian width n)
unfolding AllBytes big_endian
all_bytes_big_endian zero n = tt
all_bytes_big_endian (suc width) n = all_bytes_append (big_endian width (n / 256)) (n % 256 ∷ []) (all_bytes_big_endian width (n / 256)) (omega arith, tt)

-- what is written reads back
pub number_reads_back : (width n : ℕ) → n < 256 ^ width → number_of (big_endian width n) ≡ n
unfolding big_endian number_from
number_reads_back zero n h = omega arith
number_reads_back (suc width) n h =
    let k : n / 256 < 256 ^ width = omega arith in
    number_last 0 (big_endian width (n / 256)) (n % 256) ∙ rw (number_reads_back width (n / 256) k) (omega arith)

pub all_bytes_at : (bs : List ℕ) (i : ℕ) → AllBytes bs → get_or bs i 0 < 256
unfolding AllBytes
all_bytes_at [] i h = omega arith
all_bytes_at (b ∷ bs) zero h = h.0
all_bytes_at (b ∷ bs) (suc i) h = all_bytes_at bs i h.1

pub all_bytes_take : (n : ℕ) (bs : List ℕ) → AllBytes bs → AllBytes (take n bs)
unfolding AllBytes
all_bytes_take zero bs h = tt
all_bytes_take (suc n) [] h = tt
all_bytes_take (suc n) (b ∷ bs) h = (h.0, all_bytes_take n bs h.1)

pub all_bytes_drop : (n : ℕ) (bs : List ℕ) → AllBytes bs → AllBytes (drop n bs)
unfolding AllBytes
all_bytes_drop zero bs h = h
all_bytes_drop (suc n) [] h = tt
all_bytes_drop (suc n) (b ∷ bs) h = all_bytes_drop n bs h.1

-- whatever is read is what would be written
pub number_only_spelling : (width : ℕ) (bs : List ℕ) → length bs ≡ width → AllBytes bs → big_endian width (number_of bs) ≡ bs
unfolding big_endian
number_only_spelling zero [] e h = refl
number_only_spelling zero (b ∷ bs) e h = absurd (omega arith)
number_only_spelling (suc width) bs e h =
    let parted : bs ≡ take width bs ++ (get_or bs width 0 ∷ []) = sym (take_all (suc width) bs (omega arith)) ∙ take-suc bs width 0 (omega arith) in
    let small : get_or bs width 0 < 256 = all_bytes_at bs width h in
    let whole : number_of bs ≡ number_of (take width bs) * 256 + get_or bs width 0 = ap number_of parted ∙ number_last 0 (take width bs) (get_or bs width 0) in
    let q : number_of bs / 256 ≡ number_of (take width bs) = omega arith in
    let r : number_of bs % 256 ≡ get_or bs width 0 = omega arith in
    rw (q, r, number_only_spelling width (take width bs) (length-take-le width bs (omega arith)) (all_bytes_take width bs h)) (sym parted)

-- the bytes of a number are those of its high part and those of its low part
pub big_endian_apart : (a b high low : ℕ) → low < 256 ^ b → big_endian (a + b) (high * 256 ^ b + low) ≡ big_endian a high ++ big_endian b low
unfolding big_endian
big_endian_apart a zero high low h =
    let wide : a + 0 ≡ a = omega arith in
    let all : high * 1 + low ≡ high = omega arith in
    rw (wide, all, append-nil) refl
big_endian_apart a (suc b) high low h =
    let wide : a + suc b ≡ suc (a + b) = omega arith in
    let raised : high * 256 ^ suc b ≡ 256 * (high * 256 ^ b) = rw (pow-succ' 256 b, ← mul_assoc high 256 (256 ^ b), mul_comm high 256, mul_assoc 256 high (256 ^ b)) refl in
    let q : (high * 256 ^ suc b + low) / 256 ≡ high * 256 ^ b + low / 256 = omega arith in
    let r : (high * 256 ^ suc b + low) % 256 ≡ low % 256 = omega arith in
    let k : low / 256 < 256 ^ b = omega arith in
    rw (wide, q, r, big_endian_apart a b high (low / 256) k, append_assoc) refl

-- a number of 8 bytes is two words of 4
pub eight_is_two_words : (high low : ℕ) → low < 256 ^ 4 → big_endian 8 (eight_of high low) ≡ big_endian 4 high ++ big_endian 4 low
eight_is_two_words high low h = big_endian_apart 4 4 high low h
