-- A row and its words.
use Prim.Native.Nat.{ℕ, zero, suc, ◌+◌, ◌-◌, ◌*◌, ◌/◌, ◌%◌, ◌≤◌, ◌<◌}
use mathlib.Core.Path.{◌≡◌, refl}
use mathlib.Core.Bool.{Bool, true, false, cond}
use mathlib.Core.List.{List, [], ◌∷◌, append-nil}
use native.Mathlib.Omega.{arith}
use native.Mathlib.Nat.{div-add-mod'}
use lib.Dec.{eqb}
use lib.ListN.{length, get_or, drop, replicate, length-drop, length-append, length-replicate}
use Rattle.meaning.specs.Operations.{number_of}
use Rattle.meaning.specs.Rows.{Row}
use Rattle.words_layout.specs.Words.{padded, word_limit}
use Rattle.words_layout.specs.Layout.{row_words, row_of}

-- a vector as long as the group is, or none in a settled row
pub record Shaped (n : ℕ) (r : Row) : Type 0 where
  pub long : length r.operation.vector ≡ cond r.settled 0 n

halves : (v : ℕ) → v / word_limit * word_limit + v % word_limit ≡ v
halves v = div-add-mod' v word_limit

abbrev mk : Bool → ℕ → ℕ → ℕ → ℕ → List ℕ → Row
mk b o c v s l = record { settled = b; operation = record { object = o; code = c; value = v; sender = s; vector = l } }

pub padded_all : (n : ℕ) (l : List ℕ) → length l ≡ n → padded n l ≡ l
padded_all n l e = let z : n - length l ≡ 0 = omega arith in rw z (append-nil l)

read_parts : (n : ℕ) (b : Bool) (o c v s : ℕ) (l : List ℕ) → length l ≡ cond b 0 n → row_of (row_words n (mk b o c v s l)) ≡ mk b o c v s l
read_parts n true o c v s [] e = rw (halves v) refl
read_parts n true o c v s (x ∷ l) e = absurd (omega arith)
read_parts n false o c v s l e = rw (halves v, padded_all n l e) refl

pub row_read_lem : (n : ℕ) (r : Row) → Shaped n r → row_of (row_words n r) ≡ r
row_read_lem n r h = read_parts n r.settled r.operation.object r.operation.code r.operation.value r.operation.sender r.operation.vector h.long

-- the words of a row: seven, and a vector; the number is the sender's entry; a settled row has no tag
pub record Spelt (n : ℕ) (ws : List ℕ) : Type 0 where
  pub wide : length ws ≡ 7 + n
  pub word : get_or ws 2 0 < word_limit
  pub flag : get_or ws 4 0 ≤ 1
  pub number : get_or ws 6 0 ≡ get_or (drop 7 ws) (get_or ws 5 0) 0
  pub bare : get_or ws 4 0 ≡ 0 → (get_or ws 5 0 ≡ 0) × (drop 7 ws ≡ replicate n 0)

pub high_of : (h l : ℕ) → l < word_limit → (h * word_limit + l) / word_limit ≡ h
high_of h l b = omega arith

pub low_of : (h l : ℕ) → l < word_limit → (h * word_limit + l) % word_limit ≡ l
low_of h l b = omega arith

pub zeros_at : (n i : ℕ) → ◌≡◌ {A = ℕ} (get_or (replicate n 0) i 0) 0
zeros_at zero i = refl
zeros_at (suc n) zero = refl
zeros_at (suc n) (suc i) = zeros_at n i

-- with its seven words named
write_parts : (n o h l c e s k : ℕ) (v : List ℕ) → length v ≡ n → l < word_limit → e ≤ 1 → k ≡ get_or v s 0 → (e ≡ 0 → (s ≡ 0) × (v ≡ replicate n 0))
    → row_words n (row_of (o ∷ h ∷ l ∷ c ∷ e ∷ s ∷ k ∷ v)) ≡ o ∷ h ∷ l ∷ c ∷ e ∷ s ∷ k ∷ v
unfolding number_of
write_parts n o h l c zero s k v w b f q z =
    let m : n - 0 ≡ n = omega arith in rw (high_of h l b, low_of h l b, q, (z refl).1, (z refl).0, m, zeros_at n 0) refl
write_parts n o h l c (suc zero) s k v w b f q z = rw (high_of h l b, low_of h l b, padded_all n v w, q) refl
write_parts n o h l c (suc (suc e)) s k v w b f q z = absurd (omega arith)

pub row_written : (n : ℕ) (ws : List ℕ) → Spelt n ws → row_words n (row_of ws) ≡ ws
row_written n (o ∷ h ∷ l ∷ c ∷ e ∷ s ∷ k ∷ v) S = write_parts n o h l c e s k v (omega (arith, S.wide)) S.word S.flag S.number S.bare
row_written n [] S = absurd (omega (arith, S.wide))
row_written n (a ∷ []) S = absurd (omega (arith, S.wide))
row_written n (a ∷ b ∷ []) S = absurd (omega (arith, S.wide))
row_written n (a ∷ b ∷ c ∷ []) S = absurd (omega (arith, S.wide))
row_written n (a ∷ b ∷ c ∷ d ∷ []) S = absurd (omega (arith, S.wide))
row_written n (a ∷ b ∷ c ∷ d ∷ e ∷ []) S = absurd (omega (arith, S.wide))
row_written n (a ∷ b ∷ c ∷ d ∷ e ∷ f ∷ []) S = absurd (omega (arith, S.wide))

-- a row's words are as many as they should be
pub length_row : (n : ℕ) (r : Row) → length r.operation.vector ≤ n → length (row_words n r) ≡ 7 + n
length_row n r h = simp (length-append, length-replicate) (omega arith)

pub short_row : (n : ℕ) (ws : List ℕ) → length ws ≡ 7 + n → length (row_of ws).operation.vector ≤ n
short_row n ws h = elim (eqb (get_or ws 4 0) 0) as (λ b. length (cond b [] (drop 7 ws)) ≤ n) [ true ↦ omega arith | false ↦ simp length-drop (omega arith) ]
