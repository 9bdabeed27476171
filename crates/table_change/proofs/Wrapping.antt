-- Whole numbers in 64 bits add as their codes do, modulo 2 ^ 64.
use Rattle.std.proofs.Common.{◌≡◌, ℕ, zero, suc, ◌+◌, ◌-◌, ◌*◌, ◌%◌, ◌<◌, Bool, true, false, ltb, [], ◌∷◌, ℤ, pos, negsuc, ◌+ℤ◌, neg_ℤ, sym, refl, ◌∙◌, arith, ltb-false, ltb-true}
use lib.IntN.{+ℤ_idr}
use Rattle.meaning.proofs.Tests.{cases}
use Rattle.words_layout.specs.Words.{complement, of_two_words, in_two_words, word_limit, two_word_limit}
use Rattle.words_layout.specs.Layout.{total_of_words, total_words}
use Rattle.words_layout.proofs.RowWords.{high_of, low_of}
use Rattle.words_layout.proofs.Spelling.{code_read}
use Rattle.table_change.specs.TotalChange.{change}

pub raised_code : (z : ℤ) (x : ℕ) → complement (z +ℤ pos x) ≡ (complement z + x) % two_word_limit
unfolding complement
raised_code (pos n) x = omega arith
raised_code (negsuc n) x = cases (ltb x (suc n)) (λ p. rw p (omega (arith, ltb-true x (suc n) p))) (λ p. rw p (omega (arith, ltb-false x (suc n) p)))

pub lowered_code : (z : ℤ) (x : ℕ) → x < two_word_limit → complement (z +ℤ neg_ℤ (pos x)) ≡ (complement z + two_word_limit - x) % two_word_limit
unfolding complement
lowered_code (pos n) zero h = omega arith
lowered_code (negsuc n) zero h = rw (+ℤ_idr (negsuc n)) (omega arith)
lowered_code (pos n) (suc x) h = cases (ltb n (suc x)) (λ p. rw p (omega (arith, ltb-true n (suc x) p))) (λ p. rw p (omega (arith, ltb-false n (suc x) p)))
lowered_code (negsuc n) (suc x) h = omega arith

-- two words that are a number's words
two_words : (a b c : ℕ) → a < word_limit → b < word_limit → a * word_limit + b ≡ c → a ∷ b ∷ [] ≡ in_two_words c
two_words a b c ha hb e = rw (sym e, high_of a b hb, low_of a b hb) refl

-- the words a, b are those of the total in the words h, l after x is added to it or taken away
module _ (a b h l x : ℕ) (fa : a < word_limit) (fb : b < word_limit) (fh : h < word_limit) (fl : l < word_limit) (fx : x < word_limit) (increase : Bool) where
  small : of_two_words h l < two_word_limit
  small = omega arith

  pub increased_is : increase ≡ true → a * word_limit + b ≡ (h * word_limit + l + x) % two_word_limit → a ∷ b ∷ [] ≡ total_words (total_of_words (h ∷ l ∷ []) +ℤ change increase x)
  unfolding change
  increased_is t e = rw t (two_words a b (complement (total_of_words (h ∷ l ∷ []) +ℤ pos x)) fa fb (e ∙ sym (raised_code (total_of_words (h ∷ l ∷ [])) x ∙ rw (code_read (of_two_words h l) small) refl)))

  pub decreased_is : increase ≡ false → a * word_limit + b ≡ (h * word_limit + l + two_word_limit - x) % two_word_limit → a ∷ b ∷ [] ≡ total_words (total_of_words (h ∷ l ∷ []) +ℤ change increase x)
  unfolding change
  decreased_is t e = rw t (two_words a b (complement (total_of_words (h ∷ l ∷ []) +ℤ neg_ℤ (pos x))) fa fb (e ∙ sym (lowered_code (total_of_words (h ∷ l ∷ [])) x (omega arith) ∙ rw (code_read (of_two_words h l) small) refl)))
