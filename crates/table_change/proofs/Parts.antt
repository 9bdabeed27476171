-- The clock and the last vectors where they stand.
use Rattle.std.proofs.Common.{◌≡◌, ℕ, ◌+◌, ◌-◌, ◌*◌, ◌<◌, ◌≤◌, List, ◌++◌, length, get_or, take, drop, set, refl, ap, ◌∙◌, append_assoc, arith, length-drop, length-take-le, take_all, drop-drop}
use lib.Seq.{paste}
use Rattle.meaning.specs.Order.{entry_limit, raised}
use Rattle.words_layout.specs.Layout.{table_of, rewritten, size_in, with_clock, with_last, clock_at}
use Rattle.words_layout.proofs.Reading.{clock_part}
use Rattle.words_layout.proofs.Changing.{put_clock, put_last}
use Rattle.table_change.specs.Changes.{Opened, EntryBelowLimit}

module _ (s : List ℕ) (n count : ℕ) (O : Opened s n count) where
  pub clock_end : clock_at + n ≤ length s
  clock_end = omega (arith, O.room)

  pub clock_long : (k : ℕ) → k < n → k < length (take (clock_at + n - clock_at) (drop clock_at s))
  clock_long k h = let q : clock_at + n - clock_at ≡ n = omega arith in rw (q, length-take-le n (drop clock_at s) (simp length-drop (omega (arith, clock_end)))) h

  pub clock_below : (k : ℕ) → EntryBelowLimit (table_of s) k → get_or (take (clock_at + n - clock_at) (drop clock_at s)) k 0 + 1 < entry_limit
  clock_below k h = rw (clock_part s n O.size_is) h

  pub advanced : (k : ℕ) (d : List ℕ) → d ≡ raised (take (clock_at + n - clock_at) (drop clock_at s)) k → take clock_at s ++ (d ++ drop (clock_at + n - clock_at) (drop clock_at s)) ≡ rewritten s (with_clock (table_of s) (raised (table_of s).clock k))
  advanced k d e =
      let q : clock_at + n - clock_at ≡ size_in s = omega (arith, O.size_is) in
      rw q (put_clock s O.laid d ∙ ap (λ (c : List ℕ). rewritten s (with_clock (table_of s) c)) (e ∙ ap (λ (c : List ℕ). raised c k) (clock_part s n O.size_is)))

  -- the station's place as the code has it
  module _ (k r : ℕ) (h : k < n) (same : r ≡ k) where
    pub last_written : (v x : List ℕ) → length v ≡ n → x ≡ paste s (clock_at + n + r * n) v (length v) → x ≡ rewritten s (with_last (table_of s) (set (table_of s).last k v))
    last_written v x e f =
        let whole : take (length v) v ≡ v = take_all (length v) v (omega arith) in
        let at : clock_at + n + r * n ≡ clock_at + size_in s + k * size_in s = rw (same, O.size_is) refl in
        let m : length v ≡ size_in s = e ∙ O.size_is in
        f ∙ rw (whole, ← drop-drop (length v) (clock_at + n + r * n) s, at, m) (append_assoc (take (clock_at + size_in s + k * size_in s) s) v _ ∙ put_last s O.laid k v (omega (arith, O.size_is)))
