-- Which line stands at a place of a form.
use mathlib.Core.Path.{◌≡◌, refl, sym, ap, ◌∙◌, subst}
use mathlib.Core.Bool.{Bool, true, false, not, cond}
use mathlib.Core.List.{List, [], ◌∷◌, ◌++◌}
use Prim.Native.Nat.{ℕ, zero, suc, ◌+◌, ◌-◌, ◌≤◌, ◌<◌}
use native.Mathlib.Omega.{arith}
use borrow.Author.Tests.{eq-eqb, ne_eqb, lt-ltb, le-ltb, ltb-true, ltb-false}
use lib.Dec.{eqb, ltb}
use lib.IntN.{ℤ, pos}
use lib.ListN.{length, get_or, drop}
use lib.Seq.{get_or-drop, drop-drop}
use Rattle.meaning.specs.Operations.{is_counter}
use Rattle.meaning.proofs.Tests.{cases}
use Rattle.line_put.specs.declared.TooShort.{TooShort}
use Rattle.std.proofs.Common.{Option, Result, Ok, Err}
use Rattle.form_write.specs.Forms.{line_at, line_into, lines_of}
use Rattle.form_write.specs.Seeking.{counter_at, other_at}

-- a line of the first part, and of what is behind it
pub front_line : (xs ys : List (List ℕ)) (k : ℕ) (out : List ℕ) → k < length xs → line_at (xs ++ ys) k out ≡ line_into out (get_or xs k [])
unfolding line_at
front_line [] ys k out h = absurd (omega arith)
front_line (x ∷ xs) ys zero out h = refl
front_line (x ∷ xs) ys (suc k) out h = front_line xs ys k out (omega arith)

pub behind_lines : (xs ys : List (List ℕ)) (k : ℕ) (out : List ℕ) → length xs ≤ k → line_at (xs ++ ys) k out ≡ line_at ys (k - length xs) out
unfolding line_at
behind_lines [] ys k out h = let e : k - 0 ≡ k = omega arith in rw e refl
behind_lines (x ∷ xs) ys zero out h = absurd (omega arith)
behind_lines (x ∷ xs) ys (suc k) out h = let e : suc k - suc (length xs) ≡ k - length xs = omega arith in rw e (behind_lines xs ys k out (omega arith))

-- the line of the counter that is found, or what stands behind the counters
abbrev pub line_sought : List ℤ → (ℕ → ℤ → List ℕ) → List (List ℕ) → List ℕ → Result ℕ ℕ → Result (Option ℕ) TooShort × List ℕ
line_sought totals line ys out (Ok object) = line_into out (line object (get_or totals object (pos 0)))
line_sought totals line ys out (Err left) = line_at ys left out

-- the first counter's line is at the place of the first counter, and so on
module _ (kinds₀ : List ℕ) (totals₀ : List ℤ) (line : ℕ → ℤ → List ℕ) (ys : List (List ℕ)) (out : List ℕ) where
  abbrev counts : ℕ → Bool
  counts object = is_counter (get_or kinds₀ object 0)

  pub counter_line : (kinds : List ℕ) (totals : List ℤ) (place ahead : ℕ) → kinds ≡ drop place kinds₀ → totals ≡ drop place totals₀ → length kinds ≡ length totals
      → line_at (lines_of counts line place totals ++ ys) ahead out ≡ line_sought totals₀ line ys out (counter_at kinds place ahead)
  unfolding counter_at line_at
  counter_line [] [] place ahead p q e = refl
  counter_line [] (z ∷ totals) place ahead p q e = absurd (omega arith)
  counter_line (kind ∷ kinds) [] place ahead p q e = absurd (omega arith)
  counter_line (kind ∷ kinds) (z ∷ totals) place ahead p q e =
      let at : place + 0 ≡ place = omega arith in
      let next : place + 1 ≡ suc place = omega arith in
      let k : get_or kinds₀ place 0 ≡ kind = sym (ap (λ (l : List ℕ). get_or l 0 0) p ∙ get_or-drop place kinds₀ 0 0 ∙ rw at refl) in
      let t : get_or totals₀ place (pos 0) ≡ z = sym (ap (λ (l : List ℤ). get_or l 0 (pos 0)) q ∙ get_or-drop place totals₀ 0 (pos 0) ∙ rw at refl) in
      let p1 : kinds ≡ drop (suc place) kinds₀ = ap (drop 1) p ∙ drop-drop 1 place kinds₀ ∙ rw next refl in
      let q1 : totals ≡ drop (suc place) totals₀ = ap (drop 1) q ∙ drop-drop 1 place totals₀ ∙ rw next refl in
      let e1 : length kinds ≡ length totals = omega arith in
      rw k (by (is_counter kind) ahead z t (λ j. counter_line kinds totals (suc place) j p1 q1 e1))
    where
      by : (b : Bool) (j : ℕ) (z : ℤ) → get_or totals₀ place (pos 0) ≡ z
          → ((i : ℕ) → line_at (lines_of counts line (suc place) totals ++ ys) i out ≡ line_sought totals₀ line ys out (counter_at kinds (suc place) i))
          → line_at (cond b (line place z ∷ lines_of counts line (suc place) totals) (lines_of counts line (suc place) totals) ++ ys) j out
          ≡ line_sought totals₀ line ys out (cond b (cond (eqb j 0) (Ok place) (counter_at kinds (suc place) (j - 1))) (counter_at kinds (suc place) j))
      by true zero z t rest = rw t refl
      by true (suc j) z t rest = let d : suc j - 1 ≡ j = omega arith in rw (ne_eqb (suc j) 0 (λ n. absurd (omega arith)), d) (rest j)
      by false j z t rest = rest j

-- a counter that is found is an object of the table
abbrev Below : ℕ → Result ℕ ℕ → Type 0
Below limit (Ok object) = object < limit
Below limit (Err left) = Unit {0}

below : (kinds : List ℕ) (place ahead limit : ℕ) → place + length kinds ≡ limit → Below limit (counter_at kinds place ahead)
unfolding counter_at
below [] place ahead limit e = tt
below (kind ∷ kinds) place ahead limit e = by (is_counter kind) (eqb ahead 0) (below kinds (suc place) (ahead - 1) limit (omega arith)) (below kinds (suc place) ahead limit (omega arith))
  where
    by : (b c : Bool) → Below limit (counter_at kinds (suc place) (ahead - 1)) → Below limit (counter_at kinds (suc place) ahead)
        → Below limit (cond b (cond c (Ok place) (counter_at kinds (suc place) (ahead - 1))) (counter_at kinds (suc place) ahead))
    by true true f g = omega arith
    by true false f g = f
    by false c f g = g

pub counter_below : (kinds : List ℕ) (ahead limit object : ℕ) (r : Result ℕ ℕ) → length kinds ≡ limit → r ≡ counter_at kinds 0 ahead → r ≡ Ok object → object < limit
counter_below kinds ahead limit object r e f g = subst (Below limit) (sym f ∙ g) (below kinds 0 ahead limit (omega arith))

-- the lines of the other stations
module _ (line : ℕ → List ℕ → List ℕ) (ys : List (List ℕ)) (out : List ℕ) where
  abbrev others : ℕ → ℕ → Bool
  others own station = not (eqb station own)

  -- past the own station every one has its line
  past_there : (own place ahead : ℕ) (xs : List (List ℕ)) → own < place → ahead < length xs → line_at (lines_of (others own) line place xs ++ ys) ahead out ≡ line_into out (line (place + ahead) (get_or xs ahead []))
  unfolding line_at
  past_there own place ahead [] h b = absurd (omega arith)
  past_there own place zero (x ∷ xs) h b = let e : place + 0 ≡ place = omega arith in rw (ne_eqb place own (λ n. absurd (omega arith)), e) refl
  past_there own place (suc ahead) (x ∷ xs) h b =
      let e : place + suc ahead ≡ suc place + ahead = omega arith in
      rw (ne_eqb place own (λ n. absurd (omega arith)), e) (past_there own (suc place) ahead xs (omega arith) (omega arith))

  past_behind : (own place ahead : ℕ) (xs : List (List ℕ)) → own < place → length xs ≤ ahead → line_at (lines_of (others own) line place xs ++ ys) ahead out ≡ line_at ys (ahead - length xs) out
  unfolding line_at
  past_behind own place ahead [] h b = let e : ahead - 0 ≡ ahead = omega arith in rw e refl
  past_behind own place zero (x ∷ xs) h b = absurd (omega arith)
  past_behind own place (suc ahead) (x ∷ xs) h b =
      let e : suc ahead - suc (length xs) ≡ ahead - length xs = omega arith in
      rw (ne_eqb place own (λ n. absurd (omega arith)), e) (past_behind own (suc place) ahead xs (omega arith) (omega arith))

  other_next : (d ahead : ℕ) → other_at (suc d) (suc ahead) ≡ suc (other_at d ahead)
  unfolding other_at
  other_next d ahead = cases (ltb ahead d)
      (λ q. rw (q, lt-ltb (suc ahead) (suc d) (omega (arith, ltb-true ahead d q))) refl)
      (λ q. rw (q, le-ltb (suc ahead) (suc d) (omega (arith, ltb-false ahead d q))) refl)

  other_first : (d : ℕ) → other_at (suc d) 0 ≡ 0
  unfolding other_at
  other_first d = rw (lt-ltb 0 (suc d) (omega arith)) refl

  other_past : (ahead : ℕ) → other_at 0 ahead ≡ suc ahead
  unfolding other_at
  other_past ahead = rw (le-ltb ahead 0 (omega arith)) refl

  -- so far from the own station
  other_there : (d own place ahead : ℕ) (xs : List (List ℕ)) → own ≡ place + d → d < length xs → suc ahead < length xs
      → line_at (lines_of (others own) line place xs ++ ys) ahead out ≡ line_into out (line (place + other_at d ahead) (get_or xs (other_at d ahead) []))
  unfolding line_at
  other_there d own place ahead [] o h b = absurd (omega arith)
  other_there zero own place ahead (x ∷ xs) o h b =
      let e : place + suc ahead ≡ suc place + ahead = omega arith in
      rw (eq-eqb place own (omega arith), other_past ahead, e) (past_there own (suc place) ahead xs (omega arith) (omega arith))
  other_there (suc d) own place zero (x ∷ xs) o h b =
      let e : place + 0 ≡ place = omega arith in
      rw (ne_eqb place own (λ n. absurd (omega arith)), other_first d, e) refl
  other_there (suc d) own place (suc ahead) (x ∷ xs) o h b =
      let e : place + suc (other_at d ahead) ≡ suc place + other_at d ahead = omega arith in
      rw (ne_eqb place own (λ n. absurd (omega arith)), other_next d ahead, e) (other_there d own (suc place) ahead xs (omega arith) (omega arith) (omega arith))

  other_behind : (d own place ahead : ℕ) (xs : List (List ℕ)) → own ≡ place + d → d < length xs → length xs ≤ suc ahead
      → line_at (lines_of (others own) line place xs ++ ys) ahead out ≡ line_at ys (suc ahead - length xs) out
  unfolding line_at
  other_behind d own place ahead [] o h b = absurd (omega arith)
  other_behind zero own place ahead (x ∷ xs) o h b =
      let e : suc ahead - suc (length xs) ≡ ahead - length xs = omega arith in
      rw (eq-eqb place own (omega arith), e) (past_behind own (suc place) ahead xs (omega arith) (omega arith))
  other_behind (suc d) own place zero (x ∷ xs) o h b = absurd (omega arith)
  other_behind (suc d) own place (suc ahead) (x ∷ xs) o h b =
      let e : suc (suc ahead) - suc (length xs) ≡ suc ahead - length xs = omega arith in
      rw (ne_eqb place own (λ n. absurd (omega arith)), e) (other_behind d own (suc place) ahead xs (omega arith) (omega arith) (omega arith))

  pub last_there : (own ahead : ℕ) (xs : List (List ℕ)) → own < length xs → suc ahead < length xs
      → line_at (lines_of (others own) line 0 xs ++ ys) ahead out ≡ line_into out (line (other_at own ahead) (get_or xs (other_at own ahead) []))
  last_there own ahead xs h b = let e : 0 + other_at own ahead ≡ other_at own ahead = omega arith in rw e at (other_there own own 0 ahead xs (omega arith) h b)

  pub last_behind : (own ahead : ℕ) (xs : List (List ℕ)) → own < length xs → length xs ≤ suc ahead → line_at (lines_of (others own) line 0 xs ++ ys) ahead out ≡ line_at ys (suc ahead - length xs) out
  last_behind own ahead xs h b = other_behind own own 0 ahead xs (omega arith) h b

pub other_below : (own ahead size : ℕ) → own < size → suc ahead < size → other_at own ahead < size
unfolding other_at
other_below own ahead size h b = cases (ltb ahead own) (λ q. rw q (omega arith)) (λ q. rw q b)
