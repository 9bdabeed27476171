-- Two who answer alike about the declared objects reply alike to every question, refusals included.
use mathlib.Core.Path.{◌≡◌, refl, sym, ◌∙◌, ap}
use mathlib.Core.Bool.{true, false, ◌||◌, cond}
use mathlib.Core.Logic.{⊎_elim}
use mathlib.Core.List.{List}
use Prim.Native.Nat.{ℕ, ◌<◌}
use lib.Dec.{ltb, eqb}
use lib.ListN.{length}
use borrow.Author.Tests.{eqb-true, ltb-true}
use Rattle.meaning.specs.Operations.{is_counter, is_flag}
use Rattle.meaning.specs.Table.{Header, kind_in}
use Rattle.meaning.specs.Questions.{Asked, total, flag, list, count, holds, Source, fits, answer_from}
use Rattle.meaning.specs.Refusals.{well_asked, declared, list_too_long, asked_refusals, question_refusals}
use Rattle.meaning.specs.Calls.{Reply, reply_of, ask_of}
use Rattle.meaning.proofs.Tests.{cases, and_left, not_holds, or_cases, or_left_fails}

pub record Alike (kind : ℕ) (source other : Source) (o : ℕ) : Type 0 where
  pub totals : is_counter kind ≡ true → source.total_at o ≡ other.total_at o
  pub ins : is_counter kind ≡ false → (v : ℕ) → source.in_at o v ≡ other.in_at o v
  pub lists : is_counter kind ≡ false → source.list_at o ≡ other.list_at o
  pub counts : is_counter kind ≡ false → source.count_at o ≡ other.count_at o

flag_no_counter : (kind : ℕ) → is_flag kind ≡ true → is_counter kind ≡ false
unfolding is_flag is_counter
flag_no_counter kind e = ⊎_elim (λ h. rw (eqb-true kind 5 h)) (λ h. rw (eqb-true kind 6 h)) (or_cases (eqb kind 5) (eqb kind 6) e)

-- a question that fits and is no total is not put to a counter
no_counter : (question kind : ℕ) → eqb question 1 ≡ false → fits question kind ≡ true → is_counter kind ≡ false
unfolding fits
no_counter question kind n e = cases (eqb question 2)
    (λ p. flag_no_counter kind (rw (n, p) at e))
    (λ p. or_left_fails (is_counter kind) (is_flag kind) (not_holds (is_counter kind || is_flag kind) (rw (n, p) at e)))

is_counter_lem : (question kind : ℕ) → eqb question 1 ≡ true → fits question kind ≡ true → is_counter kind ≡ true
unfolding fits
is_counter_lem question kind n e = rw n at e

answers_alike : (kind : ℕ) (source other : Source) (asked : Asked) → fits asked.question kind ≡ true → Alike kind source other asked.object → answer_from source asked ≡ answer_from other asked
unfolding answer_from
answers_alike kind source other asked f a = cases (eqb asked.question 1)
    (λ p. rw p (ap total (a.totals (is_counter_lem asked.question kind p f))))
    (λ p. let n = no_counter asked.question kind p f in
    cases (eqb asked.question 2) (λ q. rw (p, q) (ap flag (a.ins n 0)))
    (λ q. cases (eqb asked.question 3) (λ r. rw (p, q, r) (ap list (a.lists n)))
    (λ r. cases (eqb asked.question 4) (λ s. rw (p, q, r, s) (ap count (a.counts n))) (λ s. rw (p, q, r, s) (ap holds (a.ins n asked.value))))))

lengths_alike : (kind : ℕ) (source other : Source) (asked : Asked) → fits asked.question kind ≡ true → Alike kind source other asked.object → eqb asked.question 3 ≡ true → source.list_at asked.object ≡ other.list_at asked.object
lengths_alike kind source other asked f a q = a.lists (no_counter asked.question kind (rw (eqb-true asked.question 3 q)) f)

long_alike : (kind : ℕ) (source other : Source) (room : ℕ) (asked : Asked) → fits asked.question kind ≡ true → Alike kind source other asked.object → list_too_long source room asked ≡ list_too_long other room asked
unfolding list_too_long
long_alike kind source other room asked f a = cases (eqb asked.question 3)
    (λ q. rw q (ap (λ (l : List ℕ). ltb room (length l)) (lengths_alike kind source other asked f a q)))
    (λ q. rw q)

asks_list_lem : (source : Source) (room : ℕ) (asked : Asked) → list_too_long source room asked ≡ true → eqb asked.question 3 ≡ true
unfolding list_too_long
asks_list_lem source room asked e = and_left (eqb asked.question 3) (ltb room (length (source.list_at asked.object))) e

-- the reply to a question that passes 1, 3 and 12
fitting : (kind : ℕ) (source other : Source) (room : ℕ) (asked : Asked) → fits asked.question kind ≡ true → Alike kind source other asked.object →
    reply_of (cond (list_too_long source room asked) 11 0) source asked ≡ reply_of (cond (list_too_long other room asked) 11 0) other asked
unfolding reply_of
fitting kind source other room asked f a = cases (list_too_long source room asked)
    (λ p. rw (sym (long_alike kind source other room asked f a) ∙ p, p) (ap (λ (l : List ℕ). Reply.too_long (length l)) (lengths_alike kind source other asked f a (asks_list_lem source room asked p))))
    (λ p. rw (sym (long_alike kind source other room asked f a) ∙ p, p) (ap Reply.answered (answers_alike kind source other asked f a)))

refused_alike : (n : ℕ) (source other : Source) (asked : Asked) → eqb n 0 ≡ false → eqb n 11 ≡ false → reply_of n source asked ≡ reply_of n other asked
unfolding reply_of
refused_alike n source other asked p q = rw (p, q)

pub replies_alike : (header : Header) (source other : Source) (room : ℕ) (asked : Asked) → (asked.object < length header.kinds → Alike (kind_in header asked.object) source other asked.object) → ask_of header source room asked ≡ ask_of header other room asked
unfolding ask_of question_refusals asked_refusals declared
replies_alike header source other room asked a = cases (well_asked asked)
    (λ p. cases (ltb asked.object (length header.kinds))
    (λ q. cases (fits asked.question (kind_in header asked.object))
    (λ r. rw (p, q, r) (fitting (kind_in header asked.object) source other room asked r (a (ltb-true asked.object (length header.kinds) q))))
    (λ r. rw (p, q, r) (refused_alike 12 source other asked refl refl)))
    (λ q. rw (p, q) (refused_alike 3 source other asked refl refl)))
    (λ p. rw p (refused_alike 1 source other asked refl refl))
