-- What each way out of a question says, against what is asked of the table.
use mathlib.Core.Path.{◌≡◌, refl, sym, ap, ◌∙◌}
use mathlib.Core.Bool.{Bool, true, false, not, cond}
use mathlib.Core.List.{List, [], ◌∷◌, ◌++◌}
use Prim.Native.Nat.{ℕ, ◌+◌, ◌-◌, ◌*◌, ◌≤◌, ◌<◌}
use native.Mathlib.Omega.{arith}
use Rattle.std.proofs.Common.{◌⊎◌, inl, inr}
use borrow.Author.Tests.{lt-ltb, le-ltb, ltb-true}
use lib.Dec.{eqb, ltb}
use mir.Val.{Fits}
use mir.Syntax.{w32}
use lib.IntN.{ℤ}
use lib.ListN.{length, get_or, take, drop, length-drop}
use lib.Seq.{length-take-le}
use Rattle.meaning.specs.Tests.{between}
use Rattle.meaning.specs.Operations.{value_limit}
use Rattle.meaning.specs.Rows.{count_by_rows}
use Rattle.meaning.specs.Table.{Header, Table, kind_in}
use Rattle.meaning.specs.Questions.{Asked, Source, total, flag, count, holds, fits, by_rows, answer_from}
use Rattle.meaning.specs.Refusals.{◌when◌, first_of, declared, well_asked, list_too_long, asked_refusals, question_refusals}
use Rattle.meaning.specs.Calls.{Reply, refused, too_long, answered, reply_of, ask_of, ask}
use Rattle.meaning.proofs.Tests.{and_left, between_out}
use Rattle.words_layout.specs.Layout.{table_of, objects_in, size_in, count_in, total_words, total_of_words, totals_at}
use Rattle.words_layout.proofs.RowWords.{high_of, low_of}
use Rattle.words_layout.proofs.Reading.{kinds_part}
use Rattle.words_layout.proofs.Spelling.{code_read}
use Rattle.table_change.proofs.Changing.{opened}
use Rattle.table_change.proofs.Totals.{old_total}
use Rattle.words_tags.specs.declared.RowCount.{RowCount}
use Rattle.refusal_kind.specs.Asking.{asked_from}
use Rattle.refusal_kind.specs.Questions.{asks_number}
use Rattle.refusal_kind.specs.declared.Asks.{Asks}
use Rattle.table_rules.specs.Checked.{Checked}
use Rattle.refusal_order.specs.Fields.{header_of_kinds}
use Rattle.refusal_order.proofs.Chains.{asked_by_kinds}
use Rattle.question.specs.Replies.{replied, list_reply}
use Rattle.question.specs.Told.{Told}
use Rattle.question.specs.Told as says
use Rattle.words_layout.specs.Words.{word_limit}

-- two words, read as a total and written again
words_back : (h l : ℕ) → h < word_limit → l < word_limit → total_words (total_of_words (h ∷ l ∷ [])) ≡ h ∷ l ∷ []
words_back h l p q = rw (code_read (h * word_limit + l) (omega arith), high_of h l q, low_of h l q) refl

pub total_words_lem : (s : List ℕ) → Checked s → (object o : ℕ) → object < objects_in s → o ≡ object → ((i : ℕ) → Fits w32 (get_or s i 0)) → get_or s (totals_at + o * 2) 0 ∷ get_or s (totals_at + o * 2 + 1) 0 ∷ [] ≡ total_words ((by_rows (table_of s)).total_at object)
unfolding by_rows
total_words_lem s K object o h e known =
    let high : get_or s (totals_at + o * 2) 0 < word_limit = omega (arith, known (totals_at + o * 2)) in
    let low : get_or s (totals_at + o * 2 + 1) 0 < word_limit = omega (arith, known (totals_at + o * 2 + 1)) in
    sym (words_back (get_or s (totals_at + o * 2) 0) (get_or s (totals_at + o * 2 + 1) 0) high low)
    ∙ rw (sym e) (ap (λ (z : ℤ). total_words z) (old_total s (size_in s) (count_in s) o (opened s (size_in s) (count_in s) K.laid refl refl) (omega arith)))

-- a list that is asked for, and counted
module _ (s : List ℕ) (o : ℕ) (k : RowCount) (e : k.0 ≡ (by_rows (table_of s)).count_at o) (out : List ℕ) (w : ℕ) (ew : w ≡ k.0) where
  abbrev values : List ℕ
  values = (by_rows (table_of s)).list_at o

  counted : k.0 ≡ length values
  unfolding by_rows count_by_rows
  counted = e

  pub too_long_replied : length out < w → (says.TooLong k, out) ≡ replied (list_reply (table_of s) o (length out)) out
  unfolding list_reply replied
  too_long_replied h = rw (lt-ltb (length out) (length values) (omega (arith, counted)), sym counted) refl

  pub list_replied : w ≤ length out → (x : List ℕ) → x ≡ values ++ drop (length values) out → (says.List k, x) ≡ replied (list_reply (table_of s) o (length out)) out
  unfolding list_reply replied
  list_replied h x q = rw (le-ltb (length out) (length values) (omega (arith, counted)), q, sym counted) refl

-- the chain of a question: 11 behind 1, 3 and 12
module _ (source : Source) (asked : Asked) where
  chain_refused : (a b c d : Bool) → (first_of ((1 when a) ∷ (3 when b) ∷ (12 when c) ∷ []) ≡ 0 → ⊥) → reply_of (first_of ((1 when a) ∷ (3 when b) ∷ (12 when c) ∷ (11 when d) ∷ [])) source asked ≡ refused (first_of ((1 when a) ∷ (3 when b) ∷ (12 when c) ∷ []))
  unfolding reply_of
  chain_refused true b c d n = refl
  chain_refused false true c d n = refl
  chain_refused false false true d n = refl
  chain_refused false false false d n = absurd (n refl)

  chain_passed : (a b c d : Bool) → first_of ((1 when a) ∷ (3 when b) ∷ (12 when c) ∷ []) ≡ 0 → reply_of (first_of ((1 when a) ∷ (3 when b) ∷ (12 when c) ∷ (11 when d) ∷ [])) source asked ≡ cond d (too_long (length (source.list_at asked.object))) (answered (answer_from source asked))
  unfolding reply_of
  chain_passed true b c d e = absurd (omega arith)
  chain_passed false true c d e = absurd (omega arith)
  chain_passed false false true d e = absurd (omega arith)
  chain_passed false false false true e = refl
  chain_passed false false false false e = refl

chain_declared : (a b c : Bool) → first_of ((1 when a) ∷ (3 when not b) ∷ (12 when c) ∷ []) ≡ 0 → b ≡ true
chain_declared true b c e = absurd (omega arith)
chain_declared false true c e = refl
chain_declared false false c e = absurd (omega arith)

chain_asked : (a b c : Bool) → first_of ((1 when not a) ∷ (3 when b) ∷ (12 when c) ∷ []) ≡ 0 → a ≡ true
chain_asked true b c e = refl
chain_asked false b c e = absurd (omega arith)

module _ (header : Header) (source : Source) (room : ℕ) (asked : Asked) where
  first_refuses : (first_of (asked_refusals header asked) ≡ 0 → ⊥) → ask_of header source room asked ≡ refused (first_of (asked_refusals header asked))
  unfolding ask_of question_refusals asked_refusals
  first_refuses n = chain_refused source asked (not (well_asked asked)) (not (declared header asked.object)) (not (fits asked.question (kind_in header asked.object))) (list_too_long source room asked) n

  none_refuses : first_of (asked_refusals header asked) ≡ 0 → ask_of header source room asked ≡ cond (list_too_long source room asked) (too_long (length (source.list_at asked.object))) (answered (answer_from source asked))
  unfolding ask_of question_refusals asked_refusals
  none_refuses e = chain_passed source asked (not (well_asked asked)) (not (declared header asked.object)) (not (fits asked.question (kind_in header asked.object))) (list_too_long source room asked) e

  is_declared : first_of (asked_refusals header asked) ≡ 0 → declared header asked.object ≡ true
  unfolding asked_refusals
  is_declared e = chain_declared (not (well_asked asked)) (declared header asked.object) (not (fits asked.question (kind_in header asked.object))) e

-- no question but the five passes
passes_known : (header : Header) (asked : Asked) → first_of (asked_refusals header asked) ≡ 0 → (1 ≤ asked.question) × (asked.question ≤ 5)
unfolding asked_refusals well_asked
passes_known header asked e =
    between_out 1 5 asked.question (and_left (between 1 5 asked.question) (cond (eqb asked.question 5) (ltb asked.value value_limit) (eqb asked.value 0))
    (chain_asked (well_asked asked) (not (declared header asked.object)) (not (fits asked.question (kind_in header asked.object))) e))

pub asks_is : (found asks : Asks) (question : ℕ) → found ≡ asks → asks_number found ≡ question → question ≡ asks_number asks
asks_is found asks question e f = sym f ∙ ap asks_number e

-- a question to a table
module _ (s : List ℕ) (K : Checked s) (object question value n : ℕ) (en : n ≡ objects_in s) (refusal : ℕ) (er : refusal ≡ first_of (asked_refusals (header_of_kinds (take (7 + n - 7) (drop 7 s))) (asked_from object question value))) (out : List ℕ) where
  abbrev t : Table
  t = table_of s

  abbrev reply : Reply
  reply = ask t (length out) (asked_from object question value)

  pub first_is : first_of (asked_refusals t.header (asked_from object question value)) ≡ refusal
  first_is = rw (asked_by_kinds t.header (asked_from object question value), sym (kinds_part s n en)) (sym er)

  pub known_question : refusal ≡ 0 → question < 1 ⊎ 5 < question → ⊥
  known_question z none =
      let k = passes_known t.header (asked_from object question value) (first_is ∙ z) in
      elim none [ inl below ↦ omega (arith, k, below) | inr above ↦ omega (arith, k, above) ]

  pub refused_replied : (refusal ≡ 0 → ⊥) → (says.Refused refusal, out) ≡ replied reply out
  unfolding ask replied
  refused_replied g = sym (ap (λ (r : Reply). replied r out) (first_refuses t.header (by_rows t) (length out) (asked_from object question value) (λ e. g (sym first_is ∙ e)) ∙ ap refused first_is))

  module _ (z : refusal ≡ 0) where
    pub object_declared : object < objects_in s
    unfolding declared table_of
    object_declared =
        let long : length (take (objects_in s) (drop 7 s)) ≡ objects_in s = length-take-le (objects_in s) (drop 7 s) (simp length-drop (omega (arith, K.long, K.objects))) in
        rw long at (ltb-true object (length t.header.kinds) (is_declared t.header (by_rows t) (length out) (asked_from object question value) (first_is ∙ z)))

    is_passed : reply ≡ cond (list_too_long (by_rows t) (length out) (asked_from object question value)) (too_long (length ((by_rows t).list_at object))) (answered (answer_from (by_rows t) (asked_from object question value)))
    unfolding ask
    is_passed = none_refuses t.header (by_rows t) (length out) (asked_from object question value) (first_is ∙ z)

    pub total_replied : question ≡ 1 → (x y : ℕ) → x ∷ y ∷ [] ≡ total_words ((by_rows t).total_at object) → (says.Total x y, out) ≡ replied reply out
    unfolding replied list_too_long answer_from
    total_replied q x y e =
        let given : reply ≡ answered (total ((by_rows t).total_at object)) = is_passed ∙ rw q refl in
        ap (λ (l : List ℕ). (says.Total (get_or l 0 0) (get_or l 1 0), out)) e ∙ sym (ap (λ (r : Reply). replied r out) given)

    pub flag_replied : question ≡ 2 → (b : Bool) → b ≡ (by_rows t).in_at object 0 → (says.Flag b, out) ≡ replied reply out
    unfolding replied list_too_long answer_from
    flag_replied q b e =
        let given : reply ≡ answered (flag ((by_rows t).in_at object 0)) = is_passed ∙ rw q refl in
        ap (λ (on : Bool). (says.Flag on, out)) e ∙ sym (ap (λ (r : Reply). replied r out) given)

    pub list_asked : question ≡ 3 → (r : Told) (x : List ℕ) → (r, x) ≡ replied (list_reply t object (length out)) out → (r, x) ≡ replied reply out
    unfolding list_too_long answer_from list_reply
    list_asked q r x e = e ∙ sym (ap (λ (r : Reply). replied r out) (is_passed ∙ rw q refl))

    pub count_replied : question ≡ 4 → (k : RowCount) → k.0 ≡ (by_rows t).count_at object → (says.Count k, out) ≡ replied reply out
    unfolding replied list_too_long answer_from
    count_replied q k e =
        let given : reply ≡ answered (count ((by_rows t).count_at object)) = is_passed ∙ rw q refl in
        ap (λ (m : ℕ). (says.Count (record { 0 = m }), out)) e ∙ sym (ap (λ (r : Reply). replied r out) given)

    pub holds_replied : question ≡ 5 → (b : Bool) → b ≡ (by_rows t).in_at object value → (says.Holds b, out) ≡ replied reply out
    unfolding replied list_too_long answer_from
    holds_replied q b e =
        let given : reply ≡ answered (holds ((by_rows t).in_at object value)) = is_passed ∙ rw q refl in
        ap (λ (there : Bool). (says.Holds there, out)) e ∙ sym (ap (λ (r : Reply). replied r out) given)

-- what passes by the table's header passes by the kinds that stand in it
pub passes : (s : List ℕ) → Checked s → (object question value : ℕ) → first_of (asked_refusals (table_of s).header (asked_from object question value)) ≡ 0 → 0 ≡ first_of (asked_refusals (header_of_kinds (take (7 + objects_in s - 7) (drop 7 s))) (asked_from object question value))
passes s K object question value z = sym (sym (first_is s K object question value (objects_in s) refl _ refl []) ∙ z)
