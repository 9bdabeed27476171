-- What a question is told, asked with no room for a list, and the line that says it.
use mathlib.Core.Path.{◌≡◌, refl, sym, ap, ◌∙◌}
use mathlib.Core.Bool.{Bool, true, false, not, cond, false≢true}
use mathlib.Core.List.{List, [], ◌∷◌}
use Prim.Native.Nat.{ℕ}
use lib.Dec.{eqb, ltb}
use lib.ListN.{length}
use borrow.Author.Tests.{eqb-true, le-ltb}
use Rattle.meaning.specs.Rows.{count_by_rows}
use Rattle.meaning.specs.Table.{Table, kind_in, most_rows}
use Rattle.meaning.specs.Questions as question
use Rattle.meaning.specs.Questions.{Asked, Source, by_rows, answer_from, fits}
use Rattle.meaning.specs.Refusals.{◌when◌, first_of, declared, well_asked, list_too_long, asked_refusals, question_refusals}
use Rattle.meaning.specs.Calls as meaning
use Rattle.meaning.specs.Calls.{ask, ask_of, reply_of}
use Rattle.meaning.proofs.Tests.{and_left, cases}
use Rattle.words_layout.specs.Layout.{table_of}
use Rattle.words_tags.specs.declared.RowCount.{RowCount}
use Rattle.refusal_kind.specs.Asking.{asked_from}
use Rattle.table_rules.specs.Checked.{Checked}
use Rattle.question.specs.Told.{Told}
use Rattle.question.specs.Told as says
use Rattle.question.specs.Replies.{replied}
use Rattle.line_read.specs.Types.{count, flag, line_of, refused, sum}
use Rattle.line_print.specs.Printed.{printed}
use Rattle.line_put.specs.Writing.{line_written}
use Rattle.std.proofs.Common.{Result}
use Rattle.line_put.specs.declared.TooShort.{TooShort}
use Rattle.call_question.specs.AnswerBytes.{list_bytes, refusal_bytes, reply_bytes}
use Rattle.call_question.proofs.Values.{listed}
use Rattle.call_question.proofs.Listed.{values_few}

-- the line of a reply, where the list is known
unfoldable told_bytes : Told → List ℕ → List ℕ
told_bytes (says.Refused number) values = refusal_bytes number
told_bytes (says.TooLong needed) values = list_bytes values
told_bytes (says.Total high low) values = line_of sum (high ∷ low ∷ []) []
told_bytes (says.Flag on) values = line_of flag (cond on 1 0 ∷ []) []
told_bytes (says.List length) values = list_bytes values
told_bytes (says.Count number) values = line_of count (number.0 ∷ []) []
told_bytes (says.Holds there) values = line_of flag (cond there 1 0 ∷ []) []

-- the count that comes with a list, or with 11
unfoldable count_told : Told → ℕ → ℕ
count_told (says.Refused number) other = other
count_told (says.TooLong needed) other = needed.0
count_told (says.Total high low) other = other
count_told (says.Flag on) other = other
count_told (says.List length) other = length.0
count_told (says.Count number) other = other
count_told (says.Holds there) other = other

module _ (source : Source) (asked : Asked) where
  abbrev pub o : ℕ
  o = asked.object

  abbrev pub values : List ℕ
  values = source.list_at o

  abbrev pub answer : Bool → Bool → Bool → Bool → question.Answer
  answer total flag list count =
      cond total (question.total (source.total_at o))
      (cond flag (question.flag (source.in_at o 0))
      (cond list (question.list values)
      (cond count (question.count (source.count_at o)) (question.holds (source.in_at o asked.value)))))

  abbrev pub chain : Bool → Bool → Bool → Bool → meaning.Reply
  chain a b c d = reply_of (first_of ((1 when a) ∷ (3 when b) ∷ (12 when c) ∷ (11 when d) ∷ [])) source asked

  answer_bytes : (p q r s : Bool) → told_bytes (replied (meaning.answered (answer p q r s)) []).0 values ≡ reply_bytes (meaning.answered (answer p q r s))
  unfolding told_bytes replied reply_bytes
  answer_bytes true q r s = refl
  answer_bytes false true r s = refl
  answer_bytes false false true s = refl
  answer_bytes false false false true = refl
  answer_bytes false false false false = refl

  answer_count : (p q r s : Bool) → count_told (replied (meaning.answered (answer p q r s)) []).0 (length values) ≡ length values
  unfolding count_told replied
  answer_count true q r s = refl
  answer_count false true r s = refl
  answer_count false false true s = refl
  answer_count false false false true = refl
  answer_count false false false false = refl

  chain_bytes : (a b c d : Bool) → (d ≡ true → answer_from source asked ≡ question.list values) → told_bytes (replied (chain a b c d) []).0 values ≡ reply_bytes (chain a b c false)
  unfolding told_bytes replied reply_bytes reply_of answer_from
  chain_bytes true b c d h = refl
  chain_bytes false true c d h = refl
  chain_bytes false false true d h = refl
  chain_bytes false false false true h = rw (h refl) refl
  chain_bytes false false false false h = answer_bytes (eqb asked.question 1) (eqb asked.question 2) (eqb asked.question 3) (eqb asked.question 4)

  chain_count : (a b c d : Bool) → count_told (replied (chain a b c d) []).0 (length values) ≡ length values
  unfolding count_told replied reply_of answer_from
  chain_count true b c d = refl
  chain_count false true c d = refl
  chain_count false false true d = refl
  chain_count false false false true = refl
  chain_count false false false false = answer_count (eqb asked.question 1) (eqb asked.question 2) (eqb asked.question 3) (eqb asked.question 4)

module _ (s : List ℕ) (K : Checked s) (object asking value : ℕ) where
  abbrev t : Table
  t = table_of s

  abbrev asked : Asked
  asked = asked_from object asking value

  abbrev long : ℕ → Bool
  long room = list_too_long (by_rows t) room asked

  -- a line has room for every list
  pub never_long : long most_rows ≡ false
  unfolding list_too_long
  never_long = cases (eqb asking 3)
      (λ q. rw q (le-ltb most_rows (length (listed s object)) (values_few s K object)))
      (λ q. rw q refl)

  list_asked : long 0 ≡ true → answer_from (by_rows t) asked ≡ question.list (listed s object)
  unfolding list_too_long answer_from
  list_asked e = cases (eqb asking 3)
      (λ q. let three : asking ≡ 3 = eqb-true asking 3 q in rw three refl)
      (λ q. absurd (false≢true (sym q ∙ and_left (eqb asking 3) (ltb 0 (length (listed s object))) e)))

  bytes_told : told_bytes (replied (ask t 0 asked) []).0 (listed s object) ≡ reply_bytes (ask t most_rows asked)
  unfolding ask ask_of question_refusals asked_refusals
  bytes_told =
      let one = not (well_asked asked) in
      let two = not (declared t.header object) in
      let three = not (fits asking (kind_in t.header object)) in
      chain_bytes (by_rows t) asked one two three (long 0) list_asked
      ∙ ap (λ (d : Bool). reply_bytes (chain (by_rows t) asked one two three d)) (sym never_long)

  count_told_lem : count_told (replied (ask t 0 asked) []).0 ((by_rows t).count_at object) ≡ (by_rows t).count_at object
  unfolding ask ask_of question_refusals asked_refusals by_rows count_by_rows
  count_told_lem = chain_count (by_rows t) asked (not (well_asked asked)) (not (declared t.header object)) (not (fits asking (kind_in t.header object))) (long 0)

  module _ (lent : List ℕ) (n : lent ≡ []) (r : Told) (x : List ℕ) (e : (r, x) ≡ replied (ask t (length lent) asked) lent) where
    reply_is : r ≡ (replied (ask t 0 asked) []).0
    reply_is = ap (λ (p : Told × List ℕ). p.0) e ∙ ap (λ (l : List ℕ). (replied (ask t (length l) asked) l).0) n

    pub too_long_counted : (k : RowCount) → r ≡ says.TooLong k → k.0 ≡ (by_rows t).count_at object
    unfolding count_told
    too_long_counted k h = ap (λ (q : Told). count_told q ((by_rows t).count_at object)) (sym h ∙ reply_is) ∙ count_told_lem

    pub list_counted : (k : RowCount) → r ≡ says.List k → k.0 ≡ (by_rows t).count_at object
    unfolding count_told
    list_counted k h = ap (λ (q : Told). count_told q ((by_rows t).count_at object)) (sym h ∙ reply_is) ∙ count_told_lem

    bytes_are : (q : Told) → r ≡ q → told_bytes q (listed s object) ≡ reply_bytes (ask t most_rows asked)
    bytes_are q h = ap (λ (q : Told). told_bytes q (listed s object)) (sym h ∙ reply_is) ∙ bytes_told

    module _ (out : List ℕ) (w : Result ℕ TooShort) (y : List ℕ) where
      pub refused_told : (number : ℕ) → r ≡ says.Refused number → (w, y) ≡ printed out refused (number ∷ []) [] → (w, y) ≡ line_written out (reply_bytes (ask t most_rows asked))
      unfolding told_bytes printed refusal_bytes
      refused_told number h p = p ∙ ap (line_written out) (bytes_are (says.Refused number) h)

      pub too_long_told : (k : RowCount) → r ≡ says.TooLong k → (w, y) ≡ line_written out (list_bytes (listed s object)) → (w, y) ≡ line_written out (reply_bytes (ask t most_rows asked))
      unfolding told_bytes
      too_long_told k h p = p ∙ ap (line_written out) (bytes_are (says.TooLong k) h)

      pub total_told : (high low : ℕ) → r ≡ says.Total high low → (w, y) ≡ printed out sum (high ∷ low ∷ []) [] → (w, y) ≡ line_written out (reply_bytes (ask t most_rows asked))
      unfolding told_bytes printed
      total_told high low h p = p ∙ ap (line_written out) (bytes_are (says.Total high low) h)

      pub flag_told : (on : Bool) → r ≡ says.Flag on → (b : ℕ) → b ≡ cond on 1 0 → (w, y) ≡ printed out flag (b ∷ []) [] → (w, y) ≡ line_written out (reply_bytes (ask t most_rows asked))
      unfolding told_bytes printed
      flag_told on h b g p = p ∙ ap (λ (k : ℕ). line_written out (line_of flag (k ∷ []) [])) g ∙ ap (line_written out) (bytes_are (says.Flag on) h)

      pub list_told : (k : RowCount) → r ≡ says.List k → (w, y) ≡ line_written out (list_bytes (listed s object)) → (w, y) ≡ line_written out (reply_bytes (ask t most_rows asked))
      unfolding told_bytes
      list_told k h p = p ∙ ap (line_written out) (bytes_are (says.List k) h)

      pub number_told : (k : RowCount) → r ≡ says.Count k → (w, y) ≡ printed out count (k.0 ∷ []) [] → (w, y) ≡ line_written out (reply_bytes (ask t most_rows asked))
      unfolding told_bytes printed
      number_told k h p = p ∙ ap (line_written out) (bytes_are (says.Count k) h)

      pub holds_told : (there : Bool) → r ≡ says.Holds there → (b : ℕ) → b ≡ cond there 1 0 → (w, y) ≡ printed out flag (b ∷ []) [] → (w, y) ≡ line_written out (reply_bytes (ask t most_rows asked))
      unfolding told_bytes printed
      holds_told there h b g p = p ∙ ap (λ (k : ℕ). line_written out (line_of flag (k ∷ []) [])) g ∙ ap (line_written out) (bytes_are (says.Holds there) h)
