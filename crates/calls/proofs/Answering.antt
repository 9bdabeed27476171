-- The station program's answer, way by way.
use Rattle.std.proofs.Common.{Result, Ok, Err, Option, Some, None}
use Rattle.line_put.specs.declared.TooShort.{TooShort}
use mathlib.Core.Path.{◌≡◌, refl, sym, ap, ap₂, ◌∙◌, subst}
use mathlib.Core.Bool.{Bool, true, false, ◌&&◌}
use mathlib.Core.List.{List, [], ◌∷◌}
use Prim.Native.Nat.{ℕ, zero, suc, ◌≤◌}
use native.Mathlib.Omega.{arith}
use borrow.Author.Tests.{ne_eqb}
use lib.Dec.{eqb}
use lib.ListN.{length}
use Rattle.meaning.specs.Table.{is_table}
use Rattle.meaning.proofs.Tests.{and_right, cases}
use Rattle.words_layout.specs.Layout.{holds_table, table_of}
use Rattle.table_rules.proofs.Checking.{checked}
use Rattle.line_hex.specs.Choice.{pick}
use Rattle.line_put.specs.Writing.{line_written}
use Rattle.line_put.proofs.Whole.{length_hex_line}
use Rattle.line_read.specs.Types.{printing}
use Rattle.line_read.specs.Named.{printing_read}
use Rattle.call_question.specs.AnswerBytes.{refusal_bytes, longest_answer_bytes}
use Rattle.form_write.specs.Forms.{formed_of, line_at, line_into, saved_form}
use Rattle.form_write.proofs.Short.{Short, form_short}
use Rattle.form_save.specs.Saving.{saved_as, saved_by, saved_on}
use Rattle.call_checked.specs.Called.{opened_by}
use Rattle.call_answer.specs.Answering.{answer_on, changing, outcome_bytes, answered_after, frame_room}
use Rattle.call_answer.proofs.Choosing.{told}
use Rattle.call_answer.proofs.Short.{answer_short, outcome_short, refusal_short}
use Rattle.line_decode.specs.Decoding.{bytes_of, type_of}
use Rattle.line_decode.specs.LineKinds.{kind_of}
use Rattle.line_decode.specs.declared.LineKind.{LineKind}
use Rattle.line_decode.specs.declared.LineKind.TheVariants as kind
use Rattle.line_decode.proofs.KindOfType.{shaped_type}
use Rattle.calls.specs.Answers.{answered_by, answer_of, first_answer, lines_for, space_after, longest_answer}
use Rattle.call_answer.specs.OutputLines.{line_or_end, printed_at}
use Rattle.call_answer.proofs.OutputLines.{only_later, only_line, said}

-- before an accepted opening: an opening, or 14
module _ (line words : List ℕ) where
  pub first_cases : (C : LineKind → List ℕ × List ℕ → Type 0) → C kind.Opening (changing outcome_bytes (opened_by line words)) → ((k : LineKind) → C k (refusal_bytes 14, words)) → (k : LineKind) → C k (first_answer k line words)
  unfolding first_answer
  first_cases C o n kind.Opening = o
  first_cases C o n kind.Operation = n kind.Operation
  first_cases C o n kind.Issue = n kind.Issue
  first_cases C o n kind.Settling = n kind.Settling
  first_cases C o n kind.Question = n kind.Question
  first_cases C o n kind.Printing = n kind.Printing
  first_cases C o n kind.Saved = n kind.Saved
  first_cases C o n kind.Unknown = n kind.Unknown

  none_opened : (k : LineKind) → (k ≡ kind.Opening → ⊥) → first_answer k line words ≡ (refusal_bytes 14, words)
  none_opened = first_cases (λ k answer. (k ≡ kind.Opening → ⊥) → answer ≡ (refusal_bytes 14, words)) (λ n. absurd (n refl)) (λ k n. refl)

  first_fits : (k : LineKind) → length (first_answer k line words).0 ≤ longest_answer_bytes
  first_fits = first_cases (λ k answer. length answer.0 ≤ longest_answer_bytes) (outcome_short (opened_by line words).0) (λ k. refusal_short 14)

-- on a table, and before an accepted opening
module _ (line words out : List ℕ) (k : LineKind) (e : k ≡ kind_of (type_of line)) (b : Bool) (t : b ≡ holds_table words) where
  pub first_on : b ≡ true → (w : Result ℕ TooShort) (x y : List ℕ) → (w, (x, y)) ≡ answered_after out (answer_on k line words) → (w, (x, y)) ≡ answered_after out (answer_of line words)
  unfolding answer_of
  first_on h w x y p = p ∙ ap (answered_after out) (rw (sym t ∙ h, e) refl)

  module _ (f : b ≡ false) where
    before : first_answer k line words ≡ answer_of line words
    unfolding answer_of
    before = rw (sym t ∙ f, e) refl

    pub first_opens : k ≡ kind.Opening → (r : Result (Unit {0}) ℕ) (x : List ℕ) → (r, x) ≡ opened_by line words → (w : Result ℕ TooShort) (y : List ℕ) → (w, y) ≡ line_written out (outcome_bytes r) → (w, (x, y)) ≡ answered_after out (answer_of line words)
    unfolding first_answer
    first_opens z r x g w y p = told out (outcome_bytes r) x (answer_of line words) (sym before ∙ rw z (ap (λ (q : Result (Unit {0}) ℕ × List ℕ). (outcome_bytes q.0, q.1)) (sym g))) w y x p refl

    pub first_none : (k ≡ kind.Opening → ⊥) → (w : Result ℕ TooShort) (y : List ℕ) → (w, y) ≡ line_written out (refusal_bytes 14) → (w, (words, y)) ≡ answered_after out (answer_of line words)
    first_none n w y p = told out (refusal_bytes 14) words (answer_of line words) (sym before ∙ none_opened line words k n) w y words p refl

-- every answer's line has room
pub answer_fits : (line words : List ℕ) → length (answer_of line words).0 ≤ longest_answer_bytes
unfolding answer_of
answer_fits line words = by (holds_table words) (λ h. answer_short words (checked words h) (kind_of (type_of line)) line)
  where
    by : (b : Bool) → (b ≡ true → length (answer_on (kind_of (type_of line)) line words).0 ≤ longest_answer_bytes) → length (pick b (answer_on (kind_of (type_of line)) line words) (first_answer (kind_of (type_of line)) line words)).0 ≤ longest_answer_bytes
    by true f = f refl
    by false f = first_fits line words (kind_of (type_of line))

-- what saving tells of a form all of whose lines have room
abbrev Formed-as : Result (Option ℕ) ℕ → List ℕ → List (List ℕ) → ℕ → List ℕ → Type 0
Formed-as (Err number) y lines k out = ⊥
Formed-as (Ok (Some n)) y lines k out = ◌≡◌ {A = Option ℕ × List ℕ} (Some n, y) (printed_at lines k out)
Formed-as (Ok None) y lines k out = ◌≡◌ {A = Option ℕ × List ℕ} (None, y) (printed_at lines k out)

formed_later : (r : Result (Option ℕ) ℕ) (y bytes : List ℕ) (form : List (List ℕ)) (place : ℕ) (out : List ℕ) → Formed-as r y form place out → Formed-as r y (bytes ∷ form) (suc place) out
unfolding printed_at
formed_later (Err number) y bytes form place out f = f
formed_later (Ok (Some n)) y bytes form place out f = f
formed_later (Ok None) y bytes form place out f = f

form_at : (form : List (List ℕ)) → Short form → (place : ℕ) (out : List ℕ) → frame_room ≤ length out → Formed-as (saved_as out (line_at form place out)).0 (saved_as out (line_at form place out)).1 form place out
unfolding saved_as line_at printed_at line_into formed_of
form_at [] s place out room = refl
form_at (bytes ∷ form) s zero out room = rw (said out bytes (omega (arith, length_hex_line bytes, s.0))) refl
form_at (bytes ∷ form) s (suc place) out room =
    formed_later (saved_as out (line_at form place out)).0 (saved_as out (line_at form place out)).1 bytes form place out (form_at form s.1 place out room)

-- the lines for a line of type `60`, by what saving tells
abbrev Prints : Result (Option ℕ) ℕ → List ℕ → List (List ℕ) → ℕ → List ℕ → Type 0
Prints (Err number) y lines k out = (y ≡ out) × (lines ≡ refusal_bytes number ∷ [])
Prints (Ok (Some n)) y lines k out = ◌≡◌ {A = Option ℕ × List ℕ} (Some n, y) (printed_at lines k out)
Prints (Ok None) y lines k out = ◌≡◌ {A = Option ℕ × List ℕ} (None, y) (printed_at lines k out)

formed_prints : (r : Result (Option ℕ) ℕ) (y : List ℕ) (lines : List (List ℕ)) (k : ℕ) (out : List ℕ) → Formed-as r y lines k out → Prints r y lines k out
formed_prints (Err number) y lines k out f = absurd f
formed_prints (Ok (Some n)) y lines k out f = f
formed_prints (Ok None) y lines k out f = f

module _ (line words out : List ℕ) (t : kind_of (type_of line) ≡ kind.Printing) (room : frame_room ≤ length out) (k : ℕ) where
  abbrev told_by : Bool → Bool → Result (Option ℕ) ℕ × List ℕ
  told_by held read = pick held (pick read (saved_as out (line_at (saved_form (table_of words)) k out)) (Err 1, out)) (Err 14, out)

  abbrev lines_by : Bool → Bool → List (List ℕ)
  lines_by held read = pick (held && read) (saved_form (table_of words)) ((pick {A = List ℕ × List ℕ} held (refusal_bytes 1, words) (refusal_bytes 14, words)).0 ∷ [])

  prints_by : (held read : Bool) → (held ≡ true → is_table (table_of words) ≡ true) → Prints (told_by held read).0 (told_by held read).1 (lines_by held read) k out
  prints_by true true f =
      let form = saved_form (table_of words) in
      formed_prints (saved_as out (line_at form k out)).0 (saved_as out (line_at form k out)).1 form k out (form_at form (form_short (table_of words) (f refl)) k out room)
  prints_by true false f = (refl, refl)
  prints_by false read f = (refl, refl)

  answer_by : answer_of line words ≡ pick (holds_table words) (refusal_bytes 1, words) (refusal_bytes 14, words)
  unfolding answer_of answer_on first_answer
  answer_by = rw t refl

  pub printing_stays : space_after line k words ≡ words
  unfolding space_after
  printing_stays = rw answer_by (by (eqb k 0) (holds_table words))
    where
      by : (first held : Bool) → pick first (pick {A = List ℕ × List ℕ} held (refusal_bytes 1, words) (refusal_bytes 14, words)).1 words ≡ words
      by true true = refl
      by true false = refl
      by false held = refl

  module _ (r : Result (Option ℕ) ℕ) (y : List ℕ) (e : (r, y) ≡ saved_by line words k out) where
    prints : Prints r y (lines_for line words) k out
    unfolding saved_by saved_on lines_for
    prints =
        subst (λ (p : Result (Option ℕ) ℕ × List ℕ). Prints p.0 p.1 (lines_for line words) k out) (sym e)
        (rw answer_by (prints_by (holds_table words) (printing_read (bytes_of line)) (λ h. (checked words h).by_rules)))

    prints_as : (q : Result (Option ℕ) ℕ) → r ≡ q → Prints q y (lines_for line words) k out
    prints_as q h = subst (λ (u : Result (Option ℕ) ℕ). Prints u y (lines_for line words) k out) h prints

    pub form_there : (there : Option ℕ) → r ≡ Ok there → (there, y) ≡ printed_at (lines_for line words) k out
    form_there (Some n) h = prints_as (Ok (Some n)) h
    form_there None h = prints_as (Ok None) h

    pub form_room : (number : ℕ) → r ≡ Err number → frame_room ≤ length y
    form_room number h = rw (prints_as (Err number) h).0 room

    pub form_refused : (number : ℕ) → r ≡ Err number → (a : Option ℕ) (z : List ℕ) → (a, z) ≡ printed_at (refusal_bytes number ∷ []) k y → (a, z) ≡ printed_at (lines_for line words) k out
    form_refused number h a z p = let q = prints_as (Err number) h in p ∙ ap₂ (λ (l : List (List ℕ)) (x : List ℕ). printed_at l k x) (sym q.1) q.0

-- a `60` line is a printing one
pub printing_kind : (line : List ℕ) → printing_read (bytes_of line) ≡ true → kind_of (type_of line) ≡ kind.Printing
unfolding printing_read kind_of
printing_kind line e = rw (shaped_type printing 0 line e) refl

-- every other line is answered with one
pub one_line : (line words : List ℕ) → (printing_read (bytes_of line) ≡ true → ⊥) → lines_for line words ≡ (answer_of line words).0 ∷ []
unfolding lines_for
one_line line words n = cases (holds_table words && printing_read (bytes_of line))
    (λ b. absurd (n (and_right (holds_table words) (printing_read (bytes_of line)) b)))
    (λ b. rw b refl)

module _ (line words out : List ℕ) (k : LineKind) (e : k ≡ kind_of (type_of line)) where
  module _ (z : k ≡ kind.Printing) (place : ℕ) where
    pub is_printing : kind_of (type_of line) ≡ kind.Printing
    is_printing = sym e ∙ z

    pub answer_formed : length out ≡ longest_answer → (r : Option ℕ) (y : List ℕ) → (r, y) ≡ printed_at (lines_for line words) place out → (r, (words, y)) ≡ answered_by line place words out
    unfolding answered_by
    answer_formed long r y p = ap₂ (λ (q : Option ℕ × List ℕ) (l : List ℕ). (q.0, (l, q.1))) p (sym (printing_stays line words out is_printing (omega (arith, long)) place))

  module _ (n : k ≡ kind.Printing → ⊥) where
    alone : lines_for line words ≡ (answer_of line words).0 ∷ []
    alone = one_line line words (λ r. n (e ∙ printing_kind line r))

    pub answer_ended : (place : ℕ) → (place ≡ 0 → ⊥) → (None, (words, out)) ≡ answered_by line place words out
    unfolding answered_by space_after
    answer_ended place h = rw (alone, ne_eqb place 0 h) (ap (λ (q : Option ℕ × List ℕ). (q.0, (words, q.1))) (only_later (answer_of line words).0 out place (omega (arith, h))))

    pub answer_lined : (place : ℕ) → place ≡ 0 → length out ≡ longest_answer → (w : Result ℕ TooShort) (x y : List ℕ) → (w, (x, y)) ≡ answered_after out (answer_of line words) → (r : Option ℕ) → r ≡ line_or_end w → (r, (x, y)) ≡ answered_by line place words out
    unfolding answered_by space_after answered_after
    answer_lined place zero_th long w x y p r f =
        let bytes = (answer_of line words).0 in
        let line_is : ◌≡◌ {A = Result ℕ TooShort × List ℕ} (w, y) (line_written out bytes) = ap (λ (q : Result ℕ TooShort × (List ℕ × List ℕ)). (q.0, q.1.1)) p in
        let space_is : x ≡ (answer_of line words).1 = ap (λ (q : Result ℕ TooShort × (List ℕ × List ℕ)). q.1.0) p in
        let told : ◌≡◌ {A = Option ℕ × List ℕ} (r, y) (printed_at (bytes ∷ []) 0 out) = ap (λ (a : Option ℕ). (a, y)) f ∙ only_line out bytes (omega (arith, length_hex_line bytes, answer_fits line words)) w y line_is in
        rw (alone, zero_th) (ap₂ (λ (q : Option ℕ × List ℕ) (l : List ℕ). (q.0, (l, q.1))) told space_is)

-- how a line that was written is told
