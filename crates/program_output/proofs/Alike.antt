-- A line is answered by its bytes and its type: lines that have these in common get the same answers.
use mathlib.Core.Path.{◌≡◌, refl}
use mathlib.Core.List.{List}
use Prim.Native.Nat.{ℕ}
use Rattle.line_decode.specs.Decoding.{bytes_of, type_of}
use Rattle.line_decode.specs.LineKinds.{kind_of}
use Rattle.line_decode.specs.declared.LineKind.{LineKind}
use Rattle.line_decode.specs.declared.LineKind.TheVariants as kind
use Rattle.call_checked.specs.Called.{opened_by, received_on, settled_on}
use Rattle.call_answer.specs.Answering.{answer_on, issue_answer, question_answer, second_opening}
use Rattle.calls.specs.Answers.{answer_of, first_answer, lines_for}
use Rattle.program_output.specs.Gathering.{Held, replied}

module _ (a b : List ℕ) (same : bytes_of a ≡ bytes_of b) where
  received_alike : (words : List ℕ) → received_on a words ≡ received_on b words
  unfolding received_on
  received_alike words = rw same refl

  settled_alike : (words : List ℕ) → settled_on a words ≡ settled_on b words
  unfolding settled_on
  settled_alike words = rw same refl

  opened_alike : (words : List ℕ) → opened_by a words ≡ opened_by b words
  unfolding opened_by
  opened_alike words = rw same refl

  issue_alike : (words : List ℕ) → issue_answer a words ≡ issue_answer b words
  unfolding issue_answer
  issue_alike words = rw same refl

  question_alike : (words : List ℕ) → question_answer a words ≡ question_answer b words
  unfolding question_answer
  question_alike words = rw same refl

  second_alike : second_opening a ≡ second_opening b
  unfolding second_opening
  second_alike = rw same refl

  on_alike : (k : LineKind) (words : List ℕ) → answer_on k a words ≡ answer_on k b words
  unfolding answer_on
  on_alike kind.Opening words = rw second_alike refl
  on_alike kind.Operation words = rw (received_alike words) refl
  on_alike kind.Issue words = issue_alike words
  on_alike kind.Settling words = rw (settled_alike words) refl
  on_alike kind.Question words = rw (question_alike words) refl
  on_alike kind.Printing words = refl
  on_alike kind.Saved words = refl
  on_alike kind.Unknown words = refl

  first_alike : (k : LineKind) (words : List ℕ) → first_answer k a words ≡ first_answer k b words
  unfolding first_answer
  first_alike kind.Opening words = rw (opened_alike words) refl
  first_alike kind.Operation words = refl
  first_alike kind.Issue words = refl
  first_alike kind.Settling words = refl
  first_alike kind.Question words = refl
  first_alike kind.Printing words = refl
  first_alike kind.Saved words = refl
  first_alike kind.Unknown words = refl

  answer_alike : type_of a ≡ type_of b → (words : List ℕ) → answer_of a words ≡ answer_of b words
  unfolding answer_of
  answer_alike type words = rw (type, on_alike (kind_of (type_of b)) words, first_alike (kind_of (type_of b)) words) refl

  lines_alike : type_of a ≡ type_of b → (words : List ℕ) → lines_for a words ≡ lines_for b words
  unfolding lines_for
  lines_alike type words = rw (same, answer_alike type words) refl

  -- so they leave the same behind
  pub replied_alike : type_of a ≡ type_of b → (held : Held) → replied a held ≡ replied b held
  unfolding replied
  replied_alike type held = rw (lines_alike type held.0, answer_alike type held.0) refl
