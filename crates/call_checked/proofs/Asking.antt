-- A question, way by way.
use mathlib.Core.Path.{◌≡◌, refl, ap, ◌∙◌}
use mathlib.Core.Bool.{false}
use mathlib.Core.List.{List}
use Prim.Native.Nat.{ℕ}
use lib.ListN.{length}
use Rattle.meaning.specs.Calls as meaning
use Rattle.words_layout.specs.Layout.{table_of}
use Rattle.refusal_kind.specs.Asking.{asked_from}
use Rattle.question.specs.Told.{Told}
use Rattle.question.specs.Told as reply
use Rattle.question.specs.Replies.{replied}
use Rattle.line_read.specs.declared.Question.{Question}
use Rattle.line_read.specs.Named.{is_question, question_read}
use Rattle.line_decode.specs.Decoding.{bytes_of}
use Rattle.call_checked.specs.Called.{replied_on}
use Rattle.call_checked.proofs.Shaped.{read_right, read_fields}
use Rattle.std.proofs.Common.{Some, None}
use Rattle.std.specs.Bool.{if◌then◌else◌}

pub ask_misshapen : (line words out : List ℕ) → is_question (bytes_of line) ≡ false → (reply.Refused 1, out) ≡ replied_on line words out
unfolding replied_on
ask_misshapen line words out f = rw f refl

module _ (line words out : List ℕ) (asked : Question) (e : Some asked ≡ (if is_question (bytes_of line) then Some (question_read (bytes_of line)) else None)) where
  pub ask_replied : (r : Told) (x : List ℕ) → (r, x) ≡ replied (meaning.ask (table_of words) (length out) (asked_from asked.object asked.question asked.value)) out → (r, x) ≡ replied_on line words out
  unfolding replied_on
  ask_replied r x g =
      rw (read_right (is_question (bytes_of line)) (question_read (bytes_of line)) asked e)
      (g ∙ ap (λ (q : Question). replied (meaning.ask (table_of words) (length out) (asked_from q.object q.question q.value)) out) (read_fields (is_question (bytes_of line)) (question_read (bytes_of line)) asked e))
