-- What the second program says of a form: "prints it again, or one `ff` line".
use Rattle.std.specs.Prelude.{Result, Ok, Err, Option, List, [], ◌∷◌, ℕ}
use Rattle.call_question.specs.AnswerBytes.{refusal_bytes}
use Rattle.form_take.specs.declared.Loaded.{Loaded}
use Rattle.form_take.specs.declared.Loaded.TheVariants as loaded
use Rattle.form_load.specs.Loading.{loaded_by, load_ended}
use Rattle.calls.specs.Answers.{lines_for}
use Rattle.call_answer.specs.OutputLines.{printed_at}
use Rattle.form_judge.specs.declared.Judged.{Judged}
use Rattle.form_judge.specs.declared.Judged.TheVariants as judged

-- what is known of the form so far, and the table space
abbrev pub Judging : Type 0
Judging = Judged × List ℕ

-- a refused line refuses the form, the closing line closes it
unfoldable pub judged_as : Result Loaded ℕ → Judged
judged_as (Err number) = judged.Refused number
judged_as (Ok loaded.Taken) = judged.Open
judged_as (Ok loaded.Table) = judged.Closed

-- "The second program gives 15 to any line after the closing one." After the first refusal nothing is read any more.
unfoldable pub judged_by : List ℕ → Judging → Judging
judged_by line (judged.Open, words) = (judged_as (loaded_by line words).0, (loaded_by line words).1)
judged_by line (judged.Closed, words) = (judged.Refused 15, words)
judged_by line (judged.Refused number, words) = (judged.Refused number, words)

-- 15 to a form that "ends before its closing line", whatever the space holds
unfoldable pub judged_end : Judging → Judging
judged_end (judged.Open, words) = (judged.Refused 15, (load_ended words).1)
judged_end (judged.Closed, words) = (judged.Closed, words)
judged_end (judged.Refused number, words) = (judged.Refused number, words)

-- after every line, the first first
unfoldable pub judged_all : List (List ℕ) → Judging → Judging
judged_all [] judging = judging
judged_all (line ∷ lines) judging = judged_all lines (judged_by line judging)

-- the line `60`
abbrev pub printing : List ℕ
printing = 54 ∷ 48 ∷ 10 ∷ []

-- the output lines: those of the form, which `60` prints, or "one `ff` line"; none while the form goes on
unfoldable pub resaved_lines : Judged → List ℕ → List (List ℕ)
resaved_lines judged.Open words = []
resaved_lines judged.Closed words = lines_for printing words
resaved_lines (judged.Refused number) words = refusal_bytes number ∷ []

-- the k-th of them, or the end; the table space stays
unfoldable pub resaved_by : Judged → ℕ → List ℕ → List ℕ → Option ℕ × (List ℕ × List ℕ)
resaved_by verdict k words out =
    let printed = printed_at (resaved_lines verdict words) k out in
    (printed.0, (words, printed.1))
