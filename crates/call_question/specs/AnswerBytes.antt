-- The bytes of an answer's line: "`00` and the result, or `ff` and the refusal number".
use Rattle.std.specs.Prelude.{cond, List, [], ◌∷◌, ℕ, ◌+◌, ◌*◌, length}
use Rattle.meaning.specs.Questions as question
use Rattle.meaning.specs.Calls as meaning
use Rattle.words_layout.specs.Layout.{total_words}
use Rattle.line_read.specs.Types.{count, flag, line_of, refused, sum}
use Rattle.meaning.specs.Table.{most_rows}

-- "list a 2-byte count, then the different values ascending"
unfoldable pub list_bytes : List ℕ → List ℕ
list_bytes values = line_of count (length values ∷ []) values

-- "or `ff` and the refusal number"
unfoldable pub refusal_bytes : ℕ → List ℕ
refusal_bytes number = line_of refused (number ∷ []) []

-- "Results: ... count 2 bytes; total 8; flag and holds 1; list"; 11 is told by its number alone.
unfoldable pub reply_bytes : meaning.Reply → List ℕ
reply_bytes (meaning.Reply.refused number) = refusal_bytes number
reply_bytes (meaning.Reply.too_long needed) = refusal_bytes 11
reply_bytes (meaning.Reply.answered (question.total z)) = line_of sum (total_words z) []
reply_bytes (meaning.Reply.answered (question.flag on)) = line_of flag (cond on 1 0 ∷ []) []
reply_bytes (meaning.Reply.answered (question.list values)) = list_bytes values
reply_bytes (meaning.Reply.answered (question.count number)) = line_of count (number ∷ []) []
reply_bytes (meaning.Reply.answered (question.holds there)) = line_of flag (cond there 1 0 ∷ []) []

-- The bytes of the longest answer, a list: `00`, a 2-byte count, and a value for each row of the largest table.
abbrev pub longest_answer_bytes : ℕ
longest_answer_bytes = 3 + 4 * most_rows
