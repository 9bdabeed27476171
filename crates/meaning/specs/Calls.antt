-- The calls over a table record: what each returns, and the table afterwards.
use Rattle.std.specs.Prelude.{cond, List, ℕ, eqb, set, length}
use Rattle.meaning.specs.Order.{Vector, raised}
use Rattle.meaning.specs.Operations.{Operation}
use Rattle.meaning.specs.Rows.{Row}
use Rattle.meaning.specs.Arrival.{rows_after, totals_after}
use Rattle.meaning.specs.Settling.{settled_rows, steps_taken}
use Rattle.meaning.specs.Table.{Header, Table, kind_in, low, opened}
use Rattle.meaning.specs.Questions.{Asked, Answer, Source, by_rows, by_definition, answer_from}
use Rattle.meaning.specs.Refusals.{Frame, Local, first_of, refusal_of_frame, issued_by, refusal_of_local, refusal_of_settling, question_refusals, opening_refusals}

-- The table with other rows.
abbrev pub with_rows : Table → List Row → Table
with_rows table rows = record { header = table.header; clock = table.clock; last = table.last; totals = table.totals; rows = rows }

-- The table after the operation u arrived; last is L afterwards.
unfoldable pub after_arrival : Table → Operation → List Vector → Table
after_arrival table u last =
    let kind = kind_in table.header u.object in
    record {
      header = table.header;
      clock = raised table.clock u.sender;
      last = last;
      totals = totals_after kind u table.totals;
      rows = rows_after kind u table.rows;
    }

-- "A refusal returns its number"; an accepted operation changes the table.
pub data Outcome : Type 0 where
  refused : ℕ → Outcome
  accepted : Operation → Table → Outcome

-- "A refusal returns its number": 0 is none.
unfoldable pub outcome : ℕ → Operation → Table → Outcome
outcome refusal u after = cond (eqb refusal 0) (accepted u after) (refused refusal)

-- A frame; "L[k], the vector of the last frame accepted from k".
unfoldable pub receive : Table → Frame → Outcome
receive table frame =
    let u = frame.operation in
    outcome (refusal_of_frame table frame) u (after_arrival table u (set table.last u.sender u.vector))

-- A local operation, which leaves L alone.
unfoldable pub issue : Table → Local → Outcome
issue table local =
    let u = issued_by table local in
    outcome (refusal_of_local table local) u (after_arrival table u table.last)

-- A settling call, and the steps it reports.
pub data Settled : Type 0 where
  refused : ℕ → Settled
  settled : ℕ → Table → Settled

-- "takes steps until the limit or until no stable unsettled row is left": the rows that a settling call leaves.
unfoldable pub rows_settled : Table → ℕ → List Row
rows_settled table limit = settled_rows limit (kind_in table.header) (low table) table.rows

-- "and reports how many steps it took"
unfoldable pub steps : Table → ℕ → ℕ
steps table limit = steps_taken limit (kind_in table.header) (low table) table.rows

-- "Settling passes 14, 1".
unfoldable pub settle : Table → ℕ → Settled
settle table limit =
    let refusal = refusal_of_settling limit in
    cond (eqb refusal 0) (settled (steps table limit) (with_rows table (rows_settled table limit))) (refused refusal)

-- A question; "11 ... the needed count is returned".
pub data Reply : Type 0 where
  refused : ℕ → Reply
  too_long : ℕ → Reply
  answered : Answer → Reply

-- "A refusal returns its number (11 also the count)."
unfoldable pub reply_of : ℕ → Source → Asked → Reply
reply_of refusal source asked =
    cond (eqb refusal 0) (answered (answer_from source asked))
    (cond (eqb refusal 11) (too_long (length (source.list_at asked.object))) (refused refusal))

-- "A question passes 14, 1, 3, 12, 11": put to one who answers, by rows or by the definitions.
unfoldable pub ask_of : Header → Source → ℕ → Asked → Reply
ask_of header source room asked = reply_of (first_of (question_refusals header source room asked)) source asked

-- A question to a table, which answers from its rows; room is the length of the list space.
unfoldable pub ask : Table → ℕ → Asked → Reply
ask table room asked = ask_of table.header (by_rows table) room asked

-- The same question put to the definitions over all accepted operations.
unfoldable pub meant : Header → List Operation → ℕ → Asked → Reply
meant header operations room asked = ask_of header (by_definition header operations) room asked

-- Opening, in a space of so many words where so many are needed.
pub data Opening : Type 0 where
  refused : ℕ → Opening
  fresh : Table → Opening

-- "opening 1, 13": a fresh table, or the number.
unfoldable pub open_table : ℕ → ℕ → Header → Opening
open_table space needed header =
    let refusal = first_of (opening_refusals space needed header) in
    cond (eqb refusal 0) (fresh (opened header)) (refused refusal)
