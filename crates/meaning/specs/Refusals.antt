-- The refusal numbers, in the order in which each call tries them. Tried elsewhere, where there are lines and spaces: 14, before all that is here;
-- of 1 what is about a line ("wrong length or type", "not lower-case hexadecimal or without its LF"), before what is here; 10, after it; and 15.
use Rattle.std.specs.Prelude.{Bool, not, ◌&&◌, ◌||◌, cond, List, [], ◌∷◌, ◌++◌, ℕ, suc, leb, ltb, eqb, get_or, length}
use Rattle.meaning.specs.Tests.{every, between}
use Rattle.meaning.specs.Order.{Vector, entry_limit, at_most, raised}
use Rattle.meaning.specs.Operations.{Operation, number_of, allowed, value_limit}
use Rattle.meaning.specs.Arrival.{rows_after}
use Rattle.meaning.specs.Table.{Header, Table, kind_in, in_range}
use Rattle.meaning.specs.Questions.{Asked, Source, asks_total, asks_list, asks_holds, fits}

-- A refusal: its number, and when it is given unless an earlier one is.
pub record Refusal : Type 0 where
  pub number : ℕ
  pub given : Bool

infix 4 ◌when◌
abbrev pub ◌when◌ : ℕ → Bool → Refusal
number when given = record { number = number; given = given }

-- The number of the first refusal that is given, 0 where there is none.
abbrev pub first_of : List Refusal → ℕ
first_of [] = 0
first_of (refusal ∷ rest) = cond refusal.given refusal.number (first_of rest)

-- A frame: its N, and the operation that it carries.
pub record Frame : Type 0 where
  pub size : ℕ
  pub operation : Operation

-- A local operation: what a station issues, before it has a tag.
pub record Local : Type 0 where
  pub object : ℕ
  pub code : ℕ
  pub value : ℕ

-- "a frame's N not the table's"; and N entries of 32 bits each.
unfoldable pub well_shaped : Header → Frame → Bool
well_shaped header frame =
    eqb frame.size header.size
    && (eqb (length frame.operation.vector) header.size
    && every (λ (entry : ℕ). ltb entry entry_limit) frame.operation.vector)

-- 3: "object not declared".
unfoldable pub declared : Header → ℕ → Bool
declared header o = ltb o (length header.kinds)

-- 4: "code, value or amount not allowed for the kind".
unfoldable pub operation_allowed : Header → Operation → Bool
operation_allowed header u = allowed (kind_in header u.object) u.code u.value

-- Not "number above D[sender] + 1, or another entry above D".
unfoldable pub in_time : Vector → Operation → Bool
in_time clock u = at_most u.vector (raised clock u.sender)

-- "A frame passes ... 1 to 7": these ask only the header, D and L.
unfoldable pub frame_refusals : Header → Vector → List Vector → Frame → List Refusal
frame_refusals header clock last frame =
    let u = frame.operation in
    (1 when not (well_shaped header frame))
    ∷ (2 when (not (ltb u.sender header.size) || eqb u.sender header.own))
    ∷ (3 when not (declared header u.object))
    ∷ (4 when not (operation_allowed header u))
    ∷ (5 when leb (number_of u) (get_or clock u.sender 0))
    ∷ (6 when not (in_time clock u))
    ∷ (7 when not (at_most (get_or last u.sender []) u.vector))
    ∷ []

-- "the rows left after the arrival's drops, with its own row if it gets one, exceed capacity"
unfoldable pub room_for : Table → Operation → Bool
room_for table u =
    leb (length (rows_after (kind_in table.header u.object) u table.rows)) table.header.capacity

-- "A frame passes 14, 1 to 7, 8": 14 and a line's shape come before this.
unfoldable pub arrival_refusals : Table → Frame → List Refusal
arrival_refusals table frame =
    frame_refusals table.header table.clock table.last frame ++ ((8 when not (room_for table frame.operation)) ∷ [])

-- The number that a frame gets, 0 where it is accepted.
unfoldable pub refusal_of_frame : Table → Frame → ℕ
refusal_of_frame table frame = first_of (arrival_refusals table frame)

-- "its vector is D with the own entry one higher"
unfoldable pub issued_by : Table → Local → Operation
issued_by table local = record {
  object = local.object;
  code = local.code;
  value = local.value;
  sender = table.header.own;
  vector = raised table.clock table.header.own;
}

-- 3, 4 and 9 of a local operation: these ask only the header and D. 9: "own number is 4,294,967,295 already".
unfoldable pub issue_refusals : Header → Vector → Local → List Refusal
issue_refusals header clock local =
    (3 when not (declared header local.object))
    ∷ (4 when not (allowed (kind_in header local.object) local.code local.value))
    ∷ (9 when eqb (suc (get_or clock header.own 0)) entry_limit)
    ∷ []

-- "A local operation passes 14, 1, 3, 4, 9, 8, 10": 14 and 1 come before this, 10 after it.
unfoldable pub local_refusals : Table → Local → List Refusal
local_refusals table local =
    issue_refusals table.header table.clock local ++ ((8 when not (room_for table (issued_by table local))) ∷ [])

-- The number that a local operation gets, 0 where it is accepted.
unfoldable pub refusal_of_local : Table → Local → ℕ
refusal_of_local table local = first_of (local_refusals table local)

-- "A settling call carries a limit, 0 to 65,535"
abbrev pub greatest_limit : ℕ
greatest_limit = 65535

-- "Settling passes 14, 1": a limit that two bytes cannot hold is of "wrong length".
unfoldable pub settling_refusals : ℕ → List Refusal
settling_refusals limit = (1 when not (leb limit greatest_limit)) ∷ []

-- The number that a settling call gets, 0 where it is taken.
unfoldable pub refusal_of_settling : ℕ → ℕ
refusal_of_settling limit = first_of (settling_refusals limit)

-- "unknown question; a value given to a question that takes none": "The value is 0 except in question 5".
unfoldable pub well_asked : Asked → Bool
well_asked asked =
    between asks_total asks_holds asked.question
    && cond (eqb asked.question asks_holds) (ltb asked.value value_limit) (eqb asked.value 0)

-- "list space shorter than the list"
unfoldable pub list_too_long : Source → ℕ → Asked → Bool
list_too_long source room asked = eqb asked.question asks_list && ltb room (length (source.list_at asked.object))

-- 1, 3 and 12 of a question: these ask only the header.
unfoldable pub asked_refusals : Header → Asked → List Refusal
asked_refusals header asked =
    (1 when not (well_asked asked))
    ∷ (3 when not (declared header asked.object))
    ∷ (12 when not (fits asked.question (kind_in header asked.object)))
    ∷ []

-- "A question passes 14, 1, 3, 12, 11": 14 and a line's shape come before this.
unfoldable pub question_refusals : Header → Source → ℕ → Asked → List Refusal
question_refusals header source room asked = asked_refusals header asked ++ ((11 when list_too_long source room asked) ∷ [])

-- "opening 1, 13": 1 is about the line's shape and comes before this. 13: "group size, own station, object count, kind or capacity out of
-- range, or space too small"; how long a table of this header is, the layout says. "in the station program, a second opening" is that program's.
unfoldable pub opening_refusals : ℕ → ℕ → Header → List Refusal
opening_refusals space needed header = (13 when (not (in_range header) || ltb space needed)) ∷ []
