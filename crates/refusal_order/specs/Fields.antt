-- What the plain fields and lent words of a call are: a header, a frame, a local operation.
use Rattle.std.specs.Prelude.{Bool, not, ◌||◌, List, ℕ, ltb, eqb, length}
use Rattle.meaning.specs.Order.{Vector}
use Rattle.meaning.specs.Table.{Header}
use Rattle.meaning.specs.Refusals.{Frame, Local}
use Rattle.table_ranges.specs.Headers.{header_of}
use Rattle.refusal_order.specs.declared.Header as opened
use Rattle.refusal_order.specs.declared.Sent.{Sent}

-- The header that these numbers and kinds make.
abbrev pub header_from : opened.Header → List ℕ → Header
header_from h kinds = header_of h.size h.own.0 h.capacity.0 kinds

-- A header of which only the kinds are asked, as by a question.
abbrev pub header_of_kinds : List ℕ → Header
header_of_kinds kinds = header_of 0 0 0 kinds

-- The frame that these fields and this vector make; its N is the number of its entries.
abbrev pub frame_from : Sent → Vector → Frame
frame_from f vector = record {
  size = length vector;
  operation = record {
    object = f.object;
    code = f.code;
    value = f.value.0;
    sender = f.sender.0;
    vector = vector;
  };
}

abbrev pub local_from : ℕ → ℕ → ℕ → Local
local_from object code value = record { object = object; code = code; value = value }

-- 2: "sender not in the group, or own station".
abbrev pub is_stranger : ℕ → ℕ → ℕ → Bool
is_stranger sender size own = not (ltb sender size) || eqb sender own
