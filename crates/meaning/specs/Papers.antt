-- The document's histories P1 to P11, as one table.
use Rattle.std.specs.Prelude.{◌≡◌, refl, Bool, true, false, List, [], ◌∷◌, ◌++◌, ℕ, zero, suc, pred, ◌-◌, pos, neg_ℤ, length}
use Rattle.meaning.specs.Order.{Vector, raised}
use Rattle.meaning.specs.Operations.{Operation, adds, removes, clears, grow_counter, up_down_counter, grow_set, two_phase_set, enable_wins_flag, disable_wins_flag, multi_value_register, add_wins_set, remove_wins_set}
use Rattle.meaning.specs.Rows.{Row, settled_row, unsettled_row, unsettled_count}
use Rattle.meaning.specs.Table.{Header, Table, low, stable, opened, is_table}
use Rattle.meaning.specs.Questions.{Asked, Answer, total, flag, list, count, holds, asks_total, asks_flag, asks_list, asks_count, asks_holds}
use Rattle.meaning.specs.Refusals.{Frame, Local, first_of, refusal_of_frame, refusal_of_local, greatest_limit, issued_by, opening_refusals}
use Rattle.meaning.specs.Calls.{Reply, answered, Opening, steps, ask, meant, open_table}
use Rattle.meaning.specs.History.{Event, receives, issues, settles, Station, after_all}
use Rattle.meaning.specs.Computing.{all_words}

-- A line of the table. A roll: the group's size, the kind of object 0, how many operations it takes, what happens, the question and its
-- answer, and the rows that are left once all is settled. Rows: what happens, and the rows that are there then. A low: a table, its Low, and
-- an operation that is stable and one that isn't.
pub data Paper : Type 0 where
  roll : (size kind operations : ℕ) → List Event → Asked → Answer → List Row → Paper
  rows_then : (size kind operations : ℕ) → List Event → List Row → Paper
  lows : Table → Vector → Operation → Operation → Paper

-- What a line comes to. A roll: how many operations were accepted, how many steps each of two settling calls reported, the rows in the end,
-- and the replies to the question, by rows and by the definitions: at once, after settling what is stable, and after full settling. A low:
-- whether the table is one by the rules, its Low, and whether each of the two operations is stable.
pub data Result : Type 0 where
  replies : (accepted : ℕ) (reported : List ℕ) → List Row → List Reply → Result
  rows_are : (accepted : ℕ) → List Row → Result
  low_is : (meets_rules : Bool) → Vector → (first second : Bool) → Result

-- "N = 2 and value 7 unless said; vectors in brackets." We are station 0, object 1 is a counter.
abbrev pub pupil : ℕ
pupil = 7

-- How many rows a table here may hold; and the length of the list space that questions come with.
abbrev pub four_rows : ℕ
four_rows = 4

abbrev pub room : ℕ
room = 4

abbrev pub group : ℕ → ℕ → Header
group size kind = record { size = size; own = 0; capacity = four_rows; kinds = kind ∷ grow_counter ∷ [] }

-- The station that an opening gives. A refused opening gives none: what stands for it has no group and no objects, and refuses everything.
abbrev pub station_from : Opening → Station
station_from (Opening.refused number) = record { table = opened (record { size = 0; own = 0; capacity = 0; kinds = [] }); accepted = [] }
station_from (Opening.fresh table) = record { table = table; accepted = [] }

-- An opening in a space of just the words that it needs; how many those are, the layout says.
abbrev pub opening_of : Header → Opening
opening_of header = open_table 1 1 header

-- A station from its opening, after these events.
abbrev pub from_opening : Header → List Event → Station
from_opening header events = after_all events (station_from (opening_of header))

-- An operation of ours on an object, and one of another station.
abbrev pub ours : ℕ → ℕ → ℕ → Event
ours object code value = issues (record { object = object; code = code; value = value })

abbrev pub frame_of : ℕ → ℕ → ℕ → ℕ → Vector → Frame
frame_of sender object code value vector =
    record { size = length vector; operation = record { object = object; code = code; value = value; sender = sender; vector = vector } }

abbrev pub theirs : ℕ → ℕ → ℕ → ℕ → Vector → Event
theirs sender object code value vector = receives (frame_of sender object code value vector)

abbrev pub asking : ℕ → ℕ → Asked
asking question value = record { object = 0; question = question; value = value }

-- Every other station, the last first, has seen all of it and counts one: with their frames every row is stable, and the settling call
-- settles all.
abbrev pub seen_by : ℕ → Vector → List Event
seen_by zero clock = []
seen_by (suc others) clock = theirs (suc others) 1 adds 1 (raised clock (suc others)) ∷ seen_by others (raised clock (suc others))

abbrev pub both_replies : Header → Asked → Station → List Reply
both_replies header asked station = ask station.table room asked ∷ meant header station.accepted room asked ∷ []

abbrev pub settle_all : Station → Station
settle_all station = after_all (settles greatest_limit ∷ []) station

-- The steps that a settling call reports, and the fall in unsettled rows.
abbrev pub reported_by : Station → ℕ
reported_by station = steps station.table greatest_limit

abbrev pub unsettled_in : Station → ℕ
unsettled_in station = unsettled_count station.table.rows

abbrev pub fall_of : Station → ℕ
fall_of station = unsettled_in station - unsettled_in (settle_all station)

-- A roll's station at once; and later, settled, when the others have seen all of it.
abbrev pub at_once : ℕ → ℕ → List Event → Station
at_once size kind events = from_opening (group size kind) events

abbrev pub when_seen : ℕ → Station → Station
when_seen size station = let settled = settle_all station in after_all (seen_by (pred size) settled.table.clock) settled

unfoldable pub result_of : Paper → Result
result_of (roll size kind operations events asked answer rows_left) =
    let now = at_once size kind events in
    let seen = when_seen size now in
    let reply_at : Station → List Reply = both_replies (group size kind) asked in
    replies (length now.accepted) (reported_by now ∷ reported_by seen ∷ []) (settle_all seen).table.rows
    (reply_at now ++ (reply_at (settle_all now) ++ reply_at (settle_all seen)))
result_of (rows_then size kind operations events rows) =
    let now = at_once size kind events in rows_are (length now.accepted) now.table.rows
result_of (lows table vector u t) = low_is (is_table table) (low table) (stable table u) (stable table t)

-- What the document says: every operation of the line is accepted, the steps reported are the fall in unsettled rows, the rows left are
-- settled, and the answer is one and the same.
unfoldable pub said_of : Paper → Result
said_of (roll size kind operations events asked answer rows_left) =
    let now = at_once size kind events in
    let reply = answered answer in
    replies operations (fall_of now ∷ fall_of (when_seen size now) ∷ []) rows_left (reply ∷ reply ∷ reply ∷ reply ∷ reply ∷ reply ∷ [])
said_of (rows_then size kind operations events rows) = rows_are operations rows
said_of (lows table vector u t) = low_is true vector true false

-- The table of P11, and an operation with a vector.
abbrev pub three_stations : Table
three_stations = record {
  header = record { size = 3; own = 0; capacity = four_rows; kinds = grow_counter ∷ [] };
  clock = 5 ∷ 6 ∷ 7 ∷ [];
  last = (0 ∷ 0 ∷ 0 ∷ []) ∷ (4 ∷ 6 ∷ 2 ∷ []) ∷ (5 ∷ 3 ∷ 7 ∷ []) ∷ [];
  totals = pos 0 ∷ [];
  rows = [];
}

abbrev pub tagged : Vector → Operation
tagged vector = record { object = 0; code = adds; value = 1; sender = 1; vector = vector }

abbrev pub two : ℕ → ℕ → Vector
two first second = first ∷ second ∷ []

abbrev pub three : ℕ → ℕ → ℕ → Vector
three first second third = first ∷ second ∷ third ∷ []

-- A settled row of object 0, and an unsettled one.
abbrev pub settled_of : ℕ → ℕ → Row
settled_of code value = settled_row (record { object = 0; code = code; value = value; sender = 0; vector = [] })

abbrev pub unsettled_of : ℕ → ℕ → ℕ → Vector → Row
unsettled_of sender code value vector =
    unsettled_row (record { object = 0; code = code; value = value; sender = sender; vector = vector })

abbrev pub settled_pupil : List Row
settled_pupil = settled_of adds pupil ∷ []

abbrev pub is_there : Asked
is_there = asking asks_holds pupil

abbrev pub Right : Paper → Type 0
Right paper = result_of paper ≡ said_of paper

-- The histories of P1, which is that of P2 as well, and of P4.
abbrev pub add_and_remove : List Event
add_and_remove = ours 0 adds pupil ∷ theirs 1 0 removes pupil (two 0 1) ∷ []

abbrev pub add_and_add : List Event
add_and_add = ours 0 adds pupil ∷ theirs 1 0 adds pupil (two 0 1) ∷ []

-- Station 2 and station 1 each remove what we add, and then each sees the other's remove.
abbrev pub add_and_two_removes : List Event
add_and_two_removes =
    ours 0 adds pupil
    ∷ theirs 1 0 removes pupil (three 0 1 0)
    ∷ theirs 2 0 removes pupil (three 0 0 1)
    ∷ theirs 1 1 adds 1 (three 0 2 1)
    ∷ theirs 2 1 adds 1 (three 0 1 2)
    ∷ []

-- The third shortcut's history: the remove skips an entry, so no chain leads from our add to it.
abbrev pub skipping_entry : List Event
skipping_entry =
    ours 0 adds pupil ∷ theirs 1 0 adds pupil (three 1 1 0) ∷ theirs 2 0 removes pupil (three 0 1 1) ∷ []

-- The add of station 2 is not stable here, though its sender's entry is at or below Low.
abbrev pub late_remove : List Event
late_remove =
    ours 1 adds 1
    ∷ theirs 2 0 adds pupil (three 1 0 1)
    ∷ theirs 1 1 adds 1 (three 0 1 1)
    ∷ settles 1
    ∷ theirs 1 0 removes pupil (three 0 2 1)
    ∷ []

-- The worked session: N = 2, own 0, capacity 4, one add-wins set. "10020000040108"
abbrev pub session_header : Header
session_header = record { size = 2; own = 0; capacity = 4; kinds = add_wins_set ∷ [] }

-- "21000100000007", "2002010001000000070000000000000001" and "2002010002000000070000000000000002".
abbrev pub session_local : Local
session_local = record { object = 0; code = adds; value = pupil }

abbrev pub session_add : Frame
session_add = frame_of 1 0 adds pupil (two 0 1)

abbrev pub session_remove : Frame
session_remove = frame_of 1 0 removes pupil (two 0 2)

-- The station after so many of the session's calls: the issue, the add, the remove, "30000a", and the remove once more.
abbrev pub session_opened : Station
session_opened = from_opening session_header []

abbrev pub session_issued : Station
session_issued = after_all (issues session_local ∷ []) session_opened

abbrev pub session_added : Station
session_added = after_all (receives session_add ∷ []) session_issued

abbrev pub session_removed : Station
session_removed = after_all (receives session_remove ∷ []) session_added

abbrev pub session_settled : Station
session_settled = after_all (settles 10 ∷ []) session_removed

abbrev pub session_end : Station
session_end = after_all (receives session_remove ∷ []) session_settled

-- "2002000001000000070000000100000000", the issued frame's operation.
abbrev pub issued_there : Operation
issued_there = record { object = 0; code = adds; value = pupil; sender = 0; vector = two 1 0 }

-- "500000000100000002", "51010000000000000002", "5300010000000000070000000100000000".
abbrev pub session_saved : Table
session_saved = record {
  header = session_header;
  clock = two 1 2;
  last = two 0 0 ∷ two 0 2 ∷ [];
  totals = pos 0 ∷ [];
  rows = unsettled_row issued_there ∷ [];
}

-- Two stations of one group, of different place and capacity, that accept the same operations, each in its own order: station 0 adds a
-- pupil, station 1 removes it before it sees that, and then counts one.
abbrev pub station_of : ℕ → ℕ → List Event → Station
station_of own capacity events =
    settle_all (from_opening (record { size = 2; own = own; capacity = capacity; kinds = add_wins_set ∷ grow_counter ∷ [] }) events)

abbrev pub station_zero : Station
station_zero = station_of 0 4 (add_and_remove ++ (theirs 1 1 adds 1 (two 1 2) ∷ []))

abbrev pub station_one : Station
station_one = station_of 1 9 (ours 0 removes pupil ∷ theirs 0 0 adds pupil (two 1 0) ∷ ours 1 adds 1 ∷ [])

abbrev pub removed_there : Operation
removed_there = record { object = 0; code = removes; value = pupil; sender = 1; vector = two 0 1 }

abbrev pub counted_there : Operation
counted_there = record { object = 1; code = adds; value = 1; sender = 1; vector = two 1 2 }

-- "P1 to P11 are proved together, as one tabulated statement": a line each, P10 is two. P4 is the first of the shortcuts that give wrong
-- rolls, P2 after settling the second.
pub record Papers : Type 0 where
  pub p1 : Right (roll 2 add_wins_set 2 add_and_remove is_there (holds true) settled_pupil)
  pub p2 : Right (roll 2 remove_wins_set 2 add_and_remove is_there (holds false) [])
  pub p3 : Right (roll 2 add_wins_set 2 (ours 0 adds pupil ∷ theirs 1 0 removes pupil (two 1 1) ∷ []) is_there (holds false) [])
  pub p4 : Right (roll 2 add_wins_set 2 add_and_add (asking asks_count 0) (count 1) settled_pupil)
  pub p5 : Right (roll 2 multi_value_register 2 (ours 0 adds 4 ∷ theirs 1 0 adds 9 (two 0 1) ∷ [])
      (asking asks_list 0) (list (4 ∷ 9 ∷ [])) (settled_of adds 4 ∷ settled_of adds 9 ∷ []))
  pub p6 : Right (roll 2 multi_value_register 3 (ours 0 adds 4 ∷ theirs 1 0 adds 9 (two 0 1) ∷ theirs 1 0 adds 5 (two 1 2) ∷ [])
      (asking asks_list 0) (list (5 ∷ [])) (settled_of adds 5 ∷ []))
  pub p7 : Right (roll 2 remove_wins_set 4
      (ours 0 removes pupil ∷ ours 0 adds pupil ∷ theirs 1 0 removes pupil (two 0 1) ∷ theirs 1 0 adds pupil (two 0 2) ∷ [])
      is_there (holds true) settled_pupil)
  pub p8 : Right (roll 2 remove_wins_set 3 (ours 0 removes pupil ∷ ours 0 clears 0 ∷ theirs 1 0 adds pupil (two 0 1) ∷ [])
      is_there (holds true) settled_pupil)
  pub p9 : Right (roll 2 two_phase_set 3 (ours 0 adds pupil ∷ ours 0 removes pupil ∷ ours 0 adds pupil ∷ [])
      is_there (holds false) (settled_of removes pupil ∷ []))
  pub p10_enable_wins : Right (roll 2 enable_wins_flag 2 (ours 0 adds 0 ∷ theirs 1 0 removes 0 (two 0 1) ∷ [])
      (asking asks_flag 0) (flag true) (settled_of adds 0 ∷ []))
  pub p10_disable_wins : Right (roll 2 disable_wins_flag 2 (ours 0 adds 0 ∷ theirs 1 0 removes 0 (two 0 1) ∷ [])
      (asking asks_flag 0) (flag false) [])
  pub p11 : Right (lows three_stations (three 4 3 2) (tagged (three 4 3 2)) (tagged (three 4 4 2)))
  -- Kinds 1 to 3, which P1 to P11 leave out: "sum of amounts"; "sum of increases less sum of decreases"; "v is in if it was added".
  pub grow_counter_lem : Right (roll 2 grow_counter 2 (ours 0 adds 5 ∷ theirs 1 0 adds 7 (two 0 1) ∷ []) (asking asks_total 0) (total (pos 12)) [])
  pub up_down_counter_lem : Right (roll 2 up_down_counter 2 (ours 0 adds 5 ∷ theirs 1 0 removes 7 (two 0 1) ∷ [])
      (asking asks_total 0) (total (neg_ℤ (pos 2))) [])
  pub grow_set_lem : Right (roll 2 grow_set 2 add_and_add (asking asks_count 0) (count 1) settled_pupil)
  -- The third shortcut, "Calling u before t from the sender's entry alone".
  pub skipping : Right (roll 3 add_wins_set 3 skipping_entry is_there (holds true) settled_pupil)
  -- The stability test of the source document, by the sender's entry alone.
  pub by_sender_entry : Right (roll 3 add_wins_set 4 late_remove is_there (holds true) settled_pupil)
  -- One step at a time. "In 5, 7 and 8 it is dropped if another row of the same object and value exists": P4, seen by all, after one step.
  pub p4_one_step : Right (rows_then 2 add_wins_set 3 (add_and_add ++ (seen_by 1 (two 1 1) ++ (settles 1 ∷ [])))
      (unsettled_of 1 adds pupil (two 0 1) ∷ []))
  -- "a remove becomes settled if the other rows of that value are one or more adds and nothing else": P2 after one step.
  pub p2_one_step : Right (rows_then 2 remove_wins_set 2 (add_and_remove ++ (settles 1 ∷ []))
      (unsettled_of 0 adds pupil (two 1 0) ∷ settled_of removes pupil ∷ []))
  -- "and if it was the only add of that value, a settled remove of that value is dropped as well": P2 one step later, seen by all.
  pub p2_two_steps : Right (rows_then 2 remove_wins_set 3 (add_and_remove ++ (settles 1 ∷ (seen_by 1 (two 1 1) ++ (settles 1 ∷ [])))) [])
  -- "otherwise it is dropped": of two stable removes beside an add, the first goes and the second stays for the next step.
  pub two_removes : Right (rows_then 3 remove_wins_set 5 (add_and_two_removes ++ (settles 1 ∷ []))
      (unsettled_of 0 adds pupil (three 1 0 0) ∷ unsettled_of 2 removes pupil (three 0 0 1) ∷ []))
  -- The worked session, a line for each thing that it prints. "00" to the opening, the issue and two frames, "ff05" to the last.
  pub session_refusals :
      (first_of (opening_refusals 1 1 session_header)
      ∷ refusal_of_local session_opened.table session_local
      ∷ refusal_of_frame session_issued.table session_add
      ∷ refusal_of_frame session_added.table session_remove
      ∷ refusal_of_frame session_settled.table session_remove
      ∷ []) ≡ (0 ∷ 0 ∷ 0 ∷ 0 ∷ 5 ∷ [])
  pub session_issue : issued_by session_opened.table session_local ≡ issued_there
  -- "000001" and "00000100000007"
  pub session_count : ask session_added.table room (asking asks_count 0) ≡ answered (count 1)
  pub session_list : ask session_removed.table room (asking asks_list 0) ≡ answered (list (pupil ∷ []))
  -- "000000"
  pub session_steps : steps session_removed.table 10 ≡ 0
  pub session_accepted : session_end.accepted ≡ (session_remove.operation ∷ session_add.operation ∷ issued_there ∷ [])
  pub session_saved_lem : session_end.table ≡ session_saved
  -- "stations that accepted the same operations agree, and fully settled ones hold the same bytes": two that do, so that the theorem speaks
  -- of something.
  pub agree_accepted :
      (station_zero.accepted ∷ station_one.accepted ∷ [])
      ≡ ((counted_there ∷ removed_there ∷ issued_there ∷ []) ∷ (counted_there ∷ issued_there ∷ removed_there ∷ []) ∷ [])
  pub agree_rows : (station_zero.table.rows ∷ station_one.table.rows ∷ []) ≡ (settled_pupil ∷ settled_pupil ∷ [])

-- It stands beside the definitions, since it is computed from them alone: a wrong rule is then refused first of all at a history that it
-- gets wrong, by its name.
pub papers : Papers
unfolding all_words result_of said_of
papers = record {
  p1 = refl;
  p2 = refl;
  p3 = refl;
  p4 = refl;
  p5 = refl;
  p6 = refl;
  p7 = refl;
  p8 = refl;
  p9 = refl;
  p10_enable_wins = refl;
  p10_disable_wins = refl;
  p11 = refl;
  grow_counter_lem = refl;
  up_down_counter_lem = refl;
  grow_set_lem = refl;
  skipping = refl;
  by_sender_entry = refl;
  p4_one_step = refl;
  p2_one_step = refl;
  p2_two_steps = refl;
  two_removes = refl;
  session_refusals = refl;
  session_issue = refl;
  session_count = refl;
  session_list = refl;
  session_steps = refl;
  session_accepted = refl;
  session_saved_lem = refl;
  agree_accepted = refl;
  agree_rows = refl;
}
