-- The document's boundaries, as one table: each number and each range of it, at its last value that is allowed and its first that is not.
use Rattle.std.specs.Prelude.{◌≡◌, refl, true, false, List, [], ◌∷◌, map, ℕ, ℤ, pos, neg_ℤ, replicate}
use Rattle.meaning.specs.Order.{Vector}
use Rattle.meaning.specs.Operations.{Operation, adds, removes, clears, grow_counter, up_down_counter, grow_set, two_phase_set, enable_wins_flag, disable_wins_flag, multi_value_register, add_wins_set, remove_wins_set}
use Rattle.meaning.specs.Rows.{Row, settled_row, unsettled_row}
use Rattle.meaning.specs.Table.{Header, Table, total_bound, is_table}
use Rattle.meaning.specs.Questions.{list, asks_total, asks_flag, asks_list, asks_count, asks_holds, by_rows}
use Rattle.meaning.specs.Refusals.{Frame, first_of, refusal_of_frame, refusal_of_local, refusal_of_settling, question_refusals, opening_refusals}
use Rattle.meaning.specs.Calls.{Reply, answered, ask}
use Rattle.meaning.specs.History.{settles}
use Rattle.meaning.specs.Computing.{all_words}
use Rattle.meaning.specs.Papers.{from_opening, ours, theirs, frame_of, two, three, settled_of}

-- Objects 0 to 8 are of kinds 1 to 9.
abbrev pub all_kinds : List ℕ
all_kinds =
    grow_counter
    ∷ up_down_counter
    ∷ grow_set
    ∷ two_phase_set
    ∷ enable_wins_flag
    ∷ disable_wins_flag
    ∷ multi_value_register
    ∷ add_wins_set
    ∷ remove_wins_set
    ∷ []

-- "group size, own station, object count, kind or capacity": a header with these.
abbrev pub header_with : ℕ → ℕ → ℕ → List ℕ → Header
header_with size own capacity kinds = record { size = size; own = own; capacity = capacity; kinds = kinds }

-- A fresh table of all nine kinds.
abbrev pub wide : Table
wide = (from_opening (header_with 2 0 4 all_kinds) []).table

-- A table that is full with the one row that it may hold: 5 in its grow set, settled.
abbrev pub full : Table
full = (from_opening (header_with 2 0 1 (grow_set ∷ add_wins_set ∷ [])) (ours 0 adds 5 ∷ [])).table

-- The same with 5 in its add-wins set, unsettled.
abbrev pub full_of_tags : Table
full_of_tags = (from_opening (header_with 2 0 1 (grow_set ∷ add_wins_set ∷ [])) (ours 1 adds 5 ∷ [])).table

-- Three stations: D is [1,2,1], L[1] is [1,2,0] and L[2] is [0,1,1].
abbrev pub heard : Table
heard =
    (from_opening (header_with 3 0 4 all_kinds) (
    ours 0 adds 1
    ∷ theirs 1 0 adds 1 (three 0 1 0)
    ∷ theirs 2 0 adds 1 (three 0 1 1)
    ∷ theirs 1 0 adds 1 (three 1 2 0)
    ∷ []
    )).table

-- A table whose own number is this.
abbrev pub numbered : ℕ → Table
numbered number = record {
  header = header_with 2 0 4 (add_wins_set ∷ []);
  clock = two number 0;
  last = two 0 0 ∷ two 0 0 ∷ [];
  totals = pos 0 ∷ [];
  rows = [];
}

-- A table with D = [1,2] whose two counters have these totals.
abbrev pub counting : ℤ → ℤ → Table
counting grown up_and_down = record {
  header = header_with 2 0 1 (grow_counter ∷ up_down_counter ∷ []);
  clock = two 1 2;
  last = two 0 0 ∷ two 0 2 ∷ [];
  totals = grown ∷ up_and_down ∷ [];
  rows = [];
}

-- A table of two stations with D = [2,2], of kinds 3, 4, 5, 8 and 9, with these last vectors and rows.
abbrev pub holding : List Vector → List Row → Table
holding last rows = record {
  header = header_with 2 0 2 (grow_set ∷ two_phase_set ∷ enable_wins_flag ∷ add_wins_set ∷ remove_wins_set ∷ []);
  clock = two 2 2;
  last = last;
  totals = replicate 5 (pos 0);
  rows = rows;
}

-- The same with the last vectors that its clock asks for.
abbrev pub keeping : List Row → Table
keeping rows = holding (two 0 0 ∷ two 0 2 ∷ []) rows

-- An operation of station 1 on one of its objects.
abbrev pub tagged : ℕ → ℕ → ℕ → Vector → Operation
tagged object code value vector = record { object = object; code = code; value = value; sender = 1; vector = vector }

-- A settled row of an object, and an unsettled one of station 1 with number 2.
abbrev pub settled_at : ℕ → ℕ → ℕ → Row
settled_at object code value = settled_row (tagged object code value [])

abbrev pub unsettled_at : ℕ → ℕ → ℕ → Row
unsettled_at object code value = unsettled_row (tagged object code value (two 0 2))

-- An unsettled row of a station: 4 in the add-wins set.
abbrev pub added_by : ℕ → Vector → Row
added_by sender vector = unsettled_row (record { object = 3; code = adds; value = 4; sender = sender; vector = vector })

-- The number that a local operation gets; 0 is none.
abbrev pub issued : Table → ℕ → ℕ → ℕ → ℕ
issued table object code value = refusal_of_local table (record { object = object; code = code; value = value })

-- The number that a frame gets from the table of three stations.
abbrev pub offered : Frame → ℕ
offered frame = refusal_of_frame heard frame

-- The number that a question to the fresh table gets, with a list space of 4.
abbrev pub asked : ℕ → ℕ → ℕ → ℕ
asked object question value =
    first_of (question_refusals wide.header (by_rows wide) 4 (record { object = object; question = question; value = value }))

-- The number that an opening gets, in a space of just the words that it needs.
abbrev pub opening : Header → ℕ
opening header = first_of (opening_refusals 1 1 header)

-- The numbers that the codes 0 to 4 get at an object of the fresh table.
abbrev pub codes_at : ℕ → ℕ → List ℕ
codes_at object value = map (λ (code : ℕ). issued wide object code value) (0 ∷ adds ∷ removes ∷ clears ∷ 4 ∷ [])

-- The numbers that these values get with a code at an object of the fresh table.
abbrev pub values_at : ℕ → List ℕ → ℕ → List ℕ
values_at code values object = map (issued wide object code) values

-- The numbers that the questions 0 to 6 get at an object of the fresh table.
abbrev pub questions_at : ℕ → List ℕ
questions_at object =
    map (λ (question : ℕ). asked object question 0) (0 ∷ asks_total ∷ asks_flag ∷ asks_list ∷ asks_count ∷ asks_holds ∷ 6 ∷ [])

-- A frame of station 1 to the add-wins set, with this vector.
abbrev pub frame_with : Vector → Frame
frame_with vector = frame_of 1 7 adds 5 vector

-- A frame that is right but for its N.
abbrev pub frame_of_size : ℕ → Frame
frame_of_size size = record { size = size; operation = (frame_with (three 1 3 0)).operation }

-- "Given exactly when": each number and range at its boundary, 0 where a call is not refused.
pub record Boundaries : Type 0 where
  -- 4: "code, value or amount not allowed for the kind". The codes of the nine kinds.
  pub codes_of_counters : (codes_at 0 1 ∷ codes_at 1 1 ∷ []) ≡ ((4 ∷ 0 ∷ 4 ∷ 4 ∷ 4 ∷ []) ∷ (4 ∷ 0 ∷ 0 ∷ 4 ∷ 4 ∷ []) ∷ [])
  pub codes_of_3_and_4 : (codes_at 2 0 ∷ codes_at 3 0 ∷ []) ≡ ((4 ∷ 0 ∷ 4 ∷ 4 ∷ 4 ∷ []) ∷ (4 ∷ 0 ∷ 0 ∷ 4 ∷ 4 ∷ []) ∷ [])
  pub codes_of_flags : (codes_at 4 0 ∷ codes_at 5 0 ∷ []) ≡ ((4 ∷ 0 ∷ 0 ∷ 4 ∷ 4 ∷ []) ∷ (4 ∷ 0 ∷ 0 ∷ 4 ∷ 4 ∷ []) ∷ [])
  pub codes_of_7 : codes_at 6 0 ≡ (4 ∷ 0 ∷ 4 ∷ 0 ∷ 4 ∷ [])
  pub codes_of_8_and_9 : (codes_at 7 0 ∷ codes_at 8 0 ∷ []) ≡ ((4 ∷ 0 ∷ 0 ∷ 0 ∷ 4 ∷ []) ∷ (4 ∷ 0 ∷ 0 ∷ 0 ∷ 4 ∷ []) ∷ [])
  -- "Amounts are 1 to 1,000,000.": of an increase, and of a decrease.
  pub amounts : map (issued wide 0 adds) (0 ∷ 1 ∷ 1000000 ∷ 1000001 ∷ []) ≡ (4 ∷ 0 ∷ 0 ∷ 4 ∷ [])
  pub increases : map (issued wide 1 adds) (0 ∷ 1 ∷ 1000000 ∷ 1000001 ∷ []) ≡ (4 ∷ 0 ∷ 0 ∷ 4 ∷ [])
  pub decreases : map (issued wide 1 removes) (0 ∷ 1 ∷ 1000000 ∷ 1000001 ∷ []) ≡ (4 ∷ 0 ∷ 0 ∷ 4 ∷ [])
  -- "Flags and clears carry value 0."
  pub enables : map (values_at adds (0 ∷ 1 ∷ [])) (4 ∷ 5 ∷ []) ≡ replicate 2 (0 ∷ 4 ∷ [])
  pub disables : map (values_at removes (0 ∷ 1 ∷ [])) (4 ∷ 5 ∷ []) ≡ replicate 2 (0 ∷ 4 ∷ [])
  pub clearing : map (values_at clears (0 ∷ 1 ∷ [])) (6 ∷ 7 ∷ 8 ∷ []) ≡ replicate 3 (0 ∷ 4 ∷ [])
  -- "Other values are any 32-bit number, 0 included."
  pub values : map (values_at adds (0 ∷ 65536 ∷ 4294967295 ∷ 4294967296 ∷ [])) (2 ∷ 3 ∷ 6 ∷ 7 ∷ 8 ∷ []) ≡ replicate 5 (0 ∷ 0 ∷ 0 ∷ 4 ∷ [])
  pub removed_values : map (values_at removes (0 ∷ 65536 ∷ 4294967295 ∷ 4294967296 ∷ [])) (3 ∷ 7 ∷ 8 ∷ []) ≡ replicate 3 (0 ∷ 0 ∷ 0 ∷ 4 ∷ [])
  -- 3: "object not declared".
  pub objects : map (λ (object : ℕ). issued wide object adds 0) (8 ∷ 9 ∷ []) ≡ (0 ∷ 3 ∷ [])
  -- 9: "own number is 4,294,967,295 already".
  pub own_numbers :
      map (λ (number : ℕ). issued (numbered number) 0 adds 5) (0 ∷ 100 ∷ 65536 ∷ 2147483648 ∷ 4294967294 ∷ 4294967295 ∷ [])
      ≡ (0 ∷ 0 ∷ 0 ∷ 0 ∷ 0 ∷ 9 ∷ [])
  -- 8: "the rows left after the arrival's drops, with its own row if it gets one, exceed capacity".
  pub room_for_none : map (issued full 0 adds) (5 ∷ 6 ∷ []) ≡ (0 ∷ 8 ∷ [])
  pub room_elsewhere : issued full 1 adds 5 ≡ 8
  pub room_after_drops : map (issued full_of_tags 1 adds) (5 ∷ 6 ∷ []) ≡ (0 ∷ 8 ∷ [])
  pub room_for_removes : map (issued full_of_tags 1 removes) (5 ∷ 6 ∷ []) ≡ (0 ∷ 0 ∷ [])
  -- 1: "a frame's N not the table's"; a vector has N entries of 32 bits.
  pub frame_sizes : map (λ (size : ℕ). offered (frame_of_size size)) (2 ∷ 3 ∷ 4 ∷ []) ≡ (1 ∷ 0 ∷ 1 ∷ [])
  pub frame_entries : map (λ (vector : Vector). offered (frame_with vector)) (two 1 3 ∷ (1 ∷ 3 ∷ 0 ∷ 0 ∷ []) ∷ []) ≡ (1 ∷ 1 ∷ [])
  pub entries_of_32_bits : map (λ (entry : ℕ). offered (frame_with (three 1 3 entry))) (4294967295 ∷ 4294967296 ∷ []) ≡ (6 ∷ 1 ∷ [])
  -- 2: "sender not in the group, or own station".
  pub senders :
      (offered (frame_of 0 7 adds 5 (three 2 2 1)) ∷ offered (frame_of 2 7 adds 5 (three 0 1 2)) ∷ offered (frame_of 3 7 adds 5 (three 1 2 1)) ∷ [])
      ≡ (2 ∷ 0 ∷ 2 ∷ [])
  -- 3 and 4, of a frame.
  pub frame_objects : map (λ (object : ℕ). offered (frame_of 1 object adds 5 (three 1 3 0))) (8 ∷ 9 ∷ []) ≡ (0 ∷ 3 ∷ [])
  pub frame_amounts : map (λ (amount : ℕ). offered (frame_of 1 1 removes amount (three 1 3 0))) (0 ∷ 1000000 ∷ 1000001 ∷ [])
      ≡ (4 ∷ 0 ∷ 4 ∷ [])
  -- 5: "number at most D[sender]"; 6: "number above D[sender] + 1".
  pub numbers : map (λ (number : ℕ). offered (frame_with (three 1 number 0))) (0 ∷ 2 ∷ 3 ∷ 4 ∷ []) ≡ (5 ∷ 5 ∷ 0 ∷ 6 ∷ [])
  -- 6: "or another entry above D: too early".
  pub too_early : map (λ (vector : Vector). offered (frame_with vector)) (three 1 3 1 ∷ three 2 3 1 ∷ three 1 3 2 ∷ []) ≡ (0 ∷ 6 ∷ 6 ∷ [])
  -- 7: "some entry below L[sender]".
  pub falling : map (λ (entry : ℕ). offered (frame_with (three entry 3 0))) (0 ∷ 1 ∷ []) ≡ (7 ∷ 0 ∷ [])
  -- "A settling call carries a limit, 0 to 65,535".
  pub limits : map refusal_of_settling (0 ∷ 1 ∷ 11 ∷ 65535 ∷ 65536 ∷ []) ≡ (0 ∷ 0 ∷ 0 ∷ 0 ∷ 1 ∷ [])
  -- 1: "unknown question"; 12: "Question 1 fits kinds 1, 2; question 2 fits 5, 6; the others fit 3, 4, 7, 8, 9."
  pub questions_to_counters : map questions_at (0 ∷ 1 ∷ [])
      ≡ ((1 ∷ 0 ∷ 12 ∷ 12 ∷ 12 ∷ 12 ∷ 1 ∷ []) ∷ (1 ∷ 0 ∷ 12 ∷ 12 ∷ 12 ∷ 12 ∷ 1 ∷ []) ∷ [])
  pub questions_to_flags : map questions_at (4 ∷ 5 ∷ [])
      ≡ ((1 ∷ 12 ∷ 0 ∷ 12 ∷ 12 ∷ 12 ∷ 1 ∷ []) ∷ (1 ∷ 12 ∷ 0 ∷ 12 ∷ 12 ∷ 12 ∷ 1 ∷ []) ∷ [])
  pub questions_to_3_and_4 : map questions_at (2 ∷ 3 ∷ [])
      ≡ ((1 ∷ 12 ∷ 12 ∷ 0 ∷ 0 ∷ 0 ∷ 1 ∷ []) ∷ (1 ∷ 12 ∷ 12 ∷ 0 ∷ 0 ∷ 0 ∷ 1 ∷ []) ∷ [])
  pub questions_to_7_8_9 : map questions_at (6 ∷ 7 ∷ 8 ∷ [])
      ≡ (
      (1 ∷ 12 ∷ 12 ∷ 0 ∷ 0 ∷ 0 ∷ 1 ∷ [])
      ∷ (1 ∷ 12 ∷ 12 ∷ 0 ∷ 0 ∷ 0 ∷ 1 ∷ [])
      ∷ (1 ∷ 12 ∷ 12 ∷ 0 ∷ 0 ∷ 0 ∷ 1 ∷ [])
      ∷ []
      )
  -- 1: "a value given to a question that takes none"; "The value is 0 except in question 5".
  pub value_9 : (asked 0 asks_total 9 ∷ asked 4 asks_flag 9 ∷ asked 7 asks_list 9 ∷ asked 7 asks_count 9 ∷ asked 7 asks_holds 9 ∷ [])
      ≡ (1 ∷ 1 ∷ 1 ∷ 1 ∷ 0 ∷ [])
  pub held_values : map (asked 7 asks_holds) (0 ∷ 4294967295 ∷ 4294967296 ∷ []) ≡ (0 ∷ 0 ∷ 1 ∷ [])
  -- 3, of a question.
  pub question_objects : map (λ (object : ℕ). asked object asks_count 0) (8 ∷ 9 ∷ []) ≡ (0 ∷ 3 ∷ [])
  -- 11: "list space shorter than the list; the needed count is returned".
  pub list_spaces :
      map (λ (space : ℕ). ask full space (record { object = 0; question = asks_list; value = 0 })) (0 ∷ 1 ∷ 2 ∷ [])
      ≡ (Reply.too_long 1 ∷ answered (list (5 ∷ [])) ∷ answered (list (5 ∷ [])) ∷ [])
  -- 13: "group size, own station, object count, kind or capacity out of range, or space too small".
  pub group_sizes : map (λ (size : ℕ). opening (header_with size 0 4 all_kinds)) (0 ∷ 1 ∷ 16 ∷ 17 ∷ []) ≡ (13 ∷ 0 ∷ 0 ∷ 13 ∷ [])
  pub own_stations : map (λ (own : ℕ). opening (header_with 3 own 4 all_kinds)) (0 ∷ 1 ∷ 2 ∷ 3 ∷ []) ≡ (0 ∷ 0 ∷ 0 ∷ 13 ∷ [])
  pub object_counts : map (λ (count : ℕ). opening (header_with 2 0 4 (replicate count grow_set))) (0 ∷ 1 ∷ 32 ∷ 33 ∷ [])
      ≡ (13 ∷ 0 ∷ 0 ∷ 13 ∷ [])
  pub kinds : map (λ (kind : ℕ). opening (header_with 2 0 4 (grow_set ∷ kind ∷ []))) (0 ∷ 1 ∷ 9 ∷ 10 ∷ []) ≡ (13 ∷ 0 ∷ 0 ∷ 13 ∷ [])
  pub capacities : map (λ (capacity : ℕ). opening (header_with 2 0 capacity all_kinds)) (0 ∷ 1 ∷ 512 ∷ 513 ∷ []) ≡ (13 ∷ 0 ∷ 0 ∷ 13 ∷ [])
  pub spaces : map (λ (space : ℕ). first_of (opening_refusals space 100 wide.header)) (0 ∷ 99 ∷ 100 ∷ 101 ∷ []) ≡ (13 ∷ 13 ∷ 0 ∷ 0 ∷ [])
  -- "within 1,000,000 times the sum of D on either side of zero"; "not negative in kind 1".
  pub bound : total_bound (two 1 2) ≡ 3000000
  pub totals :
      map (λ (total : ℤ). is_table (counting (pos 0) total)) (pos 3000000 ∷ pos 3000001 ∷ neg_ℤ (pos 3000000) ∷ neg_ℤ (pos 3000001) ∷ [])
      ≡ (true ∷ false ∷ true ∷ false ∷ [])
  pub totals_of_kind_1 :
      map (λ (total : ℤ). is_table (counting total (pos 0))) (pos 3000000 ∷ pos 3000001 ∷ neg_ℤ (pos 1) ∷ []) ≡ (true ∷ false ∷ false ∷ [])
  -- The last vectors: at or below D, with D[k] in entry k; all 0 at the own station.
  pub lasts :
      map (λ (last : List Vector). is_table (holding last [])) (
      (two 0 0 ∷ two 0 2 ∷ [])
      ∷ (two 0 0 ∷ two 2 2 ∷ [])
      ∷ (two 0 0 ∷ two 3 2 ∷ [])
      ∷ (two 0 0 ∷ two 0 1 ∷ [])
      ∷ (two 0 1 ∷ two 0 2 ∷ [])
      ∷ []
      )
      ≡ (true ∷ true ∷ false ∷ false ∷ false ∷ [])
  -- Rows at most capacity, strictly in row order: object, value, code, settled first, sender, number.
  pub orders :
      map (λ (rows : List Row). is_table (keeping rows)) (
      (settled_at 0 adds 4 ∷ settled_at 0 adds 9 ∷ [])
      ∷ (settled_at 0 adds 9 ∷ settled_at 0 adds 4 ∷ [])
      ∷ (settled_at 0 adds 4 ∷ settled_at 0 adds 4 ∷ [])
      ∷ (settled_at 0 adds 9 ∷ settled_at 3 adds 4 ∷ [])
      ∷ (settled_at 3 adds 4 ∷ settled_at 0 adds 9 ∷ [])
      ∷ (settled_at 4 removes 4 ∷ settled_at 4 adds 9 ∷ [])
      ∷ (settled_at 4 adds 9 ∷ settled_at 4 removes 4 ∷ [])
      ∷ (settled_at 4 removes 4 ∷ settled_at 4 adds 4 ∷ [])
      ∷ (settled_at 0 adds 4 ∷ settled_at 0 adds 5 ∷ settled_at 0 adds 9 ∷ [])
      ∷ []
      )
      ≡ (true ∷ false ∷ false ∷ true ∷ false ∷ true ∷ false ∷ false ∷ false ∷ [])
  pub orders_of_tags :
      map (λ (rows : List Row). is_table (keeping rows)) (
      (settled_at 3 adds 4 ∷ added_by 0 (two 1 0) ∷ [])
      ∷ (added_by 0 (two 1 0) ∷ settled_at 3 adds 4 ∷ [])
      ∷ (added_by 0 (two 2 0) ∷ added_by 1 (two 0 1) ∷ [])
      ∷ (added_by 1 (two 0 1) ∷ added_by 0 (two 2 0) ∷ [])
      ∷ (added_by 1 (two 0 1) ∷ added_by 1 (two 0 2) ∷ [])
      ∷ (added_by 1 (two 0 2) ∷ added_by 1 (two 0 1) ∷ [])
      ∷ []
      )
      ≡ (true ∷ false ∷ true ∷ false ∷ true ∷ false ∷ [])
  -- "code storable in its kind", "kinds 3 and 4 settled only", "kind 4 one row a value", "value 0 in flags", "object declared".
  pub contents :
      map (λ (rows : List Row). is_table (keeping rows)) (
      (unsettled_at 0 adds 4 ∷ [])
      ∷ (settled_at 0 removes 4 ∷ [])
      ∷ (settled_at 1 removes 4 ∷ [])
      ∷ (settled_at 1 adds 4 ∷ settled_at 1 removes 4 ∷ [])
      ∷ (settled_at 2 adds 0 ∷ [])
      ∷ (settled_at 2 adds 1 ∷ [])
      ∷ (settled_at 3 removes 4 ∷ [])
      ∷ (settled_at 3 clears 0 ∷ [])
      ∷ (settled_at 4 removes 4 ∷ [])
      ∷ (settled_at 5 adds 4 ∷ [])
      ∷ []
      )
      ≡ (false ∷ false ∷ true ∷ false ∷ true ∷ false ∷ false ∷ false ∷ true ∷ false ∷ [])
  -- "an unsettled row's sender in the group, its vector at or below D and its number at least 1; settled rows without a tag"
  pub tags :
      map (λ (row : Row). is_table (keeping (row ∷ []))) (
      unsettled_at 3 adds 4
      ∷ unsettled_row (tagged 3 adds 4 (two 2 2))
      ∷ unsettled_row (tagged 3 adds 4 (two 3 2))
      ∷ unsettled_row (tagged 3 adds 4 (two 0 3))
      ∷ unsettled_row (tagged 3 adds 4 (two 1 0))
      ∷ unsettled_row (tagged 3 adds 4 (three 0 1 0))
      ∷ added_by 2 (two 1 1)
      ∷ record { settled = true; operation = tagged 3 adds 4 [] }
      ∷ record { settled = true; operation = tagged 3 adds 4 (two 0 1) }
      ∷ []
      )
      ≡ (true ∷ true ∷ false ∷ false ∷ false ∷ false ∷ false ∷ false ∷ false ∷ [])
  -- "With N = 1, Low is D": what a station alone issues is stable at once.
  pub alone : (from_opening (header_with 1 0 4 (add_wins_set ∷ [])) (ours 0 adds 5 ∷ settles 1 ∷ [])).table.rows ≡ (settled_of adds 5 ∷ [])
  -- The tables above are tables by the rules.
  pub by_the_rules : map is_table (wide ∷ full ∷ full_of_tags ∷ heard ∷ numbered 4294967295 ∷ []) ≡ (true ∷ true ∷ true ∷ true ∷ true ∷ [])

-- Computed from the definitions alone, and checked before the laws: a wrong number is refused here first, by the name of its line.
pub boundaries : Boundaries
unfolding all_words
boundaries = record {
  codes_of_counters = refl;
  codes_of_3_and_4 = refl;
  codes_of_flags = refl;
  codes_of_7 = refl;
  codes_of_8_and_9 = refl;
  amounts = refl;
  increases = refl;
  decreases = refl;
  enables = refl;
  disables = refl;
  clearing = refl;
  values = refl;
  removed_values = refl;
  objects = refl;
  own_numbers = refl;
  room_for_none = refl;
  room_elsewhere = refl;
  room_after_drops = refl;
  room_for_removes = refl;
  frame_sizes = refl;
  frame_entries = refl;
  entries_of_32_bits = refl;
  senders = refl;
  frame_objects = refl;
  frame_amounts = refl;
  numbers = refl;
  too_early = refl;
  falling = refl;
  limits = refl;
  questions_to_counters = refl;
  questions_to_flags = refl;
  questions_to_3_and_4 = refl;
  questions_to_7_8_9 = refl;
  value_9 = refl;
  held_values = refl;
  question_objects = refl;
  list_spaces = refl;
  group_sizes = refl;
  own_stations = refl;
  object_counts = refl;
  kinds = refl;
  capacities = refl;
  spaces = refl;
  bound = refl;
  totals = refl;
  totals_of_kind_1 = refl;
  lasts = refl;
  orders = refl;
  orders_of_tags = refl;
  contents = refl;
  tags = refl;
  alone = refl;
  by_the_rules = refl;
}
