-- The table: its record, opening, and the table rules.
use Rattle.std.specs.Prelude.{Bool, true, false, not, ◌&&◌, ◌||◌, cond, List, [], ◌∷◌, ℕ, ◌+◌, ◌*◌, leb, ltb, eqb, ℤ, pos, negsuc, nat_abs, get_or, length, replicate}
use Rattle.meaning.specs.Tests.{any, every, every_at, all_hold, between}
use Rattle.meaning.specs.Order.{Vector, entry_limit, at_most, same, others_of, low_of}
use Rattle.meaning.specs.Operations.{Operation, number_of, is_counter, grow_counter, grow_set, two_phase_set, code_allowed, value_allowed, greatest_amount}
use Rattle.meaning.specs.Rows.{Row, in_order}
use Rattle.meaning.specs.Arrival.{gets_row, same_value}
use Rattle.meaning.specs.Settling.{stable_by}

-- What an opening fixes: group size N, own station, capacity, and the kind of each object.
pub record Header : Type 0 where
  pub size : ℕ
  pub own : ℕ
  pub capacity : ℕ
  pub kinds : List ℕ

-- "A table keeps the clock D ... and, for each other station k, L[k], the vector of the last frame accepted from k"
pub record Table : Type 0 where
  pub header : Header
  pub clock : Vector
  pub last : List Vector
  pub totals : List ℤ
  pub rows : List Row

-- "kinds fixed at opening": the kind of an object.
unfoldable pub kind_in : Header → ℕ → ℕ
kind_in header o = get_or header.kinds o 0

-- "Low ... is the least of L[k] over the other stations k. With N = 1, Low is D."
unfoldable pub low : Table → Vector
low table = low_of table.clock (others_of table.header.own table.last)

-- "An operation is *stable* when its whole vector is at or below Low, entry by entry."
unfoldable pub stable : Table → Operation → Bool
stable table u = stable_by (low table) u

-- "A group has N stations, 1 to 16".
abbrev pub greatest_size : ℕ
greatest_size = 16

-- "at most its capacity of rows, 1 to 512": the most rows of any table.
abbrev pub most_rows : ℕ
most_rows = 512

-- The greatest capacity of a group of N stations, the same for every N.
abbrev pub greatest_capacity : ℕ → ℕ
greatest_capacity size = most_rows

-- "A table has 1 to 32 objects", of nine kinds.
abbrev pub most_objects : ℕ
most_objects = 32

abbrev pub greatest_kind : ℕ
greatest_kind = 9

-- What refusal 13 asks: "group size, own station, object count, kind or capacity out of range".
unfoldable pub header_rules : Header → List Bool
header_rules header =
    between 1 greatest_size header.size
    ∷ ltb header.own header.size
    ∷ between 1 most_objects (length header.kinds)
    ∷ every (between 1 greatest_kind) header.kinds
    ∷ between 1 (greatest_capacity header.size) header.capacity
    ∷ []

-- "header in opening's ranges"
unfoldable pub in_range : Header → Bool
in_range header = all_hold (header_rules header)

-- "all 0 at opening": a vector of N zeros.
unfoldable pub zeros : ℕ → Vector
zeros size = replicate size 0

-- A table at opening: D and every L[k] all 0, totals 0, no rows.
unfoldable pub opened : Header → Table
opened header = record {
  header = header;
  clock = zeros header.size;
  last = replicate header.size (zeros header.size);
  totals = replicate (length header.kinds) (pos 0);
  rows = [];
}

-- D has N entries of 32 bits.
unfoldable pub clock_rule : Table → Bool
clock_rule table = eqb (length table.clock) table.header.size && every (λ (entry : ℕ). ltb entry entry_limit) table.clock

-- "L[k] at or below D with L[k][k] = D[k]; own L ... 0"
unfoldable pub last_rule : Table → ℕ → Vector → Bool
last_rule table station vector =
    cond (eqb station table.header.own) (same vector (zeros table.header.size))
    (eqb (length vector) table.header.size
    && (at_most vector table.clock && eqb (get_or vector station 0) (get_or table.clock station 0)))

-- "for each other station k, L[k]": one vector for each station, by its rule.
unfoldable pub lasts_rule : Table → Bool
lasts_rule table = eqb (length table.last) table.header.size && every_at (last_rule table) 0 table.last

-- "the sum of D"
abbrev pub sum_of_entries : Vector → ℕ
sum_of_entries [] = 0
sum_of_entries (entry ∷ vector) = entry + sum_of_entries vector

-- "within 1,000,000 times the sum of D on either side of zero"
unfoldable pub total_bound : Vector → ℕ
total_bound clock = greatest_amount * sum_of_entries clock

-- "not negative in kind 1"
unfoldable pub is_negative : ℤ → Bool
is_negative (pos amount) = false
is_negative (negsuc amount) = true

-- "totals within the bound above, not negative in kind 1"; an object that is no counter has total 0.
unfoldable pub total_rule : Table → ℕ → ℤ → Bool
total_rule table o total =
    cond (is_counter (kind_in table.header o))
    (leb (nat_abs total) (total_bound table.clock) && not (eqb (kind_in table.header o) grow_counter && is_negative total))
    (eqb (nat_abs total) 0)

-- One total for each object, by its rule.
unfoldable pub totals_rule : Table → Bool
totals_rule table = eqb (length table.totals) (length table.header.kinds) && every_at (total_rule table) 0 table.totals

-- "code storable in its kind": counters keep no rows, a clear is stored in none, a remove or disable not in kinds 5 and 8.
unfoldable pub storable : ℕ → Operation → Bool
storable kind u = not (is_counter kind) && (code_allowed kind u.code && gets_row kind u)

-- "kinds 3 and 4 settled only"
unfoldable pub settled_only : ℕ → Bool
settled_only kind = eqb kind grow_set || eqb kind two_phase_set

-- "an unsettled row's sender in the group, its vector at or below D and its number at least 1; settled rows without a tag"
unfoldable pub tag_rule : Table → Row → Bool
tag_rule table row =
    let u = row.operation in
    cond row.settled
    (eqb u.sender 0 && same u.vector [])
    (ltb u.sender table.header.size
    && (eqb (length u.vector) table.header.size && (at_most u.vector table.clock && leb 1 (number_of u))))

-- "object declared, code storable in its kind (kinds 3 and 4 settled only ...), value 0 in flags"
unfoldable pub row_rule : Table → Row → Bool
row_rule table row =
    let u = row.operation in
    let kind = kind_in table.header u.object in
    ltb u.object (length table.header.kinds)
    && ((storable kind u && value_allowed kind u.code u.value)
    && ((row.settled || not (settled_only kind)) && tag_rule table row))

-- "kind 4 one row a value"
abbrev pub one_row_a_value : (ℕ → ℕ) → List Row → Bool
one_row_a_value kind_of [] = true
one_row_a_value kind_of (row ∷ rows) =
    not (eqb (kind_of row.operation.object) two_phase_set && any (same_value row.operation) rows)
    && one_row_a_value kind_of rows

-- The table rules, in the order of the document; which words of a lent space are unused is said where the layout is.
unfoldable pub table_rules : Table → List Bool
table_rules table =
    in_range table.header
    ∷ clock_rule table
    ∷ lasts_rule table
    ∷ totals_rule table
    ∷ in_order table.rows
    ∷ leb (length table.rows) table.header.capacity
    ∷ every (row_rule table) table.rows
    ∷ one_row_a_value (kind_in table.header) table.rows
    ∷ []

-- 14: "the space holds no table by the table rules", or it does.
unfoldable pub is_table : Table → Bool
is_table table = all_hold (table_rules table)
