-- The definition computed on lines written as texts: forms that load, and for each rule that a line can break lines that break it, beside lines that keep it.
use Rattle.std.specs.Prelude.{Result, Ok, Err, ◌≡◌, refl, List, [], ◌∷◌, ◌++◌, map, ℕ, pos, negsuc, length, replicate, take}
use Prim.Native.String.{String}
use Rattle.meaning.specs.Computing.{all_words}
use Rattle.meaning.specs.Rows.{settled_row}
use Rattle.meaning.specs.Table.{Table}
use Rattle.meaning.specs.Papers.{session_saved}
use Rattle.line_hex.specs.Decoding.{is_line, just_lf, pair_of, pairs}
use Rattle.line_hex.specs.Hex.{is_digit, value_of}
use Rattle.line_hex.specs.Numbers.{number_from}
use Rattle.line_shape.specs.Reading.{entries, fields_read, has_shape, padded, starts_with, is_shaped}
use Rattle.line_shape.specs.Shapes.{length_of, read}
use Rattle.line_read.specs.Named.{is_opening, opening_read}
use Rattle.line_read.specs.Types.{is_line_of, is_of, line_read}
use Rattle.line_read.specs.SavedNamed.{clock_read, closing_read, is_clock, is_closing, is_last, is_row, is_total, last_read, row_read, total_read}
use Rattle.line_decode.specs.Decoding.{bytes_of, type_of}
use Rattle.line_decode.specs.LineKinds.{kind_of}
use Rattle.line_decode.specs.Text.{characters, line_saying}
use Rattle.call_checked.specs.Called.{header_read, opened_as, opened_by}
use Rattle.form_write.specs.Seeking.{counter_at, other_at}
use Rattle.form_write.specs.Session.{session_form}
use Rattle.table_rules.specs.TableTests.{sizes_kept}
use Rattle.table_rules_rows.specs.RowTests.{content_kept, follows, number_kept, row_kept, tag_kept, unsettled_kept}
use Rattle.table_rules_clock.specs.ClockTests.{last_kept, total_kept}
use Rattle.words_layout.specs.Layout.{holds_table, is_spelt, rewritten, space_for, table_of, words_of}
use Rattle.words_layout.specs.Words.{complement, of_complement}
use Rattle.form_row.specs.Joining.{joined, joins, last_row, row_said}
use Rattle.form_take.specs.Taking.{clock_taken, closed, finished, last_taken, row_or_closing, row_taken, spoilt, took, total_taken}
use Rattle.form_load.specs.Loading.{begun, behind_lasts, first_as, first_taken, head_loads, load_waits, load_ended, loaded_all, loaded_by, next_after, next_in, taken_as, under_load, waits}
use Rattle.form_take.specs.declared.Loaded.{Loaded}
use Rattle.form_take.specs.declared.Loaded.TheVariants as loaded

-- A space for N = 2 and four rows, with something in every word.
abbrev pub space : List ℕ
space = replicate (space_for 2 4) 9

-- What it holds after these lines of a form.
abbrev pub after : List String → List ℕ
after form = (loaded_all (map line_saying form) space).1

-- A line, and what it gets and leaves of a space.
pub record Case : Type 0 where
  pub given : List ℕ
  pub told : List ℕ → Result Loaded ℕ × List ℕ

infix 4 ◌gets◌
abbrev pub ◌gets◌ : List ℕ → (List ℕ → Result Loaded ℕ × List ℕ) → Case
line gets told = record { given = line; told = told }

-- 15, and zeros for the whole space.
abbrev pub wrong : List ℕ → Result Loaded ℕ × List ℕ
wrong words = (Err 15, replicate (length words) 0)

-- A number, and every word as it was.
abbrev pub unbegun : ℕ → List ℕ → Result Loaded ℕ × List ℕ
unbegun number words = (Err number, words)

-- Taken, and taken as the closing line: what is then written the forms that load show.
abbrev pub taken : List ℕ → Result Loaded ℕ × List ℕ
taken words = (Ok loaded.Taken, [])

abbrev pub closes : List ℕ → Result Loaded ℕ × List ℕ
closes words = (Ok loaded.Table, [])

unfoldable pub seen : Result Loaded ℕ × List ℕ → Result Loaded ℕ × List ℕ
seen (Err number, words) = (Err number, words)
seen (Ok loaded.Taken, words) = (Ok loaded.Taken, [])
seen (Ok loaded.Table, words) = (Ok loaded.Table, [])

-- Each of these lines, given to a space, gets and leaves what is told.
abbrev pub Right : List ℕ → List Case → Type 0
Right words cases = map (λ (c : Case). seen (loaded_by c.given words)) cases ≡ map (λ (c : Case). c.told words) cases

-- Which definitions are computed with; a group has no meaning of its own.
unfoldable pub line_words : ℕ
unfolding pair_of pairs just_lf is_line value_of is_digit number_from padded entries starts_with has_shape fields_read length_of read opening_read is_of is_line_of is_shaped is_opening is_clock is_last is_total is_row is_closing line_read clock_read last_read total_read row_read closing_read bytes_of type_of kind_of characters line_saying
line_words = 0

unfoldable pub word_words : ℕ
unfolding sizes_kept content_kept number_kept unsettled_kept tag_kept row_kept follows total_kept last_kept words_of table_of rewritten is_spelt holds_table complement of_complement
word_words = 0

unfoldable pub load_words : ℕ
unfolding opened_as header_read opened_by other_at counter_at spoilt took clock_taken last_taken total_taken row_said last_row joins joined row_taken finished closed row_or_closing behind_lasts next_after next_in waits head_loads load_waits under_load taken_as begun first_as first_taken loaded_by load_ended loaded_all seen
load_words = 0

-- Own station 1 of two, a set between two counters, a total below zero, a settled row.
abbrev pub counters_table : Table
counters_table = record {
  header = record { size = 2; own = 1; capacity = 4; kinds = 2 ∷ 3 ∷ 1 ∷ [] };
  clock = 0 ∷ 3 ∷ [];
  last = (0 ∷ 0 ∷ []) ∷ (0 ∷ 0 ∷ []) ∷ [];
  totals = negsuc 6 ∷ pos 0 ∷ pos 258 ∷ [];
  rows = settled_row (record { object = 1; code = 1; value = 4294967295; sender = 1; vector = 0 ∷ 2 ∷ [] }) ∷ [];
}

abbrev pub counters_form : List String
counters_form =
    "100201000403020301"
    ∷ "500000000000000003"
    ∷ "51000000000000000000"
    ∷ "5200fffffffffffffff9"
    ∷ "52020000000000000102"
    ∷ "5301010100ffffffff0000000000000000"
    ∷ "5f0001"
    ∷ []

-- "if that gets 1 or 13, or a saved line comes when no load is under way (15), nothing is written": a line that is no opening's is of "wrong length or
-- type" (1). A line behind the closing line is not the loader's matter: no load is under way then, and it is "The second program" that "gives 15 to any line
-- after the closing one".
abbrev pub not_begun : List Case
not_begun =
    -- "wrong length or type": no kind byte, or one too many
    (line_saying "100200000401" gets unbegun 1)
    ∷ (line_saying "1002000004010808" gets unbegun 1)
    -- "group size, own station, object count, kind or capacity out of range, or space too small"
    ∷ (line_saying "10000000040108" gets unbegun 13)
    ∷ (line_saying "10020200040108" gets unbegun 13)
    ∷ (line_saying "10020000000108" gets unbegun 13)
    ∷ (line_saying "100200000400" gets unbegun 13)
    ∷ (line_saying "1002000004010a" gets unbegun 13)
    ∷ (line_saying "10020000050108" gets unbegun 13)
    -- "Lines of type `50` to `5f`", and those beside them
    ∷ (line_saying "500000000100000002" gets unbegun 15)
    ∷ (line_saying "51010000000000000002" gets unbegun 15)
    ∷ (line_saying "52000000000000000000" gets unbegun 15)
    ∷ (line_saying "5300010000000000070000000100000000" gets unbegun 15)
    ∷ (line_saying "5f0001" gets unbegun 15)
    ∷ (line_saying "4f0001" gets unbegun 1)
    ∷ (line_saying "60" gets unbegun 1)
    ∷ (line_saying "40000400000000" gets unbegun 1)
    ∷ (line_saying "" gets unbegun 1)
    ∷ []

-- D is due. "In a load every wrong line, a second `10` too, gets 15, never 1 or 13, and zeroes the table space".
abbrev pub clock_lines : List Case
clock_lines =
    -- "`50` D", an entry of 32 bits for each station
    (line_saying "500000000100000002" gets taken)
    ∷ (line_saying "50ffffffffffffffff" gets taken)
    ∷ (line_saying "5000000001" gets wrong)
    ∷ (line_saying "50000000010000000200000003" gets wrong)
    ∷ (line_saying "50" gets wrong)
    -- "All numbers big-endian, one frame a line, lower case, each line ended by one LF"
    ∷ (line_saying "50000000010000000a" gets taken)
    ∷ (line_saying "50000000010000000A" gets wrong)
    ∷ (line_saying "50000000010000000" gets wrong)
    ∷ (characters "500000000100000002" gets wrong)
    ∷ (line_saying "" gets wrong)
    -- what comes at another place, or in no form
    ∷ (line_saying "10020000040108" gets wrong)
    ∷ (line_saying "10020000050108" gets wrong)
    ∷ (line_saying "100200000401" gets wrong)
    ∷ (line_saying "51010000000000000002" gets wrong)
    ∷ (line_saying "5f0000" gets wrong)
    ∷ (line_saying "60" gets wrong)
    ∷ (line_saying "30000a" gets wrong)
    ∷ (line_saying "4f" gets wrong)
    ∷ []

-- Own station 1 of three, D = [2, 1, 3]: "for each other k ascending `51` k, L[k]".
abbrev pub three_stations : List String
three_stations = "10030100010108" ∷ "50000000020000000100000003" ∷ []

-- That of station 0 is due.
abbrev pub first_vector : List Case
first_vector =
    -- "L[k] at or below D": at it, below it, above it by an entry
    (line_saying "5100000000020000000100000003" gets taken)
    ∷ (line_saying "5100000000020000000000000000" gets taken)
    ∷ (line_saying "5100000000020000000200000003" gets wrong)
    ∷ (line_saying "5100000000020000000100000004" gets wrong)
    -- "with L[k][k] = D[k]"
    ∷ (line_saying "5100000000010000000100000003" gets wrong)
    ∷ (line_saying "5100000000030000000100000003" gets wrong)
    -- "ascending": station 2 is not next
    ∷ (line_saying "5102000000020000000100000003" gets wrong)
    -- "for each other k": not the own station, none outside of the group
    ∷ (line_saying "5101000000000000000000000000" gets wrong)
    ∷ (line_saying "5101000000020000000100000003" gets wrong)
    ∷ (line_saying "5103000000020000000100000003" gets wrong)
    -- another length
    ∷ (line_saying "51000000000200000001" gets wrong)
    ∷ (line_saying "510000000002000000010000000300000000" gets wrong)
    -- it is missing
    ∷ (line_saying "530001010000000007000000000000000000000000" gets wrong)
    ∷ (line_saying "5f0000" gets wrong)
    ∷ []

-- That of station 2 is due, behind it no other.
abbrev pub next_vector : List Case
next_vector =
    (line_saying "5102000000000000000000000003" gets taken)
    ∷ (line_saying "5102000000000000000000000002" gets wrong)
    ∷ (line_saying "5102000000030000000000000003" gets wrong)
    ∷ (line_saying "5100000000020000000100000003" gets wrong)
    ∷ (line_saying "5101000000000000000000000000" gets wrong)
    ∷ (line_saying "530001010000000007000000000000000000000000" gets wrong)
    ∷ (line_saying "5f0000" gets wrong)
    ∷ []

-- None is due any more.
abbrev pub behind_vectors : List Case
behind_vectors =
    (line_saying "5f0000" gets closes)
    ∷ (line_saying "530001010000000007000000000000000000000000" gets taken)
    ∷ (line_saying "5102000000000000000000000003" gets wrong)
    ∷ (line_saying "5101000000000000000000000000" gets wrong)
    ∷ []

-- "for each other k": with N = 1 there is none, and D = [1] is followed by no `51`.
abbrev pub one_station : List Case
one_station =
    (line_saying "5f0000" gets closes)
    ∷ (line_saying "53000100000000000700000001" gets taken)
    ∷ (line_saying "510000000001" gets wrong)
    ∷ (line_saying "510000000000" gets wrong)
    ∷ []

-- An up-down counter, a set and a grow counter; D = [1, 2], so that no total is beyond 3,000,000.
abbrev pub three_objects : List String
three_objects = "100200000103020301" ∷ "500000000100000002" ∷ "51010000000000000002" ∷ []

-- That of object 0 is due: "for each counter ascending `52` object, total (8, two's complement)".
abbrev pub first_total : List Case
first_total =
    -- "within 1,000,000 times the sum of D on either side of zero"
    (line_saying "52000000000000000000" gets taken)
    ∷ (line_saying "520000000000002dc6c0" gets taken)
    ∷ (line_saying "520000000000002dc6c1" gets wrong)
    ∷ (line_saying "5200ffffffffffd23940" gets taken)
    ∷ (line_saying "5200ffffffffffd2393f" gets wrong)
    ∷ (line_saying "52007fffffffffffffff" gets wrong)
    ∷ (line_saying "52008000000000000000" gets wrong)
    -- "ascending": object 2 is not next
    ∷ (line_saying "52020000000000000000" gets wrong)
    -- "for each counter": object 1 is none, and there is no object 3
    ∷ (line_saying "52010000000000000000" gets wrong)
    ∷ (line_saying "52030000000000000000" gets wrong)
    -- another length
    ∷ (line_saying "520000000000000000" gets wrong)
    ∷ (line_saying "5200000000000000000000" gets wrong)
    -- it is missing: a row, or the closing line
    ∷ (line_saying "5301010100000000070000000000000000" gets wrong)
    ∷ (line_saying "5f0000" gets wrong)
    ∷ []

-- That of object 2 is due, a grow counter.
abbrev pub next_total : List Case
next_total =
    -- "not negative in kind 1"
    (line_saying "52020000000000000000" gets taken)
    ∷ (line_saying "520200000000002dc6c0" gets taken)
    ∷ (line_saying "520200000000002dc6c1" gets wrong)
    ∷ (line_saying "5202ffffffffffffffff" gets wrong)
    -- another object, or none
    ∷ (line_saying "52000000000000000000" gets wrong)
    ∷ (line_saying "52010000000000000000" gets wrong)
    ∷ (line_saying "5301010100000000070000000000000000" gets wrong)
    ∷ (line_saying "5f0000" gets wrong)
    ∷ []

-- None is due any more.
abbrev pub behind_totals : List Case
behind_totals =
    (line_saying "5f0000" gets closes)
    ∷ (line_saying "5301010100000000070000000000000000" gets taken)
    ∷ (line_saying "52020000000000000000" gets wrong)
    ∷ []

-- "`53` object, code, 01 settled or 00, sender, value (4), vector": with N = 1 there is one entry. Objects 0 to 7 are of kinds 3, 4, 5, 6, 7, 9, 8 and 1; D = [2].
abbrev pub every_kind : List String
every_kind = "1001000002080304050607090801" ∷ "5000000002" ∷ "52070000000000000000" ∷ []

-- "code storable in its kind (kinds 3 and 4 settled only ...)".
abbrev pub settled_only : List Case
settled_only =
    -- kind 3, "Codes": 1
    (line_saying "53000101000000000700000000" gets taken)
    ∷ (line_saying "53000100000000000700000001" gets wrong)
    ∷ (line_saying "53000201000000000700000000" gets wrong)
    ∷ (line_saying "53000301000000000000000000" gets wrong)
    -- kind 4, "Codes": 1, 2
    ∷ (line_saying "53010101000000000700000000" gets taken)
    ∷ (line_saying "53010201000000000700000000" gets taken)
    ∷ (line_saying "53010100000000000700000001" gets wrong)
    ∷ (line_saying "53010200000000000700000001" gets wrong)
    ∷ (line_saying "53010301000000000000000000" gets wrong)
    ∷ []

-- "value 0 in flags".
abbrev pub flags : List Case
flags =
    -- kind 5: "a remove or disable gets none in kinds 5 and 8", "a clear gets none in any kind"
    (line_saying "53020101000000000000000000" gets taken)
    ∷ (line_saying "53020100000000000000000001" gets taken)
    ∷ (line_saying "53020201000000000000000000" gets wrong)
    ∷ (line_saying "53020200000000000000000001" gets wrong)
    ∷ (line_saying "53020300000000000000000001" gets wrong)
    ∷ (line_saying "53020101000000000100000000" gets wrong)
    ∷ (line_saying "53020100000000000100000001" gets wrong)
    -- kind 6: a disable has its row
    ∷ (line_saying "53030101000000000000000000" gets taken)
    ∷ (line_saying "53030100000000000000000001" gets taken)
    ∷ (line_saying "53030201000000000000000000" gets taken)
    ∷ (line_saying "53030200000000000000000001" gets taken)
    ∷ (line_saying "53030300000000000000000001" gets wrong)
    ∷ (line_saying "53030101000000000100000000" gets wrong)
    ∷ (line_saying "53030200000000000100000001" gets wrong)
    ∷ []

-- "code storable in its kind".
abbrev pub registers_and_sets : List Case
registers_and_sets =
    -- kind 7, "Codes": 1, 3, and "a clear gets none in any kind"
    (line_saying "53040101000000000700000000" gets taken)
    ∷ (line_saying "53040100000000000700000001" gets taken)
    ∷ (line_saying "53040201000000000700000000" gets wrong)
    ∷ (line_saying "53040200000000000700000001" gets wrong)
    ∷ (line_saying "53040300000000000000000001" gets wrong)
    -- kind 8: "a remove or disable gets none in kinds 5 and 8"
    ∷ (line_saying "53060101000000000700000000" gets taken)
    ∷ (line_saying "53060100000000000700000001" gets taken)
    ∷ (line_saying "53060201000000000700000000" gets wrong)
    ∷ (line_saying "53060200000000000700000001" gets wrong)
    ∷ (line_saying "53060300000000000000000001" gets wrong)
    -- kind 9: a remove has its row
    ∷ (line_saying "53050101000000000700000000" gets taken)
    ∷ (line_saying "53050100000000000700000001" gets taken)
    ∷ (line_saying "53050201000000000700000000" gets taken)
    ∷ (line_saying "53050200000000000700000001" gets taken)
    ∷ (line_saying "53050300000000000000000001" gets wrong)
    -- "Codes: 1 ...; 2 ...; 3 clear", no other
    ∷ (line_saying "53050001000000000700000000" gets wrong)
    ∷ (line_saying "53050401000000000700000000" gets wrong)
    -- "kinds 1 and 2 change the total only"
    ∷ (line_saying "53070101000000000700000000" gets wrong)
    ∷ (line_saying "53070100000000000700000001" gets wrong)
    -- "Other values are any 32-bit number, 0 included"
    ∷ (line_saying "53060101000000000000000000" gets taken)
    ∷ (line_saying "5306010100ffffffff00000000" gets taken)
    -- "object declared"
    ∷ (line_saying "53080101000000000700000000" gets wrong)
    ∷ (line_saying "53ff0101000000000700000000" gets wrong)
    ∷ []

-- "kind 4 one row a value": behind a settled add of 7.
abbrev pub after_add : List Case
after_add =
    (line_saying "53010201000000000700000000" gets wrong)
    ∷ (line_saying "53010101000000000700000000" gets wrong)
    ∷ (line_saying "53010101000000000800000000" gets taken)
    ∷ (line_saying "53010201000000000800000000" gets taken)
    ∷ []

-- Object 0 is of kind 9, object 1 of kind 8; D = [2, 2].
abbrev pub two_sets : List String
two_sets = "1002000002020908" ∷ "500000000200000002" ∷ "51010000000000000002" ∷ []

-- The tag of a row in kind 8.
abbrev pub tags : List Case
tags =
    -- "an unsettled row's sender in the group"
    (line_saying "5301010001000000070000000100000001" gets taken)
    ∷ (line_saying "5301010002000000070000000100000001" gets wrong)
    -- "its vector at or below D"
    ∷ (line_saying "5301010000000000070000000200000002" gets taken)
    ∷ (line_saying "5301010000000000070000000200000003" gets wrong)
    ∷ (line_saying "5301010000000000070000000300000002" gets wrong)
    -- "and its number at least 1": its number is the entry at its sender
    ∷ (line_saying "5301010001000000070000000000000001" gets taken)
    ∷ (line_saying "5301010000000000070000000000000001" gets wrong)
    ∷ (line_saying "5301010000000000070000000000000000" gets wrong)
    -- "settled rows without a tag": "a settled row has sender and vector 0"
    ∷ (line_saying "5301010100000000070000000000000000" gets taken)
    ∷ (line_saying "5301010101000000070000000000000000" gets wrong)
    ∷ (line_saying "5301010100000000070000000100000000" gets wrong)
    ∷ (line_saying "5301010100000000070000000000000001" gets wrong)
    -- "01 settled or 00"
    ∷ (line_saying "5301010200000000070000000000000000" gets wrong)
    ∷ (line_saying "5301010200000000070000000100000000" gets wrong)
    -- another length
    ∷ (line_saying "53010100000000000700000001" gets wrong)
    ∷ (line_saying "530101000000000007000000010000000000000000" gets wrong)
    ∷ []

-- What each of these lines gets behind a row, and leaves.
abbrev pub behind : String → List String → List (Result Loaded ℕ × List ℕ)
behind first lines = map (λ (line : String). seen (loaded_by (line_saying line) (after (two_sets ++ (first ∷ []))))) lines

-- The second row may stand behind the first; the first behind the second, and each behind itself, may not.
abbrev pub InOrder : String → String → Type 0
InOrder first second =
    behind first (second ∷ first ∷ []) ++ behind second (first ∷ second ∷ [])
    ≡ taken space ∷ wrong space ∷ wrong space ∷ wrong space ∷ []

-- "rows in strict order": a row of the same sender and number is equal, whatever its other entries.
abbrev pub same_key : List Case
same_key =
    (line_saying "5300010000000000070000000100000001" gets wrong)
    ∷ (line_saying "5300010000000000070000000200000001" gets taken)
    ∷ []

-- One station, one object of kind 9, D = [2], room for two rows.
abbrev pub two_rows : List String
two_rows = "10010000020109" ∷ "5000000002" ∷ []

-- Behind one row: "`5f` row count (2)", and "a wrong closing count".
abbrev pub one_row : List Case
one_row =
    (line_saying "53000201000000000700000000" gets taken)
    ∷ (line_saying "5f0001" gets closes)
    ∷ (line_saying "5f0000" gets wrong)
    ∷ (line_saying "5f0002" gets wrong)
    ∷ (line_saying "5f0101" gets wrong)
    ∷ (line_saying "5f01" gets wrong)
    ∷ (line_saying "5f000001" gets wrong)
    ∷ (line_saying "5f" gets wrong)
    -- "lower case, each line ended by one LF"
    ∷ (line_saying "5F0001" gets wrong)
    ∷ (characters "5f0001" gets wrong)
    -- "a second `10` too", what came before, what is not due, and what is in no form
    ∷ (line_saying "10010000020109" gets wrong)
    ∷ (line_saying "5000000002" gets wrong)
    ∷ (line_saying "510000000002" gets wrong)
    ∷ (line_saying "52000000000000000000" gets wrong)
    ∷ (line_saying "60" gets wrong)
    ∷ (line_saying "" gets wrong)
    ∷ []

-- Behind two rows: "at most capacity".
abbrev pub full : List Case
full =
    (line_saying "53000201000000000800000000" gets wrong)
    ∷ (line_saying "5f0002" gets closes)
    ∷ (line_saying "5f0001" gets wrong)
    ∷ (line_saying "5f0003" gets wrong)
    ∷ []

-- All of it.
pub record Loading : Type 0 where
  -- "Loading what a table wrote gives that table back"
  pub session_loads : loaded_all (map line_saying session_form) space ≡ (Ok loaded.Taken ∷ Ok loaded.Taken ∷ Ok loaded.Taken ∷ Ok loaded.Taken ∷ Ok loaded.Table ∷ [], words_of session_saved)
  pub counters_load : loaded_all (map line_saying counters_form) space
      ≡ (Ok loaded.Taken ∷ Ok loaded.Taken ∷ Ok loaded.Taken ∷ Ok loaded.Taken ∷ Ok loaded.Taken ∷ Ok loaded.Taken ∷ Ok loaded.Table ∷ [], words_of counters_table)
  pub not_begun_lem : Right (words_of session_saved) not_begun
  pub clock_lines_lem : Right (after (take 1 session_form)) clock_lines
  pub first_vector_lem : Right (after three_stations) first_vector
  pub next_vector_lem : Right (after (three_stations ++ ("5100000000020000000100000003" ∷ []))) next_vector
  pub behind_vectors_lem : Right (after (three_stations ++ ("5100000000020000000100000003" ∷ "5102000000000000000000000003" ∷ []))) behind_vectors
  pub one_station_lem : Right (after ("10010000010108" ∷ "5000000001" ∷ [])) one_station
  pub first_total_lem : Right (after three_objects) first_total
  pub next_total_lem : Right (after (three_objects ++ ("5200fffffffffffffff9" ∷ []))) next_total
  pub behind_totals_lem : Right (after (three_objects ++ ("5200fffffffffffffff9" ∷ "52020000000000000000" ∷ []))) behind_totals
  pub settled_only_lem : Right (after every_kind) settled_only
  pub flags_by_kind : Right (after every_kind) flags
  pub codes_by_kind : Right (after every_kind) registers_and_sets
  pub one_row_a_value_lem : Right (after (every_kind ++ ("53010101000000000700000000" ∷ []))) after_add
  pub row_tags : Right (after two_sets) tags
  -- "rows in strict order": "ascending order of object, value, code, settled before unsettled, sender, number"; the first that differs decides
  pub by_object : InOrder "5300010100000000080000000000000000" "5301010100000000070000000000000000"
  pub by_value : InOrder "5300020100000000070000000000000000" "5300010100000000080000000000000000"
  pub by_wide_value : InOrder "5300010100000000ff0000000000000000" "5300010100000001000000000000000000"
  pub by_code : InOrder "5300010000000000070000000100000000" "5300020100000000070000000000000000"
  pub by_settled : InOrder "5300010100000000070000000000000000" "5300010000000000070000000100000000"
  pub by_sender : InOrder "5300010000000000070000000200000000" "5300010001000000070000000000000001"
  pub by_number : InOrder "5300010000000000070000000100000002" "5300010000000000070000000200000000"
  pub same_key_lem : Right (after (two_sets ++ ("5300010000000000070000000100000000" ∷ []))) same_key
  pub one_row_lem : Right (after (two_rows ++ ("53000101000000000700000000" ∷ []))) one_row
  pub full_rows : Right (after (two_rows ++ ("53000101000000000700000000" ∷ "53000201000000000700000000" ∷ []))) full
  -- "a form that ends before its closing line": at a table, under load, and where no load was
  pub ends : load_ended (words_of session_saved) ∷ load_ended (after (take 4 session_form)) ∷ load_ended space ∷ load_ended (7 ∷ []) ∷ []
      ≡ (Ok loaded.Table, words_of session_saved) ∷ wrong space ∷ unbegun 15 space ∷ unbegun 15 (7 ∷ []) ∷ []

pub loading : Loading
unfolding all_words line_words word_words load_words
loading = record {
  session_loads = refl;
  counters_load = refl;
  not_begun_lem = refl;
  clock_lines_lem = refl;
  first_vector_lem = refl;
  next_vector_lem = refl;
  behind_vectors_lem = refl;
  one_station_lem = refl;
  first_total_lem = refl;
  next_total_lem = refl;
  behind_totals_lem = refl;
  settled_only_lem = refl;
  flags_by_kind = refl;
  codes_by_kind = refl;
  one_row_a_value_lem = refl;
  row_tags = refl;
  by_object = refl;
  by_value = refl;
  by_wide_value = refl;
  by_code = refl;
  by_settled = refl;
  by_sender = refl;
  by_number = refl;
  same_key_lem = refl;
  one_row_lem = refl;
  full_rows = refl;
  ends = refl;
}
