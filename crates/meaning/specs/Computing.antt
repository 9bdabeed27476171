-- Which definitions the tables of lines are computed with: all, a group a file. A group has no meaning of its own: a proof that names it on its
-- `unfolding` line has the group's definitions opened.
use Rattle.std.specs.Prelude.{ℕ}
use Rattle.meaning.specs.Tests.{between}
use Rattle.meaning.specs.Order.{before_by_vector, concurrent_by_vector}
use Rattle.meaning.specs.Operations.{number_of, before, concurrent, is_counter, is_flag, removes_stand, codes_of, code_allowed, value_allowed, allowed}
use Rattle.meaning.specs.Meaning.{of, on, add_of, remove_of, clear_of, ends, survives, stands, in_grow_set, in_two_phase_set, in_by_survival, in_by_standing, is_in, total_of, values_named, list_of, count_of}
use Rattle.meaning.specs.Rows.{key_of, lower_row, remove_rows_count, is_in_by_rows, list_by_rows, count_by_rows}
use Rattle.meaning.specs.Arrival.{concerns, row_before, taken_by, gets_row, with_row, tagged_arrival, same_value, settled_arrival, rows_after, amount_of, totals_after}
use Rattle.meaning.specs.Settling.{stable_by, due, add_beside, remove_beside, becomes_settled, dropped_with, left_by, step_at}
use Rattle.meaning.specs.Table.{kind_in, low, stable, header_rules, in_range, zeros, opened, clock_rule, last_rule, lasts_rule, total_bound, is_negative, total_rule, totals_rule, storable, settled_only, tag_rule, row_rule, table_rules, is_table}
use Rattle.meaning.specs.Questions.{fits, by_rows, by_definition, answer_from}
use Rattle.meaning.specs.Refusals.{well_shaped, declared, operation_allowed, in_time, frame_refusals, room_for, arrival_refusals, refusal_of_frame, issued_by, issue_refusals, local_refusals, refusal_of_local, settling_refusals, refusal_of_settling, well_asked, list_too_long, asked_refusals, question_refusals, opening_refusals}
use Rattle.meaning.specs.Calls.{after_arrival, outcome, receive, issue, rows_settled, steps, settle, reply_of, ask_of, ask, meant, open_table}
use Rattle.meaning.specs.History.{after_outcome, after_settling, after, after_all, reached}

unfoldable pub order_words : ℕ
unfolding between before_by_vector concurrent_by_vector
order_words = 0

unfoldable pub operation_words : ℕ
unfolding number_of before concurrent is_counter is_flag removes_stand codes_of code_allowed value_allowed allowed
operation_words = 0

unfoldable pub meaning_words : ℕ
unfolding of on add_of remove_of clear_of ends survives stands in_grow_set in_two_phase_set in_by_survival in_by_standing is_in total_of values_named list_of count_of
meaning_words = 0

unfoldable pub row_words : ℕ
unfolding key_of lower_row remove_rows_count is_in_by_rows list_by_rows count_by_rows
row_words = 0

unfoldable pub arrival_words : ℕ
unfolding concerns row_before taken_by gets_row with_row tagged_arrival same_value settled_arrival rows_after amount_of totals_after
arrival_words = 0

unfoldable pub settling_words : ℕ
unfolding stable_by due add_beside remove_beside becomes_settled dropped_with left_by step_at
settling_words = 0

unfoldable pub table_words : ℕ
unfolding kind_in low stable header_rules in_range zeros opened
table_words = 0

unfoldable pub rule_words : ℕ
unfolding clock_rule last_rule lasts_rule total_bound is_negative total_rule totals_rule storable settled_only tag_rule row_rule table_rules is_table
rule_words = 0

unfoldable pub question_words : ℕ
unfolding fits by_rows by_definition answer_from
question_words = 0

unfoldable pub refusal_words : ℕ
unfolding well_shaped declared operation_allowed in_time frame_refusals room_for arrival_refusals refusal_of_frame issued_by
    issue_refusals local_refusals refusal_of_local settling_refusals refusal_of_settling well_asked list_too_long asked_refusals question_refusals opening_refusals
refusal_words = 0

unfoldable pub call_words : ℕ
unfolding after_arrival outcome receive issue rows_settled steps settle reply_of ask_of ask meant open_table
call_words = 0

unfoldable pub history_words : ℕ
unfolding after_outcome after_settling after after_all reached
history_words = 0

unfoldable pub all_words : ℕ
unfolding order_words operation_words meaning_words row_words arrival_words settling_words table_words rule_words question_words refusal_words call_words history_words
all_words = 0
