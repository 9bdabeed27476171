use Rattle.arrival.proofs.Arriving.{dropped_opened, left_fits, row_count, row_fits, row_put, none_count, none_put}
use borrow.Author.Rules.{rules}
use Rattle.arrival.proofs.arrive_rows.Goals as goal

pub put_arrival-requires : goal.put_arrival-requires
put_arrival-requires c = (search row_fits, search dropped_opened, search rules)

pub overflow_add-result : goal.overflow_add-result
overflow_add-result c = search left_fits

pub returns-then-gets : goal.returns-then-gets
returns-then-gets c = (search row_count, search row_put)

pub returns-else-gets : goal.returns-else-gets
returns-else-gets c = (search none_count, search none_put)
