use borrow.Author.Rules.{rules}
use Rattle.question_list.proofs.Scanned.{part_room, count_by_rows_lem}
use Rattle.question_list.proofs.count_in.Goals as goal

pub returns : goal.returns
returns c = search count_by_rows_lem
