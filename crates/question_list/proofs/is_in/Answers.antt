use borrow.Author.Rules.{rules}
use Rattle.question_list.proofs.Scanned.{part_room, in_by_rows}
use Rattle.question_list.proofs.is_in.Goals as goal

pub returns : goal.returns
returns c = search in_by_rows
