use Rattle.std.proofs.Common.{[]}
use Rattle.refusal_number.proofs.Numbers.{number_above}
use Rattle.question.proofs.Asked.{first_is, refused_replied}
use Rattle.question.proofs.ask_table.Goals as goal

pub answer_passed-requires : goal.answer_passed-requires
answer_passed-requires c = record { table = c.requires; passes = first_is _ c.requires _ _ _ _ c.wide-end.ensures.0 0 c.in-Ok.ensures [] }

pub returns-in-Err : goal.returns-in-Err
returns-in-Err c = refused_replied _ c.requires _ _ _ _ c.wide-end.ensures.0 _ c.in-Err.ensures _ (number_above c.in-Err.refusal)
