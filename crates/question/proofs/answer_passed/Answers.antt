use Rattle.std.proofs.Common.{refl, []}
use borrow.Author.Rules.{rules}
use Rattle.refusal_kind.specs.declared.Asks.TheVariants as asks
use Rattle.question.proofs.Asked.{asks_is, known_question, passes, object_declared, total_replied, flag_replied, list_asked, count_replied, holds_replied}
use Rattle.question.proofs.answer_passed.Goals as goal

pub total_of-total-requires : goal.total_of-total-requires
total_of-total-requires c = (search rules, object_declared _ c.requires.table _ _ _ _ refl 0 (passes _ c.requires.table _ _ _ c.requires.passes) [] refl)

pub unreachable-requires : goal.unreachable-requires
unreachable-requires c = known_question _ c.requires.table _ _ _ _ refl 0 (passes _ c.requires.table _ _ _ c.requires.passes) [] refl c.in-Err.ensures.1

pub returns-in-Ok-Total : goal.returns-in-Ok-Total
returns-in-Ok-Total c = total_replied _ c.requires.table _ _ _ _ refl 0 (passes _ c.requires.table _ _ _ c.requires.passes) _ refl (asks_is _ asks.Total _ c.in-Ok-Total.field-0-is c.in-Ok-Total.ensures) _ _ c.total_of-total.ensures

pub returns-in-Ok-Flag : goal.returns-in-Ok-Flag
returns-in-Ok-Flag c = flag_replied _ c.requires.table _ _ _ _ refl 0 (passes _ c.requires.table _ _ _ c.requires.passes) _ refl (asks_is _ asks.Flag _ c.in-Ok-Flag.field-0-is c.in-Ok-Flag.ensures) _ c.is_in.ensures

pub returns-in-Ok-List : goal.returns-in-Ok-List
returns-in-Ok-List c = list_asked _ c.requires.table _ _ _ _ refl 0 (passes _ c.requires.table _ _ _ c.requires.passes) _ refl (asks_is _ asks.List _ c.in-Ok-List.field-0-is c.in-Ok-List.ensures) _ _ c.list_reply.ensures

pub returns-in-Ok-Count : goal.returns-in-Ok-Count
returns-in-Ok-Count c = count_replied _ c.requires.table _ _ _ _ refl 0 (passes _ c.requires.table _ _ _ c.requires.passes) _ refl (asks_is _ asks.Count _ c.in-Ok-Count.field-0-is c.in-Ok-Count.ensures) _ c.count_in.ensures

pub returns-in-Ok-Holds : goal.returns-in-Ok-Holds
returns-in-Ok-Holds c = holds_replied _ c.requires.table _ _ _ _ refl 0 (passes _ c.requires.table _ _ _ c.requires.passes) _ refl (asks_is _ asks.Holds _ c.in-Ok-Holds.field-0-is c.in-Ok-Holds.ensures) _ c.is_in-in-Ok-Holds.ensures
