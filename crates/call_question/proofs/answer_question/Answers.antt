use Rattle.std.proofs.Common.{◌≡◌, ◌∙◌, ap, sym, Ok, Err}
use Rattle.refusal_number.specs.Numbers.{number_of}
use Rattle.question.specs.Replies.{told}
use Rattle.question.specs.Told as says
use Rattle.call_question.proofs.Told.{too_long_counted, list_counted, refused_told, too_long_told, total_told, flag_told, list_told, number_told, holds_told}
use borrow.Author.Rules.{rules}
use Rattle.call_question.proofs.answer_question.Goals as goal

pub write_list-requires : goal.write_list-requires
write_list-requires c =
    let h : told c.ask_table.result ≡ says.List c.in-Ok-List.count = ap told (c.in-Ok-List.is ∙ ap Ok c.in-Ok-List.field-0-is) in
    (search rules, search (list_counted, h))

pub write_list-requires-in-Err-TooLong : goal.write_list-requires-in-Err-TooLong
write_list-requires-in-Err-TooLong c =
    let h : told c.ask_table.result ≡ says.TooLong c.in-Err-TooLong.count = ap told (c.in-Err-TooLong.is ∙ ap Err c.in-Err-TooLong.field-0-is) in
    (search rules, search (too_long_counted, h))

pub returns-in-Ok-Total : goal.returns-in-Ok-Total
returns-in-Ok-Total c =
    let h : told c.ask_table.result ≡ says.Total c.in-Ok-Total.high c.in-Ok-Total.low = ap told (c.in-Ok-Total.is ∙ ap Ok c.in-Ok-Total.field-0-is) in
    search (total_told, h)

pub returns-in-Ok-Flag : goal.returns-in-Ok-Flag
returns-in-Ok-Flag c =
    let h : told c.ask_table.result ≡ says.Flag c.in-Ok-Flag.on = ap told (c.in-Ok-Flag.is ∙ ap Ok c.in-Ok-Flag.field-0-is) in
    search (flag_told, h)

pub returns-in-Ok-List : goal.returns-in-Ok-List
returns-in-Ok-List c =
    let h : told c.ask_table.result ≡ says.List c.in-Ok-List.count = ap told (c.in-Ok-List.is ∙ ap Ok c.in-Ok-List.field-0-is) in
    search (list_told, h)

pub returns-in-Ok-Count : goal.returns-in-Ok-Count
returns-in-Ok-Count c =
    let h : told c.ask_table.result ≡ says.Count c.in-Ok-Count.number = ap told (c.in-Ok-Count.is ∙ ap Ok c.in-Ok-Count.field-0-is) in
    search (number_told, h)

pub returns-in-Ok-Holds : goal.returns-in-Ok-Holds
returns-in-Ok-Holds c =
    let h : told c.ask_table.result ≡ says.Holds c.in-Ok-Holds.there = ap told (c.in-Ok-Holds.is ∙ ap Ok c.in-Ok-Holds.field-0-is) in
    search (holds_told, h)

pub returns-in-Err-TooLong : goal.returns-in-Err-TooLong
returns-in-Err-TooLong c =
    let h : told c.ask_table.result ≡ says.TooLong c.in-Err-TooLong.count = ap told (c.in-Err-TooLong.is ∙ ap Err c.in-Err-TooLong.field-0-is) in
    search (too_long_told, h)

pub returns-in-Err-Refused : goal.returns-in-Err-Refused
returns-in-Err-Refused c =
    let h : told c.ask_table.result ≡ says.Refused (number_of c.in-Err-Refused.refusal) = ap told (c.in-Err-Refused.is ∙ ap Err c.in-Err-Refused.field-0-is) in
    let k : told c.ask_table.result ≡ says.Refused c.number.result = h ∙ ap says.Refused (sym c.number.ensures) in
    search (refused_told, k)
