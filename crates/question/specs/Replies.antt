-- What a question is told, and what it leaves in the list space.
use Rattle.std.specs.Prelude.{cond, List, ◌++◌, ℕ, ltb, length, get_or, drop, Result, Ok, Err}
use Rattle.meaning.specs.Table.{Table}
use Rattle.meaning.specs.Questions.{total, flag, list, count, holds, by_rows}
use Rattle.meaning.specs.Calls.{Reply, refused, too_long, answered}
use Rattle.words_layout.specs.Layout.{total_words}
use Rattle.refusal_number.specs.Numbers as refusal
use Rattle.question.specs.declared.Reply as code
use Rattle.question.specs.declared.Reply.TheVariants as reply
use Rattle.question.specs.declared.Unanswered.{Unanswered}
use Rattle.question.specs.declared.Unanswered.TheVariants as no
use Rattle.question.specs.Told.{Told}
use Rattle.question.specs.Told as says

-- What a call's result tells: the refusal by its number.
abbrev pub told : Result code.Reply Unanswered → Told
told (Ok (reply.Total high low)) = says.Total high low
told (Ok (reply.Flag on)) = says.Flag on
told (Ok (reply.List length)) = says.List length
told (Ok (reply.Count number)) = says.Count number
told (Ok (reply.Holds there)) = says.Holds there
told (Err (no.Refused given)) = says.Refused (refusal.number_of given)
told (Err (no.TooLong needed)) = says.TooLong needed

-- "A refusal returns its number (11 also the count)", and the space stays. A total is told in its two words; a list stands at the front of its
-- space and is told by its length: "Bytes of a space beyond a result stay."
unfoldable pub replied : Reply → List ℕ → Told × List ℕ
replied (refused number) out = (says.Refused number, out)
replied (too_long needed) out = (says.TooLong (record { 0 = needed }), out)
replied (answered (total z)) out = (says.Total (get_or (total_words z) 0 0) (get_or (total_words z) 1 0), out)
replied (answered (flag on)) out = (says.Flag on, out)
replied (answered (list values)) out = (says.List (record { 0 = length values }), values ++ drop (length values) out)
replied (answered (count number)) out = (says.Count (record { 0 = number }), out)
replied (answered (holds there)) out = (says.Holds there, out)

-- The number that a question gets, 0 where it is answered; 11 comes with the needed count.
unfoldable pub number_of : Told → ℕ
number_of (says.Refused number) = number
number_of (says.TooLong needed) = 11
number_of (says.Total high low) = 0
number_of (says.Flag on) = 0
number_of (says.List length) = 0
number_of (says.Count number) = 0
number_of (says.Holds there) = 0

-- What a list that is asked for gets, in a space of so much room: all but 11 is tried before.
unfoldable pub list_reply : Table → ℕ → ℕ → Reply
list_reply table o room =
    let values = (by_rows table).list_at o in
    cond (ltb room (length values)) (too_long (length values)) (answered (list values))
