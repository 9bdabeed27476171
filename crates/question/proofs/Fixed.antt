-- What a result tells says which result it is, so that an equation of what is told fixes the result.
use Rattle.std.proofs.Common.{◌≡◌, ℕ, Result, Ok, Err, refl, sym, ◌∙◌, ap}
use Rattle.refusal_number.specs.Numbers.{number_of}
use Rattle.refusal_number.specs.declared.Refusal.{Refusal}
use Rattle.refusal_number.specs.declared.Refusal.TheVariants.{Wrong}
use Rattle.refusal_number.proofs.Numbers.{number_fixes}
use Rattle.question.specs.Replies.{told}
use Rattle.question.specs.Told.{Told}
use Rattle.question.specs.Told as says
use Rattle.question.specs.declared.Reply.{Reply}
use Rattle.question.specs.declared.Reply.TheVariants as reply
use Rattle.question.specs.declared.Unanswered.{Unanswered}
use Rattle.question.specs.declared.Unanswered.TheVariants as no

-- The refusal of a result, `Wrong` where it has none, and its number by what is told.
refusal_in : Result Reply Unanswered → Refusal
refusal_in (Ok answer) = Wrong
refusal_in (Err (no.Refused given)) = given
refusal_in (Err (no.TooLong needed)) = Wrong

number_in : Told → ℕ
number_in (says.Refused number) = number
number_in (says.TooLong needed) = number_of Wrong
number_in (says.Total high low) = number_of Wrong
number_in (says.Flag on) = number_of Wrong
number_in (says.List length) = number_of Wrong
number_in (says.Count number) = number_of Wrong
number_in (says.Holds there) = number_of Wrong

number_read : (a : Result Reply Unanswered) → number_in (told a) ≡ number_of (refusal_in a)
unfolding number_in refusal_in
number_read (Ok (reply.Total high low)) = refl
number_read (Ok (reply.Flag on)) = refl
number_read (Ok (reply.List length)) = refl
number_read (Ok (reply.Count number)) = refl
number_read (Ok (reply.Holds there)) = refl
number_read (Err (no.Refused given)) = refl
number_read (Err (no.TooLong needed)) = refl

-- The result that tells this, with the refusal where one is told.
result_of : Refusal → Told → Result Reply Unanswered
result_of given (says.Refused number) = Err (no.Refused given)
result_of given (says.TooLong needed) = Err (no.TooLong needed)
result_of given (says.Total high low) = Ok (reply.Total high low)
result_of given (says.Flag on) = Ok (reply.Flag on)
result_of given (says.List length) = Ok (reply.List length)
result_of given (says.Count number) = Ok (reply.Count number)
result_of given (says.Holds there) = Ok (reply.Holds there)

read_back : (a : Result Reply Unanswered) → result_of (refusal_in a) (told a) ≡ a
unfolding result_of refusal_in
read_back (Ok (reply.Total high low)) = refl
read_back (Ok (reply.Flag on)) = refl
read_back (Ok (reply.List length)) = refl
read_back (Ok (reply.Count number)) = refl
read_back (Ok (reply.Holds there)) = refl
read_back (Err (no.Refused given)) = refl
read_back (Err (no.TooLong needed)) = refl

same_refusal : (a b : Result Reply Unanswered) → told a ≡ told b → refusal_in a ≡ refusal_in b
same_refusal a b e = number_fixes (refusal_in a) (refusal_in b) (sym (number_read a) ∙ ap number_in e ∙ number_read b)

-- Two results that tell the same are the same.
pub told_fixes : (a b : Result Reply Unanswered) → told a ≡ told b → a ≡ b
told_fixes a b e =
    sym (read_back a)
    ∙ ap (λ (given : Refusal). result_of given (told a)) (same_refusal a b e)
    ∙ ap (result_of (refusal_in b)) e
    ∙ read_back b
