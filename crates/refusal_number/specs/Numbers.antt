-- The number of each refusal, as the specification has it, and what a call's result says by it.
use Rattle.std.specs.Prelude.{ℕ, Result, Ok, Err}
use Rattle.refusal_number.specs.declared.Refusal.{Refusal}
use Rattle.refusal_number.specs.declared.Refusal.TheVariants.{Misshapen, Stranger, Undeclared, Forbidden, Known, Early, Falling, Full, Last, NoRoom, Unfitted, Unopened, NoTable, Wrong}

abbrev pub number_of : Refusal → ℕ
number_of Misshapen = 1
number_of Stranger = 2
number_of Undeclared = 3
number_of Forbidden = 4
number_of Known = 5
number_of Early = 6
number_of Falling = 7
number_of Full = 8
number_of Last = 9
number_of NoRoom = 10
number_of Unfitted = 12
number_of Unopened = 13
number_of NoTable = 14
number_of Wrong = 15

-- The number of a result that is nothing or a refusal: 0 where nothing is refused.
abbrev pub refused : Result (Unit {0}) Refusal → ℕ
refused (Ok u) = 0
refused (Err refusal) = number_of refusal

-- A result with its refusal by its number.
abbrev pub numbered : {A : Type 0} → Result A Refusal → Result A ℕ
numbered (Ok value) = Ok value
numbered (Err refusal) = Err (number_of refusal)
