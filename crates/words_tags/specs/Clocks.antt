-- A clock lent by reference, with its sender's entry raised.
use Rattle.std.specs.Prelude.{ℕ}
use denote.Ref.{at_last}
use Rattle.meaning.specs.Order.{raised}
use Rattle.words_tags.specs.declared.Clock.{Clock}

-- The same words are lent, and they hold the vector raised at the sender.
abbrev pub clock_raised : Clock → ℕ → Clock
clock_raised clock sender = record { d = at_last clock.d (raised clock.d.now sender) }
