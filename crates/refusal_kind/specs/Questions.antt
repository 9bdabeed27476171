-- The numbers of the five questions.
use Rattle.std.specs.Prelude.{◌≡◌, ◌<◌, ◌⊎◌, ℕ, Result, MatchResult}
use Rattle.meaning.specs.Questions as meant
use Rattle.refusal_kind.specs.declared.Asks.{Asks}
use Rattle.refusal_kind.specs.declared.Asks.TheVariants as asks
use Rattle.refusal_kind.specs.declared.UnknownQuestion.{UnknownQuestion}

abbrev pub asks_number : Asks → ℕ
asks_number asks.Total = meant.asks_total
asks_number asks.Flag = meant.asks_flag
asks_number asks.List = meant.asks_list
asks_number asks.Count = meant.asks_count
asks_number asks.Holds = meant.asks_holds

-- The question of a number, or that it is none of the five.
abbrev pub AsksOf : ℕ → Result Asks UnknownQuestion → Type 0
AsksOf number r = MatchResult r (λ question. asks_number question ≡ number) (λ e. (e.0 ≡ number) × (number < meant.asks_total ⊎ meant.asks_holds < number))
