-- The question that these fields make.
use Rattle.std.specs.Prelude.{ℕ}
use Rattle.meaning.specs.Questions.{Asked}

abbrev pub asked_from : ℕ → ℕ → ℕ → Asked
asked_from object question value = record { object = object; question = question; value = value }
