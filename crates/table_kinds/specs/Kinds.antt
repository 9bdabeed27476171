-- The numbers of the nine kinds and of the three codes.
use Rattle.std.specs.Prelude.{◌≡◌, ◌<◌, ◌⊎◌, ℕ, Result, MatchResult}
use Rattle.meaning.specs.Operations as meant
use Rattle.meaning.specs.Table.{greatest_kind}
use Rattle.table_kinds.specs.declared.Kind.{Kind}
use Rattle.table_kinds.specs.declared.Kind.TheVariants as kind
use Rattle.table_kinds.specs.declared.UnknownKind.{UnknownKind}
use Rattle.table_kinds.specs.declared.Code.{Code}
use Rattle.table_kinds.specs.declared.Code.TheVariants as code
use Rattle.table_kinds.specs.declared.UnknownCode.{UnknownCode}

abbrev pub kind_number : Kind → ℕ
kind_number kind.GrowCounter = meant.grow_counter
kind_number kind.UpDownCounter = meant.up_down_counter
kind_number kind.GrowSet = meant.grow_set
kind_number kind.TwoPhaseSet = meant.two_phase_set
kind_number kind.EnableWinsFlag = meant.enable_wins_flag
kind_number kind.DisableWinsFlag = meant.disable_wins_flag
kind_number kind.MultiValueRegister = meant.multi_value_register
kind_number kind.AddWinsSet = meant.add_wins_set
kind_number kind.RemoveWinsSet = meant.remove_wins_set

abbrev pub code_number : Code → ℕ
code_number code.Adds = meant.adds
code_number code.Removes = meant.removes
code_number code.Clears = meant.clears

-- The kind of a number, or that it is none of the nine.
abbrev pub KindOf : ℕ → Result Kind UnknownKind → Type 0
KindOf number r = MatchResult r (λ kind. kind_number kind ≡ number) (λ e. (e.0 ≡ number) × (number < 1 ⊎ greatest_kind < number))

-- The code of a number, or that it is none of the three.
abbrev pub CodeOf : ℕ → Result Code UnknownCode → Type 0
CodeOf number r = MatchResult r (λ code. code_number code ≡ number) (λ e. (e.0 ≡ number) × (number < meant.adds ⊎ meant.clears < number))
