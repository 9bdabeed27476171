-- A line's kind, decided once by its type.
use Rattle.std.specs.Prelude.{ℕ, Bool, eqb}
use Rattle.meaning.specs.Tests.{between}
use Rattle.line_hex.specs.Choice.{pick}
use Rattle.line_read.specs.Types.{Line, clock, closing, issue, opening, operation, printing, question, settling}
use Rattle.line_decode.specs.declared.LineKind.{LineKind}
use Rattle.line_decode.specs.declared.LineKind.TheVariants as kind

abbrev is_type : ℕ → Line → {A : Type 0} → A → A → A
is_type type line = pick (eqb type line.type_byte)

-- "Lines of type `50` to `5f`": saved lines.
abbrev pub saved_type : ℕ → Bool
saved_type type = between clock.type_byte closing.type_byte type

unfoldable pub kind_of : ℕ → LineKind
kind_of type =
    is_type type opening kind.Opening
    (is_type type operation kind.Operation
    (is_type type issue kind.Issue
    (is_type type settling kind.Settling
    (is_type type question kind.Question
    (is_type type printing kind.Printing
    (pick (saved_type type) kind.Saved kind.Unknown))))))
