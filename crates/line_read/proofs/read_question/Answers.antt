use Rattle.std.proofs.Common.{◌∙◌}
use Rattle.line_read.specs.Types.{is_line_of, line_read}
use Rattle.line_read.specs.Named.{question_of, question_read, is_question}
use Rattle.line_read.proofs.Readers.{named, unnamed}
use Rattle.line_read.proofs.read_question.Goals as goal

pub returns-in_err-object : goal.returns-in_err-object
unfolding question_read is_question line_read is_line_of
returns-in_err-object c = c.from_residual.ensures ∙ unnamed question_of _ _ c.in_err-object.ensures

pub returns : goal.returns
unfolding question_read is_question line_read is_line_of
returns c = named question_of _ _ _ c.in_ok-object.ensures
