use Rattle.std.proofs.Common.{◌∙◌, arith}
use Rattle.line_read.specs.Types.{is_line_of, line_read}
use Rattle.line_read.proofs.Readers.{operation_few, operation_other, operation_there}
use Rattle.line_read.proofs.read_operation.Goals as goal

pub returns-in_err-get : goal.returns-in_err-get
returns-in_err-get c = c.from_residual.ensures ∙ operation_few c.args.s.now (grind arith)

pub returns-in_err-fields : goal.returns-in_err-fields
unfolding line_read is_line_of
returns-in_err-fields c = c.from_residual-in_err-fields.ensures ∙ operation_other c.args.s.now _ _ (c.in_ok-get.ensures.lookup.3.1 0) c.from-entries.ensures c.in_err-fields.ensures

pub returns : goal.returns
unfolding line_read is_line_of
returns c = operation_there c.args.s.now _ _ (c.in_ok-get.ensures.lookup.3.1 0) c.from-entries.ensures _ c.in_ok-fields.ensures
