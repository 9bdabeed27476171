use Rattle.std.proofs.Common.{◌∙◌}
use Rattle.line_decode.proofs.Decoding.{type_read}
use Rattle.line_decode.proofs.type_of.Goals as goal

pub returns : goal.returns
returns c = c.unwrap_or.ensures ∙ type_read c.args.line.now c.line_type.result c.line_type.ensures
