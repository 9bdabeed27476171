use Rattle.std.proofs.Common.{ap, ◌∙◌}
use Rattle.line_decode.proofs.Decoding.{heard_as}
use Rattle.line_decode.proofs.decode_line.Goals as goal

pub returns : goal.returns
returns c = ap (λ n. (n, c.decode.new.into)) c.unwrap_or.ensures ∙ heard_as c.args.line.now c.args.into.now c.told-into c.decode.result c.decode.new.into c.decode.ensures
