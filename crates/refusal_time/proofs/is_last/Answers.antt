use Rattle.std.proofs.Common.{rules}
use Rattle.refusal_time.proofs.is_last.Goals as goal

pub returns : goal.returns
returns c = search rules
