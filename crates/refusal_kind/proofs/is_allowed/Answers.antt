use Rattle.refusal_kind.proofs.Allowances.{code_unknown}
use Rattle.refusal_kind.proofs.is_allowed.Goals as goal

pub returns-in_default : goal.returns-in_default
returns-in_default c = code_unknown _ _ _ c.in_default.field-0-0 c.in_default.ensures c.in_default.ensures'.1
