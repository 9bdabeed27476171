use Rattle.settling_step.proofs.OneStep.{step_kept, step_decided}
use Rattle.settling_step.proofs.step_for.Goals as goal

pub returns-then-is_due : goal.returns-then-is_due
returns-then-is_due c = search step_decided

pub returns-else-is_due : goal.returns-else-is_due
returns-else-is_due c = search step_kept
