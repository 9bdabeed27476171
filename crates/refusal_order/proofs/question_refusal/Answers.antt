use Rattle.refusal_order.proofs.Chains.{question_misasked, question_undeclared, question_unfitted, question_passes}
use Rattle.refusal_order.proofs.question_refusal.Goals as goal

pub returns-then-not-well_asked : goal.returns-then-not-well_asked
returns-then-not-well_asked c = search question_misasked

pub returns-then-not-object_declared : goal.returns-then-not-object_declared
returns-then-not-object_declared c = search question_undeclared

pub returns-then-not-fitted : goal.returns-then-not-fitted
returns-then-not-fitted c = search question_unfitted

pub returns : goal.returns
returns c = search question_passes
